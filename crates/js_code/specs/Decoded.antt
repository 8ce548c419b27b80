-- The core terms that tables stand for. Fuel is the number of nodes up to a place.
use Rattle.std.specs.Prelude.{◌≡◌, ℕ, zero, suc, Bool, false, List, [], map, get_or, Some, None}
use Rattle.std.specs.Option.{option_map}
use Rattle.js_code.specs.Tables.{Tables, node_at, part_of}
use Rattle.js_code.specs.declared.node.ArgumentRow.{ArgumentRow}
use Rattle.js_code.specs.declared.node.ArgumentRow.TheVariants as argument
use Rattle.js_code.specs.declared.node.ClassRow.{ClassRow}
use Rattle.js_code.specs.declared.node.GuardedRow.{GuardedRow}
use Rattle.js_code.specs.declared.node.Node.{Node}
use Rattle.js_code.specs.declared.node.Node.TheVariants as node
use Rattle.js_code.specs.declared.node.PartRow.{PartRow}
use Rattle.js_code.specs.declared.node.PartRow.TheVariants as part_row
use Rattle.js_code.specs.declared.node.TemplateRow.{TemplateRow}
use Rattle.js_code.specs.declared.node.TurnRow.{TurnRow}
use Rattle.js_term.specs.Layers.{TermLayer}
use Rattle.js_term.specs.declared.term.Arguments.TheOpen.{Term-F}
use Rattle.js_term.specs.declared.term.Arguments.{Arguments}
use Rattle.js_term.specs.declared.term.Arguments.TheVariants as arguments
use Rattle.js_term.specs.declared.term.Jump.TheVariants as jump
use Rattle.js_term.specs.declared.term.Literal.TheVariants as literal
use Rattle.js_term.specs.declared.term.Part.{Part}
use Rattle.js_term.specs.declared.term.Part.TheVariants as part
use Rattle.js_term.specs.declared.term.Template.{Template, roll-Template}
use Rattle.js_term.specs.declared.term.TemplateKind.TheVariants as kind
use Rattle.js_term.specs.declared.term.Term.{Term, out-Term, roll-Term}
use Rattle.js_term.specs.declared.term.Term.TheVariants as term

abbrev pub text_at : Tables → ℕ → List ℕ
text_at c k = get_or c.texts k []

abbrev pub texts_of : Tables → (start count : ℕ) → List (List ℕ)
texts_of c start count = map (text_at c) (part_of start count c.numbers)

-- where there is no row
abbrev pub no_argument_row : ArgumentRow
no_argument_row = argument.Listed 0 0

abbrev pub no_template_row : TemplateRow
no_template_row = record { kind = kind.Plain; name = 0; length = 0; params = 0; rest = false; slots = 0; undefined_start = 0; undefined_count = 0; body = 0 }

abbrev pub no_class_row : ClassRow
no_class_row = record { name = 0; parent = None; constructor = None; start = 0; count = 0 }

abbrev pub no_turn_row : TurnRow
no_turn_row = record { labels_start = 0; labels_count = 0; test = 0; update = None; body = 0 }

abbrev pub no_guarded_row : GuardedRow
no_guarded_row = record { body = 0; handler = None; finalizer = None }

-- A ROW AS A TERM, one level of it, where `low` gives the terms of places before it
module _ (c : Tables) (low : ℕ → Term) where
  abbrev pub terms_of : (start count : ℕ) → List Term
  terms_of start count = map low (part_of start count c.numbers)

  abbrev pub arguments_of : ArgumentRow → Arguments
  arguments_of (argument.Listed start count) = arguments.Listed (terms_of start count)
  arguments_of (argument.Of k) = arguments.Of (low k)

  abbrev pub arguments_at : ℕ → Arguments
  arguments_at k = arguments_of (get_or c.arguments k no_argument_row)

  abbrev pub template_of : TemplateRow → Template
  template_of t = roll-Template (record {
    kind = t.kind;
    name = text_at c t.name;
    length = t.length;
    params = t.params;
    rest = t.rest;
    slots = t.slots;
    undefined = part_of t.undefined_start t.undefined_count c.numbers;
    body = low t.body;
  })

  abbrev pub template_at : ℕ → Template
  template_at k = template_of (get_or c.templates k no_template_row)

  abbrev pub part_of_row : PartRow → Part
  part_of_row (part_row.Data k v) = part.Data (low k) (low v)
  part_of_row (part_row.Method s k t) = part.Method s (low k) (template_at t)
  part_of_row (part_row.Getter s k t) = part.Getter s (low k) (template_at t)
  part_of_row (part_row.Setter s k t) = part.Setter s (low k) (template_at t)
  part_of_row (part_row.Spread k) = part.Spread (low k)
  part_of_row (part_row.Item k) = part.Item (low k)
  part_of_row part_row.Hole = part.Hole

  abbrev pub parts_of : (start count : ℕ) → List Part
  parts_of start count = map part_of_row (part_of start count c.parts)

  abbrev pub labels_of : TurnRow → List (List ℕ)
  labels_of t = texts_of c t.labels_start t.labels_count

  abbrev pub loop_of : (tests_first : Bool) → TurnRow → TermLayer
  loop_of first t = Term-F.Loop (labels_of t) first (low t.test) (option_map low t.update) (low t.body)

  abbrev pub loop_at : (tests_first : Bool) → ℕ → TermLayer
  loop_at first k = loop_of first (get_or c.turns k no_turn_row)

  abbrev pub class_of : ClassRow → TermLayer
  class_of k = Term-F.Class (text_at c k.name) (option_map low k.parent) (option_map template_at k.constructor) (parts_of k.start k.count)

  abbrev pub class_at : ℕ → TermLayer
  class_at k = class_of (get_or c.classes k no_class_row)

  abbrev pub try_of : GuardedRow → TermLayer
  try_of g = Term-F.Try (low g.body) (option_map low g.handler) (option_map low g.finalizer)

  abbrev pub try_at : ℕ → TermLayer
  try_at k = try_of (get_or c.guarded k no_guarded_row)

  abbrev pub layer_of : Node → TermLayer
  layer_of node.Undefined = Term-F.Lit literal.Undefined
  layer_of node.Null = Term-F.Lit literal.Null
  layer_of (node.Bool b) = Term-F.Lit (literal.Bool b)
  layer_of (node.Int n) = Term-F.Lit (literal.Int n)
  layer_of (node.Text k) = Term-F.Lit (literal.Text (text_at c k))
  layer_of node.Iterator = Term-F.Lit literal.Iterator
  layer_of (node.Common k) = Term-F.Lit (literal.Common (record { 0 = k }))
  layer_of node.Outside = Term-F.Outside
  layer_of node.This = Term-F.This
  layer_of node.NewTarget = Term-F.NewTarget
  layer_of (node.Local h s) = Term-F.Local h s
  layer_of (node.Global n soft) = Term-F.Global (text_at c n) soft
  layer_of (node.SetLocal h s constant v) = Term-F.SetLocal h s constant (low v)
  layer_of (node.SetGlobal n v) = Term-F.SetGlobal (text_at c n) (low v)
  layer_of (node.Init h s v) = Term-F.Init h s (low v)
  layer_of (node.Get o k) = Term-F.Get (low o) (low k)
  layer_of (node.Put o k v) = Term-F.Put (low o) (low k) (low v)
  layer_of (node.Delete o k) = Term-F.Delete (low o) (low k)
  layer_of (node.SuperGet k) = Term-F.SuperGet (low k)
  layer_of (node.Call f a) = Term-F.Call (low f) (arguments_at a)
  layer_of (node.CallOn o k a) = Term-F.CallOn (low o) (low k) (arguments_at a)
  layer_of (node.CallSuper k a) = Term-F.CallSuper (low k) (arguments_at a)
  layer_of (node.New f a) = Term-F.New (low f) (arguments_at a)
  layer_of (node.SuperNew a) = Term-F.SuperNew (arguments_at a)
  layer_of (node.Unary o e) = Term-F.Unary o (low e)
  layer_of (node.Binary o a b) = Term-F.Binary o (low a) (low b)
  layer_of (node.Short o a b) = Term-F.Short o (low a) (low b)
  layer_of (node.If t a) = Term-F.If (low t) (low a) None
  layer_of (node.IfElse t a b) = Term-F.If (low t) (low a) (Some (low b))
  layer_of (node.Func t) = Term-F.Func (template_at t)
  layer_of (node.Define o start count) = Term-F.Define (low o) (parts_of start count)
  layer_of (node.Class k) = class_at k
  layer_of (node.Native n start count) = Term-F.Native n (terms_of start count)
  layer_of (node.Seq start count) = Term-F.Seq (terms_of start count)
  layer_of (node.Scope n b) = Term-F.Scope n (low b)
  layer_of node.Fresh = Term-F.Fresh
  layer_of (node.Loop t first) = loop_at first t
  layer_of (node.Label l b) = Term-F.Label (text_at c l) (low b)
  layer_of (node.Break l) = Term-F.Jump (jump.Break (text_at c l))
  layer_of (node.Continue l) = Term-F.Jump (jump.Continue (text_at c l))
  layer_of node.Return = Term-F.Jump (jump.Return None)
  layer_of (node.ReturnValue v) = Term-F.Jump (jump.Return (Some (low v)))
  layer_of (node.Throw v) = Term-F.Throw (low v)
  layer_of (node.Try g) = try_at g

abbrev pub term_to : Tables → (fuel : ℕ) → ℕ → Term
term_to c zero k = term.Outside
term_to c (suc d) k = roll-Term (layer_of c (term_to c d) (node_at c k))

-- the term of a place
unfoldable pub term_at : Tables → ℕ → Term
term_at c k = term_to c (suc k) k

-- a row is one level of its term
abbrev pub Opens : Tables → Type 0
Opens c = (k : ℕ) → out-Term (term_at c k) ≡ layer_of c (term_at c) (node_at c k)
