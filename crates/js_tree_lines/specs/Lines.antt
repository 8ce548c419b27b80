-- The lines of a term.
use Rattle.std.specs.Prelude.{◌≡◌, ℕ, zero, suc, Bool, true, false, List, [], ◌∷◌, ◌++◌, map, codes, decimal, Option, Some, None}
use Rattle.js_text.specs.Natives.{native_name}
use Rattle.js_text.specs.Texts.{utf8_of}
use Rattle.js_names.specs.Lists.{flat}
use Rattle.js_term.specs.Layers.{ArgumentsLayer, JumpLayer, PartLayer, TermLayer}
use Rattle.js_term.specs.declared.term.Arguments.{Arguments, out-Arguments}
use Rattle.js_term.specs.declared.term.Arguments.TheOpen.{Arguments-F, Jump-F, Part-F, Term-F}
use Rattle.js_term.specs.declared.term.Jump.{Jump, out-Jump}
use Rattle.js_term.specs.declared.term.Part.{Part, out-Part}
use Rattle.js_term.specs.declared.term.Template.{Template, out-Template}
use Rattle.js_term.specs.declared.term.Term.{Term, out-Term}
use Rattle.js_tree_lines.specs.Atoms.{quoted, truth, value, binary_word, unary_word, short_word, kind_word}
use Rattle.js_tree_lines.specs.declared.node.Node.{Node}
use Rattle.js_tree_lines.specs.declared.node.Node.TheVariants as node

-- what has a line: a term, a part of one, a template, arguments as one array, or an operand that is not there
pub data LineNode : Type 0 where
  OneTerm : Term → LineNode
  OnePart : Part → LineNode
  OneTemplate : Template → LineNode
  Spread : Term → LineNode
  Absent : LineNode

abbrev pub node_of : Node → LineNode
node_of (node.OneTerm t) = OneTerm t.now
node_of (node.OnePart p) = OnePart p.now
node_of (node.OneTemplate t) = OneTemplate t.now
node_of (node.SpreadArray t) = Spread t.now
node_of node.Absent = Absent

-- WORDS AND ATOMS

abbrev pub word_of_term : TermLayer → List ℕ
word_of_term (Term-F.Lit a) = codes "Lit"
word_of_term Term-F.Outside = codes "Outside"
word_of_term Term-F.This = codes "This"
word_of_term Term-F.NewTarget = codes "NewTarget"
word_of_term (Term-F.Local a b) = codes "Local"
word_of_term (Term-F.Global a b) = codes "Global"
word_of_term (Term-F.SetLocal a b c d) = codes "SetLocal"
word_of_term (Term-F.SetGlobal a b) = codes "SetGlobal"
word_of_term (Term-F.Init a b c) = codes "Init"
word_of_term (Term-F.Get a b) = codes "Get"
word_of_term (Term-F.Put a b c) = codes "Put"
word_of_term (Term-F.Delete a b) = codes "Delete"
word_of_term (Term-F.SuperGet a) = codes "SuperGet"
word_of_term (Term-F.Call a b) = codes "Call"
word_of_term (Term-F.CallOn a b c) = codes "CallOn"
word_of_term (Term-F.CallSuper a b) = codes "CallSuper"
word_of_term (Term-F.New a b) = codes "New"
word_of_term (Term-F.SuperNew a) = codes "SuperNew"
word_of_term (Term-F.Unary a b) = codes "Unary"
word_of_term (Term-F.Binary a b c) = codes "Binary"
word_of_term (Term-F.Short a b c) = codes "Short"
word_of_term (Term-F.If a b c) = codes "If"
word_of_term (Term-F.Func a) = codes "Func"
word_of_term (Term-F.Define a b) = codes "Define"
word_of_term (Term-F.Class a b c d) = codes "Class"
word_of_term (Term-F.Native a b) = codes "Native"
word_of_term (Term-F.Seq a) = codes "Seq"
word_of_term (Term-F.Scope a b) = codes "Scope"
word_of_term Term-F.Fresh = codes "Fresh"
word_of_term (Term-F.Loop a b c d e) = codes "Loop"
word_of_term (Term-F.Label a b) = codes "Label"
word_of_term (Term-F.Jump a) = codes "Jump"
word_of_term (Term-F.Throw a) = codes "Throw"
word_of_term (Term-F.Try a b c) = codes "Try"

abbrev pub marked : List ℕ → Bool → List (List ℕ)
marked w true = w ∷ []
marked w false = []

abbrev pub jump_atoms_at : JumpLayer → List (List ℕ)
jump_atoms_at (Jump-F.Break l) = codes "Break" ∷ quoted l ∷ []
jump_atoms_at (Jump-F.Continue l) = codes "Continue" ∷ quoted l ∷ []
jump_atoms_at (Jump-F.Return v) = codes "Return" ∷ []

abbrev pub jump_atoms : Jump → List (List ℕ)
jump_atoms j = jump_atoms_at (out-Jump j)

abbrev pub atoms_of_term : TermLayer → List (List ℕ)
atoms_of_term (Term-F.Lit v) = value v ∷ []
atoms_of_term (Term-F.Local h s) = decimal h ∷ decimal s ∷ []
atoms_of_term (Term-F.Global n soft) = utf8_of n ∷ marked (codes "soft") soft
atoms_of_term (Term-F.SetLocal h s constant t) = decimal h ∷ decimal s ∷ marked (codes "constant") constant
atoms_of_term (Term-F.SetGlobal n t) = utf8_of n ∷ []
atoms_of_term (Term-F.Init h s t) = decimal h ∷ decimal s ∷ []
atoms_of_term (Term-F.Unary o t) = unary_word o ∷ []
atoms_of_term (Term-F.Binary o a b) = binary_word o ∷ []
atoms_of_term (Term-F.Short o a b) = short_word o ∷ []
atoms_of_term (Term-F.Class n p c l) = quoted n ∷ []
atoms_of_term (Term-F.Native n l) = native_name n ∷ []
atoms_of_term (Term-F.Scope n t) = decimal n ∷ []
atoms_of_term (Term-F.Loop labels first t u b) = map quoted labels ++ truth first ∷ []
atoms_of_term (Term-F.Label l t) = quoted l ∷ []
atoms_of_term (Term-F.Jump j) = jump_atoms j
atoms_of_term _ = []

abbrev pub word_of_part : PartLayer → List ℕ
word_of_part (Part-F.Data k v) = codes "Data"
word_of_part (Part-F.Method s k t) = codes "Method"
word_of_part (Part-F.Getter s k t) = codes "Getter"
word_of_part (Part-F.Setter s k t) = codes "Setter"
word_of_part (Part-F.Spread t) = codes "Spread"
word_of_part (Part-F.Item t) = codes "Item"
word_of_part Part-F.Hole = codes "Hole"

abbrev pub atoms_of_part : PartLayer → List (List ℕ)
atoms_of_part (Part-F.Method s k t) = marked (codes "static") s
atoms_of_part (Part-F.Getter s k t) = marked (codes "static") s
atoms_of_part (Part-F.Setter s k t) = marked (codes "static") s
atoms_of_part _ = []

abbrev pub atoms_of_template : Template → List (List ℕ)
atoms_of_template t = kind_word (out-Template t).kind ∷ quoted (out-Template t).name ∷ decimal (out-Template t).length ∷ decimal (out-Template t).slots ∷ []

abbrev pub word_of : LineNode → List ℕ
word_of (OneTerm t) = word_of_term (out-Term t)
word_of (OnePart p) = word_of_part (out-Part p)
word_of (OneTemplate t) = codes "Template"
word_of (Spread t) = codes "Of"
word_of Absent = codes "None"

abbrev pub atoms_of : LineNode → List (List ℕ)
atoms_of (OneTerm t) = atoms_of_term (out-Term t)
atoms_of (OnePart p) = atoms_of_part (out-Part p)
atoms_of (OneTemplate t) = atoms_of_template t
atoms_of (Spread t) = []
atoms_of Absent = []

-- OPERANDS

abbrev pub maybe_term : Option Term → LineNode
maybe_term None = Absent
maybe_term (Some t) = OneTerm t

abbrev pub maybe_template : Option Template → LineNode
maybe_template None = Absent
maybe_template (Some t) = OneTemplate t

abbrev pub argument_nodes_at : ArgumentsLayer → List LineNode
argument_nodes_at (Arguments-F.Listed l) = map OneTerm l
argument_nodes_at (Arguments-F.Of t) = Spread t ∷ []

abbrev pub argument_nodes : Arguments → List LineNode
argument_nodes a = argument_nodes_at (out-Arguments a)

abbrev pub jump_operands_at : JumpLayer → List LineNode
jump_operands_at (Jump-F.Break l) = []
jump_operands_at (Jump-F.Continue l) = []
jump_operands_at (Jump-F.Return v) = maybe_term v ∷ []

abbrev pub jump_operands : Jump → List LineNode
jump_operands j = jump_operands_at (out-Jump j)

-- operands of control, functions and classes
abbrev pub control_operands : TermLayer → List LineNode
control_operands (Term-F.If t a b) = OneTerm t ∷ OneTerm a ∷ maybe_term b ∷ []
control_operands (Term-F.Func t) = OneTemplate t ∷ []
control_operands (Term-F.Define o l) = OneTerm o ∷ map OnePart l
control_operands (Term-F.Class n p c l) = maybe_term p ∷ maybe_template c ∷ map OnePart l
control_operands (Term-F.Seq l) = map OneTerm l
control_operands (Term-F.Scope n t) = OneTerm t ∷ []
control_operands (Term-F.Loop labels first t u b) = OneTerm t ∷ maybe_term u ∷ OneTerm b ∷ []
control_operands (Term-F.Label l t) = OneTerm t ∷ []
control_operands (Term-F.Jump j) = jump_operands j
control_operands (Term-F.Throw t) = OneTerm t ∷ []
control_operands (Term-F.Try b h f) = OneTerm b ∷ maybe_term h ∷ maybe_term f ∷ []
control_operands _ = []

-- operands of calls and operators
abbrev pub call_operands : TermLayer → List LineNode
call_operands (Term-F.Call f a) = OneTerm f ∷ argument_nodes a
call_operands (Term-F.CallOn o k a) = OneTerm o ∷ OneTerm k ∷ argument_nodes a
call_operands (Term-F.CallSuper k a) = OneTerm k ∷ argument_nodes a
call_operands (Term-F.New f a) = OneTerm f ∷ argument_nodes a
call_operands (Term-F.SuperNew a) = argument_nodes a
call_operands (Term-F.Unary o t) = OneTerm t ∷ []
call_operands (Term-F.Binary o a b) = OneTerm a ∷ OneTerm b ∷ []
call_operands (Term-F.Short o a b) = OneTerm a ∷ OneTerm b ∷ []
call_operands (Term-F.Native n l) = map OneTerm l
call_operands t = control_operands t

-- the operands of a term, in the order in which they are evaluated
abbrev pub operands_of_term : TermLayer → List LineNode
operands_of_term (Term-F.SetLocal h s constant t) = OneTerm t ∷ []
operands_of_term (Term-F.SetGlobal n t) = OneTerm t ∷ []
operands_of_term (Term-F.Init h s t) = OneTerm t ∷ []
operands_of_term (Term-F.Get o k) = OneTerm o ∷ OneTerm k ∷ []
operands_of_term (Term-F.Put o k v) = OneTerm o ∷ OneTerm k ∷ OneTerm v ∷ []
operands_of_term (Term-F.Delete o k) = OneTerm o ∷ OneTerm k ∷ []
operands_of_term (Term-F.SuperGet k) = OneTerm k ∷ []
operands_of_term t = call_operands t

abbrev pub operands_of_part : PartLayer → List LineNode
operands_of_part (Part-F.Data k v) = OneTerm k ∷ OneTerm v ∷ []
operands_of_part (Part-F.Method s k t) = OneTerm k ∷ OneTemplate t ∷ []
operands_of_part (Part-F.Getter s k t) = OneTerm k ∷ OneTemplate t ∷ []
operands_of_part (Part-F.Setter s k t) = OneTerm k ∷ OneTemplate t ∷ []
operands_of_part (Part-F.Spread t) = OneTerm t ∷ []
operands_of_part (Part-F.Item t) = OneTerm t ∷ []
operands_of_part Part-F.Hole = []

abbrev pub operands_of : LineNode → List LineNode
operands_of (OneTerm t) = operands_of_term (out-Term t)
operands_of (OnePart p) = operands_of_part (out-Part p)
operands_of (OneTemplate t) = OneTerm (out-Template t).body ∷ []
operands_of (Spread t) = OneTerm t ∷ []
operands_of Absent = []

-- LINES

-- two spaces a level
abbrev pub indent : ℕ → List ℕ
indent zero = []
indent (suc d) = 32 ∷ 32 ∷ indent d

abbrev pub spaced : List ℕ → List ℕ
spaced a = 32 ∷ a

abbrev pub line : ℕ → LineNode → List ℕ
line d n = indent d ++ (word_of n ++ (flat spaced (atoms_of n) ++ 10 ∷ []))

-- the lines of some nodes, so many levels deep: each has its line, and below it, one level deeper, its operands
-- own: what `lava tree` prints of a term
pub data AreLines : ℕ → List LineNode → List ℕ → Type 0 where
  no_lines : (d : ℕ) → AreLines d [] []
  lines : (d : ℕ) (n : LineNode) (ns : List LineNode) (below after : List ℕ) → AreLines (suc d) (operands_of n) below → AreLines d ns after
      → AreLines d (n ∷ ns) (line d n ++ (below ++ after))

-- the lines of a template's body
abbrev pub AreLinesOf : Template → List ℕ → Type 0
AreLinesOf t bytes = AreLines 0 (OneTerm (out-Template t).body ∷ []) bytes
