-- Lists that grow, and tables that do.
use Rattle.std.proofs.Common.{◌≡◌, ℕ, ◌+◌, ◌<◌, ◌≤◌, List, [], ◌++◌, length, get_or, take, drop, refl, sym, ap, ◌∙◌, append_assoc, length-append, arith}
use Rattle.std.proofs.lemmas.List.{append-nil, get_or_append_left, take-append-le, drop-append-le, length-drop}
use Rattle.js_code.specs.Tables.{Tables, part_of}
use Rattle.js_code.specs.Settled.{IsFront, Grows}
use Rattle.js_code.specs.declared.node.ArgumentRow.{ArgumentRow}
use Rattle.js_code.specs.declared.node.ClassRow.{ClassRow}
use Rattle.js_code.specs.declared.node.GuardedRow.{GuardedRow}
use Rattle.js_code.specs.declared.node.Node.{Node}
use Rattle.js_code.specs.declared.node.PartRow.{PartRow}
use Rattle.js_code.specs.declared.node.TemplateRow.{TemplateRow}
use Rattle.js_code.specs.declared.node.TurnRow.{TurnRow}

module _ {A : Type 0} where
  pub front_itself : (xs : List A) → IsFront xs xs
  front_itself xs = record { rest = []; is = sym (append-nil xs) }

  pub front_more : (xs ys : List A) → IsFront xs (xs ++ ys)
  front_more xs ys = record { rest = ys; is = refl }

  pub front_of_front : {xs ys zs : List A} → IsFront xs ys → IsFront ys zs → IsFront xs zs
  front_of_front {xs} {ys} {zs} a b = record { rest = a.rest ++ b.rest; is = b.is ∙ (ap (λ l. l ++ b.rest) a.is ∙ append_assoc xs a.rest b.rest) }

  pub front_fewer : {xs ys : List A} → IsFront xs ys → length xs ≤ length ys
  front_fewer {xs} a = let e = ap length a.is in omega (arith, e, length-append xs a.rest)

  pub front_reads : {xs ys : List A} → IsFront xs ys → (d : A) (k : ℕ) → k < length xs → get_or ys k d ≡ get_or xs k d
  front_reads {xs} a d k l = ap (λ l. get_or l k d) a.is ∙ get_or_append_left xs a.rest d k l

  pub front_part : {xs ys : List A} → IsFront xs ys → (start count : ℕ) → start + count ≤ length xs → part_of start count ys ≡ part_of start count xs
  front_part {xs} a start count l =
      ap (part_of start count) a.is
      ∙ (ap (take count) (drop-append-le start xs a.rest (omega (arith, l)))
      ∙ take-append-le count (drop start xs) a.rest (omega (arith, l, length-drop start xs)))

pub grows_itself : (c : Tables) → Grows c c
grows_itself c = record {
  nodes = front_itself c.nodes;
  texts = front_itself c.texts;
  numbers = front_itself c.numbers;
  arguments = front_itself c.arguments;
  parts = front_itself c.parts;
  templates = front_itself c.templates;
  classes = front_itself c.classes;
  turns = front_itself c.turns;
  guarded = front_itself c.guarded;
}

pub grows_further : {c d e : Tables} → Grows c d → Grows d e → Grows c e
grows_further a b = record {
  nodes = front_of_front a.nodes b.nodes;
  texts = front_of_front a.texts b.texts;
  numbers = front_of_front a.numbers b.numbers;
  arguments = front_of_front a.arguments b.arguments;
  parts = front_of_front a.parts b.parts;
  templates = front_of_front a.templates b.templates;
  classes = front_of_front a.classes b.classes;
  turns = front_of_front a.turns b.turns;
  guarded = front_of_front a.guarded b.guarded;
}

-- ONE TABLE GROWS
module _ (c : Tables) where
  pub nodes_grow : (items : List Node) → IsFront c.nodes items → Grows c (record c { nodes = items })
  nodes_grow items front = record { nodes = front; texts = front_itself c.texts; numbers = front_itself c.numbers; arguments = front_itself c.arguments; parts = front_itself c.parts; templates = front_itself c.templates; classes = front_itself c.classes; turns = front_itself c.turns; guarded = front_itself c.guarded }

  pub texts_grow : (items : List (List ℕ)) → IsFront c.texts items → Grows c (record c { texts = items })
  texts_grow items front = record { nodes = front_itself c.nodes; texts = front; numbers = front_itself c.numbers; arguments = front_itself c.arguments; parts = front_itself c.parts; templates = front_itself c.templates; classes = front_itself c.classes; turns = front_itself c.turns; guarded = front_itself c.guarded }

  pub numbers_grow : (items : List ℕ) → IsFront c.numbers items → Grows c (record c { numbers = items })
  numbers_grow items front = record { nodes = front_itself c.nodes; texts = front_itself c.texts; numbers = front; arguments = front_itself c.arguments; parts = front_itself c.parts; templates = front_itself c.templates; classes = front_itself c.classes; turns = front_itself c.turns; guarded = front_itself c.guarded }

  pub arguments_grow : (items : List ArgumentRow) → IsFront c.arguments items → Grows c (record c { arguments = items })
  arguments_grow items front = record { nodes = front_itself c.nodes; texts = front_itself c.texts; numbers = front_itself c.numbers; arguments = front; parts = front_itself c.parts; templates = front_itself c.templates; classes = front_itself c.classes; turns = front_itself c.turns; guarded = front_itself c.guarded }

  pub parts_grow : (items : List PartRow) → IsFront c.parts items → Grows c (record c { parts = items })
  parts_grow items front = record { nodes = front_itself c.nodes; texts = front_itself c.texts; numbers = front_itself c.numbers; arguments = front_itself c.arguments; parts = front; templates = front_itself c.templates; classes = front_itself c.classes; turns = front_itself c.turns; guarded = front_itself c.guarded }

  pub templates_grow : (items : List TemplateRow) → IsFront c.templates items → Grows c (record c { templates = items })
  templates_grow items front = record { nodes = front_itself c.nodes; texts = front_itself c.texts; numbers = front_itself c.numbers; arguments = front_itself c.arguments; parts = front_itself c.parts; templates = front; classes = front_itself c.classes; turns = front_itself c.turns; guarded = front_itself c.guarded }

  pub classes_grow : (items : List ClassRow) → IsFront c.classes items → Grows c (record c { classes = items })
  classes_grow items front = record { nodes = front_itself c.nodes; texts = front_itself c.texts; numbers = front_itself c.numbers; arguments = front_itself c.arguments; parts = front_itself c.parts; templates = front_itself c.templates; classes = front; turns = front_itself c.turns; guarded = front_itself c.guarded }

  pub turns_grow : (items : List TurnRow) → IsFront c.turns items → Grows c (record c { turns = items })
  turns_grow items front = record { nodes = front_itself c.nodes; texts = front_itself c.texts; numbers = front_itself c.numbers; arguments = front_itself c.arguments; parts = front_itself c.parts; templates = front_itself c.templates; classes = front_itself c.classes; turns = front; guarded = front_itself c.guarded }

  pub guarded_grow : (items : List GuardedRow) → IsFront c.guarded items → Grows c (record c { guarded = items })
  guarded_grow items front = record { nodes = front_itself c.nodes; texts = front_itself c.texts; numbers = front_itself c.numbers; arguments = front_itself c.arguments; parts = front_itself c.parts; templates = front_itself c.templates; classes = front_itself c.classes; turns = front_itself c.turns; guarded = front }
