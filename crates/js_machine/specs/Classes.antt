-- The rows of classes.
use Rattle.std.specs.Prelude.{ℕ, List, get_or, Option}
use Rattle.std.specs.Option.{option_map}
use Rattle.lava_base.specs.declared.ids.MadeSymbol.{MadeSymbol}
use Rattle.lava_base.specs.declared.ids.Ref.{Ref}
use Rattle.js_text.specs.Naming.{Naming}
use Rattle.js_text.specs.declared.value.Value.{Value}
use Rattle.js_code.specs.Decoded.{no_class_row, parts_of, template_at, term_at, text_at}
use Rattle.js_code.specs.Tables.{Tables}
use Rattle.js_code.specs.declared.node.ClassRow.{ClassRow}
use Rattle.js_term.specs.declared.term.Part.{Part}
use Rattle.js_term.specs.declared.term.Template.{Template}
use Rattle.js_operation.specs.js_run.Acts.{Act}
use Rattle.js_operation.specs.js_run.Parties.{Party, Shared}
use Rattle.js_operation.specs.js_run.Parts.{class_above, class_below}

abbrev pub class_row : Tables → ℕ → ClassRow
class_row c k = get_or c.classes k no_class_row

-- the template of a class's constructor, if it has one
abbrev pub constructor_of : Tables → ClassRow → Option Template
constructor_of c k = option_map (template_at c (term_at c)) k.constructor

abbrev pub class_parts : Tables → ClassRow → List Part
class_parts c k = parts_of c (term_at c) k.start k.count

module _ (names : Naming Ref MadeSymbol) (shared : Shared) (c : Tables) where
  -- the parent of a class is there
  -- ECMA-262 ClassDefinitionEvaluation, step 8
  abbrev pub parent_comes : (class : ℕ) → Value Ref MadeSymbol → Party Ref MadeSymbol → Act Ref MadeSymbol
  parent_comes k v p = let row = class_row c k in class_below names shared (text_at c row.name) (constructor_of c row) (class_parts c row) v p

  -- what `prototype` of the parent is, is there
  abbrev pub prototype_comes : (class : ℕ) → (parent : Ref) → Value Ref MadeSymbol → Party Ref MadeSymbol → Act Ref MadeSymbol
  prototype_comes k parent v p = let row = class_row c k in class_above names shared (text_at c row.name) (constructor_of c row) (class_parts c row) parent v p
