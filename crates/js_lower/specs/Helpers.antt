-- What of the table's templates looks at no tree below, and a body that is one expression.
use Rattle.std.specs.Prelude.{ℕ, List, [], ◌∷◌, ◌++◌}
use Rattle.js_term.specs.declared.term.Template.{Template}
use Rattle.js_term.specs.declared.term.TemplateKind.{TemplateKind}
use Rattle.js_term.specs.declared.term.Term.{Term}
use Rattle.js_term.specs.declared.term.Term.TheVariants as term
use Rattle.js_frames.specs.Frames.{Frame}
use Rattle.js_lower_table.specs.Table.{low}
use Rattle.js_lower_table.specs.Templates as table

abbrev pub source_template : TemplateKind → ℕ → List ℕ → Term → Template
source_template = table.source_template (low 0)

abbrev pub module_slots : Frame
module_slots = table.module_slots (low 0)

abbrev pub text_slots : Frame
text_slots = table.text_slots (low 0)

-- a module whose source is JSON
abbrev pub json_template : List ℕ → Template
json_template = table.json_template (low 0)

-- the value alone, where nothing stands before it
abbrev pub concise_term : List Term → Term → Term
concise_term [] t = t
concise_term (p ∷ ps) t = term.Seq ((p ∷ ps) ++ t ∷ [])
