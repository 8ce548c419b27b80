-- The table has the paths.
use Rattle.std.proofs.Common.{ap, ◌∙◌, slice_get}
use Rattle.js_text.proofs.Paths.{table}
use Rattle.js_text.proofs.common.common_path.Goals as goal

pub returns : goal.returns
returns c = record { path = c.text_at.ensures ∙ ap (λ ts. slice_get ts c.args.id.0) table }
