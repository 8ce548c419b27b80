use Rattle.std.proofs.Common.{◌≡◌, IfOk, subst}
use Rattle.js_frames.specs.Frames.{Env}
use Rattle.js_lower_table.specs.Table.{low, built_template}
use Rattle.js_lower_table.specs.Templates.{template_row}
use Rattle.js_lower_table.specs.declared.task.TheConstants.{LOWERING_DEPTH}
use Rattle.ses_prelude.proofs.templates.built.Goals as goal

pub returns-clause-made : goal.returns-clause-made
unfolding built_template
returns-clause-made c = λ frame e.
    subst (λ (env : Env). IfOk c.built_to.result (λ t. t ≡ template_row (low LOWERING_DEPTH) env c.args.kind c.args.name.now c.args.function.now)) e c.built_to.ensures.made
