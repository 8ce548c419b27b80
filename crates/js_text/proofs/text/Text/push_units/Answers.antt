-- The piece is appended.
use Rattle.std.proofs.Common.{◌++◌, ◌∙◌, ap, take, append_assoc}
use Rattle.js_text.proofs.Pieces.{more_units}
use Rattle.js_text.proofs.text.Text.push_units.Goals as goal

pub loop-at-preserved : goal.loop-at-preserved
loop-at-preserved c =
    let run = c.run_at-run.result.now in
    (c.run_at-run.ensures.within, c.in_ok-extend_from_slice.ensures.items ∙ ap (λ l. l ++ run) c.loop-at.invariant.1 ∙ append_assoc c.args.units.now.items (take c.loop-at.at c.args.self.now) run ∙ ap (λ l. c.args.units.now.items ++ l) (more_units c.args.self.now run c.loop-at.at c.run_at-run.ensures.run))
