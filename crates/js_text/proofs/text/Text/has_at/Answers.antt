-- A piece that is the same stands there, and one that differs shows that the part does not.
use Rattle.std.proofs.Common.{◌≡◌, ◌+◌, ◌∙◌, sym, subst, length, take, drop, ◌≤◌}
use Rattle.std.proofs.lemmas.Bool.{true≢false}
use Rattle.js_text.proofs.Pieces.{same_more, same_piece, same_by_test, differ_by_test}
use Rattle.js_text.proofs.text.Text.has_at.Goals as goal

pub returns-then-ne : goal.returns-then-ne
returns-then-ne c =
    let e = c.even_runs.ensures in
    let units = c.even_runs.result.0.now in
    let wanted = c.even_runs.result.1.now in (
      (λ h. absurd (true≢false (sym h))),
      λ stands. absurd (differ_by_test units wanted c.if-ne.ensures (e.first ∙ same_piece c.args.self.now c.args.part.now c.args.at c.loop-done.done _ stands e.within.1 ∙ sym e.second)),
    )

pub loop-done-preserved : goal.loop-done-preserved
loop-done-preserved c =
    let e = c.even_runs.ensures in
    let units = c.even_runs.result.0.now in
    let wanted = c.even_runs.result.1.now in
    let xs = c.args.self.now in
    let part = c.args.part.now in
    let done = c.loop-done.done in
    subst (λ n. (done + n ≤ length part) × (take (done + n) (drop c.args.at xs) ≡ take (done + n) part)) (sym e.even)
    (e.within.1, same_more xs part c.args.at done _ c.loop-done.invariant.1 (sym e.first ∙ same_by_test units wanted c.if-ne.ensures ∙ e.second))
