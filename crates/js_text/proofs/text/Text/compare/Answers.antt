-- Each two pieces decide, and where one text ends, the lengths do.
use Rattle.std.proofs.Common.{◌∙◌, sym, nat_cmp, arith}
use Rattle.std.proofs.Math.Logic.{inl, inr}
use Rattle.js_text.proofs.Orders.{same_pieces, pieces_differ, lengths_decide}
use Rattle.js_text.proofs.text.Text.compare.Goals as goal
use Rattle.js_text.proofs.text.Text.compare.Goals.{then-loop-at-test+else-at-len, else-loop-at-test}

pub loop-at-preserved : goal.loop-at-preserved
loop-at-preserved c =
    let e = c.even_runs.ensures in
    (e.within.0, e.within.1, c.loop-at.invariant.2 ∙ same_pieces c.args.self.now c.args.other.now c.even_runs.result.0.now c.even_runs.result.1.now c.loop-at.at e.first e.second e.even c.in-Equal.ensures)

pub returns-in_default : goal.returns-in_default
returns-in_default c =
    let e = c.even_runs.ensures in
    record { order = pieces_differ c.args.self.now c.args.other.now c.even_runs.result.0.now c.even_runs.result.1.now c.loop-at.at e.first e.second e.even c.cmp.result c.cmp.ensures c.in_default.not-Equal ∙ sym c.loop-at.invariant.2 }

pub returns : goal.returns
returns c =
    let end = lengths_decide c.args.self.now c.args.other.now c.loop-at.at c.loop-at.invariant.0 c.loop-at.invariant.1 (elim c.loop-at-test.branch [
      | then-loop-at-test+else-at-len w ↦ inr (omega (arith, w.if-at-len.false, w.len-in-loop-at.ensures.len))
      | else-loop-at-test w ↦ inl (omega (arith, w.loop-at-test.false, c.len.ensures.len))
    ]) in
    record { order = c.cmp-2.ensures ∙ (λ k. nat_cmp (c.len-2.ensures.len k) (c.len-3.ensures.len k)) ∙ sym end ∙ sym c.loop-at.invariant.2 }
