-- Each step leaves what is to come of the objects as it was; where it stops, that has come.
use Rattle.std.proofs.Common.{◌<◌, length, sym, ◌∙◌, arith}
use Rattle.lava_base.specs.Ids.{same_made_symbol}
use Rattle.js_exotic.proofs.Lowering_laws.{lowered_none, lowered_step, lowered_stop, lowered_under}
use Rattle.js_exotic.proofs.array_length.delete_elements.Goals as goal

pub loop-last-preserved : goal.loop-last-preserved
loop-last-preserved g c =
    let i = c.loop-last.invariant in
    let n = i.0.count in
    let lt : c.args.id.0 < length (g.S.Store.objects c.loop-last.store) = omega arith in
    ((lowered_step same_made_symbol c.args.least c.args.id.0 c.in-Some.last _ _ _ i.0 lt c.if-last-least.false (sym c.last_index.ensures.last ∙ c.in-Some.is) c.last_index.ensures.order (sym c.may_go.ensures ∙ c.if-not-may_go.false) c.remove.ensures.objects).0, c.remove.ensures.party ∙ i.1)

pub loop-last-smaller : goal.loop-last-smaller
loop-last-smaller g c =
    let i = c.loop-last.invariant in
    let n = i.0.count in
    let lt : c.args.id.0 < length (g.S.Store.objects c.loop-last.store) = omega arith in
    (lowered_step same_made_symbol c.args.least c.args.id.0 c.in-Some.last _ _ _ i.0 lt c.if-last-least.false (sym c.last_index.ensures.last ∙ c.in-Some.is) c.last_index.ensures.order (sym c.may_go.ensures ∙ c.if-not-may_go.false) c.remove.ensures.objects).1

pub returns-clause-count : goal.returns-clause-count
returns-clause-count g c = (lowered_none c.args.least c.args.id.0 _ _ c.loop-last.invariant.0 (sym c.last_index.ensures.last ∙ c.in_default.is)).count_is

pub returns-clause-objects : goal.returns-clause-objects
returns-clause-objects g c = (lowered_none c.args.least c.args.id.0 _ _ c.loop-last.invariant.0 (sym c.last_index.ensures.last ∙ c.in_default.is)).objects_are

pub returns-then-last-least-clause-count : goal.returns-then-last-least-clause-count
returns-then-last-least-clause-count g c = (lowered_under same_made_symbol c.args.least c.args.id.0 c.in-Some.last _ _ c.loop-last.invariant.0 c.if-last-least.true (sym c.last_index.ensures.last ∙ c.in-Some.is) c.last_index.ensures.order).count_is

pub returns-then-last-least-clause-objects : goal.returns-then-last-least-clause-objects
returns-then-last-least-clause-objects g c = (lowered_under same_made_symbol c.args.least c.args.id.0 c.in-Some.last _ _ c.loop-last.invariant.0 c.if-last-least.true (sym c.last_index.ensures.last ∙ c.in-Some.is) c.last_index.ensures.order).objects_are

pub returns-then-not-may_go-clause-count : goal.returns-then-not-may_go-clause-count
returns-then-not-may_go-clause-count g c = (lowered_stop same_made_symbol c.args.least c.args.id.0 c.in-Some.last _ _ c.loop-last.invariant.0 c.if-last-least.false (sym c.last_index.ensures.last ∙ c.in-Some.is) c.last_index.ensures.order (sym c.may_go.ensures ∙ c.if-not-may_go.true)).count_is

pub returns-then-not-may_go-clause-objects : goal.returns-then-not-may_go-clause-objects
returns-then-not-may_go-clause-objects g c = (lowered_stop same_made_symbol c.args.least c.args.id.0 c.in-Some.last _ _ c.loop-last.invariant.0 c.if-last-least.false (sym c.last_index.ensures.last ∙ c.in-Some.is) c.last_index.ensures.order (sym c.may_go.ensures ∙ c.if-not-may_go.true)).objects_are
