use Rattle.std.proofs.Common.{arith, if◌then◌else◌, ap, ◌∙◌}
use Rattle.lava_base.specs.declared.ids.MadeSymbol.{MadeSymbol}
use Rattle.lava_base.specs.declared.ids.Ref.{Ref}
use Rattle.js_store.specs.declared.slot.Entry.{Entry}
use Rattle.js_collections.proofs.Places_walked.{few_live, one_at_most, one_counted}
use Rattle.js_collections.proofs.places.size.Goals as goal

pub overflow_add-count : goal.overflow_add-count
overflow_add-count c =
    let n = few_live c.loop-at.at c.args.entries.now in
    let e = c.loop-at.invariant in
    let m = one_at_most c.index-entries-at.result.live in
    omega (arith, n, e, m, c.live_count-count.ensures, c.loop-at-test.true, c.well_formed)

pub loop-at-preserved : goal.loop-at-preserved
loop-at-preserved c = one_counted c.loop-at.at c.loop-at.count c.live_count-count.result c.args.entries.now c.index-entries-at.result c.loop-at-test.true c.loop-at.invariant (c.live_count-count.ensures ∙ ap (λ (e : Entry Ref MadeSymbol). if e.live then 1 else 0) c.index-entries-at.is)
