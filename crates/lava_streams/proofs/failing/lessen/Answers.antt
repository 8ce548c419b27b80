use Rattle.std.proofs.Common.{◌<◌, ◌-◌, length, get_or, arith}
use Rattle.std.proofs.lemmas.List.{get_or_default}
use Rattle.std.proofs.lemmas.List.Edits.{map_over_more}
use Rattle.lava_streams.proofs.failing.lessen.Goals as goal

pub loop-n-preserved : goal.loop-n-preserved
loop-n-preserved c =
    let here : c.loop-n.n-index < length c.loop-n.distances = omega arith in
    rw c.saturating_sub.ensures
    (map_over_more (λ n. n - 1) c.args.distances.now c.loop-n.distances c.loop-n.n-index (get_or c.loop-n.distances c.loop-n.n-index 0)
    (omega arith) c.loop-n.invariant (get_or_default c.loop-n.distances c.loop-n.n-index 0 (get_or c.loop-n.distances c.loop-n.n-index 0) here))
