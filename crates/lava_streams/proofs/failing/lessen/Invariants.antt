use Rattle.std.proofs.Common.{◌≡◌, ◌++◌, ◌-◌, map, take, drop}
use Rattle.lava_streams.proofs.failing.lessen.Given as goal

abbrev pub invariant-loop-n : goal.invariant-loop-n
invariant-loop-n l = l.distances ≡ map (λ n. n - 1) (take l.n-index l.initial.distances) ++ drop l.n-index l.initial.distances
