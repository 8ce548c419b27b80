-- There are as many as were counted.
use Rattle.std.proofs.Common.{◌≡◌, [], replicate}
use Rattle.policy_gen.proofs.used_keys.no_keys.Given as goal

abbrev pub invariant-loop : goal.invariant-loop
invariant-loop l = l.all.items ≡ replicate l.counter []
