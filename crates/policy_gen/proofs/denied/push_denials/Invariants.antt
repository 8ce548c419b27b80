-- The imports before the place are looked at.
use Rattle.std.proofs.Common.{◌≡◌, ◌++◌, take, filter_map}
use Rattle.policy_gen.specs.Denials.{denial_of}
use Rattle.policy_gen.proofs.denied.push_denials.Given as goal

abbrev pub invariant-loop-request : goal.invariant-loop-request
invariant-loop-request l = l.denials ≡ l.initial.denials ++ filter_map (denial_of l.packages l.policy l.owner) (take l.request-index l.request-items)
