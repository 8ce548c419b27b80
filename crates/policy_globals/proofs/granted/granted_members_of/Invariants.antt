-- The members before the place are looked at.
use Rattle.std.proofs.Common.{◌≡◌, take}
use Rattle.std.specs.List.{filter_map}
use Rattle.policy_globals.specs.Starts.{host_member}
use Rattle.policy_globals.proofs.granted.granted_members_of.Given as goal

abbrev pub invariant-loop-name : goal.invariant-loop-name
invariant-loop-name l = l.granted ≡ filter_map (λ m. host_member l.parts l.whole m.0.now m.1) (take l.name-index l.members)
