-- The names before the place are looked at.
use Rattle.std.proofs.Common.{◌≡◌, take}
use Rattle.std.specs.List.{filter_map}
use Rattle.policy_globals.specs.Starts.{member_if_live}
use Rattle.policy_globals.proofs.granted.live_members_of.Given as goal

abbrev pub invariant-loop-name : goal.invariant-loop-name
invariant-loop-name l = l.granted ≡ filter_map member_if_live (take l.name-index l.parts)
