-- The names before the place are looked at.
use Rattle.std.proofs.Common.{◌≡◌, take}
use Rattle.std.specs.List.{filter_map}
use Rattle.policy_globals.specs.Starts.{named_grant}
use Rattle.policy_globals.proofs.granted.globals_of_keys.Given as goal

abbrev pub invariant-loop-name : goal.invariant-loop-name
invariant-loop-name l = l.globals ≡ filter_map (named_grant l.keys) (take l.name-index l.name-items)
