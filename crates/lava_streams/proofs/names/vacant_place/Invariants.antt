use Rattle.std.proofs.Common.{◌≡◌, ◌++◌, take, drop}
use Rattle.lava_streams.specs.Files.{with_name}
use Rattle.lava_streams.proofs.names.vacant_place.Given as goal

abbrev pub invariant-loop-at : goal.invariant-loop-at
invariant-loop-at l = with_name l.names l.name ≡ take l.at l.names ++ with_name (drop l.at l.names) l.name
