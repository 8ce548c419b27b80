use Rattle.std.proofs.Common.{◌≡◌, ◌++◌, map, take}
use Rattle.lava_start.specs.Firsts.{parts_of}
use Rattle.lava_packages.specs.Packages.{parts_from}
use Rattle.lava_packages.proofs.packages.add_packages.Given as goal

abbrev pub invariant-loop-read : goal.invariant-loop-read
invariant-loop-read l = record {
  place : l.owner ≡ l.read-index;
  parts : map parts_of l.made.items ≡ map parts_of l.initial.made.items ++ parts_from l.packages l.modules l.policy 0 (take l.read-index l.packages);
}
