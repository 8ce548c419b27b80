-- The references so far have paths.
use Rattle.std.proofs.Common.{take}
use Rattle.lava_ranges.specs.Ranges.{HavePaths}
use Rattle.lava_ranges.proofs.crossing.have_paths.Given as goal

abbrev pub invariant-loop-entry : goal.invariant-loop-entry
invariant-loop-entry l = HavePaths (take l.entry-index l.entry-items)
