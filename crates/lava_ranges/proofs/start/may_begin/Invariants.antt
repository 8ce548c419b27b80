-- The parties so far begin a trace.
use Rattle.std.proofs.Common.{take}
use Rattle.lava_ranges.specs.Starts.{MayBeginTrace}
use Rattle.lava_ranges.proofs.start.may_begin.Given as goal

abbrev pub invariant-loop-at : goal.invariant-loop-at
invariant-loop-at l = MayBeginTrace (take l.at l.parties)
