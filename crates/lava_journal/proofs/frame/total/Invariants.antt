-- The sum so far.
use Rattle.std.proofs.Common.{◌≡◌, sum, take}
use Rattle.lava_journal.proofs.frame.total.Given as goal

abbrev pub invariant-loop-count : goal.invariant-loop-count
invariant-loop-count l = l.total ≡ sum (take l.count-index l.steps)
