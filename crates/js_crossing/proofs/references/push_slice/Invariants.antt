-- What is appended, and what is left to append.
use Rattle.std.proofs.Common.{◌≡◌, ◌++◌, length}
use Rattle.js_crossing.specs.Newest.{all_references}
use Rattle.js_crossing.proofs.references.push_slice.Given as goal

abbrev pub invariant-loop-values : goal.invariant-loop-values
invariant-loop-values l = l.references ++ all_references l.values ≡ l.fn.references ++ all_references l.fn.values

abbrev pub decreases-loop-values : goal.decreases-loop-values
decreases-loop-values l = length l.values
