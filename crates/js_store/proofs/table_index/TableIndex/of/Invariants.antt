-- The places that were passed are noted.
use Rattle.std.proofs.Common.{◌-◌, length, take}
use Rattle.js_store.proofs.table_index.TableIndex.of.Given as goal
use Rattle.js_store.specs.Indexed.{IsIndexOf}

abbrev pub invariant-loop-at : goal.invariant-loop-at
invariant-loop-at l = IsIndexOf l.index (take l.at l.entries)

abbrev pub decreases-loop-at : goal.decreases-loop-at
decreases-loop-at l = length l.entries - l.at
