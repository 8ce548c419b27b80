-- The walk goes on as it began.
use Rattle.std.proofs.Common.{◌≡◌, ◌-◌, length, map}
use Rattle.js_slots.specs.Tables.{map_next}
use Rattle.js_store.specs.Tables.{table_entry}
use Rattle.js_store.proofs.places.next_live.Given as goal

abbrev pub invariant-loop-at : goal.invariant-loop-at
invariant-loop-at l = map_next l.at (map table_entry l.entries) ≡ map_next l.fn.from (map table_entry l.entries)

abbrev pub decreases-loop-at : goal.decreases-loop-at
decreases-loop-at l = length l.entries - l.at
