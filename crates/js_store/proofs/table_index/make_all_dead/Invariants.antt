-- The first places are dead, and the others are as they were.
use Rattle.std.proofs.Common.{◌≡◌, ◌++◌, ◌-◌, length, take, drop, map}
use Rattle.js_slots.specs.Tables.{map_clear}
use Rattle.js_store.specs.Tables.{table_entry}
use Rattle.js_store.proofs.table_index.make_all_dead.Given as goal

abbrev pub invariant-loop-at : goal.invariant-loop-at
invariant-loop-at l = map table_entry l.entries ≡ map_clear (take l.at (map table_entry l.initial.entries)) ++ drop l.at (map table_entry l.initial.entries)

abbrev pub decreases-loop-at : goal.decreases-loop-at
decreases-loop-at l = length l.entries - l.at
