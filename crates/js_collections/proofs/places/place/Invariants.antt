-- The search goes on as it began.
use Rattle.std.proofs.Common.{◌≡◌, ◌-◌, length, map}
use Rattle.lava_base.specs.Ids.{same_ref, same_made_symbol}
use Rattle.js_text.specs.Values.{same_value}
use Rattle.js_slots.specs.Tables.{place_of}
use Rattle.js_store.specs.Tables.{table_entry}
use Rattle.js_collections.proofs.Places_found.{found_from}
use Rattle.js_collections.proofs.places.place.Given as goal

abbrev pub invariant-loop-at : goal.invariant-loop-at
invariant-loop-at l = let same = same_value same_ref same_made_symbol in found_from same l.key l.at l.entries ≡ place_of same l.key (map table_entry l.entries)

abbrev pub decreases-loop-at : goal.decreases-loop-at
decreases-loop-at l = length l.entries - l.at
