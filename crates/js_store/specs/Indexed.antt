-- An index beside the places of a table.
use Rattle.std.specs.Prelude.{List, map, ℕ, Option}
use Rattle.std.specs.HashMap.{get}
use Rattle.lava_base.specs.Ids.{same_ref, same_made_symbol}
use Rattle.lava_base.specs.declared.ids.MadeSymbol.{MadeSymbol}
use Rattle.lava_base.specs.declared.ids.Ref.{Ref}
use Rattle.js_text.specs.Values.{same_value}
use Rattle.js_text.specs.declared.value.Value.{Value}
use Rattle.js_slots.specs.TableKeys.{same_table_key}
use Rattle.js_slots.specs.Tables.{IsKept}
use Rattle.js_store.specs.Tables.{table_entry}
use Rattle.js_store.specs.declared.slot.Entry.{Entry}
use Rattle.js_store.specs.declared.slot.Slot.{Slot}
use Rattle.js_store.specs.declared.slot.Slot.TheVariants as slot
use Rattle.js_store.specs.declared.table_index.TableIndex.{TableIndex}

-- the place that an index has for a key
abbrev pub noted : TableIndex → Value Ref MadeSymbol → Option ℕ
noted ix k = get (same_table_key same_ref same_made_symbol) ix.places (record { 0 = k })

-- an index has the live place of each key, and counts the live places
abbrev pub IsIndexOf : TableIndex → List (Entry Ref MadeSymbol) → Type 0
IsIndexOf ix es = IsKept (same_value same_ref same_made_symbol) (map table_entry es) ix.live (noted ix)

-- an index is that of an object's table; no other object has one
unfoldable pub IsIndexedBy : Slot Ref MadeSymbol → TableIndex → Type 0
IsIndexedBy (slot.Table es) ix = IsIndexOf ix es
IsIndexedBy s ix = ⊥
