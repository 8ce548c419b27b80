-- The keyed collections that a machine looks into.
use Rattle.std.specs.Prelude.{List, [], map, Option, None}
use Rattle.lava_base.specs.Ids.{same_ref, same_made_symbol}
use Rattle.lava_base.specs.declared.ids.MadeSymbol.{MadeSymbol}
use Rattle.lava_base.specs.declared.ids.Ref.{Ref}
use Rattle.js_text.specs.Naming.{Origin, Own, Common, Foreign}
use Rattle.js_text.specs.Values.{same_value}
use Rattle.js_text.specs.declared.value.Value.{Value}
use Rattle.js_desc.specs.declared.ask.Ask.{Ask}
use Rattle.js_desc.specs.declared.ask.Ask.TheVariants as ask
use Rattle.js_slots.specs.TableAnswers.{table_answer}
use Rattle.js_slots.specs.declared.entry.TableEntry.{TableEntry}
use Rattle.js_store.specs.Objects.{Object, at_place, with_slot}
use Rattle.js_store.specs.Tables.{entries_of, store_entry, table_entry}
use Rattle.js_store.specs.declared.slot.Entry.{Entry}
use Rattle.js_store.specs.declared.slot.Slot.TheVariants as slot
use Rattle.js_machine.specs.Views.{View}
use Rattle.js_machine.specs.Ways.{object_in}

-- what a list of places answers to a native, and the table after it
abbrev pub table_by : List (Entry Ref MadeSymbol) → Ask Ref MadeSymbol → Option (Value Ref MadeSymbol) × List (TableEntry Ref MadeSymbol)
table_by es (ask.Slot which args) = table_answer (same_value same_ref same_made_symbol) which args (map table_entry es)
table_by es x = (None, [])

-- what an object answers to the native that the machine asks for
abbrev pub collected : View → Ref → Option (Value Ref MadeSymbol) × List (TableEntry Ref MadeSymbol)
collected w me = table_by (entries_of (object_in w me).slot) w.asked.ask

-- the objects with another table in an own one
abbrev pub with_entries : List (Object Ref MadeSymbol) → Origin → List (TableEntry Ref MadeSymbol) → List (Object Ref MadeSymbol)
with_entries os (Own i) es = at_place os i (with_slot (slot.Table (map store_entry es)))
with_entries os (Common c) es = os
with_entries os Foreign es = os
