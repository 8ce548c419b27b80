-- The items of `fromUnits` as units.
use Rattle.std.specs.Prelude.{ℕ, suc, List, [], ◌∷◌, ◌++◌, drop, Option, ℤ}
use Rattle.lava_base.specs.declared.ids.MadeSymbol.{MadeSymbol}
use Rattle.lava_base.specs.declared.ids.Ref.{Ref}
use Rattle.js_text.specs.Naming.{Naming}
use Rattle.js_text.specs.declared.value.Value.{Value}
use Rattle.js_text.specs.declared.value.Value.TheVariants as value
use Rattle.js_desc.specs.declared.decision.Decision.TheVariants as decision
use Rattle.js_desc.specs.declared.fault.FaultText.TheVariants as fault
use Rattle.js_desc.specs.declared.reply.Reply.TheVariants as reply
use Rattle.js_machine.specs.js_conversions.Primitives.{Conversion, to_number}
use Rattle.js_machine.specs.js_run.Acts.{Act, End}
use Rattle.js_machine.specs.js_run.Asking.{waits_for}
use Rattle.js_machine.specs.js_run.Conversions as conversions
use Rattle.js_machine.specs.js_run.Faults.{faults}
use Rattle.js_machine.specs.js_run.Following.{halt_of}
use Rattle.js_machine.specs.js_run.Natives.{gives_units, unit_of_number}
use Rattle.js_machine.specs.js_run.Operators.{given_text}
use Rattle.js_machine.specs.js_run.Parties.{Party, Shared}
use Rattle.js_machine_natives.specs.declared.units.ItemRead.{ItemRead}
use Rattle.js_machine_natives.specs.declared.units.ItemRead.TheVariants as item
use Rattle.js_machine_natives.specs.declared.units.Reading.{Reading}
use Rattle.js_machine_natives.specs.declared.units.Reading.TheVariants as reading

abbrev pub item_of_conversion : Conversion Ref MadeSymbol → ItemRead
item_of_conversion (decision.Done (reply.Value (value.Int n))) = item.Unit (unit_of_number n)
item_of_conversion (decision.Fault f) = item.Stop (reading.Fault f)
item_of_conversion (decision.End e) = item.Stop (reading.End e)
item_of_conversion _ = item.Stop (reading.Fault fault.WrongKind)

-- an item, behind which the items from a place on stand
abbrev pub item_read : (read : List ℕ → Option ℤ) → (next : ℕ) → Value Ref MadeSymbol → ItemRead
item_read read n (value.Ref r) = item.Stop (reading.Object r n)
item_read read n v = item_of_conversion (to_number read v)

abbrev pub read_on : ItemRead → List ℕ → (ℕ → Reading × List ℕ) → Reading × List ℕ
read_on (item.Unit u) us go = go u
read_on (item.Stop r) us go = (r, us)

-- the items from a place on become units behind those that are there, as far as none is an object
-- ECMA-262 String.fromCharCode
abbrev pub units_read : (read : List ℕ → Option ℤ) → List (Value Ref MadeSymbol) → (place : ℕ) → List ℕ → Reading × List ℕ
units_read read [] n us = (reading.Done, us)
units_read read (v ∷ vs) n us = read_on (item_read read (suc n) v) us (λ u. units_read read vs (suc n) (us ++ u ∷ []))

-- what is done after the items have become these units, as far as this
abbrev pub goes_after : Naming Ref MadeSymbol → Shared → Party Ref MadeSymbol → (items : List (Value Ref MadeSymbol)) → Reading × List ℕ → Act Ref MadeSymbol
goes_after names shared p vs (reading.Done, us) = given_text us p
goes_after names shared p vs (reading.Object r n, us) =
    conversions.to_number names shared (waits_for names) (value.Ref r) p (λ i q. gives_units names shared (drop n vs) (us ++ unit_of_number i ∷ []) q)
goes_after names shared p vs (reading.Fault f, us) = faults names f p
goes_after names shared p vs (reading.End e, us) = End (halt_of e)
