-- What the natives decide that read the items of an array: `sortTexts`. What `fromUnits` does takes calls, and is not decided here.
use Rattle.std.specs.Prelude.{ℕ, Bool, true, false, List, [], ◌∷◌, ◌++◌, map, Option, Some, None, pos, length, if◌then◌else◌}
use Rattle.lava_base.specs.declared.ids.MadeSymbol.{MadeSymbol}
use Rattle.lava_base.specs.declared.ids.Ref.{Ref}
use Rattle.js_text.specs.Naming.{Naming}
use Rattle.js_text.specs.declared.native.Native.{Native}
use Rattle.js_text.specs.declared.native.Native.TheVariants as native
use Rattle.js_text.specs.declared.value.Value.TheVariants as value
use Rattle.js_desc.specs.declared.decision.Decision.TheVariants.{Done, Fault}
use Rattle.js_desc.specs.declared.fault.FaultText.TheVariants as fault
use Rattle.js_desc.specs.declared.reply.Reply.TheVariants as reply
use Rattle.js_native.specs.TextNatives.{are_texts, text_of_value}
use Rattle.js_run_laws.specs.js_operations.Lists.{list_items}
use Rattle.js_run_laws.specs.js_run.Functions.{array_of}
use Rattle.js_run_laws.specs.js_run.Sorting.{sorted_places}
use Rattle.js_store.specs.Frozen.{CommonObject}
use Rattle.js_native_steps.specs.Steps.{MachineObjects, MachineValue, NativeStep}

abbrev pub reads_items : Native → Bool
reads_items native.FromUnits = true
reads_items native.SortTexts = true
reads_items which = false

-- the items become numbers by calls
abbrev pub calls_items : Native → Bool
calls_items native.FromUnits = true
calls_items which = false

module _ (names : Naming Ref MadeSymbol) (objects : MachineObjects) where
  -- PLACES

  -- a new array of places
  abbrev pub places_made : List ℕ → NativeStep × MachineObjects
  places_made places = (Done (reply.Value (value.Ref (names.own (length objects)))), objects ++ array_of names (map (λ n. value.Int (pos n)) places) ∷ [])

  -- ECMA-262 SortIndexedProperties
  abbrev pub sorted_items : Option (List MachineValue) → NativeStep × MachineObjects
  sorted_items None = (Fault fault.CannotConvert, objects)
  sorted_items (Some vs) = if are_texts vs then places_made (sorted_places (map text_of_value vs)) else (Fault fault.CannotConvert, objects)

  module _ (common : List CommonObject) where
    abbrev pub sort_native : List MachineValue → NativeStep × MachineObjects
    sort_native (list ∷ []) = sorted_items (list_items names objects common list)
    sort_native vs = (Fault fault.WrongKind, objects)

    abbrev pub item_step : Native → List MachineValue → NativeStep × MachineObjects
    item_step native.SortTexts vs = sort_native vs
    item_step which vs = (Fault fault.WrongKind, objects)
