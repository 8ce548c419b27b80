-- What natives decide, and the party's objects after that. Each name is that of the function that does it.
use Rattle.std.specs.Prelude.{ℕ, List, [], ◌∷◌, Option, ℤ}
use Rattle.lava_base.specs.declared.ids.MadeSymbol.{MadeSymbol}
use Rattle.lava_base.specs.declared.ids.Ref.{Ref}
use Rattle.lava_base.specs.declared.marks.Marks.{Marks}
use Rattle.js_text.specs.Naming.{Naming}
use Rattle.js_text.specs.declared.native.Native.{Native}
use Rattle.js_text.specs.declared.native.Native.TheVariants as native
use Rattle.js_desc.specs.declared.decision.Decision.TheVariants.{Fault}
use Rattle.js_desc.specs.declared.fault.FaultText.TheVariants as fault
use Rattle.js_desc.specs.declared.reply.Reply.{Reply}
use Rattle.js_run_laws.specs.js_conversions.Conversions.{conversion_resumed, convert, convert_key, convert_text}
use Rattle.js_run_laws.specs.js_conversions.declared.next.Wanted.TheVariants as wanted
use Rattle.js_run_laws.specs.js_maker_natives.Kinds.{class_of, is_common, symbol_for}
use Rattle.js_run_laws.specs.js_maker_natives.Makers.{bind, make_array, make_map, make_object, make_proxy, make_symbol, revoke}
use Rattle.js_run_laws.specs.js_maker_natives.Resumed.{make_error, maker_resumed}
use Rattle.js_native.specs.TextNatives.{ascii_text, concat_texts, index_in, slice_text, unit_at}
use Rattle.js_run_laws.specs.js_object_natives.CallNatives.{apply, construct}
use Rattle.js_run_laws.specs.js_object_natives.ObjectNatives.{object_native}
use Rattle.js_run_laws.specs.js_object_natives.Resumed.{native_resumed}
use Rattle.js_run_laws.specs.js_operations.Lists.{list_items}
use Rattle.js_run_laws.specs.js_slot_natives.SlotNatives.{slot_native_resumed}
use Rattle.js_store.specs.Frozen.{CommonObject}
use Rattle.js_native_steps.specs.Steps.{MachineObjects, MachineValue, NativeStep, made_step, object_step, of_conversion, of_maker, of_object, of_slot, of_text}
use Rattle.js_natives.specs.Families.{family_of}
use Rattle.js_natives.specs.declared.families.Family.{Family}
use Rattle.js_natives.specs.declared.families.Family.TheVariants as family
use Rattle.js_native_steps.specs.declared.next.NativeNext.{NativeNext}
use Rattle.js_native_steps.specs.declared.next.NativeNext.TheVariants as next

-- ON TEXTS

abbrev pub text_native : (find : List ℕ → List ℕ → ℕ → Option ℕ) → Native → List MachineValue → NativeStep
text_native find native.UnitAt vs = of_text (unit_at vs)
text_native find native.Slice vs = of_text (slice_text vs)
text_native find native.IndexIn vs = of_text (index_in find vs)
text_native find native.Concat vs = of_text (concat_texts vs)
text_native find native.Ascii vs = of_text (ascii_text vs)
text_native find _ vs = Fault fault.WrongKind

-- CONVERSIONS

abbrev pub convert_value : (read : List ℕ → Option ℤ) → Native → MachineValue → NativeStep
convert_value read native.ToText v = of_conversion (convert_text v)
convert_value read native.ToNumber v = of_conversion (convert read wanted.Number v)
convert_value read native.ToKey v = of_conversion (convert_key v)
convert_value read which v = Fault fault.WrongKind

abbrev pub conversion_native : (read : List ℕ → Option ℤ) → Native → List MachineValue → NativeStep
conversion_native read which (v ∷ []) = convert_value read which v
conversion_native read which vs = Fault fault.WrongKind

module _ (names : Naming Ref MadeSymbol) (marks : Ref → Marks) (objects : MachineObjects) (common : List CommonObject) where
  -- THAT CALL

  abbrev pub call_native : Native → List MachineValue → NativeStep
  call_native native.Apply vs = of_object (apply marks (list_items names objects common) vs)
  call_native native.Construct vs = of_object (construct marks (list_items names objects common) vs)
  call_native which vs = of_object (object_native which vs)

  -- THAT MAKE OBJECTS

  abbrev pub maker_native : Native → List MachineValue → NativeStep × MachineObjects
  maker_native native.MakeObject vs = made_step (make_object names objects vs)
  maker_native native.MakeArray vs = made_step (make_array names objects vs)
  maker_native native.Bind vs = made_step (bind names marks (list_items names objects common) objects vs)
  maker_native native.MakeProxy vs = made_step (make_proxy names marks objects vs)
  maker_native native.Revoke vs = made_step (revoke names objects common vs)
  maker_native native.MakeSymbol vs = made_step (make_symbol names objects vs)
  maker_native native.MakeError vs = made_step (make_error names objects vs)
  maker_native native.MakeMap vs = made_step (make_map names objects vs)
  maker_native which vs = (Fault fault.WrongKind, objects)

  -- THAT TELL

  abbrev pub telling_native : Native → List MachineValue → NativeStep
  telling_native native.IsCommon vs = of_maker (is_common names.origin vs)
  telling_native native.SymbolFor vs = of_maker (symbol_for vs)
  telling_native native.ClassOf vs = of_maker (class_of marks vs)
  telling_native which vs = Fault fault.WrongKind

  -- ALL, once they are charged

  module _ (read : List ℕ → Option ℤ) (find : List ℕ → List ℕ → ℕ → Option ℕ) where
    -- by what they work on. There are no compartments yet, so nothing is of their class
    abbrev pub family_step : Family → Native → List MachineValue → NativeStep × MachineObjects
    family_step family.Makes which vs = maker_native which vs
    family_step family.Tells which vs = (telling_native which vs, objects)
    family_step family.Texts which vs = (text_native find which vs, objects)
    family_step family.Converts which vs = (conversion_native read which vs, objects)
    family_step family.Calls which vs = (call_native which vs, objects)
    family_step family.Parties which vs = (Fault fault.Unsupported, objects)
    family_step family.Compartments which vs = (Fault fault.WrongKind, objects)

    abbrev pub native_step : Native → List MachineValue → NativeStep × MachineObjects
    native_step which vs = family_step (family_of which) which vs

  -- HOW THEY GO ON

  abbrev pub step_resumed : (read : List ℕ → Option ℤ) → NativeNext → Reply Ref MadeSymbol → NativeStep × MachineObjects
  step_resumed read (next.Object n) r = object_step (native_resumed names marks read objects n r)
  step_resumed read (next.Maker n) r = made_step (maker_resumed names marks read objects n r)
  step_resumed read (next.Slot n) r = (of_slot (slot_native_resumed r), objects)
  step_resumed read (next.Conversion n) r = (of_conversion (conversion_resumed marks read n r), objects)
