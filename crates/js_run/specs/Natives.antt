-- What a form that names a native does once its operands are there.
use Rattle.std.specs.Prelude.{ℕ, List, [], ◌∷◌, ◌++◌, map, Option, Some, None, ℤ, pos, unsigned_abs, if◌then◌else◌}
use Rattle.std.specs.Int.{int_rem_euclid}
use Rattle.js_text.specs.Naming.{Naming}
use Rattle.js_text.specs.declared.native.Native.{Native}
use Rattle.js_text.specs.declared.native.Native.TheVariants as native
use Rattle.js_text.specs.declared.value.Value.{Value}
use Rattle.js_text.specs.declared.value.Value.TheVariants as value
use Rattle.js_desc.specs.declared.decision.Decision.TheVariants as decision
use Rattle.js_desc.specs.declared.fault.FaultText.TheVariants as fault
use Rattle.js_object_natives.specs.js_conversions.Conversions.{convert, convert_key, convert_text}
use Rattle.js_object_natives.specs.js_conversions.Primitives.{Conversion}
use Rattle.js_object_natives.specs.js_conversions.declared.next.Wanted.TheVariants as wanted
use Rattle.js_maker_natives.specs.Kinds.{is_common, symbol_for}
use Rattle.js_maker_natives.specs.MakerDecisions.{MakerDecision}
use Rattle.js_maker_natives.specs.Makers.{bind, make_array, make_map, make_object, make_proxy, make_symbol, revoke}
use Rattle.js_maker_natives.specs.Resumed.{make_error}
use Rattle.js_native.specs.NativeDecisions.{NativeDecision}
use Rattle.js_native.specs.TextNatives.{are_texts, ascii_text, concat_texts, index_in, slice_text, text_of_value, unit_at}
use Rattle.js_object_natives.specs.CallNatives.{apply, construct_by, constructor_of}
use Rattle.js_object_natives.specs.ObjectDecisions.{ObjectDecision}
use Rattle.js_object_natives.specs.ObjectNatives.{object_native}
use Rattle.js_store.specs.Objects.{Object}
use Rattle.js_run.specs.Acts.{Act, End, Of_conversion, Of_maker, Of_object, give}
use Rattle.js_run.specs.Asking.{waits_for}
use Rattle.js_run.specs.Conversions as conversions
use Rattle.js_run.specs.Faults.{faults}
use Rattle.js_run.specs.Following.{halt_of, see_value}
use Rattle.js_run.specs.Functions.{array_of, next_object}
use Rattle.js_run.specs.NativeTurns.{charged, follows_native, follows_native_with, given_items, native_gives}
use Rattle.js_run.specs.Operators.{given_text}
use Rattle.js_run.specs.Parties.{Party, Shared, made}
use Rattle.js_run.specs.Sorting.{sorted_places}
use Rattle.js_run.specs.SlotNatives.{runs_is_array, runs_on_collection, see_first, tells_kind}

-- TEXTS

-- a native on texts asks nothing
abbrev pub follows_text : {R S : Type 0} → Naming R S → Native → NativeDecision R S → Party R S → Act R S
follows_text names which (decision.Done r) p = native_gives which r p
follows_text names which (decision.Fault f) p = faults names f p
follows_text names which (decision.End e) p = End (halt_of e)
follows_text names which d p = faults names fault.WrongKind p

-- a number as a unit of a text
-- ECMA-262 ToUint16
abbrev pub unit_of_number : ℤ → ℕ
unit_of_number n = unsigned_abs (int_rem_euclid n (pos 65536))

module _ {R S : Type 0} (names : Naming R S) (shared : Shared) where
  -- a new object of the party is given
  abbrev pub gives_made : Object R S → Party R S → Act R S
  gives_made o p = give (value.Ref (next_object names shared p)) (made p o)

  abbrev pub gives_places : List ℕ → Party R S → Act R S
  gives_places places p = gives_made (array_of names (map (λ n. value.Int (pos n)) places)) p

  abbrev pub sorts_items : Option (List (Value R S)) → Party R S → Act R S
  sorts_items None p = faults names fault.CannotConvert p
  sorts_items (Some vs) p = if are_texts vs then gives_places (sorted_places (map text_of_value vs)) p else faults names fault.CannotConvert p

  abbrev pub sorts : List (Value R S) → Party R S → Act R S
  sorts (list ∷ []) p = sorts_items (given_items names shared p list) p
  sorts vs p = faults names fault.WrongKind p

  -- each item is made a number, one after the other, and then a unit
  -- ECMA-262 String.fromCharCode
  abbrev pub gives_units : List (Value R S) → List ℕ → Party R S → Act R S
  gives_units [] units p = given_text units p
  gives_units (v ∷ vs) units p = conversions.to_number names shared (waits_for names) v p (λ n q. gives_units vs (units ++ unit_of_number n ∷ []) q)

  abbrev pub units_of : Option (List (Value R S)) → Party R S → Act R S
  units_of None p = faults names fault.CannotConvert p
  units_of (Some vs) p = gives_units vs [] p

  abbrev pub from_units : List (Value R S) → Party R S → Act R S
  from_units (list ∷ []) p = units_of (given_items names shared p list) p
  from_units vs p = faults names fault.WrongKind p

  -- CONVERSIONS

  abbrev pub converts : Native → Conversion R S → Party R S → Act R S
  converts which d p = follows_native names which Of_conversion d p

  abbrev pub conversion_acts : Native → List (Value R S) → Party R S → Act R S
  conversion_acts native.ToText (v ∷ []) p = converts native.ToText (convert_text v) p
  conversion_acts native.ToNumber (v ∷ []) p = converts native.ToNumber (convert shared.number_of wanted.Number v) p
  conversion_acts native.ToKey (v ∷ []) p = converts native.ToKey (convert_key v) p
  conversion_acts which vs p = faults names fault.WrongKind p

  -- OBJECTS

  abbrev pub asks_object : Native → ObjectDecision R S → Party R S → Act R S
  asks_object which d p = follows_native names which Of_object d p

  abbrev pub applies : List (Value R S) → Party R S → Act R S
  applies vs p = see_first names shared vs p (λ m. asks_object native.Apply (apply (λ r. m) (given_items names shared p) vs) p)

  -- both what constructs and the new target are looked at
  abbrev pub constructs : List (Value R S) → Party R S → Act R S
  constructs (f ∷ list ∷ target ∷ []) p =
      see_value names shared f p (λ m. see_value names shared target p (λ n.
      asks_object native.Construct (construct_by (constructor_of (λ r. m) f) (given_items names shared p list) (constructor_of (λ r. n) target)) p))
  constructs vs p = faults names fault.WrongKind p

  -- MAKING

  abbrev pub makes : Native → MakerDecision R S × List (Object R S) → Party R S → Act R S
  makes which d p = follows_native_with names which Of_maker d p

  abbrev pub tells : Native → MakerDecision R S → Party R S → Act R S
  tells which d p = follows_native names which Of_maker d p

  abbrev pub binds : List (Value R S) → Party R S → Act R S
  binds vs p = see_first names shared vs p (λ m. makes native.Bind (bind names (λ r. m) (given_items names shared p) p.objects vs) p)

  abbrev pub makes_proxy : List (Value R S) → Party R S → Act R S
  makes_proxy vs p = see_first names shared vs p (λ m. makes native.MakeProxy (make_proxy names (λ r. m) p.objects vs) p)

  -- WHAT EACH NATIVE DOES, once it is charged. There are no compartments yet, so nothing is of their class
  abbrev pub native_acts : Native → List (Value R S) → Party R S → Act R S
  native_acts native.Apply vs p = applies vs p
  native_acts native.Construct vs p = constructs vs p
  native_acts native.MakeObject vs p = makes native.MakeObject (make_object names p.objects vs) p
  native_acts native.MakeArray vs p = makes native.MakeArray (make_array names p.objects vs) p
  native_acts native.ClassOf vs p = tells_kind names shared vs p
  native_acts native.IsCommon vs p = tells native.IsCommon (is_common names.origin vs) p
  native_acts native.Bind vs p = binds vs p
  native_acts native.MakeProxy vs p = makes_proxy vs p
  native_acts native.Revoke vs p = makes native.Revoke (revoke names p.objects shared.objects vs) p
  native_acts native.UnitAt vs p = follows_text names native.UnitAt (unit_at vs) p
  native_acts native.FromUnits vs p = from_units vs p
  native_acts native.Slice vs p = follows_text names native.Slice (slice_text vs) p
  native_acts native.IndexIn vs p = follows_text names native.IndexIn (index_in shared.find vs) p
  native_acts native.Concat vs p = follows_text names native.Concat (concat_texts vs) p
  native_acts native.ToText vs p = conversion_acts native.ToText vs p
  native_acts native.ToNumber vs p = conversion_acts native.ToNumber vs p
  native_acts native.ToKey vs p = conversion_acts native.ToKey vs p
  native_acts native.Ascii vs p = follows_text names native.Ascii (ascii_text vs) p
  native_acts native.SortTexts vs p = sorts vs p
  native_acts native.MakeSymbol vs p = makes native.MakeSymbol (make_symbol names p.objects vs) p
  native_acts native.SymbolFor vs p = tells native.SymbolFor (symbol_for vs) p
  native_acts native.MakeError vs p = makes native.MakeError (make_error names p.objects vs) p
  native_acts native.MakeMap vs p = makes native.MakeMap (make_map names p.objects vs) p
  native_acts native.MakeCompartment vs p = faults names fault.Unsupported p
  native_acts native.Evaluate vs p = faults names fault.WrongKind p
  native_acts native.CompartmentGlobal vs p = faults names fault.WrongKind p
  native_acts which vs p = asks_object which (object_native which vs) p

  -- a native is charged, and then does what it does; one that asks a `Slot` sees first whether its ask crosses
  -- own: the steps of a native
  abbrev pub runs_native : Native → List (Value R S) → Party R S → Act R S
  runs_native native.IsArray vs p = runs_is_array names shared vs p
  runs_native native.MapGet vs p = runs_on_collection names shared native.MapGet vs p
  runs_native native.MapSet vs p = runs_on_collection names shared native.MapSet vs p
  runs_native native.MapHas vs p = runs_on_collection names shared native.MapHas vs p
  runs_native native.MapDelete vs p = runs_on_collection names shared native.MapDelete vs p
  runs_native native.MapClear vs p = runs_on_collection names shared native.MapClear vs p
  runs_native native.MapNext vs p = runs_on_collection names shared native.MapNext vs p
  runs_native native.MapKeyAt vs p = runs_on_collection names shared native.MapKeyAt vs p
  runs_native native.MapSize vs p = runs_on_collection names shared native.MapSize vs p
  runs_native which vs p = charged names shared which vs p (λ q. native_acts which vs q)
