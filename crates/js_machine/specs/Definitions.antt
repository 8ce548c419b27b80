-- Properties and items of objects that were just made.
use Rattle.std.specs.Prelude.{◌≡◌, ℕ, suc, Bool, true, false, ◌∷◌, pos, Option, Some, None, if◌then◌else◌}
use Rattle.lava_base.specs.Ids.{same_made_symbol, same_ref}
use Rattle.lava_base.specs.declared.ids.MadeSymbol.{MadeSymbol}
use Rattle.lava_base.specs.declared.ids.Ref.{Ref}
use Rattle.js_text.specs.Length.{length_key}
use Rattle.js_text.specs.Naming.{naming_of}
use Rattle.js_text.specs.declared.value.Key.{Key}
use Rattle.js_text.specs.declared.value.Key.TheVariants as key
use Rattle.js_text.specs.declared.value.Value.{Value}
use Rattle.js_text.specs.declared.value.Value.TheVariants as value
use Rattle.js_desc.specs.Validate.{validate_and_apply_property_descriptor}
use Rattle.js_desc.specs.declared.descriptor.Change.{Change}
use Rattle.js_desc.specs.declared.descriptor.Change.TheVariants as change
use Rattle.js_desc.specs.declared.descriptor.Descriptor.{Descriptor}
use Rattle.js_desc.specs.declared.descriptor.Descriptor.TheVariants.{Data}
use Rattle.js_desc.specs.declared.descriptor.PartialDescriptor.{PartialDescriptor}
use Rattle.js_store.specs.Objects.{at_place, object_at, ordinary_get_own_property, with_change}
use Rattle.js_desc.specs.declared.fault.FaultText.TheVariants as fault
use Rattle.js_operation.specs.js_run.Acts.{Act}
use Rattle.js_operation.specs.js_run.Faults.{faults}
use Rattle.js_operation.specs.js_run.Functions.{data_or_undefined, length_read, own_data}
use Rattle.js_operation.specs.js_run.Parties.{Party}
use Rattle.js_operation.specs.js_run.Parts.{adds_hole, adds_item, defines, is_array}
use Rattle.js_machine.specs.Parts.{parts_go, spread_helper}
use Rattle.js_machine.specs.Views.{Around, View, fitting, party_of}
use Rattle.js_machine.specs.Ways.{object_in}
use Rattle.js_machine.specs.declared.holding.Holding.{Holding}

-- what a definition makes of a property of an own object; None where the rule refuses
-- ECMA-262 DefinePropertyOrThrow, at a fresh object
abbrev pub definition : View → (id : ℕ) → Key MadeSymbol → PartialDescriptor Ref MadeSymbol → Option (Change Ref MadeSymbol)
definition w id k d =
    let o = object_at w.objects id in
    validate_and_apply_property_descriptor same_ref same_made_symbol (ordinary_get_own_property same_made_symbol k o.properties) o.extensible d

-- an own object has changed
abbrev pub with_changed : (id : ℕ) → Key MadeSymbol → Option (Change Ref MadeSymbol) → View → View
with_changed id k None w = w
with_changed id k (Some c) w = record w { objects = at_place w.objects id (with_change same_made_symbol k c) }

abbrev pub with_property : (id : ℕ) → Key MadeSymbol → Descriptor Ref MadeSymbol → View → View
with_property id k d w = with_changed id k (Some (change.Write d)) w

-- how many items a value of `length` says, and a property
abbrev pub value_says : Value Ref MadeSymbol → ℕ
value_says v = length_read v

abbrev pub property_says : Option (Descriptor Ref MadeSymbol) → ℕ
property_says d = length_read (data_or_undefined d)

-- how many items an own array has
abbrev pub items_in : View → (id : ℕ) → ℕ
items_in w id = length_read (own_data (naming_of w.me) (object_at w.objects id) length_key)

abbrev pub with_length : (id : ℕ) → ℕ → View → View
with_length id n w = with_property id length_key (Data (value.Int (pos n)) true false false) w

-- an own array with one place more, which is empty
-- ECMA-262 ArrayAccumulation, of an Elision
abbrev pub with_hole : (id : ℕ) → View → View
with_hole id w = with_length id (suc (items_in w id)) w

-- an own array with one item more
-- ECMA-262 ArrayAccumulation, of an AssignmentExpression
abbrev pub with_item : (id : ℕ) → Value Ref MadeSymbol → View → View
with_item id v w = let n = items_in w id in with_length id (suc n) (with_property id (key.Index n) (Data v true true true) w)

-- the objects of a party are others
abbrev pub HasOtherObjects : (old new : View) → Type 0
HasOtherObjects old new = new ≡ record old { objects = new.objects }

-- the helper that copies what is spread into an object
abbrev pub helper_into : View → Ref → Ref
helper_into w r = spread_helper (is_array (object_in w r))

-- an array has one place more, which is empty
abbrev pub HasHole : Ref → (old new : View) → Type 0
HasHole o old new = (a : Around) → (let b = fitting old a in party_of b new ≡ adds_hole (naming_of old.me) b.shared o (party_of b old))

-- an array has one item more
abbrev pub HasItem : Ref → Value Ref MadeSymbol → (old new : View) → Type 0
HasItem o v old new = (a : Around) → (let b = fitting old a in party_of b new ≡ adds_item (naming_of old.me) b.shared o v (party_of b old))

-- a property is defined, or nothing has changed and it cannot be defined
abbrev pub IsDefined : Ref → Key MadeSymbol → PartialDescriptor Ref MadeSymbol → Bool → (old new : View) → Type 0
IsDefined o k d done old new =
    (a : Around) → (go : Party Ref MadeSymbol → Act Ref MadeSymbol) → (let b = fitting old a in
    defines (naming_of old.me) b.shared o k d (party_of b old) go ≡ (if done then go (party_of b new) else faults (naming_of old.me) fault.CannotDefine (party_of b old)))

-- the holding stands on the stack of values
abbrev pub with_held : Holding → View → View
with_held h w = record w { values = value.Ref h.constructor ∷ value.Ref h.instance ∷ w.values }

-- the parts from one place on go on as those from another do where there are other objects
abbrev pub GoesOnAs : Holding → (start count start' count' : ℕ) → (old new : View) → Type 0
GoesOnAs h s c s' c' old new =
    (a : Around) → (let b = fitting old a in
    parts_go (naming_of old.me) b.shared old.code h s' c' (party_of b new) ≡ parts_go (naming_of old.me) b.shared old.code h s c (party_of b old))
