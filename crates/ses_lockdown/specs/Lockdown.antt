-- Lockdown, step by step.
use Rattle.std.specs.Prelude.{ℕ, Bool, false, List, [], ◌∷◌, map, Option, Some, None, if◌then◌else◌}
use Rattle.std.specs.Option.{option_map}
use Rattle.std.specs.List.{range_with_len}
use Rattle.lava_base.specs.Ids.{same_made_symbol}
use Rattle.lava_base.specs.declared.ids.MadeSymbol.{MadeSymbol}
use Rattle.lava_base.specs.declared.ids.Ref.{Ref}
use Rattle.js_text.specs.declared.value.Key.{Key}
use Rattle.js_text.specs.declared.value.Value.TheVariants as value
use Rattle.js_desc.specs.declared.descriptor.Descriptor.{Descriptor}
use Rattle.js_desc.specs.declared.descriptor.Descriptor.TheVariants.{Data, Accessor}
use Rattle.js_store.specs.Frozen.{common_ref}
use Rattle.js_store.specs.Objects.{Object, object_at, ordinary_get_own_property, written}
use Rattle.js_store.specs.declared.slot.Held.{Held}
use Rattle.js_store.specs.declared.slot.Held.TheVariants as held
use Rattle.js_store.specs.declared.slot.Slot.{Slot}
use Rattle.js_store.specs.declared.slot.Slot.TheVariants as slot
use Rattle.ses_lockdown.specs.Permits.{Permit, permits, permit_at, count, key_of, is_for, is_common_if_any, is_common_property, is_common_slot, place_at}
use Rattle.ses_lockdown.specs.declared.table.Holder.{Holder}
use Rattle.ses_lockdown.specs.declared.table.Holder.TheVariants.{EachFunction, At}
use Rattle.ses_lockdown.specs.declared.table.Override.{Override}
use Rattle.ses_lockdown.specs.declared.table.Override.TheVariants as override
use Rattle.ses_lockdown.specs.declared.table.Role.{Role}
use Rattle.ses_lockdown.specs.declared.table.Role.TheVariants as role
use Rattle.ses_lockdown.specs.declared.table.Stands.{Stands}
use Rattle.ses_lockdown.specs.declared.table.Stands.TheVariants as stands

abbrev pub Obj : Type 0
Obj = Object Ref MadeSymbol

abbrev pub Property : Type 0
Property = Descriptor Ref MadeSymbol

abbrev pub Properties : Type 0
Properties = List (Key MadeSymbol × Property)

-- ONE PROPERTY

-- a constructor of functions is tamed: the one that evaluates nothing stands in its place
-- SES tameFunctionConstructors
abbrev pub tamed : Stands → Property → Property
tamed (stands.Tamed p) (Data v w e c) = Data (value.Ref (common_ref p)) w e c
tamed s d = d

-- a property that would keep what inherits it from having one of its own becomes an accessor
-- SES enablePropertyOverrides
abbrev pub repaired : Override → Property → Property
repaired (override.Accessor get set) (Data v w e c) = Accessor (Some (common_ref get)) (Some (common_ref set)) e c
repaired o d = d

-- a property that can't be changed
-- ECMA-262 SetIntegrityLevel, frozen
-- SES harden
abbrev pub fixed : Property → Property
fixed (Data v w e c) = Data v false e false
fixed (Accessor g s e c) = Accessor g s e false

abbrev pub locked_property : Permit → Property → Property
locked_property r d = fixed (repaired r.override (tamed r.stands d))

-- what a locked object has at the key of a permit: what it had, locked, where that names common objects alone
-- SES lockdown
abbrev pub common_only : Property → Option Property
common_only d = if is_common_property d then Some d else None

abbrev pub if_common : Option Property → Option Property
if_common None = None
if_common (Some d) = common_only d

abbrev pub own_at : Permit → Obj → Option Property
own_at r o = ordinary_get_own_property same_made_symbol (key_of r.sort r.word) o.properties

abbrev pub locked_at : Permit → Obj → Option Property
locked_at r o = if_common (option_map (locked_property r) (own_at r o))

-- ALL PROPERTIES

abbrev pub defined : Permit → Option Property → Properties → Properties
defined r None ps = ps
defined r (Some d) ps = written same_made_symbol (key_of r.sort r.word) d ps

-- the properties of the object of a place with that of a permit, if it is for the object
abbrev pub with_permit : (Permit → Option Property) → (place : ℕ) → (callable : Bool) → Permit → Properties → Properties
with_permit at place callable r ps = if is_for r.holder place callable then defined r (at r) ps else ps

-- the properties with those of some permits, one after the other. What is off the permits does not come in
-- SES removeUnpermittedIntrinsics
abbrev pub with_permits : (Permit → Option Property) → (place : ℕ) → (callable : Bool) → List Permit → Properties → Properties
with_permits at place callable [] ps = ps
with_permits at place callable (r ∷ rs) ps = with_permits at place callable rs (with_permit at place callable r ps)

-- THE SLOT

-- the place of the object that a permit is for
abbrev pub holder_place : Holder → ℕ
holder_place EachFunction = 0
holder_place (At p) = p

-- the property of a permit at its object
abbrev pub property_of : List Obj → Permit → Option Property
property_of objects r = own_at r (object_at objects (holder_place r.holder))

-- a getter of lockdown keeps the value of its property, tamed
-- SES enablePropertyOverrides, getter
abbrev pub kept_value : Property → Option (Held Ref MadeSymbol)
kept_value (Data v w e c) = Some (held.RepairGetter v)
kept_value (Accessor g s e c) = None

abbrev pub kept_of : Stands → Option Property → Option (Held Ref MadeSymbol)
kept_of s None = None
kept_of s (Some d) = kept_value (tamed s d)

-- a setter of lockdown keeps the object and the key of its property
-- SES enablePropertyOverrides, setter
abbrev pub kept_place : Permit → Option Property → Option (Held Ref MadeSymbol)
kept_place r None = None
kept_place r (Some (Data v w e c)) = Some (held.RepairSetter (common_ref (holder_place r.holder)) (key_of r.sort r.word))
kept_place r (Some (Accessor g s e c)) = None

-- what a function of lockdown keeps, where its property has a value; one that has none has been replaced
abbrev pub kept_by : List Obj → Role → Option (Held Ref MadeSymbol)
kept_by objects role.Given = None
kept_by objects (role.Getter n) = let r = permit_at n in kept_of r.stands (property_of objects r)
kept_by objects (role.Setter n) = let r = permit_at n in kept_place r (property_of objects r)

abbrev pub common_slot : Slot Ref MadeSymbol → Slot Ref MadeSymbol
common_slot s = if is_common_slot s then s else slot.Plain

abbrev pub held_or : Option (Held Ref MadeSymbol) → Slot Ref MadeSymbol → Slot Ref MadeSymbol
held_or None old = common_slot old
held_or (Some h) old = common_slot (slot.Held h)

-- AN OBJECT

abbrev pub common_prototype : Option Ref → Option Ref
common_prototype r = if is_common_if_any r then r else None

abbrev pub role_at : ℕ → Role
role_at place = (place_at place).2

-- a common object, locked: its properties are those of the permits, none can be changed, and none can be added
-- SES lockdown
-- SES harden
abbrev pub locked_as : List Obj → (place : ℕ) → Obj → Obj
locked_as objects place o = record {
  prototype = common_prototype o.prototype;
  extensible = false;
  properties = with_permits (λ r. locked_at r o) place o.marks.callable permits [];
  slot = held_or (kept_by objects (role_at place)) o.slot;
  marks = o.marks;
}

abbrev pub locked_object : List Obj → (place : ℕ) → Obj
locked_object objects place = locked_as objects place (object_at objects place)

-- what lockdown makes of the intrinsics: the objects of the places, locked
-- SES lockdown
unfoldable pub locked : List Obj → List Obj
locked objects = map (locked_object objects) (range_with_len 0 count)

-- AN OBJECT THAT IS BEING MADE

abbrev pub more : (Permit → Option Property) → (place : ℕ) → (callable : Bool) → List Permit → Obj → Obj
more at place callable rs m = record m { properties = with_permits at place callable rs m.properties }

abbrev pub one_more : (Permit → Option Property) → (place : ℕ) → (callable : Bool) → Permit → Obj → Obj
one_more at place callable r m = record m { properties = with_permit at place callable r m.properties }

abbrev pub with_defined : Permit → Option Property → Obj → Obj
with_defined r d m = record m { properties = defined r d m.properties }
