-- What the accessors of the common objects call once they are locked: on what all inherit from, the functions of lockdown alone.
use Rattle.std.specs.Prelude.{◌≡◌, ℕ, ◌<◌, Bool, true, false, List, ⊤, Option, Some, None}
use Rattle.std.specs.List.{AllByRecursion}
use Rattle.std.specs.Option.{option_map}
use Rattle.lava_base.specs.declared.ids.MadeSymbol.{MadeSymbol}
use Rattle.lava_base.specs.declared.ids.Ref.{Ref}
use Rattle.lava_base.specs.declared.ids.Ref.TheVariants as reference
use Rattle.lava_base.specs.declared.marks.Class.{Class}
use Rattle.lava_base.specs.declared.marks.Class.TheVariants as class
use Rattle.js_text.specs.declared.value.Key.{Key}
use Rattle.js_text.specs.declared.value.Value.{Value}
use Rattle.js_desc.specs.declared.descriptor.Descriptor.TheVariants.{Data, Accessor}
use Rattle.js_store.specs.Frozen.{common_ref}
use Rattle.js_store.specs.Objects.{object_at}
use Rattle.js_store.specs.declared.slot.Held.TheVariants as held
use Rattle.js_store.specs.declared.slot.Slot.{Slot}
use Rattle.js_store.specs.declared.slot.Slot.TheVariants as slot
use Rattle.ses_lockdown.specs.Entries.{HasTableMarks}
use Rattle.ses_lockdown.specs.Intrinsics.{initial_objects, with_function}
use Rattle.ses_lockdown.specs.Lockdown.{Obj, Property, locked}
use Rattle.ses_lockdown.specs.Permits.{count, is_common_value, place_at}
use Rattle.ses_lockdown.specs.Repairs.{is_repaired}

-- BEFORE LOCKDOWN

-- a property holds a value that names common objects alone, or has no setter
abbrev pub IsSimple : Property → Type 0
IsSimple (Data v w e c) = is_common_value v ≡ true
IsSimple (Accessor g None e c) = ⊤
IsSimple (Accessor g (Some s) e c) = ⊥

abbrev pub HoldsValue : Property → Type 0
HoldsValue (Data v w e c) = ⊤
HoldsValue (Accessor g s e c) = ⊥

-- the properties and prototypes of the common objects are as the tables give them: none has a setter, and those of the seven prototypes hold values
-- SES intrinsics
pub record HasTableProperties (objects : List Obj) : Type 0 where
  pub simple : (place : ℕ) → place < count → AllByRecursion (λ p. IsSimple p.1) (object_at objects place).properties
  pub values : (place : ℕ) → is_repaired place ≡ true → AllByRecursion (λ p. HoldsValue p.1) (object_at objects place).properties
  pub prototypes : (place : ℕ) → place < count → (object_at objects place).prototype ≡ option_map common_ref (place_at place).1

-- so they stay, whatever functions come
pub record PropertiesStay : Type 0 where
  pub initial : HasTableProperties initial_objects
  pub given : (place number parameters : ℕ) (objects : List Obj) → HasTableProperties objects → HasTableProperties (with_function place number parameters objects)

-- AFTER LOCKDOWN

-- what a common object has besides its properties
abbrev pub slot_at : List Obj → Ref → Slot Ref MadeSymbol
slot_at objects (reference.Common c) = (object_at objects c.0).slot
slot_at objects (reference.Own p i) = slot.Plain

-- a getter is one of lockdown
-- SES enablePropertyOverrides, getter
abbrev pub HasRepairGetter : List Obj → Property → Type 0
HasRepairGetter objects (Data v w e c) = ⊤
HasRepairGetter objects (Accessor None s e c) = ⊤
HasRepairGetter objects (Accessor (Some g) s e c) = (v : Value Ref MadeSymbol) × (slot_at objects g ≡ slot.Held (held.RepairGetter v))

-- a setter is one of lockdown
-- SES enablePropertyOverrides, setter
abbrev pub HasRepairSetter : List Obj → Property → Type 0
HasRepairSetter objects (Data v w e c) = ⊤
HasRepairSetter objects (Accessor g None e c) = ⊤
HasRepairSetter objects (Accessor g (Some s) e c) = (r : Ref) × (k : Key MadeSymbol) × (slot_at objects s ≡ slot.Held (held.RepairSetter r k))

-- nothing, or one of the seven prototypes
abbrev pub IsRepairedIfAny : Option Ref → Type 0
IsRepairedIfAny None = ⊤
IsRepairedIfAny (Some (reference.Common c)) = is_repaired c.0 ≡ true
IsRepairedIfAny (Some (reference.Own p i)) = ⊥

-- what a locked object may have: nothing, a body, or what a function of lockdown keeps
abbrev pub is_locked_slot : Slot Ref MadeSymbol → Bool
is_locked_slot slot.Plain = true
is_locked_slot (slot.Closure body home lexical) = true
is_locked_slot (slot.Held h) = true
is_locked_slot _ = false

-- an object that is neither an array nor of another kind of its own
abbrev pub is_plain_class : Class → Bool
is_plain_class class.Object = true
is_plain_class class.Function = true
is_plain_class _ = false

-- the seven prototypes inherit from each other alone, and each of their getters is one of lockdown; so is each setter of a common object
-- SES enablePropertyOverrides
pub record CallsRepairs (objects : List Obj) : Type 0 where
  pub prototypes : (place : ℕ) → is_repaired place ≡ true → IsRepairedIfAny (object_at objects place).prototype
  pub getters : (place : ℕ) → is_repaired place ≡ true → AllByRecursion (λ p. HasRepairGetter objects p.1) (object_at objects place).properties
  pub setters : (place : ℕ) → AllByRecursion (λ p. HasRepairSetter objects p.1) (object_at objects place).properties
  pub slots : (place : ℕ) → is_locked_slot (object_at objects place).slot ≡ true
  pub classes : (place : ℕ) → is_plain_class (object_at objects place).marks.class ≡ true

abbrev pub Lockdown_calls_repairs : Type 0
Lockdown_calls_repairs = (objects : List Obj) → HasTableMarks objects → HasTableProperties objects → CallsRepairs (locked objects)
