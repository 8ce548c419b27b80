-- What the common part has to be, so that the host runs no function of its own but where it is called: the accessors that its objects inherit are those of lockdown.
use Rattle.std.specs.Prelude.{◌≡◌, ℕ, Bool, true, false, ◌||◌, nat_eq, List, [], ◌∷◌, ⊤, Option, Some, None}
use Rattle.std.specs.List.{AllByRecursion}
use Rattle.lava_base.specs.declared.ids.MadeSymbol.{MadeSymbol}
use Rattle.lava_base.specs.declared.ids.Ref.{Ref}
use Rattle.lava_base.specs.declared.ids.Ref.TheVariants as reference
use Rattle.js_text.specs.declared.value.Key.{Key}
use Rattle.js_text.specs.declared.value.Value.{Value}
use Rattle.js_desc.specs.declared.descriptor.Descriptor.{Descriptor}
use Rattle.js_desc.specs.declared.descriptor.Descriptor.TheVariants.{Data, Accessor}
use Rattle.js_store.specs.Frozen.{CommonObject, common_at}
use Rattle.js_store.specs.Objects.{Object}
use Rattle.js_store.specs.declared.slot.Held.TheVariants as held
use Rattle.js_store.specs.declared.slot.Slot.{Slot}
use Rattle.js_store.specs.declared.slot.Slot.TheVariants as slot
use Rattle.js_ordinary.specs.OrdinarySetPrototypeOf.{is_proxy}
use Rattle.js_run.specs.js_exotic.ArrayDefineOwnProperty.{is_array}
use Rattle.js_run.specs.declared.intrinsics.TheConstants.{ERROR_PROTOTYPE, FUNCTION_PROTOTYPE, OBJECT_PROTOTYPE, RANGE_ERROR_PROTOTYPE, REFERENCE_ERROR_PROTOTYPE, SYNTAX_ERROR_PROTOTYPE, TYPE_ERROR_PROTOTYPE}

-- the common objects that the host's objects inherit from
abbrev pub host_prototypes : List ℕ
host_prototypes = OBJECT_PROTOTYPE ∷ FUNCTION_PROTOTYPE ∷ ERROR_PROTOTYPE ∷ TYPE_ERROR_PROTOTYPE ∷ RANGE_ERROR_PROTOTYPE ∷ SYNTAX_ERROR_PROTOTYPE ∷ REFERENCE_ERROR_PROTOTYPE ∷ []

abbrev pub is_place_in : List ℕ → ℕ → Bool
is_place_in [] place = false
is_place_in (p ∷ ps) place = nat_eq p place || is_place_in ps place

abbrev pub is_host_prototype : ℕ → Bool
is_host_prototype place = is_place_in host_prototypes place

-- nothing, or one of them
abbrev pub IsHostPrototype : Option Ref → Type 0
IsHostPrototype None = ⊤
IsHostPrototype (Some (reference.Common c)) = is_host_prototype c.0 ≡ true
IsHostPrototype (Some (reference.Own p i)) = ⊥

-- what a common object keeps besides its properties
abbrev pub kept_at : List CommonObject → Ref → Slot Ref MadeSymbol
kept_at common (reference.Common c) = (common_at common c.0).slot
kept_at common (reference.Own p i) = slot.Plain

-- the getter of an accessor, if it has one, is one of lockdown, which gives the value that it keeps
-- SES enablePropertyOverrides, getter
abbrev pub KeepsGetter : List CommonObject → Descriptor Ref MadeSymbol → Type 0
KeepsGetter common (Data v w e c) = ⊤
KeepsGetter common (Accessor None s e c) = ⊤
KeepsGetter common (Accessor (Some g) s e c) = (v : Value Ref MadeSymbol) × (kept_at common g ≡ slot.Held (held.RepairGetter v))

-- its setter, if it has one, is one of lockdown, which asks the receiver
-- SES enablePropertyOverrides, setter
abbrev pub KeepsSetter : List CommonObject → Descriptor Ref MadeSymbol → Type 0
KeepsSetter common (Data v w e c) = ⊤
KeepsSetter common (Accessor g None e c) = ⊤
KeepsSetter common (Accessor g (Some s) e c) = (r : Ref) × (k : Key MadeSymbol) × (kept_at common s ≡ slot.Held (held.RepairSetter r k))

-- an object inherits from those that the host's objects inherit from alone, and each of its getters is one of lockdown
pub record InheritsSo (common : List CommonObject) (o : Object Ref MadeSymbol) : Type 0 where
  pub prototype : IsHostPrototype o.prototype
  pub getters : AllByRecursion (λ p. KeepsGetter common p.1) o.properties

-- this holds of what the host's objects inherit from; each setter of a common object is one of lockdown, and none is a proxy or an array
-- SES lockdown
pub record HasRepairs (common : List CommonObject) : Type 0 where
  pub prototypes : (place : ℕ) → is_host_prototype place ≡ true → InheritsSo common (common_at common place)
  pub setters : (place : ℕ) → AllByRecursion (λ p. KeepsSetter common p.1) (common_at common place).properties
  pub proxies : (place : ℕ) → is_proxy (common_at common place).slot ≡ false
  pub arrays : (place : ℕ) → is_array (common_at common place).marks.class ≡ false
