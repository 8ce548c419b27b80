-- What lockdown changes in words of its own: the properties that become accessors, and the constructor of functions.
use Rattle.std.specs.Prelude.{◌≡◌, ℕ, Bool, true, false, List, [], ◌∷◌, Option, Some, None, codes, slice_get, if◌then◌else◌}
use Rattle.std.specs.List.{AllByRecursion}
use Rattle.lava_base.specs.Ids.{same_made_symbol}
use Rattle.lava_base.specs.declared.ids.MadeSymbol.{MadeSymbol}
use Rattle.lava_base.specs.declared.ids.Ref.{Ref}
use Rattle.js_text.specs.CommonPaths.{common_paths, IsPathOf}
use Rattle.js_text.specs.Texts.{same_units}
use Rattle.js_text.specs.declared.value.Key.TheVariants as key
use Rattle.js_text.specs.declared.value.Value.{Value}
use Rattle.js_text.specs.declared.value.Value.TheVariants as value
use Rattle.js_desc.specs.declared.descriptor.Descriptor.TheVariants.{Data, Accessor}
use Rattle.js_store.specs.Frozen.{common_ref}
use Rattle.js_store.specs.Objects.{object_at, ordinary_get_own_property}
use Rattle.js_store.specs.declared.slot.Held.TheVariants as held
use Rattle.js_store.specs.declared.slot.Slot.TheVariants as slot
use Rattle.ses_lockdown.specs.Entries.{HasTableMarks}
use Rattle.ses_lockdown.specs.Lockdown.{Obj, Property, own_at, locked}
use Rattle.ses_lockdown.specs.Permits.{Permit, permit_at, key_of, is_common_value}
use Rattle.ses_lockdown.specs.declared.table.Holder.TheVariants.{At}
use Rattle.ses_lockdown.specs.declared.table.Override.TheVariants as override
use Rattle.ses_lockdown.specs.declared.table.Stands.{Stands}
use Rattle.ses_lockdown.specs.declared.table.Stands.TheVariants as stands

-- the objects whose properties that hold a value become accessors
-- SES enablePropertyOverrides
-- own: which objects these are
abbrev pub repaired_paths : List (List ℕ)
repaired_paths = codes "Object.prototype" ∷ codes "Function.prototype" ∷ codes "Error.prototype" ∷ codes "TypeError.prototype" ∷ codes "RangeError.prototype" ∷ codes "SyntaxError.prototype" ∷ codes "ReferenceError.prototype" ∷ []

abbrev pub is_among : Option (List ℕ) → List (List ℕ) → Bool
is_among None ps = false
is_among (Some path) [] = false
is_among (Some path) (p ∷ ps) = if same_units path p then true else is_among (Some path) ps

-- the object of a place is one of them
unfoldable pub is_repaired : ℕ → Bool
is_repaired place = is_among (slice_get common_paths place) repaired_paths

abbrev pub IsAccessor : Property → Type 0
IsAccessor (Data v w e c) = ⊥
IsAccessor (Accessor g s e c) = Unit {0}

-- what stands at a permit's key, tamed
-- SES tameFunctionConstructors
abbrev pub tamed_value : Stands → Value Ref MadeSymbol → Value Ref MadeSymbol
tamed_value (stands.Tamed p) v = value.Ref (common_ref p)
tamed_value s v = v

-- the property of a permit has become an accessor: its getter keeps the value, and its setter the object and the key
-- SES enablePropertyOverrides
pub record IsRepaired (r : Permit) (place get set : ℕ) (v : Value Ref MadeSymbol) (enumerable : Bool) (after : List Obj) : Type 0 where
  pub accessor : own_at r (object_at after place) ≡ Some (Accessor (Some (common_ref get)) (Some (common_ref set)) enumerable false)
  pub getter : (object_at after get).slot ≡ slot.Held (held.RepairGetter v)
  pub setter : (object_at after set).slot ≡ slot.Held (held.RepairSetter (common_ref place) (key_of r.sort r.word))

-- what lockdown makes of the properties that it changes: those of the seven prototypes are accessors; one that held a value, which names
-- common objects alone, is one with the functions of its permit; and what the getter of the `constructor` of `Function.prototype` keeps is
-- `Function`, whatever value stood there
-- SES lockdown
pub record Repairs (before after : List Obj) : Type 0 where
  pub prototypes : (place : ℕ) → is_repaired place ≡ true → AllByRecursion (λ p. IsAccessor p.1) (object_at after place).properties
  pub properties : (n place get set : ℕ) (v : Value Ref MadeSymbol) (w e c : Bool)
      → (permit_at n).holder ≡ At place → (permit_at n).override ≡ override.Accessor get set
      → own_at (permit_at n) (object_at before place) ≡ Some (Data v w e c) → is_common_value (tamed_value (permit_at n).stands v) ≡ true
      → IsRepaired (permit_at n) place get set (tamed_value (permit_at n).stands v) e after
  pub constructor_of_functions : (function prototype getter : ℕ) (v : Value Ref MadeSymbol) (w e c : Bool)
      → IsPathOf (codes "Function") function → IsPathOf (codes "Function.prototype") prototype → IsPathOf (codes "get Function.prototype.constructor") getter
      → ordinary_get_own_property same_made_symbol (key.Text (codes "constructor")) (object_at before prototype).properties ≡ Some (Data v w e c)
      → (object_at after getter).slot ≡ slot.Held (held.RepairGetter (value.Ref (common_ref function)))

abbrev pub Lockdown_repairs : Type 0
Lockdown_repairs = (objects : List Obj) → HasTableMarks objects → Repairs objects (locked objects)
