-- The permits: which properties the common objects have.
use Rattle.std.specs.Prelude.{ℕ, Bool, true, false, ◌&&◌, nat_eq, nat_lt, List, [], map, get_or, Option, Some, None}
use Rattle.std.specs.Borrow.{Bor}
use Rattle.lava_base.specs.declared.ids.MadeSymbol.{MadeSymbol}
use Rattle.lava_base.specs.declared.ids.Ref.{Ref}
use Rattle.lava_base.specs.declared.ids.Ref.TheVariants as reference
use Rattle.js_text.specs.declared.value.Key.{Key}
use Rattle.js_text.specs.declared.value.Key.TheVariants as key
use Rattle.js_text.specs.declared.value.Symbol.{Symbol}
use Rattle.js_text.specs.declared.value.Symbol.TheVariants as symbol
use Rattle.js_text.specs.declared.value.Value.{Value}
use Rattle.js_text.specs.declared.value.Value.TheVariants as value
use Rattle.js_desc.specs.declared.descriptor.Descriptor.{Descriptor}
use Rattle.js_desc.specs.declared.descriptor.Descriptor.TheVariants.{Data, Accessor}
use Rattle.js_store.specs.declared.slot.Held.TheVariants as held
use Rattle.js_store.specs.declared.slot.Slot.{Slot}
use Rattle.js_store.specs.declared.slot.Slot.TheVariants as slot
use Rattle.ses_lockdown.specs.declared.table.Holder.{Holder}
use Rattle.ses_lockdown.specs.declared.table.Holder.TheVariants.{EachFunction, At}
use Rattle.ses_lockdown.specs.declared.table.KeySort.{KeySort}
use Rattle.ses_lockdown.specs.declared.table.KeySort.TheVariants.{Named, Iterator}
use Rattle.ses_lockdown.specs.declared.places.TheConstants.{PLACES}
use Rattle.ses_lockdown.specs.declared.table.Kind.{Kind}
use Rattle.ses_lockdown.specs.declared.table.Kind.TheVariants as kind
use Rattle.ses_lockdown.specs.declared.table.Role.{Role}
use Rattle.ses_lockdown.specs.declared.table.Role.TheVariants as role
use Rattle.ses_lockdown.specs.declared.table.Override.{Override}
use Rattle.ses_lockdown.specs.declared.table.Stands.{Stands}
use Rattle.ses_lockdown.specs.declared.table.Stands.TheVariants as stands
use Rattle.ses_lockdown.specs.declared.table.Override.TheVariants as override
use Rattle.ses_lockdown.specs.declared.table.TheConstants.{COUNT, PERMIT_COUNT}
use Rattle.ses_lockdown.specs.declared.permits.TheConstants.{PERMITS}

-- a row of the table: which objects it is for, the sort of key and its name, what stands there, and what lockdown makes of it
-- SES permits
pub record Permit : Type 0 where
  pub holder : Holder
  pub sort : KeySort
  pub word : List ℕ
  pub stands : Stands
  pub override : Override

-- the table
-- SES permits
unfoldable pub permits : List Permit
permits = map {A = Holder × KeySort × record { now : List ℕ } × Stands × Override} (λ r. record { holder = r.0; sort = r.1; word = r.2.now; stands = r.3; override = r.4 }) PERMITS

-- a row of the table as code has it
abbrev pub row_of : Holder × KeySort × Bor (List ℕ) × Stands × Override → Permit
row_of r = record { holder = r.0; sort = r.1; word = r.2.now; stands = r.3; override = r.4 }

-- a common object: its kind, the place of its prototype, and where its body comes from
-- ECMA-262 Well-Known Intrinsic Objects
-- SES intrinsics
abbrev pub Place : Type 0
Place = Kind × Option ℕ × Role

unfoldable pub places : List Place
places = PLACES

abbrev pub no_place : Place
no_place = (kind.Ordinary, None, role.Given)

abbrev pub place_at : ℕ → Place
place_at n = get_or places n no_place

-- how many permits there are
unfoldable pub permit_count : ℕ
permit_count = PERMIT_COUNT

abbrev pub no_permit : Permit
no_permit = record { holder = EachFunction; sort = Named; word = []; stands = stands.Empty; override = override.Stays }

abbrev pub permit_at : ℕ → Permit
permit_at n = get_or permits n no_permit

-- how many common objects there are
unfoldable pub count : ℕ
count = COUNT

-- ECMA-262 Property Keys
abbrev pub key_of : KeySort → List ℕ → Key MadeSymbol
key_of Named word = key.Text word
key_of Iterator word = key.Symbol symbol.Iterator

-- whether a permit is for the object of a place, which is a function or not
abbrev pub is_for : Holder → (place : ℕ) → (callable : Bool) → Bool
is_for EachFunction place callable = callable
is_for (At p) place callable = nat_eq p place

-- WHAT IS COMMON

-- a reference to one of the common objects
abbrev pub is_common : Ref → Bool
is_common (reference.Common c) = nat_lt c.0 count
is_common (reference.Own p i) = false

abbrev pub is_common_if_any : Option Ref → Bool
is_common_if_any None = true
is_common_if_any (Some r) = is_common r

abbrev pub is_shared_symbol : Symbol MadeSymbol → Bool
is_shared_symbol symbol.Iterator = true
is_shared_symbol (symbol.Registered t) = true
is_shared_symbol (symbol.Made s) = false

-- a value that names common objects alone, and no made symbol
abbrev pub is_common_value : Value Ref MadeSymbol → Bool
is_common_value value.Undefined = true
is_common_value value.Null = true
is_common_value (value.Bool b) = true
is_common_value (value.Int n) = true
is_common_value (value.Text t) = true
is_common_value (value.Symbol s) = is_shared_symbol s
is_common_value (value.Ref r) = is_common r

-- a property that does
abbrev pub is_common_property : Descriptor Ref MadeSymbol → Bool
is_common_property (Data v w e c) = is_common_value v
is_common_property (Accessor g s e c) = is_common_if_any g && is_common_if_any s

-- a key that names no made symbol
abbrev pub is_shared_key : Key MadeSymbol → Bool
is_shared_key (key.Index n) = true
is_shared_key (key.Text t) = true
is_shared_key (key.Symbol s) = is_shared_symbol s

-- what a common object has besides its properties, where that names common objects alone: a body of the prelude's templates, or what a repair function keeps
abbrev pub is_common_slot : Slot Ref MadeSymbol → Bool
is_common_slot (slot.Closure body None None) = true
is_common_slot (slot.Held (held.RepairGetter v)) = is_common_value v
is_common_slot (slot.Held (held.RepairSetter r k)) = is_common r && is_shared_key k
is_common_slot s = false
