-- How a request is read, and what it names.
use Rattle.std.specs.Prelude.{ℕ, suc, nat_eq, List, [], ◌∷◌, ◌++◌, if◌then◌else◌, Option, Some, None, slice_get, length}
use Rattle.std.specs.Map.{lookup}
use Rattle.std.specs.Option.{option_map}
use Rattle.lava_base.specs.declared.ids.MadeSymbol.{MadeSymbol}
use Rattle.lava_base.specs.declared.ids.Ref.{Ref}
use Rattle.js_text.specs.Naming.{Naming, naming_of}
use Rattle.js_text.specs.Texts.{same_units}
use Rattle.js_text.specs.declared.value.Value.TheVariants as value
use Rattle.js_desc.specs.declared.ask.Ask.{Ask}
use Rattle.js_desc.specs.declared.ask.Ask.TheVariants as ask
use Rattle.js_desc.specs.declared.fault.FaultText.TheVariants as fault
use Rattle.js_store.specs.declared.slot.Held.TheVariants as held
use Rattle.js_store.specs.declared.slot.Slot.{Slot}
use Rattle.js_store.specs.declared.slot.Slot.TheVariants as slot
use Rattle.js_operation.specs.js_run.Acts.{Act}
use Rattle.js_operation.specs.js_run.Faults.{error_object, faults}
use Rattle.js_operation.specs.js_run.Modules.{mapped, path_of, requires_by}
use Rattle.js_operation.specs.js_run.Parties.{Party}
use Rattle.js_operation.specs.js_run.Requests.{candidates, first_of, is_scope, joined_parts, parts_of, walked}
use Rattle.js_operation.specs.js_run.declared.intrinsics.TheConstants.{ERROR_PROTOTYPE}
use Rattle.js_machine.specs.Views.{Values, View}
use Rattle.js_machine.specs.declared.package.Module.{Module}

-- how many parts of a request name the dependency
abbrev pub link_parts : List (List ℕ) → ℕ
link_parts [] = 0
link_parts (x ∷ []) = 1
link_parts (x ∷ y ∷ xs) = if is_scope x then 2 else 1

-- MODULES

-- the number of the module with a path, where they are counted from a number on
abbrev pub place_from : ℕ → List Module → (path : List ℕ) → Option ℕ
place_from n [] path = None
place_from n (m ∷ ms) path = if same_units m.path path then Some n else place_from (suc n) ms path

-- of the first of these paths that a module has
abbrev pub first_place : List Module → (paths : List (List ℕ)) → Option ℕ
first_place ms [] = None
first_place ms (path ∷ paths) = first_of (place_from 0 ms path) (first_place ms paths)

abbrev pub place_there : List Module → (path : Option (List ℕ)) → Option ℕ
place_there ms None = None
place_there ms (Some path) = first_place ms (candidates path)

-- of the module that a path leads to from a directory
abbrev pub place_at : List Module → (directory : List (List ℕ)) → (path : List ℕ) → Option ℕ
place_at ms dir path = place_there ms (option_map joined_parts (walked (parts_of path) (Some dir)))

-- of the module that another party imports
abbrev pub imported_place : List Module → (main path : List ℕ) → Option ℕ
imported_place ms main [] = place_from 0 ms main
imported_place ms main (u ∷ us) = place_at ms [] (u ∷ us)

abbrev pub module_path : Option Module → List ℕ
module_path None = []
module_path (Some m) = m.path

-- whether the module of a number has begun, where there is one
abbrev pub begun_at : View → ℕ → Option (Option ℕ)
begun_at w n = option_map (λ (m : Module). m.begun) (slice_get w.own_package.modules n)

-- WHAT IS ASKED FOR

-- the module of a `require`
abbrev pub module_in : Slot Ref MadeSymbol → ℕ
module_in (slot.Held (held.Require n)) = n
module_in s = 0

abbrev pub first_text : Values → Option (List ℕ)
first_text (value.Text t ∷ vs) = Some t
first_text vs = None

-- the request of a call of `require`
abbrev pub request_in : Ask Ref MadeSymbol → Option (List ℕ)
request_in (ask.Call this args) = first_text args
request_in x = None

-- what a `require` does with its request
abbrev pub requires_given : Naming Ref MadeSymbol → (module_number : ℕ) → Option (List ℕ) → Party Ref MadeSymbol → Act Ref MadeSymbol
requires_given names n (Some t) p = requires_by names (path_of names (slice_get p.modules n)) t p
requires_given names n None p = faults names fault.CannotConvert p

abbrev pub mapped_given : Naming Ref MadeSymbol → Option (List ℕ) → Party Ref MadeSymbol → Act Ref MadeSymbol
mapped_given names (Some t) p = mapped names t (lookup (same_units t) p.module_map) p
mapped_given names None p = faults names fault.CannotConvert p

-- ERRORS

-- a new error of no other kind is thrown
abbrev pub with_plain_error : (message : List ℕ) → View → View
with_plain_error message w = record w {
  objects = w.objects ++ error_object (naming_of w.me) (nat_eq w.me 0) ERROR_PROTOTYPE message ∷ [];
  values = value.Ref ((naming_of w.me).own (length w.objects)) ∷ w.values;
}
