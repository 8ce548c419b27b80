-- The slots of a body's scope.
use Rattle.std.specs.Prelude.{ℕ, zero, suc, Bool, if◌then◌else◌, get_or, List, [], ◌∷◌, ◌++◌, drop, Option}
use Rattle.lava_base.specs.declared.ids.MadeSymbol.{MadeSymbol}
use Rattle.lava_base.specs.declared.ids.Ref.{Ref}
use Rattle.js_text.specs.declared.value.Value.{Value}
use Rattle.js_text.specs.declared.value.Value.TheVariants as value
use Rattle.js_state.specs.Scopes.{Scope, with_slot}
use Rattle.js_machine.specs.Views.{Values, View, args_on}

abbrev pub Slots : Type 0
Slots = List (Option (Value Ref MadeSymbol))

abbrev pub scope_with : ℕ → Slots → Scope Ref MadeSymbol
scope_with outer slots = record { outer = outer; slots = slots }

-- a new scope, in which no body stands yet
abbrev pub with_open_scope : (outer : ℕ) → Slots → View → View
with_open_scope outer slots w = record w { scopes = w.scopes ++ scope_with outer slots ∷ [] }

-- the argument of a place, undefined where there are too few
abbrev pub argument_at : Values → ℕ → Value Ref MadeSymbol
argument_at args i = get_or args i value.Undefined

-- so many slots of a scope have the arguments of their places
abbrev pub bound_from : ℕ → Values → (scope : ℕ) → List (Scope Ref MadeSymbol) → List (Scope Ref MadeSymbol)
bound_from zero args s ss = ss
bound_from (suc i) args s ss = bound_from i args s (with_slot ss s i (argument_at args i))

-- so many arguments are taken off the stack, and are in the first slots of a scope
abbrev pub with_arguments : (first count scope : ℕ) → View → View
with_arguments first n s w = record w { values = drop n w.values; scopes = bound_from first (args_on n w.values) s w.scopes }

-- a slot of a scope is undefined, if it is to be
abbrev pub started_in : Bool → (slot scope : ℕ) → List (Scope Ref MadeSymbol) → List (Scope Ref MadeSymbol)
started_in b i s ss = if b then with_slot ss s i value.Undefined else ss
