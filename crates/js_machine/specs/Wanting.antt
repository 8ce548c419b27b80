-- The numbers that decisions want, with the methods that give them.
use Rattle.std.specs.Prelude.{ℕ, ℤ, Bool, true, false, List, [], ◌∷◌, ◌++◌, drop, codes}
use Rattle.lava_base.specs.declared.ids.MadeSymbol.{MadeSymbol}
use Rattle.lava_base.specs.declared.ids.Ref.{Ref}
use Rattle.js_text.specs.Naming.{Naming}
use Rattle.js_text.specs.declared.value.Value.{Value}
use Rattle.js_text.specs.declared.value.Value.TheVariants as value
use Rattle.js_desc.specs.declared.reply.Reply.TheVariants as reply
use Rattle.js_operation.specs.declared.operation.Computed.{Computed}
use Rattle.js_operation.specs.declared.operation.Computed.TheVariants as computed
use Rattle.js_operation.specs.js_run.Acts.{Act, End, with_value}
use Rattle.js_operation.specs.js_run.Asking.{waits_for}
use Rattle.js_operation.specs.js_run.Conversions.{method_called, ordinary_to_primitive, primitive_or, primitive_to_number}
use Rattle.js_operation.specs.js_run.Decisions.{goes_on}
use Rattle.js_operation.specs.js_run.Faults.{faults}
use Rattle.js_operation.specs.js_run.Following.{halt_of}
use Rattle.js_operation.specs.js_run.Natives.{gives_units, unit_of_number}
use Rattle.js_operation.specs.js_run.Parties.{Party, Shared}
use Rattle.js_operation.specs.js_run.Proxies.{proxy_has_number}
use Rattle.js_machine.specs.declared.asked.NumberFor.{NumberFor}
use Rattle.js_machine.specs.declared.asked.NumberFor.TheVariants as number_for

-- the methods that are tried after the first one, or after the last one
-- ECMA-262 OrdinaryToPrimitive, steps 1 and 2
abbrev pub methods_left : (last : Bool) → List (List ℕ)
methods_left false = codes "toString" ∷ []
methods_left true = []

module _ (names : Naming Ref MadeSymbol) (shared : Shared) where
  -- what wanted a number goes on with it
  unfoldable pub goes_with : NumberFor → ℤ → Party Ref MadeSymbol → Act Ref MadeSymbol
  goes_with (number_for.Object me n) = λ i p. goes_on names shared me n (reply.Value (value.Int i)) p
  goes_with (number_for.Proxy n) = λ i p. proxy_has_number names shared n i p
  goes_with (number_for.Units us vs n) = λ i p. gives_units names shared (drop n vs) (us ++ unit_of_number i ∷ []) p

  -- and with what a primitive value gives
  abbrev pub goes_computed : NumberFor → Computed ℤ → Party Ref MadeSymbol → Act Ref MadeSymbol
  goes_computed k (computed.Is i) = goes_with k i
  goes_computed k (computed.Fault f) = faults names f
  goes_computed k (computed.End e) = λ p. End (halt_of e)

  -- a primitive value is made the number
  -- ECMA-262 ToNumber
  abbrev pub number_comes : NumberFor → Value Ref MadeSymbol → Party Ref MadeSymbol → Act Ref MadeSymbol
  number_comes k = λ v p. primitive_to_number names shared (waits_for names) v p (goes_with k)

  -- the methods that are left are tried
  -- ECMA-262 OrdinaryToPrimitive, step 4
  abbrev pub tries_rest : (last : Bool) → Ref → NumberFor → Party Ref MadeSymbol → Act Ref MadeSymbol
  tries_rest last o k = λ p. ordinary_to_primitive names shared (waits_for names) (methods_left last) o p (number_comes k)

  -- what a method gave is the primitive value, where it is one
  -- ECMA-262 OrdinaryToPrimitive, step 3.b.ii
  abbrev pub number_method_gave : (last : Bool) → Ref → NumberFor → Value Ref MadeSymbol → Party Ref MadeSymbol → Act Ref MadeSymbol
  number_method_gave last o k = λ v p. primitive_or names shared (waits_for names) v p (tries_rest last o k) (number_comes k)

  -- a method is called, where it is one
  -- ECMA-262 OrdinaryToPrimitive, step 3.b
  abbrev pub number_method_got : (last : Bool) → Ref → NumberFor → Value Ref MadeSymbol → Party Ref MadeSymbol → Act Ref MadeSymbol
  number_method_got last o k = λ f p. method_called names shared (waits_for names) f o p (tries_rest last o k) (with_value (number_method_gave last o k))
