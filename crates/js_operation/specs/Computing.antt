-- What operators compute of values that are no objects, or how they end there. Each name is that of the function that computes it.
use Rattle.std.specs.Prelude.{ℕ, Bool, true, false, ◌||◌, List, Option, Some, None, ℤ, int_lt, Result, Ok, Err, if◌then◌else◌}
use Rattle.std.specs.Ordering.{int_eq, is_lt}
use Rattle.lava_base.specs.Ids.{same_made_symbol, same_ref}
use Rattle.lava_base.specs.declared.ids.MadeSymbol.{MadeSymbol}
use Rattle.lava_base.specs.declared.ids.Ref.{Ref}
use Rattle.js_run.specs.js_conversions.Primitives.{Conversion, to_number, to_string}
use Rattle.js_num.specs.declared.safe.NotSafe.{NotSafe}
use Rattle.js_text.specs.Indices.{key_of_text}
use Rattle.js_text.specs.Search.{order_of_units}
use Rattle.js_text.specs.Texts.{same_units}
use Rattle.js_text.specs.Values.{same_value}
use Rattle.js_text.specs.declared.value.Key.{Key}
use Rattle.js_text.specs.declared.value.Key.TheVariants as key
use Rattle.js_text.specs.declared.value.Value.{Value}
use Rattle.js_text.specs.declared.value.Value.TheVariants as value
use Rattle.js_desc.specs.declared.decision.Decision.TheVariants as decision
use Rattle.js_desc.specs.declared.decision.EndKind.TheVariants as end
use Rattle.js_desc.specs.declared.fault.FaultText.TheVariants as fault
use Rattle.js_desc.specs.declared.reply.Reply.TheVariants as reply
use Rattle.js_tree.specs.declared.operator.BinaryOperator.{BinaryOperator}
use Rattle.js_run.specs.Operators.{is_safe, numeric}
use Rattle.js_run.specs.Truth.{is_nullish}
use Rattle.js_operation.specs.declared.operation.Computed.{Computed}
use Rattle.js_operation.specs.declared.operation.Computed.TheVariants as computed

abbrev pub then_computed : {A B : Type 0} → Computed A → (A → Computed B) → Computed B
then_computed (computed.Is x) go = go x
then_computed (computed.Fault f) go = computed.Fault f
then_computed (computed.End e) go = computed.End e

-- NUMBERS

-- a number that is no safe integer ends the run
-- own: the numbers are the safe integers
abbrev pub number_or_end : Option ℤ → Computed ℤ
number_or_end None = computed.End end.Number
number_or_end (Some n) = if is_safe n then computed.Is n else computed.End end.Number

-- what js_num gives
abbrev pub safe_or_end : Result ℤ NotSafe → Computed ℤ
safe_or_end (Ok n) = computed.Is n
safe_or_end (Err e) = computed.End end.Number

-- what a conversion to a number gives
abbrev pub number_converted : {R S : Type 0} → Conversion R S → Computed ℤ
number_converted (decision.Done (reply.Value (value.Int n))) = computed.Is n
number_converted (decision.Fault f) = computed.Fault f
number_converted (decision.End e) = computed.End e
number_converted _ = computed.Fault fault.WrongKind

-- ECMA-262 ToNumber, of a value that is no object
abbrev pub number_of : {R S : Type 0} → (read : List ℕ → Option ℤ) → Value R S → Computed ℤ
number_of read v = number_converted (to_number read v)

-- both are made numbers, the left one first
abbrev pub numbers_of : {R S : Type 0} → (read : List ℕ → Option ℤ) → Value R S → Value R S → Computed (ℤ × ℤ)
numbers_of read v w = then_computed (number_of read v) (λ a. then_computed (number_of read w) (λ b. computed.Is (a, b)))

-- ECMA-262 ApplyStringOrNumericBinaryOperator, steps 3 to 8
abbrev pub calculate : {R S : Type 0} → (read : List ℕ → Option ℤ) → BinaryOperator → Value R S → Value R S → Computed ℤ
calculate read o v w = then_computed (numbers_of read v w) (λ n. number_or_end (numeric o n.0 n.1))

-- TEXTS AND KEYS

-- what a conversion to a text gives
abbrev pub text_converted : {R S : Type 0} → Conversion R S → Computed (List ℕ)
text_converted (decision.Done (reply.Value (value.Text t))) = computed.Is t
text_converted (decision.Fault f) = computed.Fault f
text_converted (decision.End e) = computed.End e
text_converted _ = computed.Fault fault.WrongKind

-- ECMA-262 ToString, of a value that is no object
abbrev pub text_of : {R S : Type 0} → Value R S → Computed (List ℕ)
text_of v = text_converted (to_string v)

-- both are made texts, the left one first
abbrev pub texts_of : {R S : Type 0} → Value R S → Value R S → Computed (List ℕ × List ℕ)
texts_of v w = then_computed (text_of v) (λ s. then_computed (text_of w) (λ t. computed.Is (s, t)))

abbrev pub key_computed : {S : Type 0} → Computed (List ℕ) → Computed (Key S)
key_computed t = then_computed t (λ s. computed.Is (key_of_text s))

-- ECMA-262 ToPropertyKey, of a value that is no object
abbrev pub key_of : {R S : Type 0} → Value R S → Computed (Key S)
key_of (value.Symbol s) = computed.Is (key.Symbol s)
key_of v = key_computed (text_of v)

-- ORDER

-- two values that are both texts
abbrev pub both_texts : {R S : Type 0} → Value R S → Value R S → Option (List ℕ × List ℕ)
both_texts (value.Text s) (value.Text t) = Some (s, t)
both_texts v w = None

abbrev pub numbers_are_less : {R S : Type 0} → (read : List ℕ → Option ℤ) → Value R S → Value R S → Computed Bool
numbers_are_less read v w = then_computed (numbers_of read v w) (λ n. computed.Is (int_lt n.0 n.1))

abbrev pub less_by : {R S : Type 0} → (read : List ℕ → Option ℤ) → Value R S → Value R S → Option (List ℕ × List ℕ) → Computed Bool
less_by read v w (Some t) = computed.Is (is_lt (order_of_units t.0 t.1))
less_by read v w None = numbers_are_less read v w

-- ECMA-262 IsLessThan, steps 3 and 4
abbrev pub is_less_than : {R S : Type 0} → (read : List ℕ → Option ℤ) → Value R S → Value R S → Computed Bool
is_less_than read v w = less_by read v w (both_texts v w)

-- EQUALITY

abbrev pub is_symbol : {R S : Type 0} → Value R S → Bool
is_symbol (value.Symbol s) = true
is_symbol _ = false

-- what is undefined, null or a symbol is made no number
abbrev pub numbers_are_equal : {R S : Type 0} → (read : List ℕ → Option ℤ) → Value R S → Value R S → Computed Bool
numbers_are_equal read v w =
    if is_nullish w || is_symbol w then computed.Is false else then_computed (numbers_of read v w) (λ n. computed.Is (int_eq n.0 n.1))

abbrev pub equal_by : {R S : Type 0} → (read : List ℕ → Option ℤ) → Value R S → Value R S → Option (List ℕ × List ℕ) → Computed Bool
equal_by read v w (Some t) = computed.Is (same_units t.0 t.1)
equal_by read v w None = numbers_are_equal read v w

-- ECMA-262 IsLooselyEqual, of values that are no objects
abbrev pub is_loosely_equal : (read : List ℕ → Option ℤ) → Value Ref MadeSymbol → Value Ref MadeSymbol → Computed Bool
is_loosely_equal read v w =
    if is_nullish v then computed.Is (is_nullish w) else
    (if is_symbol v then computed.Is (same_value same_ref same_made_symbol v w) else equal_by read v w (both_texts v w))
