-- What operators do. Each name is that of the function that does it; `Deeds` says what that stands for.
use Rattle.std.specs.Prelude.{ℕ, Bool, true, false, not, nat_lt, List, ◌++◌, length, codes, Option, Some, None, ℤ, int_lt, neg_ℤ, negsuc, if◌then◌else◌}
use Rattle.std.specs.Ordering.{int_eq}
use Rattle.lava_base.specs.Ids.{same_made_symbol, same_ref}
use Rattle.lava_base.specs.declared.ids.MadeSymbol.{MadeSymbol}
use Rattle.lava_base.specs.declared.ids.Ref.{Ref}
use Rattle.js_num.specs.Bits.{bitwise}
use Rattle.js_num.specs.declared.bits.BitOp.TheVariants as bits
use Rattle.js_text.specs.Values.{same_value}
use Rattle.js_text.specs.declared.text.TheConstants.{MAX_UNITS}
use Rattle.js_text.specs.declared.value.Value as values
use Rattle.js_text.specs.declared.value.Value.TheVariants as value
use Rattle.js_desc.specs.declared.decision.EndKind.TheVariants as end
use Rattle.js_desc.specs.declared.fault.FaultText.TheVariants as fault
use Rattle.js_run.specs.js_conversions.declared.next.Wanted.{Wanted}
use Rattle.js_run.specs.js_conversions.declared.next.Wanted.TheVariants as wanted
use Rattle.js_tree.specs.declared.operator.BinaryOperator.{BinaryOperator}
use Rattle.js_tree.specs.declared.operator.BinaryOperator.TheVariants as op
use Rattle.js_tree.specs.declared.operator.UnaryOperator.{UnaryOperator}
use Rattle.js_tree.specs.declared.operator.UnaryOperator.TheVariants as unary
use Rattle.js_run.specs.Operators.{either_is_text, numeric}
use Rattle.js_run.specs.Truth.{is_nullish, to_boolean}
use Rattle.js_operation.specs.Computing.{calculate, is_less_than, is_loosely_equal, key_of, number_of, number_or_end, texts_of, then_computed}
use Rattle.js_operation.specs.declared.operation.Computed.{Computed}
use Rattle.js_operation.specs.declared.operation.Computed.TheVariants as computed
use Rattle.js_operation.specs.declared.operation.Look.{Look}
use Rattle.js_operation.specs.declared.operation.Look.TheVariants as look
use Rattle.js_operation.specs.declared.operation.Operation.{Operation}
use Rattle.js_operation.specs.declared.operation.Operation.TheVariants as operation
use Rattle.js_operation.specs.declared.operation.Rest.{Rest}
use Rattle.js_operation.specs.declared.operation.Rest.TheVariants as rest

abbrev pub MachineValue : Type 0
MachineValue = values.Value Ref MadeSymbol

-- what is done with what was computed
abbrev pub then_operation : {A : Type 0} → Computed A → (A → Operation) → Operation
then_operation (computed.Is x) go = go x
then_operation (computed.Fault f) go = operation.Fault f
then_operation (computed.End e) go = operation.End e

abbrev pub number_operation : Computed ℤ → Operation
number_operation c = then_operation c (λ n. operation.Value (value.Int n))

-- a number that was computed, as a value
abbrev pub number_value : Computed ℤ → Computed MachineValue
number_value c = then_computed c (λ n. computed.Is (value.Int n))

-- the opposite where it is negated
abbrev pub flag : (negated : Bool) → Bool → Operation
flag negated b = operation.Value (value.Bool (if negated then not b else b))

abbrev pub flag_operation : (negated : Bool) → Computed Bool → Operation
flag_operation negated c = then_operation c (flag negated)

-- an operator on two numbers. It converts nothing
abbrev pub integer_operation : BinaryOperator → ℤ → ℤ → Operation
integer_operation op.Less a b = flag false (int_lt a b)
integer_operation op.Greater a b = flag false (int_lt b a)
integer_operation op.LessOrEqual a b = flag true (int_lt b a)
integer_operation op.GreaterOrEqual a b = flag true (int_lt a b)
integer_operation op.LooselyEqual a b = flag false (int_eq a b)
integer_operation op.LooselyUnequal a b = flag true (int_eq a b)
integer_operation op.StrictlyEqual a b = flag false (int_eq a b)
integer_operation op.StrictlyUnequal a b = flag true (int_eq a b)
integer_operation op.Instanceof a b = operation.Fault fault.NotAFunction
integer_operation op.In a b = operation.Fault fault.NotAnObject
integer_operation o a b = number_operation (number_or_end (numeric o a b))

-- an object that a value is
abbrev pub object_of : MachineValue → Option Ref
object_of (value.Ref r) = Some r
object_of _ = None

-- what an object is made
abbrev pub wanted_by : Rest → Wanted
wanted_by rest.Key = wanted.Key
wanted_by _ = wanted.Primitive

-- SUMS

-- a text past the limit ends the run
-- own: a text has a limit
abbrev pub text_or_end : List ℕ → Operation
text_or_end t = if nat_lt MAX_UNITS (length t) then operation.End end.Text else operation.Text t

-- ECMA-262 ApplyStringOrNumericBinaryOperator, step 1.c
abbrev pub joined : MachineValue → MachineValue → Operation
joined v w = then_operation (texts_of v w) (λ t. text_or_end (t.0 ++ t.1))

-- WHAT READS NO TEXT AS A NUMBER

-- an operator makes its operands numbers, each before it looks at the next
abbrev pub takes_numbers : BinaryOperator → Bool
takes_numbers op.Add = false
takes_numbers op.Less = false
takes_numbers op.Greater = false
takes_numbers op.LessOrEqual = false
takes_numbers op.GreaterOrEqual = false
takes_numbers o = true

-- two objects are equal where they are the same, and none is equal to undefined or null
abbrev pub object_by : (negated : Bool) → Ref → MachineValue → Option Ref → Operation
object_by negated r w (Some s) = flag negated (same_ref r s)
object_by negated r w None = if is_nullish w then flag negated false else operation.Converts r (rest.Equal negated) w

abbrev pub object_equality : (negated : Bool) → Ref → MachineValue → Operation
object_equality negated r w = object_by negated r w (object_of w)

-- ECMA-262 Relational Operators, of `in`
abbrev pub has_key : MachineValue → Ref → Operation
has_key v r = then_operation (key_of v) (operation.HasProperty r)

abbrev pub in_by : MachineValue → Ref → Option Ref → Operation
in_by v r (Some o) = operation.Converts o rest.Key (value.Ref r)
in_by v r None = has_key v r

abbrev pub in_object : MachineValue → MachineValue → Operation
in_object v (value.Ref r) = in_by v r (object_of v)
in_object v _ = operation.Fault fault.NotAnObject

-- ECMA-262 InstanceofOperator
abbrev pub instance_of : MachineValue → MachineValue → Operation
instance_of v (value.Ref f) = operation.Looks f look.Instanceof v
instance_of v _ = operation.Fault fault.NotAFunction

abbrev pub strict_equality : (negated : Bool) → MachineValue → MachineValue → Operation
strict_equality negated v w = flag negated (same_value same_ref same_made_symbol v w)

abbrev pub unary_numeric : UnaryOperator → ℤ → ℤ
unary_numeric unary.Minus n = neg_ℤ n
unary_numeric unary.BitwiseNot n = bitwise bits.Xor n (negsuc 0)
unary_numeric _ n = n

-- ECMA-262 The typeof Operator
abbrev pub type_of : MachineValue → Operation
type_of value.Undefined = operation.Value (value.Text (codes "undefined"))
type_of value.Null = operation.Value (value.Text (codes "object"))
type_of (value.Bool b) = operation.Value (value.Text (codes "boolean"))
type_of (value.Int n) = operation.Value (value.Text (codes "number"))
type_of (value.Text t) = operation.Value (value.Text (codes "string"))
type_of (value.Symbol s) = operation.Value (value.Text (codes "symbol"))
type_of (value.Ref r) = operation.Looks r look.Typeof value.Undefined

abbrev pub key_converted : MachineValue → MachineValue → Operation
key_converted (value.Ref r) v = has_key v r
key_converted _ v = operation.Fault fault.NotAnObject

-- ECMA-262 The typeof Operator, of an object
abbrev pub type_of_object : (callable : Bool) → Operation
type_of_object callable = operation.Value (value.Text (if callable then codes "function" else codes "object"))

-- it is known whether an object can be called
abbrev pub looked : Look → Ref → (held : MachineValue) → (callable : Bool) → Operation
looked look.Typeof r held callable = type_of_object callable
looked look.Instanceof r held callable = if callable then operation.HasInstance r held else operation.Fault fault.NotAFunction

-- a function that is not bound is known
-- ECMA-262 OrdinaryHasInstance, steps 3 and 4
abbrev pub has_instance : Ref → MachineValue → Operation
has_instance f (value.Ref o) = operation.GetPrototype f o
has_instance f _ = operation.Value (value.Bool false)

-- what a function has as `prototype` is known
-- ECMA-262 OrdinaryHasInstance, step 5
abbrev pub prototype_come : Ref → MachineValue → Operation
prototype_come o (value.Ref prototype) = operation.Inherits o prototype
prototype_come o _ = operation.Fault fault.NotAnObject

-- WHAT MAY READ TEXTS AS NUMBERS

module _ (read : List ℕ → Option ℤ) where
  -- ECMA-262 ApplyStringOrNumericBinaryOperator, of `+` and values that are no objects
  abbrev pub added : MachineValue → MachineValue → Operation
  added v w = if either_is_text v w then joined v w else number_operation (calculate read op.Add v w)

  -- BINARY OPERATORS

  -- two values that are no objects
  abbrev pub primitive_binary : BinaryOperator → MachineValue → MachineValue → Operation
  primitive_binary op.Add v w = added v w
  primitive_binary op.Less v w = flag_operation false (is_less_than read v w)
  primitive_binary op.Greater v w = flag_operation false (is_less_than read w v)
  primitive_binary op.LessOrEqual v w = flag_operation true (is_less_than read w v)
  primitive_binary op.GreaterOrEqual v w = flag_operation true (is_less_than read v w)
  primitive_binary o v w = number_operation (calculate read o v w)

  abbrev pub right_by : BinaryOperator → MachineValue → MachineValue → Option Ref → Operation
  right_by o v w (Some r) = operation.Converts r (rest.Right o) v
  right_by o v w None = primitive_binary o v w

  -- the left operand is no object
  abbrev pub right_operand : BinaryOperator → MachineValue → MachineValue → Operation
  right_operand o v w = right_by o v w (object_of w)

  abbrev pub left_primitive : BinaryOperator → MachineValue → MachineValue → Operation
  left_primitive o v w = if takes_numbers o then then_operation (number_value (number_of read v)) (λ n. right_operand o n w) else right_operand o v w

  abbrev pub left_by : BinaryOperator → MachineValue → MachineValue → Option Ref → Operation
  left_by o v w (Some r) = operation.Converts r (rest.Left o) w
  left_by o v w None = left_primitive o v w

  abbrev pub left_operand : BinaryOperator → MachineValue → MachineValue → Operation
  left_operand o v w = left_by o v w (object_of v)

  -- EQUALITY

  abbrev pub primitive_by : (negated : Bool) → MachineValue → MachineValue → Option Ref → Operation
  primitive_by negated v w (Some s) = object_equality negated s v
  primitive_by negated v w None = flag_operation negated (is_loosely_equal read v w)

  abbrev pub loose_by : (negated : Bool) → MachineValue → MachineValue → Option Ref → Operation
  loose_by negated v w (Some r) = object_equality negated r w
  loose_by negated v w None = primitive_by negated v w (object_of w)

  -- ECMA-262 IsLooselyEqual
  abbrev pub loose_equality : (negated : Bool) → MachineValue → MachineValue → Operation
  loose_equality negated v w = loose_by negated v w (object_of v)

  -- ECMA-262 EvaluateStringOrNumericBinaryExpression, Relational Operators, Equality Operators
  abbrev pub binary_operation : BinaryOperator → MachineValue → MachineValue → Operation
  binary_operation op.Instanceof v w = instance_of v w
  binary_operation op.In v w = in_object v w
  binary_operation op.LooselyEqual v w = loose_equality false v w
  binary_operation op.LooselyUnequal v w = loose_equality true v w
  binary_operation op.StrictlyEqual v w = strict_equality false v w
  binary_operation op.StrictlyUnequal v w = strict_equality true v w
  binary_operation o v w = left_operand o v w

  -- UNARY OPERATORS

  -- a value that is no object
  abbrev pub primitive_unary : UnaryOperator → MachineValue → Operation
  primitive_unary o v = then_operation (number_of read v) (λ n. operation.Value (value.Int (unary_numeric o n)))

  abbrev pub unary_by : UnaryOperator → MachineValue → Option Ref → Operation
  unary_by o v (Some r) = operation.Converts r (rest.Unary o) value.Undefined
  unary_by o v None = primitive_unary o v

  -- ECMA-262 Unary Operators
  abbrev pub unary_operation : UnaryOperator → MachineValue → Operation
  unary_operation unary.Typeof v = type_of v
  unary_operation unary.LogicalNot v = operation.Value (value.Bool (not (to_boolean v)))
  unary_operation unary.Void v = operation.Value value.Undefined
  unary_operation unary.Delete v = operation.Value (value.Bool true)
  unary_operation o v = unary_by o v (object_of v)

  -- WHAT FOLLOWS

  -- an object became a primitive value
  abbrev pub converted : Rest → (held : MachineValue) → MachineValue → Operation
  converted (rest.Unary o) held v = primitive_unary o v
  converted (rest.Left o) held v = left_primitive o v held
  converted (rest.Right o) held v = primitive_binary o held v
  converted (rest.Equal negated) held v = flag_operation negated (is_loosely_equal read v held)
  converted rest.Key held v = key_converted held v
