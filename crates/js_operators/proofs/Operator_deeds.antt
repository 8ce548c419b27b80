-- What operators do.
use Rattle.std.proofs.Common.{◌≡◌, ℕ, Bool, true, false, List, Option, refl, ◌∙◌, ap, Result, Ok, Err, IfOk}
use Rattle.std.specs.Prelude.{ℤ}
use Rattle.lava_base.specs.declared.ids.Ref.{Ref}
use Rattle.js_operation.specs.js_conversions.Primitives.{ReadsNumbers}
use Rattle.js_text.specs.Naming.{naming_of}
use Rattle.js_text.specs.declared.value.Value.TheVariants as value
use Rattle.js_tree.specs.declared.operator.BinaryOperator.{BinaryOperator}
use Rattle.js_tree.specs.declared.operator.BinaryOperator.TheVariants as op
use Rattle.js_tree.specs.declared.operator.UnaryOperator.{UnaryOperator}
use Rattle.js_tree.specs.declared.operator.UnaryOperator.TheVariants as unary
use Rattle.js_operation.specs.js_run.Acts.{asks, give}
use Rattle.js_operation.specs.js_run.Conversions.{primitive_to_key}
use Rattle.js_operation.specs.js_run.Operators as operators
use Rattle.js_operation.specs.js_run.Operators.{binary_value, is_in, is_instance, to_primitive, unary_value}
use Rattle.js_operation.specs.js_run.Parties.{Shared}
use Rattle.js_operation.specs.Deeds.{MachineAct, Does, MachineNaming, MachineParty, act_of, asks_key, gives, has_key_value, left_value, primitive_binary_value, primitive_unary_value, rest_deed}
use Rattle.js_operation.specs.Operating.{MachineValue, binary_operation, converted, in_by, in_object, instance_of, integer_operation, key_converted, left_by, left_operand, left_primitive, loose_equality, object_equality, object_of, primitive_unary, right_by, right_operand, takes_numbers, type_of, unary_by, unary_numeric, unary_operation}
use Rattle.js_operation.specs.declared.operation.Operation.{Operation}
use Rattle.js_operation.specs.declared.operation.Operation.TheVariants as operation
use Rattle.js_operation.specs.declared.operation.Rest.{Rest}
use Rattle.js_operation.specs.declared.operation.Rest.TheVariants as rest
use Rattle.js_operators.proofs.Converts.{choice_does, key_does, number_then, primitive_first, value_then}
use Rattle.js_operators.proofs.Primitive_operators.{integers_are}
use Rattle.js_operators.proofs.Primitive_deeds.{equal_does, primitive_does}

module _ (me : ℕ) (shared : Shared) where
  -- OPERANDS THAT BECOME PRIMITIVE

  right_does : (o : BinaryOperator) (v w : MachineValue) (p : MachineParty) → act_of (naming_of me) shared (right_operand shared.number_of o v w) p ≡ to_primitive (naming_of me) shared false w p (primitive_binary_value (naming_of me) shared o v)
  right_does o v w p = primitive_first (naming_of me) shared (right_by shared.number_of o v w) false w p (primitive_binary_value (naming_of me) shared o v) (λ r. refl) (primitive_does me shared o v w p)

  left_primitive_does : (o : BinaryOperator) (v w : MachineValue) (p : MachineParty) → act_of (naming_of me) shared (left_primitive shared.number_of o v w) p ≡ left_value (naming_of me) shared o v w p
  left_primitive_does o v w p =
      choice_does (naming_of me) shared (takes_numbers o) _ _ p _ _
      (value_then (naming_of me) shared v p (λ n. right_operand shared.number_of o n w) (λ n q. to_primitive (naming_of me) shared false w q (primitive_binary_value (naming_of me) shared o (value.Int n))) (λ n q. right_does o (value.Int n) w q))
      (right_does o v w p)

  left_does : (o : BinaryOperator) (v w : MachineValue) (p : MachineParty) → act_of (naming_of me) shared (left_operand shared.number_of o v w) p ≡ to_primitive (naming_of me) shared false v p (λ a q. left_value (naming_of me) shared o a w q)
  left_does o v w p = primitive_first (naming_of me) shared (left_by shared.number_of o v w) false v p (λ a q. left_value (naming_of me) shared o a w q) (λ r. refl) (left_primitive_does o v w p)

  -- EQUALITY

  object_does : (negated : Bool) (r : Ref) (w : MachineValue) (p : MachineParty) → act_of (naming_of me) shared (object_equality negated r w) p ≡ operators.is_loosely_equal (naming_of me) shared (value.Ref r) w p (gives (naming_of me) shared negated)
  object_does negated r value.Undefined p = refl
  object_does negated r value.Null p = refl
  object_does negated r (value.Bool c) p = refl
  object_does negated r (value.Int m) p = refl
  object_does negated r (value.Text u) p = refl
  object_does negated r (value.Symbol x) p = refl
  object_does negated r (value.Ref q) p = refl

  loose_does : (negated : Bool) (v w : MachineValue) (p : MachineParty) → act_of (naming_of me) shared (loose_equality shared.number_of negated v w) p ≡ operators.is_loosely_equal (naming_of me) shared v w p (gives (naming_of me) shared negated)
  loose_does negated (value.Ref r) w p = object_does negated r w p
  loose_does negated value.Undefined value.Undefined p = equal_does me shared negated value.Undefined value.Undefined p
  loose_does negated value.Undefined value.Null p = equal_does me shared negated value.Undefined value.Null p
  loose_does negated value.Undefined (value.Bool c) p = equal_does me shared negated value.Undefined (value.Bool c) p
  loose_does negated value.Undefined (value.Int m) p = equal_does me shared negated value.Undefined (value.Int m) p
  loose_does negated value.Undefined (value.Text u) p = equal_does me shared negated value.Undefined (value.Text u) p
  loose_does negated value.Undefined (value.Symbol x) p = equal_does me shared negated value.Undefined (value.Symbol x) p
  loose_does negated value.Undefined (value.Ref q) p = refl
  loose_does negated value.Null value.Undefined p = equal_does me shared negated value.Null value.Undefined p
  loose_does negated value.Null value.Null p = equal_does me shared negated value.Null value.Null p
  loose_does negated value.Null (value.Bool c) p = equal_does me shared negated value.Null (value.Bool c) p
  loose_does negated value.Null (value.Int m) p = equal_does me shared negated value.Null (value.Int m) p
  loose_does negated value.Null (value.Text u) p = equal_does me shared negated value.Null (value.Text u) p
  loose_does negated value.Null (value.Symbol x) p = equal_does me shared negated value.Null (value.Symbol x) p
  loose_does negated value.Null (value.Ref q) p = refl
  loose_does negated (value.Bool b) value.Undefined p = equal_does me shared negated (value.Bool b) value.Undefined p
  loose_does negated (value.Bool b) value.Null p = equal_does me shared negated (value.Bool b) value.Null p
  loose_does negated (value.Bool b) (value.Bool c) p = equal_does me shared negated (value.Bool b) (value.Bool c) p
  loose_does negated (value.Bool b) (value.Int m) p = equal_does me shared negated (value.Bool b) (value.Int m) p
  loose_does negated (value.Bool b) (value.Text u) p = equal_does me shared negated (value.Bool b) (value.Text u) p
  loose_does negated (value.Bool b) (value.Symbol x) p = equal_does me shared negated (value.Bool b) (value.Symbol x) p
  loose_does negated (value.Bool b) (value.Ref q) p = refl
  loose_does negated (value.Int n) value.Undefined p = equal_does me shared negated (value.Int n) value.Undefined p
  loose_does negated (value.Int n) value.Null p = equal_does me shared negated (value.Int n) value.Null p
  loose_does negated (value.Int n) (value.Bool c) p = equal_does me shared negated (value.Int n) (value.Bool c) p
  loose_does negated (value.Int n) (value.Int m) p = equal_does me shared negated (value.Int n) (value.Int m) p
  loose_does negated (value.Int n) (value.Text u) p = equal_does me shared negated (value.Int n) (value.Text u) p
  loose_does negated (value.Int n) (value.Symbol x) p = equal_does me shared negated (value.Int n) (value.Symbol x) p
  loose_does negated (value.Int n) (value.Ref q) p = refl
  loose_does negated (value.Text t) value.Undefined p = equal_does me shared negated (value.Text t) value.Undefined p
  loose_does negated (value.Text t) value.Null p = equal_does me shared negated (value.Text t) value.Null p
  loose_does negated (value.Text t) (value.Bool c) p = equal_does me shared negated (value.Text t) (value.Bool c) p
  loose_does negated (value.Text t) (value.Int m) p = equal_does me shared negated (value.Text t) (value.Int m) p
  loose_does negated (value.Text t) (value.Text u) p = equal_does me shared negated (value.Text t) (value.Text u) p
  loose_does negated (value.Text t) (value.Symbol x) p = equal_does me shared negated (value.Text t) (value.Symbol x) p
  loose_does negated (value.Text t) (value.Ref q) p = refl
  loose_does negated (value.Symbol s) value.Undefined p = equal_does me shared negated (value.Symbol s) value.Undefined p
  loose_does negated (value.Symbol s) value.Null p = equal_does me shared negated (value.Symbol s) value.Null p
  loose_does negated (value.Symbol s) (value.Bool c) p = equal_does me shared negated (value.Symbol s) (value.Bool c) p
  loose_does negated (value.Symbol s) (value.Int m) p = equal_does me shared negated (value.Symbol s) (value.Int m) p
  loose_does negated (value.Symbol s) (value.Text u) p = equal_does me shared negated (value.Symbol s) (value.Text u) p
  loose_does negated (value.Symbol s) (value.Symbol x) p = equal_does me shared negated (value.Symbol s) (value.Symbol x) p
  loose_does negated (value.Symbol s) (value.Ref q) p = refl

  -- OBJECTS

  in_does : (v w : MachineValue) (p : MachineParty) → act_of (naming_of me) shared (in_object v w) p ≡ is_in (naming_of me) shared v w p
  in_does v value.Undefined p = refl
  in_does v value.Null p = refl
  in_does v (value.Bool c) p = refl
  in_does v (value.Int m) p = refl
  in_does v (value.Text u) p = refl
  in_does v (value.Symbol x) p = refl
  in_does v (value.Ref r) p =
      primitive_first (naming_of me) shared (in_by v r) true v p (λ x q. primitive_to_key (naming_of me) shared (asks (naming_of me)) x q (asks_key (naming_of me) shared r)) (λ o. refl)
      (key_does (naming_of me) shared v p (operation.HasProperty r))

  instance_does : (v w : MachineValue) (p : MachineParty) → act_of (naming_of me) shared (instance_of v w) p ≡ is_instance (naming_of me) shared v w p
  instance_does v value.Undefined p = refl
  instance_does v value.Null p = refl
  instance_does v (value.Bool c) p = refl
  instance_does v (value.Int m) p = refl
  instance_does v (value.Text u) p = refl
  instance_does v (value.Symbol x) p = refl
  instance_does v (value.Ref q) p = refl

  binary_does : (o : BinaryOperator) (v w : MachineValue) (p : MachineParty) → act_of (naming_of me) shared (binary_operation shared.number_of o v w) p ≡ binary_value (naming_of me) shared o v w p
  binary_does op.Exponentiate v w p = left_does op.Exponentiate v w p
  binary_does op.Multiply v w p = left_does op.Multiply v w p
  binary_does op.Divide v w p = left_does op.Divide v w p
  binary_does op.Remainder v w p = left_does op.Remainder v w p
  binary_does op.Add v w p = left_does op.Add v w p
  binary_does op.Subtract v w p = left_does op.Subtract v w p
  binary_does op.LeftShift v w p = left_does op.LeftShift v w p
  binary_does op.SignedRightShift v w p = left_does op.SignedRightShift v w p
  binary_does op.UnsignedRightShift v w p = left_does op.UnsignedRightShift v w p
  binary_does op.Less v w p = left_does op.Less v w p
  binary_does op.Greater v w p = left_does op.Greater v w p
  binary_does op.LessOrEqual v w p = left_does op.LessOrEqual v w p
  binary_does op.GreaterOrEqual v w p = left_does op.GreaterOrEqual v w p
  binary_does op.Instanceof v w p = instance_does v w p
  binary_does op.In v w p = in_does v w p
  binary_does op.LooselyEqual v w p = loose_does false v w p
  binary_does op.LooselyUnequal v w p = loose_does true v w p
  binary_does op.StrictlyEqual v w p = refl
  binary_does op.StrictlyUnequal v w p = refl
  binary_does op.BitwiseAnd v w p = left_does op.BitwiseAnd v w p
  binary_does op.BitwiseXor v w p = left_does op.BitwiseXor v w p
  binary_does op.BitwiseOr v w p = left_does op.BitwiseOr v w p

  -- UNARY OPERATORS

  primitive_unary_does : (o : UnaryOperator) (v : MachineValue) (p : MachineParty) → act_of (naming_of me) shared (primitive_unary shared.number_of o v) p ≡ primitive_unary_value (naming_of me) shared o v p
  primitive_unary_does o v p = number_then (naming_of me) shared v p (λ n. operation.Value (value.Int (unary_numeric o n))) (λ n q. give (value.Int (unary_numeric o n)) q) (λ n q. refl)

  unary_by_does : (o : UnaryOperator) (v : MachineValue) (p : MachineParty) → act_of (naming_of me) shared (unary_by shared.number_of o v (object_of v)) p ≡ to_primitive (naming_of me) shared false v p (primitive_unary_value (naming_of me) shared o)
  unary_by_does o v p = primitive_first (naming_of me) shared (unary_by shared.number_of o v) false v p (primitive_unary_value (naming_of me) shared o) (λ r. refl) (primitive_unary_does o v p)

  type_does : (v : MachineValue) (p : MachineParty) → act_of (naming_of me) shared (type_of v) p ≡ operators.type_of (naming_of me) shared v p
  type_does value.Undefined p = refl
  type_does value.Null p = refl
  type_does (value.Bool b) p = refl
  type_does (value.Int n) p = refl
  type_does (value.Text t) p = refl
  type_does (value.Symbol s) p = refl
  type_does (value.Ref r) p = refl

  unary_does : (o : UnaryOperator) (v : MachineValue) (p : MachineParty) → act_of (naming_of me) shared (unary_operation shared.number_of o v) p ≡ unary_value (naming_of me) shared o v p
  unary_does unary.Typeof v p = type_does v p
  unary_does unary.Plus v p = unary_by_does unary.Plus v p
  unary_does unary.Minus v p = unary_by_does unary.Minus v p
  unary_does unary.BitwiseNot v p = unary_by_does unary.BitwiseNot v p
  unary_does unary.LogicalNot v p = refl
  unary_does unary.Void v p = refl
  unary_does unary.Delete v p = refl

  -- WHAT FOLLOWS

  key_converted_does : (held v : MachineValue) (p : MachineParty) → act_of (naming_of me) shared (key_converted held v) p ≡ has_key_value (naming_of me) shared held v p
  key_converted_does value.Undefined v p = refl
  key_converted_does value.Null v p = refl
  key_converted_does (value.Bool b) v p = refl
  key_converted_does (value.Int n) v p = refl
  key_converted_does (value.Text t) v p = refl
  key_converted_does (value.Symbol s) v p = refl
  key_converted_does (value.Ref r) v p = key_does (naming_of me) shared v p (operation.HasProperty r)

  converted_does : (x : Rest) (held v : MachineValue) (p : MachineParty) → act_of (naming_of me) shared (converted shared.number_of x held v) p ≡ rest_deed (naming_of me) shared x held v p
  converted_does (rest.Unary o) held v p = primitive_unary_does o v p
  converted_does (rest.Left o) held v p = left_primitive_does o v held p
  converted_does (rest.Right o) held v p = primitive_does me shared o held v p
  converted_does (rest.Equal negated) held v p = equal_does me shared negated v held p
  converted_does rest.Key held v p = key_converted_does held v p

-- what is exactly computed does what is to be done
does_ok : {E : Type 0} (f : (List ℕ → Option ℤ) → Operation) (deed : MachineNaming → Shared → MachineParty → MachineAct)
    → ((me : ℕ) (shared : Shared) (p : MachineParty) → act_of (naming_of me) shared (f shared.number_of) p ≡ deed (naming_of me) shared p)
    → (r : Result Operation E) → ((read : List ℕ → Option ℤ) → ReadsNumbers read → IfOk r (λ x. x ≡ f read)) → IfOk r (Does deed)
does_ok f deed h (Ok x) e = record { does = λ me shared r p. ap (λ y. act_of (naming_of me) shared y p) (e shared.number_of r) ∙ h me shared p }
does_ok f deed h (Err x) e = tt

pub binary_ok : {E : Type 0} (o : BinaryOperator) (v w : MachineValue) (r : Result Operation E) → ((read : List ℕ → Option ℤ) → ReadsNumbers read → IfOk r (λ x. x ≡ binary_operation read o v w)) → IfOk r (Does (λ n s. binary_value n s o v w))
binary_ok o v w r e = does_ok (λ read. binary_operation read o v w) (λ n s. binary_value n s o v w) (λ me shared p. binary_does me shared o v w p) r e

pub unary_ok : {E : Type 0} (o : UnaryOperator) (v : MachineValue) (r : Result Operation E) → ((read : List ℕ → Option ℤ) → ReadsNumbers read → IfOk r (λ x. x ≡ unary_operation read o v)) → IfOk r (Does (λ n s. unary_value n s o v))
unary_ok o v r e = does_ok (λ read. unary_operation read o v) (λ n s. unary_value n s o v) (λ me shared p. unary_does me shared o v p) r e

pub converted_ok : {E : Type 0} (y : Rest) (held v : MachineValue) (r : Result Operation E) → ((read : List ℕ → Option ℤ) → ReadsNumbers read → IfOk r (λ x. x ≡ converted read y held v)) → IfOk r (Does (λ n s. rest_deed n s y held v))
converted_ok y held v r e = does_ok (λ read. converted read y held v) (λ n s. rest_deed n s y held v) (λ me shared p. converted_does me shared y held v p) r e

pub integer_ok : {E : Type 0} (o : BinaryOperator) (a b : ℤ) (r : Result Operation E) → IfOk r (λ x. x ≡ integer_operation o a b) → IfOk r (Does (λ n s. binary_value n s o (value.Int a) (value.Int b)))
integer_ok o a b (Ok x) e = record { does = λ me shared r p. ap (λ y. act_of (naming_of me) shared y p) (e ∙ integers_are shared.number_of o a b) ∙ binary_does me shared o (value.Int a) (value.Int b) p }
integer_ok o a b (Err x) e = tt
