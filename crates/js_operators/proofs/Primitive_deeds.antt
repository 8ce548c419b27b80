-- What operators do with operands that are no objects.
use Rattle.std.proofs.Common.{◌≡◌, ℕ, ◌/◌, Bool, true, false, nat_lt, List, ◌++◌, length, Option, Some, None, if◌then◌else◌, refl, sym, ◌∙◌, ap}
use Rattle.std.specs.Prelude.{ℤ, int_lt}
use Rattle.std.specs.Ordering.{int_eq}
use Rattle.js_text.specs.Naming.{naming_of}
use Rattle.js_text.specs.declared.text.TheConstants.{MAX_UNITS}
use Rattle.js_text.specs.declared.value.Value.TheVariants as value
use Rattle.js_desc.specs.declared.decision.EndKind.TheVariants as end
use Rattle.js_native.specs.declared.costs.TheConstants.{UNITS_A_STEP}
use Rattle.js_tree.specs.declared.operator.BinaryOperator.{BinaryOperator}
use Rattle.js_tree.specs.declared.operator.BinaryOperator.TheVariants as op
use Rattle.js_operation.specs.js_run.Acts.{End, give}
use Rattle.js_operation.specs.js_run.Completions as halt
use Rattle.js_operation.specs.js_run.Operators as operators
use Rattle.js_operation.specs.js_run.Operators.{either_is_text, given_number, given_text, is_safe, number_of, numeric, pays, primitive_is_less, primitives_are_equal}
use Rattle.js_operation.specs.js_run.Parties.{Shared}
use Rattle.js_operation.specs.Computing.{calculate, is_less_than, is_loosely_equal, number_or_end, numbers_are_less, numbers_of, then_computed}
use Rattle.js_operation.specs.Deeds.{MachineParty, act_of, gives, primitive_binary_value}
use Rattle.js_operation.specs.Operating.{MachineValue, added, flag, flag_operation, joined, number_operation, primitive_binary, text_or_end}
use Rattle.js_operation.specs.declared.operation.Computed.TheVariants as computed
use Rattle.js_operation.specs.declared.operation.Operation.TheVariants as operation
use Rattle.js_operators.proofs.Converts.{choice_does, numbers_then, texts_then, then_both}

module _ (me : ℕ) (shared : Shared) where
  -- NUMBERS

  given_does : (n : Option ℤ) (p : MachineParty) → act_of (naming_of me) shared (number_operation (number_or_end n)) p ≡ given_number n p
  given_does None p = refl
  given_does (Some n) p = by (is_safe n) where
    by : (b : Bool) → act_of (naming_of me) shared (number_operation (if b then computed.Is n else computed.End end.Number)) p ≡ (if b then give (value.Int n) p else End halt.Number)
    by true = refl
    by false = refl

  pub calculate_does : (o : BinaryOperator) (v w : MachineValue) (p : MachineParty) → act_of (naming_of me) shared (number_operation (calculate shared.number_of o v w)) p
      ≡ number_of (naming_of me) shared v p (λ a q. number_of (naming_of me) shared w q (λ b m. given_number (numeric o a b) m))
  calculate_does o v w p =
      ap (λ x. act_of (naming_of me) shared x p) (then_both (numbers_of shared.number_of v w) (λ n. number_or_end (numeric o n.0 n.1)) (λ n. operation.Value (value.Int n)))
      ∙ numbers_then (naming_of me) shared v w p (λ n. number_operation (number_or_end (numeric o n.0 n.1))) (λ a b m. given_number (numeric o a b) m) (λ a b q. given_does (numeric o a b) q)

  -- SUMS

  text_does : (t : List ℕ) (p : MachineParty) → act_of (naming_of me) shared (text_or_end t) p ≡ given_text t p
  text_does t p = by (nat_lt MAX_UNITS (length t)) refl where
    by : (b : Bool) → nat_lt MAX_UNITS (length t) ≡ b → act_of (naming_of me) shared (if b then operation.End end.Text else operation.Text t) p ≡ given_text t p
    by true e = ap (λ b. if b then End halt.Text else pays (length t / UNITS_A_STEP) p (λ q. give (value.Text t) q)) (sym e)
    by false e = refl

  joined_does : (v w : MachineValue) (p : MachineParty) → act_of (naming_of me) shared (joined v w) p ≡ operators.joined (naming_of me) shared v w p
  joined_does v w p = texts_then (naming_of me) shared v w p (λ t. text_or_end (t.0 ++ t.1)) (λ s t m. given_text (s ++ t) m) (λ s t q. text_does (s ++ t) q)

  added_does : (v w : MachineValue) (p : MachineParty) → act_of (naming_of me) shared (added shared.number_of v w) p ≡ operators.added (naming_of me) shared v w p
  added_does v w p = choice_does (naming_of me) shared (either_is_text v w) _ _ p _ _ (joined_does v w p) (calculate_does op.Add v w p)

  -- ORDER

  numbers_less : (negated : Bool) (v w : MachineValue) (p : MachineParty) → act_of (naming_of me) shared (flag_operation negated (numbers_are_less shared.number_of v w)) p
      ≡ number_of (naming_of me) shared v p (λ a q. number_of (naming_of me) shared w q (λ b m. gives (naming_of me) shared negated (int_lt a b) m))
  numbers_less negated v w p =
      ap (λ x. act_of (naming_of me) shared x p) (then_both (numbers_of shared.number_of v w) (λ n. computed.Is (int_lt n.0 n.1)) (flag negated))
      ∙ numbers_then (naming_of me) shared v w p (λ n. flag negated (int_lt n.0 n.1)) (λ a b m. gives (naming_of me) shared negated (int_lt a b) m) (λ a b q. refl)

  less_does : (negated : Bool) (v w : MachineValue) (p : MachineParty) → act_of (naming_of me) shared (flag_operation negated (is_less_than shared.number_of v w)) p ≡ primitive_is_less (naming_of me) shared v w p (gives (naming_of me) shared negated)
  less_does negated value.Undefined w p = numbers_less negated value.Undefined w p
  less_does negated value.Null w p = numbers_less negated value.Null w p
  less_does negated (value.Bool b) w p = numbers_less negated (value.Bool b) w p
  less_does negated (value.Int n) w p = numbers_less negated (value.Int n) w p
  less_does negated (value.Text t) value.Undefined p = numbers_less negated (value.Text t) value.Undefined p
  less_does negated (value.Text t) value.Null p = numbers_less negated (value.Text t) value.Null p
  less_does negated (value.Text t) (value.Bool c) p = numbers_less negated (value.Text t) (value.Bool c) p
  less_does negated (value.Text t) (value.Int m) p = numbers_less negated (value.Text t) (value.Int m) p
  less_does negated (value.Text t) (value.Text u) p = refl
  less_does negated (value.Text t) (value.Symbol x) p = numbers_less negated (value.Text t) (value.Symbol x) p
  less_does negated (value.Text t) (value.Ref q) p = numbers_less negated (value.Text t) (value.Ref q) p
  less_does negated (value.Symbol s) w p = numbers_less negated (value.Symbol s) w p
  less_does negated (value.Ref r) w p = numbers_less negated (value.Ref r) w p

  -- EQUALITY

  numbers_equal : (negated : Bool) (v w : MachineValue) (p : MachineParty) → act_of (naming_of me) shared (flag_operation negated (then_computed (numbers_of shared.number_of v w) (λ n. computed.Is (int_eq n.0 n.1)))) p
      ≡ number_of (naming_of me) shared v p (λ a q. number_of (naming_of me) shared w q (λ b m. gives (naming_of me) shared negated (int_eq a b) m))
  numbers_equal negated v w p =
      ap (λ x. act_of (naming_of me) shared x p) (then_both (numbers_of shared.number_of v w) (λ n. computed.Is (int_eq n.0 n.1)) (flag negated))
      ∙ numbers_then (naming_of me) shared v w p (λ n. flag negated (int_eq n.0 n.1)) (λ a b m. gives (naming_of me) shared negated (int_eq a b) m) (λ a b q. refl)

  pub equal_does : (negated : Bool) (v w : MachineValue) (p : MachineParty) → act_of (naming_of me) shared (flag_operation negated (is_loosely_equal shared.number_of v w)) p ≡ primitives_are_equal (naming_of me) shared v w p (gives (naming_of me) shared negated)
  equal_does negated value.Undefined w p = refl
  equal_does negated value.Null w p = refl
  equal_does negated (value.Bool b) value.Undefined p = refl
  equal_does negated (value.Bool b) value.Null p = refl
  equal_does negated (value.Bool b) (value.Bool c) p = numbers_equal negated (value.Bool b) (value.Bool c) p
  equal_does negated (value.Bool b) (value.Int m) p = numbers_equal negated (value.Bool b) (value.Int m) p
  equal_does negated (value.Bool b) (value.Text u) p = numbers_equal negated (value.Bool b) (value.Text u) p
  equal_does negated (value.Bool b) (value.Symbol x) p = refl
  equal_does negated (value.Bool b) (value.Ref q) p = numbers_equal negated (value.Bool b) (value.Ref q) p
  equal_does negated (value.Int n) value.Undefined p = refl
  equal_does negated (value.Int n) value.Null p = refl
  equal_does negated (value.Int n) (value.Bool c) p = numbers_equal negated (value.Int n) (value.Bool c) p
  equal_does negated (value.Int n) (value.Int m) p = numbers_equal negated (value.Int n) (value.Int m) p
  equal_does negated (value.Int n) (value.Text u) p = numbers_equal negated (value.Int n) (value.Text u) p
  equal_does negated (value.Int n) (value.Symbol x) p = refl
  equal_does negated (value.Int n) (value.Ref q) p = numbers_equal negated (value.Int n) (value.Ref q) p
  equal_does negated (value.Text t) value.Undefined p = refl
  equal_does negated (value.Text t) value.Null p = refl
  equal_does negated (value.Text t) (value.Bool c) p = numbers_equal negated (value.Text t) (value.Bool c) p
  equal_does negated (value.Text t) (value.Int m) p = numbers_equal negated (value.Text t) (value.Int m) p
  equal_does negated (value.Text t) (value.Text u) p = refl
  equal_does negated (value.Text t) (value.Symbol x) p = refl
  equal_does negated (value.Text t) (value.Ref q) p = numbers_equal negated (value.Text t) (value.Ref q) p
  equal_does negated (value.Symbol s) value.Undefined p = refl
  equal_does negated (value.Symbol s) value.Null p = refl
  equal_does negated (value.Symbol s) (value.Bool c) p = refl
  equal_does negated (value.Symbol s) (value.Int m) p = refl
  equal_does negated (value.Symbol s) (value.Text u) p = refl
  equal_does negated (value.Symbol s) (value.Symbol x) p = refl
  equal_does negated (value.Symbol s) (value.Ref q) p = refl
  equal_does negated (value.Ref r) value.Undefined p = refl
  equal_does negated (value.Ref r) value.Null p = refl
  equal_does negated (value.Ref r) (value.Bool c) p = numbers_equal negated (value.Ref r) (value.Bool c) p
  equal_does negated (value.Ref r) (value.Int m) p = numbers_equal negated (value.Ref r) (value.Int m) p
  equal_does negated (value.Ref r) (value.Text u) p = numbers_equal negated (value.Ref r) (value.Text u) p
  equal_does negated (value.Ref r) (value.Symbol x) p = refl
  equal_does negated (value.Ref r) (value.Ref q) p = numbers_equal negated (value.Ref r) (value.Ref q) p

  -- ALL

  pub primitive_does : (o : BinaryOperator) (v w : MachineValue) (p : MachineParty) → act_of (naming_of me) shared (primitive_binary shared.number_of o v w) p ≡ primitive_binary_value (naming_of me) shared o v w p
  primitive_does op.Exponentiate v w p = calculate_does op.Exponentiate v w p
  primitive_does op.Multiply v w p = calculate_does op.Multiply v w p
  primitive_does op.Divide v w p = calculate_does op.Divide v w p
  primitive_does op.Remainder v w p = calculate_does op.Remainder v w p
  primitive_does op.Add v w p = added_does v w p
  primitive_does op.Subtract v w p = calculate_does op.Subtract v w p
  primitive_does op.LeftShift v w p = calculate_does op.LeftShift v w p
  primitive_does op.SignedRightShift v w p = calculate_does op.SignedRightShift v w p
  primitive_does op.UnsignedRightShift v w p = calculate_does op.UnsignedRightShift v w p
  primitive_does op.Less v w p = less_does false v w p
  primitive_does op.Greater v w p = less_does false w v p
  primitive_does op.LessOrEqual v w p = less_does true w v p
  primitive_does op.GreaterOrEqual v w p = less_does true v w p
  primitive_does op.Instanceof v w p = calculate_does op.Instanceof v w p
  primitive_does op.In v w p = calculate_does op.In v w p
  primitive_does op.LooselyEqual v w p = calculate_does op.LooselyEqual v w p
  primitive_does op.LooselyUnequal v w p = calculate_does op.LooselyUnequal v w p
  primitive_does op.StrictlyEqual v w p = calculate_does op.StrictlyEqual v w p
  primitive_does op.StrictlyUnequal v w p = calculate_does op.StrictlyUnequal v w p
  primitive_does op.BitwiseAnd v w p = calculate_does op.BitwiseAnd v w p
  primitive_does op.BitwiseXor v w p = calculate_does op.BitwiseXor v w p
  primitive_does op.BitwiseOr v w p = calculate_does op.BitwiseOr v w p
