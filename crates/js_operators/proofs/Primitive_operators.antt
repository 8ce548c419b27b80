-- The operators that make their operands primitive, and operators on numbers.
use Rattle.std.proofs.Common.{◌≡◌, ℕ, List, Option, refl}
use Rattle.std.specs.Prelude.{ℤ}
use Rattle.js_text.specs.declared.value.Value.TheVariants as value
use Rattle.js_tree.specs.declared.operator.BinaryOperator.{BinaryOperator}
use Rattle.js_tree.specs.declared.operator.BinaryOperator.TheVariants as op
use Rattle.js_operation.specs.Operating.{MachineValue, binary_operation, integer_operation, left_operand}

pub binary_default : (read : List ℕ → Option ℤ) (o : BinaryOperator) (v w : MachineValue) → (o ≡ op.Instanceof → ⊥) → (o ≡ op.In → ⊥) → (o ≡ op.LooselyEqual → ⊥) → (o ≡ op.LooselyUnequal → ⊥) → (o ≡ op.StrictlyEqual → ⊥) → (o ≡ op.StrictlyUnequal → ⊥)
    → binary_operation read o v w ≡ left_operand read o v w
binary_default read op.Exponentiate v w a b c d e f = refl
binary_default read op.Multiply v w a b c d e f = refl
binary_default read op.Divide v w a b c d e f = refl
binary_default read op.Remainder v w a b c d e f = refl
binary_default read op.Add v w a b c d e f = refl
binary_default read op.Subtract v w a b c d e f = refl
binary_default read op.LeftShift v w a b c d e f = refl
binary_default read op.SignedRightShift v w a b c d e f = refl
binary_default read op.UnsignedRightShift v w a b c d e f = refl
binary_default read op.Less v w a b c d e f = refl
binary_default read op.Greater v w a b c d e f = refl
binary_default read op.LessOrEqual v w a b c d e f = refl
binary_default read op.GreaterOrEqual v w a b c d e f = refl
binary_default read op.Instanceof v w a b c d e f = absurd (a refl)
binary_default read op.In v w a b c d e f = absurd (b refl)
binary_default read op.LooselyEqual v w a b c d e f = absurd (c refl)
binary_default read op.LooselyUnequal v w a b c d e f = absurd (d refl)
binary_default read op.StrictlyEqual v w a b c d e f = absurd (e refl)
binary_default read op.StrictlyUnequal v w a b c d e f = absurd (f refl)
binary_default read op.BitwiseAnd v w a b c d e f = refl
binary_default read op.BitwiseXor v w a b c d e f = refl
binary_default read op.BitwiseOr v w a b c d e f = refl

-- two numbers are calculated with at once
pub integers_are : (read : List ℕ → Option ℤ) (o : BinaryOperator) (a b : ℤ) → integer_operation o a b ≡ binary_operation read o (value.Int a) (value.Int b)
integers_are read op.Exponentiate a b = refl
integers_are read op.Multiply a b = refl
integers_are read op.Divide a b = refl
integers_are read op.Remainder a b = refl
integers_are read op.Add a b = refl
integers_are read op.Subtract a b = refl
integers_are read op.LeftShift a b = refl
integers_are read op.SignedRightShift a b = refl
integers_are read op.UnsignedRightShift a b = refl
integers_are read op.Less a b = refl
integers_are read op.Greater a b = refl
integers_are read op.LessOrEqual a b = refl
integers_are read op.GreaterOrEqual a b = refl
integers_are read op.Instanceof a b = refl
integers_are read op.In a b = refl
integers_are read op.LooselyEqual a b = refl
integers_are read op.LooselyUnequal a b = refl
integers_are read op.StrictlyEqual a b = refl
integers_are read op.StrictlyUnequal a b = refl
integers_are read op.BitwiseAnd a b = refl
integers_are read op.BitwiseXor a b = refl
integers_are read op.BitwiseOr a b = refl
