-- Operators, by their tokens. What is no operator of a family, which no tree has there, is as the first one of it.
use Rattle.js_lexer.specs.declared.keywords.Keyword.{Keyword}
use Rattle.js_lexer.specs.declared.keywords.Keyword.TheVariants as keyword
use Rattle.js_lexer.specs.declared.punctuators.Punctuator.{Punctuator}
use Rattle.js_lexer.specs.declared.punctuators.Punctuator.TheVariants as mark
use Rattle.js_lexer.specs.declared.token.TokenKind.{TokenKind}
use Rattle.js_lexer.specs.declared.token.TokenKind.TheVariants as kind
use Rattle.js_tree.specs.declared.operator.AssignmentOperator.{AssignmentOperator}
use Rattle.js_tree.specs.declared.operator.AssignmentOperator.TheVariants as assignment
use Rattle.js_tree.specs.declared.operator.BinaryOperator.{BinaryOperator}
use Rattle.js_tree.specs.declared.operator.BinaryOperator.TheVariants as binary
use Rattle.js_tree.specs.declared.operator.LogicalOperator.{LogicalOperator}
use Rattle.js_tree.specs.declared.operator.LogicalOperator.TheVariants as logical
use Rattle.js_tree.specs.declared.operator.UnaryOperator.{UnaryOperator}
use Rattle.js_tree.specs.declared.operator.UnaryOperator.TheVariants as unary
use Rattle.js_tree.specs.declared.operator.UpdateOperator.{UpdateOperator}
use Rattle.js_tree.specs.declared.operator.UpdateOperator.TheVariants as update

-- ECMA-262 UnaryExpression
abbrev pub unary_word : Keyword → UnaryOperator
unary_word keyword.Delete = unary.Delete
unary_word keyword.Void = unary.Void
unary_word keyword.Typeof = unary.Typeof
unary_word _ = unary.Delete

abbrev pub unary_mark : Punctuator → UnaryOperator
unary_mark mark.Plus = unary.Plus
unary_mark mark.Minus = unary.Minus
unary_mark mark.Tilde = unary.BitwiseNot
unary_mark mark.Exclamation = unary.LogicalNot
unary_mark _ = unary.Delete

abbrev pub unary_operator : TokenKind → UnaryOperator
unary_operator (kind.Keyword k) = unary_word k
unary_operator (kind.Punctuator p) = unary_mark p
unary_operator _ = unary.Delete

-- ECMA-262 UpdateExpression
abbrev pub update_operator : TokenKind → UpdateOperator
update_operator (kind.Punctuator mark.Increment) = update.Increment
update_operator (kind.Punctuator mark.Decrement) = update.Decrement
update_operator _ = update.Increment

-- ECMA-262 RelationalExpression
abbrev pub binary_word : Keyword → BinaryOperator
binary_word keyword.Instanceof = binary.Instanceof
binary_word keyword.In = binary.In
binary_word _ = binary.Exponentiate

-- ECMA-262 ExponentiationExpression
-- ECMA-262 MultiplicativeOperator
-- ECMA-262 AdditiveExpression
-- ECMA-262 ShiftExpression
-- ECMA-262 RelationalExpression
-- ECMA-262 EqualityExpression
-- ECMA-262 BitwiseANDExpression
-- ECMA-262 BitwiseXORExpression
-- ECMA-262 BitwiseORExpression
abbrev pub binary_mark : Punctuator → BinaryOperator
binary_mark mark.StarStar = binary.Exponentiate
binary_mark mark.Star = binary.Multiply
binary_mark mark.Slash = binary.Divide
binary_mark mark.Percent = binary.Remainder
binary_mark mark.Plus = binary.Add
binary_mark mark.Minus = binary.Subtract
binary_mark mark.ShiftLeft = binary.LeftShift
binary_mark mark.ShiftRight = binary.SignedRightShift
binary_mark mark.UnsignedShiftRight = binary.UnsignedRightShift
binary_mark mark.Less = binary.Less
binary_mark mark.Greater = binary.Greater
binary_mark mark.LessOrEqual = binary.LessOrEqual
binary_mark mark.GreaterOrEqual = binary.GreaterOrEqual
binary_mark mark.Equal = binary.LooselyEqual
binary_mark mark.NotEqual = binary.LooselyUnequal
binary_mark mark.StrictEqual = binary.StrictlyEqual
binary_mark mark.StrictNotEqual = binary.StrictlyUnequal
binary_mark mark.Ampersand = binary.BitwiseAnd
binary_mark mark.Caret = binary.BitwiseXor
binary_mark mark.Bar = binary.BitwiseOr
binary_mark _ = binary.Exponentiate

abbrev pub binary_operator : TokenKind → BinaryOperator
binary_operator (kind.Keyword k) = binary_word k
binary_operator (kind.Punctuator p) = binary_mark p
binary_operator _ = binary.Exponentiate

-- ECMA-262 LogicalANDExpression
-- ECMA-262 LogicalORExpression
-- ECMA-262 CoalesceExpression
abbrev pub logical_operator : TokenKind → LogicalOperator
logical_operator (kind.Punctuator mark.LogicalAnd) = logical.And
logical_operator (kind.Punctuator mark.LogicalOr) = logical.Or
logical_operator (kind.Punctuator mark.Coalesce) = logical.Coalesce
logical_operator _ = logical.And

-- ECMA-262 AssignmentOperator
abbrev pub assignment_mark : Punctuator → AssignmentOperator
assignment_mark mark.ExponentiateAssign = assignment.Binary binary.Exponentiate
assignment_mark mark.MultiplyAssign = assignment.Binary binary.Multiply
assignment_mark mark.DivideAssign = assignment.Binary binary.Divide
assignment_mark mark.RemainderAssign = assignment.Binary binary.Remainder
assignment_mark mark.AddAssign = assignment.Binary binary.Add
assignment_mark mark.SubtractAssign = assignment.Binary binary.Subtract
assignment_mark mark.ShiftLeftAssign = assignment.Binary binary.LeftShift
assignment_mark mark.ShiftRightAssign = assignment.Binary binary.SignedRightShift
assignment_mark mark.UnsignedShiftRightAssign = assignment.Binary binary.UnsignedRightShift
assignment_mark mark.BitAndAssign = assignment.Binary binary.BitwiseAnd
assignment_mark mark.BitXorAssign = assignment.Binary binary.BitwiseXor
assignment_mark mark.BitOrAssign = assignment.Binary binary.BitwiseOr
assignment_mark mark.LogicalAndAssign = assignment.Logical logical.And
assignment_mark mark.LogicalOrAssign = assignment.Logical logical.Or
assignment_mark mark.CoalesceAssign = assignment.Logical logical.Coalesce
assignment_mark _ = assignment.Binary binary.Exponentiate

abbrev pub assignment_operator : TokenKind → AssignmentOperator
assignment_operator (kind.Punctuator p) = assignment_mark p
assignment_operator _ = assignment.Binary binary.Exponentiate
