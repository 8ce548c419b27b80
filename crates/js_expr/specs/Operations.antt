-- Unary, update, binary and logical expressions, and the conditional.
use Rattle.std.specs.Prelude.{ℕ, true, false, List}
use Rattle.js_tree.specs.declared.tree.Expr.TheVariants as expr
use Rattle.js_phrase.specs.declared.phrase.Phrase.{Phrase}
use Rattle.js_phrase.specs.declared.phrase.Phrase.TheVariants as phrase
use Rattle.js_phrase.specs.Places.{place_of}
use Rattle.js_expr.specs.Operators.{unary_operator, update_operator, binary_operator, logical_operator}
use Rattle.js_expr.specs.Parts.{token_at, expression_at}

-- ECMA-262 UnaryExpression
abbrev pub unary : List Phrase → Phrase
unary l = phrase.Expression
    (expr.Unary (token_at 0 l).start (unary_operator (token_at 0 l).kind) (expression_at 1 l))

-- ECMA-262 UpdateExpression
abbrev pub prefix_update : List Phrase → Phrase
prefix_update l = phrase.Expression
    (expr.Update (token_at 0 l).start (update_operator (token_at 0 l).kind) true (expression_at 1 l))

-- ECMA-262 UpdateExpression
abbrev pub postfix_update : List Phrase → Phrase
postfix_update l = phrase.Expression (expr.Update (place_of (expression_at 0 l))
    (update_operator (token_at 1 l).kind) false (expression_at 0 l))

-- an operator that evaluates both operands, between them
abbrev pub binary : List Phrase → Phrase
binary l = phrase.Expression (expr.Binary (place_of (expression_at 0 l))
    (binary_operator (token_at 1 l).kind) (expression_at 0 l) (expression_at 2 l))

-- one that may leave its right operand alone
abbrev pub logical : List Phrase → Phrase
logical l = phrase.Expression (expr.Logical (place_of (expression_at 0 l))
    (logical_operator (token_at 1 l).kind) (expression_at 0 l) (expression_at 2 l))

-- ECMA-262 ConditionalExpression
abbrev pub conditional : List Phrase → Phrase
conditional l = phrase.Expression (expr.Conditional (place_of (expression_at 0 l))
    (expression_at 0 l) (expression_at 2 l) (expression_at 4 l))
