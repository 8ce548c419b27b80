-- What stands between parentheses.
use Rattle.std.specs.Prelude.{[], ◌∷◌, ◌++◌, Some, None}
use Rattle.js_tree.specs.declared.tree.Expr.{Expr}
use Rattle.js_phrase.specs.declared.phrase.Cover.{Cover}
use Rattle.js_phrase.specs.declared.phrase.Operands.{Operands}
use Rattle.js_phrase.specs.declared.phrase.Operands.TheVariants as operands
use Rattle.js_phrase.specs.declared.phrase.Phrase.{Phrase}
use Rattle.js_phrase.specs.declared.phrase.Phrase.TheVariants as phrase
use Rattle.js_phrase.specs.declared.places.TheConstants.{NO_PLACE}
use Rattle.js_phrase.specs.Phrases.{parenthesized}

abbrev pub operands_of : Phrase → Operands
operands_of (phrase.Expression e) = operands.Single e
operands_of (phrase.Covered c) = operands.Single (parenthesized c)
operands_of _ = operands.NoOperand

-- ECMA-262 CoverParenthesizedExpressionAndArrowParameterList, without its parentheses
abbrev pub cover_of : Phrase → Cover
cover_of (phrase.Operands c) = c
cover_of (phrase.Rest p) = record { place = NO_PLACE; operands = operands.NoOperand; rest = Some p }
cover_of x = record { place = NO_PLACE; operands = operands_of x; rest = None }

-- one operand more
abbrev pub with_operand : Operands → Expr → Operands
with_operand operands.NoOperand e = operands.Single e
with_operand (operands.Single a) e = operands.Several (a ∷ e ∷ [])
with_operand (operands.Several l) e = operands.Several (l ++ e ∷ [])
