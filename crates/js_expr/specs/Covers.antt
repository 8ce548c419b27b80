-- What stands between parentheses: an expression, or the parameters of an arrow function.
use Rattle.std.specs.Prelude.{ℕ, List, Option, Some}
use Rattle.lava_base.specs.declared.place.Place.{Place}
use Rattle.js_tree.specs.declared.tree.Expr.{Expr}
use Rattle.js_tree.specs.declared.tree.Pattern.{Pattern}
use Rattle.js_phrase.specs.declared.phrase.Cover.{Cover}
use Rattle.js_phrase.specs.declared.phrase.Phrase.{Phrase}
use Rattle.js_phrase.specs.declared.phrase.Phrase.TheVariants as phrase
use Rattle.js_phrase.specs.Covers.{cover_of, with_operand}
use Rattle.js_phrase.specs.Phrases.{parenthesized, pattern_of}
use Rattle.js_expr.specs.Parts.{part, token_at}

-- `...` and what it binds
abbrev pub cover_rest : List Phrase → Phrase
cover_rest l = phrase.Rest (pattern_of (part 1 l))

abbrev pub with_more : Cover → Expr → Cover
with_more c e = record { place = c.place; operands = with_operand c.operands e; rest = c.rest }

abbrev pub with_rest : Cover → Pattern → Cover
with_rest c p = record { place = c.place; operands = c.operands; rest = Some p }

-- with what stands behind a comma: one operand more, `...`, or nothing
abbrev pub extended : Cover → Phrase → Cover
extended c (phrase.Expression e) = with_more c e
extended c (phrase.Covered d) = with_more c (parenthesized d)
extended c (phrase.Rest p) = with_rest c p
extended c _ = c

abbrev pub cover_comma : List Phrase → Phrase
cover_comma l = phrase.Operands (extended (cover_of (part 0 l)) (part 2 l))

abbrev pub at_place : Place → Cover → Cover
at_place place c = record { place = place; operands = c.operands; rest = c.rest }

-- ECMA-262 CoverParenthesizedExpressionAndArrowParameterList
abbrev pub cover_parenthesized : List Phrase → Phrase
cover_parenthesized l = phrase.Covered (at_place (token_at 0 l).start (cover_of (part 1 l)))
