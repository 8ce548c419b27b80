-- Literals of one token.
use Rattle.std.specs.Prelude.{ℕ, Bool, true, false, List}
use Rattle.std.specs.Str.{chars}
use Rattle.lava_base.specs.declared.place.Place.{Place}
use Rattle.js_lexer.specs.declared.keywords.Keyword.TheVariants as keyword
use Rattle.js_lexer.specs.declared.token.Token.{Token}
use Rattle.js_lexer.specs.declared.token.TokenKind.{TokenKind}
use Rattle.js_lexer.specs.declared.token.TokenKind.TheVariants as kind
use Rattle.js_literals.specs.StringValues.{sv}
use Rattle.js_tree.specs.declared.tree.Expr.{Expr}
use Rattle.js_tree.specs.declared.tree.Expr.TheVariants as expr
use Rattle.js_phrase.specs.declared.phrase.Phrase.{Phrase}
use Rattle.js_phrase.specs.declared.phrase.Phrase.TheVariants as phrase
use Rattle.js_expr.specs.Names.{bytes_of}
use Rattle.js_expr.specs.Numbers.{number_of}
use Rattle.js_expr.specs.Parts.{token_at}

-- `this`
-- ECMA-262 PrimaryExpression
abbrev pub this_expression : List Phrase → Phrase
this_expression l = phrase.Expression (expr.This (token_at 0 l).start)

-- own: what is neither `true` nor `false` is `null`
-- ECMA-262 NullLiteral
-- ECMA-262 BooleanLiteral
abbrev pub word_literal : Place → TokenKind → Expr
word_literal place (kind.Keyword keyword.True) = expr.Bool place true
word_literal place (kind.Keyword keyword.False) = expr.Bool place false
word_literal place _ = expr.Null place

abbrev pub null_or_boolean : List Phrase → Phrase
null_or_boolean l = phrase.Expression (word_literal (token_at 0 l).start (token_at 0 l).kind)

-- ECMA-262 NumericLiteral
abbrev pub number_literal : List ℕ → Token → Expr
number_literal source t = expr.Number t.start (number_of (bytes_of source t))

abbrev pub numeric_literal : List ℕ → List Phrase → Phrase
numeric_literal source l = phrase.Expression (number_literal source (token_at 0 l))

-- the value of a string literal
abbrev pub string_text : List ℕ → Token → List ℕ
string_text source t = sv (chars (bytes_of source t))

-- ECMA-262 StringLiteral
abbrev pub string_literal : List ℕ → List Phrase → Phrase
string_literal source l =
    phrase.Expression (expr.String (token_at 0 l).start (string_text source (token_at 0 l)))
