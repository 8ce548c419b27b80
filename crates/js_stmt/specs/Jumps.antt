-- `break`, `continue`, `return` and `throw`.
use Rattle.std.specs.Prelude.{ℕ, List, Option}
use Rattle.lava_base.specs.declared.place.Place.{Place}
use Rattle.js_lexer.specs.declared.keywords.Keyword.TheVariants as keyword
use Rattle.js_lexer.specs.declared.token.TokenKind.{TokenKind}
use Rattle.js_lexer.specs.declared.token.TokenKind.TheVariants as token
use Rattle.js_tree.specs.declared.tree.Identifier.{Identifier}
use Rattle.js_tree.specs.declared.tree.Stmt.{Stmt}
use Rattle.js_tree.specs.declared.tree.Stmt.TheVariants as stmt
use Rattle.js_phrase.specs.declared.phrase.Phrase.{Phrase}
use Rattle.js_phrase.specs.declared.phrase.Phrase.TheVariants as phrase
use Rattle.js_phrase.specs.Phrases.{optional_name_of, optional_expression_of}
use Rattle.js_expr.specs.Parts.{part, token_at, expression_at}

-- own: what is not `continue` is `break`
-- ECMA-262 ContinueStatement
-- ECMA-262 BreakStatement
abbrev pub jump : Place → TokenKind → Option Identifier → Stmt
jump place (token.Keyword keyword.Continue) label = stmt.Continue place label
jump place _ label = stmt.Break place label

abbrev pub break_or_continue : List Phrase → Phrase
break_or_continue l = phrase.Statement
    (jump (token_at 0 l).start (token_at 0 l).kind (optional_name_of (part 1 l)))

-- ECMA-262 ReturnStatement
abbrev pub return_statement : List Phrase → Phrase
return_statement l = phrase.Statement
    (stmt.Return (token_at 0 l).start (optional_expression_of (part 1 l)))

-- ECMA-262 ThrowStatement
abbrev pub throw_statement : List Phrase → Phrase
throw_statement l = phrase.Statement (stmt.Throw (token_at 0 l).start (expression_at 1 l))
