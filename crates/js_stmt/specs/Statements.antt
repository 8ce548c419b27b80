-- Statements that are no more than their statements or their expression.
use Rattle.std.specs.Prelude.{ℕ, List}
use Rattle.js_tree.specs.declared.tree.Stmt.TheVariants as stmt
use Rattle.js_phrase.specs.declared.phrase.Phrase.{Phrase}
use Rattle.js_phrase.specs.declared.phrase.Phrase.TheVariants as phrase
use Rattle.js_phrase.specs.Lists.{statement_list}
use Rattle.js_expr.specs.Parts.{behind, token_at, expression_at}

-- ECMA-262 Block
abbrev pub block : List Phrase → Phrase
block l = phrase.Statement (stmt.Block (token_at 0 l).start (statement_list (behind 1 l)))

-- ECMA-262 EmptyStatement
abbrev pub empty_statement : List Phrase → Phrase
empty_statement l = phrase.Statement (stmt.Empty (token_at 0 l).start)

-- ECMA-262 ExpressionStatement
abbrev pub expression_statement : List Phrase → Phrase
expression_statement l = phrase.Statement (stmt.Expression (expression_at 0 l))

-- ECMA-262 DebuggerStatement
abbrev pub debugger_statement : List Phrase → Phrase
debugger_statement l = phrase.Statement (stmt.Debugger (token_at 0 l).start)
