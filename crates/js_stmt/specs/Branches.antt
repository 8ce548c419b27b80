-- `if`, with `else` or without.
use Rattle.std.specs.Prelude.{ℕ, List, Option, Some, None}
use Rattle.js_tree.specs.declared.tree.Argument.TheOpen.{Stmt-F}
use Rattle.js_tree.specs.declared.tree.Stmt.{Stmt, out-Stmt}
use Rattle.js_tree.specs.declared.tree.Stmt.TheVariants as stmt
use Rattle.js_tree.specs.Layers.{StmtLayer}
use Rattle.js_phrase.specs.declared.phrase.Phrase.{Phrase}
use Rattle.js_phrase.specs.declared.phrase.Phrase.TheVariants as phrase
use Rattle.js_phrase.specs.Phrases.{statement_of}
use Rattle.js_expr.specs.Parts.{part, token_at, expression_at}

-- ECMA-262 IfStatement
abbrev pub if_statement : List Phrase → Phrase
if_statement l = phrase.Statement
    (stmt.If (token_at 0 l).start (expression_at 2 l) (statement_of (part 4 l)) None)

abbrev pub with_alternate_at : Stmt → StmtLayer → Stmt → Stmt
with_alternate_at s (Stmt-F.If place test consequent alternate) e =
    stmt.If place test consequent (Some e)
with_alternate_at s _ e = s

-- own: what is no `if` stays as it is
-- ECMA-262 IfStatement
abbrev pub with_alternate : Stmt → Stmt → Stmt
with_alternate s e = with_alternate_at s (out-Stmt s) e

abbrev pub if_else_statement : List Phrase → Phrase
if_else_statement l =
    phrase.Statement (with_alternate (statement_of (part 0 l)) (statement_of (part 2 l)))
