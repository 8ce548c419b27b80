-- `switch` and its clauses.
use Rattle.std.specs.Prelude.{ℕ, List, ◌∷◌, Option, Some, None}
use Rattle.js_tree.specs.declared.tree.Clause.{Clause, roll-Clause}
use Rattle.js_tree.specs.declared.tree.Expr.{Expr}
use Rattle.js_tree.specs.declared.tree.Stmt.{Stmt}
use Rattle.js_tree.specs.declared.tree.Stmt.TheVariants as stmt
use Rattle.js_phrase.specs.declared.phrase.Phrase.{Phrase}
use Rattle.js_phrase.specs.declared.phrase.Phrase.TheVariants as phrase
use Rattle.js_phrase.specs.Lists.{clauses_of, statement_list}
use Rattle.js_expr.specs.Parts.{behind, token_at, expression_at}

abbrev pub clause : Option Expr → List Stmt → Clause
clause test statements = roll-Clause (record { test = test; body = statements })

-- ECMA-262 CaseClause
abbrev pub case_clause : List Phrase → Phrase
case_clause l = phrase.Clause (clause (Some (expression_at 1 l)) (statement_list (behind 2 l)))

-- `default`, and the clauses behind it
-- ECMA-262 DefaultClause
abbrev pub default_clause : List Phrase → Phrase
default_clause l = phrase.Clauses (clause None (statement_list l) ∷ clauses_of l)

-- ECMA-262 SwitchStatement
abbrev pub switch_statement : List Phrase → Phrase
switch_statement l = phrase.Statement
    (stmt.Switch (token_at 0 l).start (expression_at 2 l) (clauses_of (behind 3 l)))
