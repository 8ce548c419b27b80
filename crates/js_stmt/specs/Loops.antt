-- Loops.
use Rattle.std.specs.Prelude.{ℕ, List}
use Rattle.lava_base.specs.declared.place.Place.{Place}
use Rattle.js_tree.specs.declared.tree.Stmt.{Stmt}
use Rattle.js_tree.specs.declared.tree.Stmt.TheVariants as stmt
use Rattle.js_phrase.specs.declared.phrase.ForHead.{ForHead}
use Rattle.js_phrase.specs.declared.phrase.ForHead.TheVariants as head
use Rattle.js_phrase.specs.declared.phrase.Phrase.{Phrase}
use Rattle.js_phrase.specs.declared.phrase.Phrase.TheVariants as phrase
use Rattle.js_phrase.specs.Phrases.{head_of, statement_of}
use Rattle.js_expr.specs.Parts.{part, token_at, expression_at}

-- ECMA-262 WhileStatement
abbrev pub while_statement : List Phrase → Phrase
while_statement l = phrase.Statement
    (stmt.While (token_at 0 l).start (expression_at 2 l) (statement_of (part 4 l)))

-- ECMA-262 DoWhileStatement
abbrev pub do_while_statement : List Phrase → Phrase
do_while_statement l = phrase.Statement
    (stmt.DoWhile (token_at 0 l).start (statement_of (part 1 l)) (expression_at 4 l))

-- ECMA-262 ForStatement
-- ECMA-262 ForInOfStatement
abbrev pub loop_with : Place → ForHead → Stmt → Stmt
loop_with place (head.Loop init test update) body = stmt.For place init test update body
loop_with place (head.Of target iterated) body = stmt.ForOf place target iterated body
loop_with place (head.In target object) body = stmt.ForIn place target object body

abbrev pub for_statement : List Phrase → Phrase
for_statement l = phrase.Statement
    (loop_with (token_at 0 l).start (head_of (part 2 l)) (statement_of (part 4 l)))
