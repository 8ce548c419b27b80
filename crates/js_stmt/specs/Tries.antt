-- `try`, `catch` and `finally`.
use Rattle.std.specs.Prelude.{ℕ, List, Option, Some, None}
use Rattle.lava_base.specs.declared.place.Place.{Place}
use Rattle.js_tree.specs.declared.tree.Catch.{Catch, roll-Catch}
use Rattle.js_tree.specs.declared.tree.Pattern.{Pattern}
use Rattle.js_tree.specs.declared.tree.Stmt.{Stmt}
use Rattle.js_tree.specs.declared.tree.Stmt.TheVariants as stmt
use Rattle.js_phrase.specs.declared.phrase.Phrase.{Phrase}
use Rattle.js_phrase.specs.declared.phrase.Phrase.TheVariants as phrase
use Rattle.js_phrase.specs.declared.phrase.TryTail.{TryTail}
use Rattle.js_phrase.specs.Phrases.{block_of, optional_pattern_of, tail_of}
use Rattle.js_expr.specs.Parts.{part, token_at}

-- ECMA-262 Finally
abbrev pub finally_clause : List Phrase → Phrase
finally_clause l =
    phrase.Tail (record { parameter = None; handler = None; finalizer = Some (block_of (part 1 l)) })

-- ECMA-262 Catch
abbrev pub catch_clause : List Phrase → Phrase
catch_clause l = phrase.Tail (record {
  parameter = optional_pattern_of (part 1 l);
  handler = Some (block_of (part 2 l));
  finalizer = (tail_of (part 3 l)).finalizer;
})

abbrev pub handler_with : Option Pattern → Option (List Stmt) → Option Catch
handler_with parameter None = None
handler_with parameter (Some l) = Some (roll-Catch (record { parameter = parameter; body = l }))

abbrev pub try_with : Place → List Stmt → TryTail → Stmt
try_with place block tail =
    stmt.Try place block (handler_with tail.parameter tail.handler) tail.finalizer

-- ECMA-262 TryStatement
abbrev pub try_statement : List Phrase → Phrase
try_statement l = phrase.Statement
    (try_with (token_at 0 l).start (block_of (part 1 l)) (tail_of (part 2 l)))
