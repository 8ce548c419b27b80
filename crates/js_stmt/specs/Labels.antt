-- Labels.
use Rattle.std.specs.Prelude.{ℕ, List}
use Rattle.js_tree.specs.declared.tree.Stmt.TheVariants as stmt
use Rattle.js_phrase.specs.declared.phrase.Phrase.{Phrase}
use Rattle.js_phrase.specs.declared.phrase.Phrase.TheVariants as phrase
use Rattle.js_phrase.specs.Phrases.{statement_of}
use Rattle.js_expr.specs.Names.{identifier}
use Rattle.js_expr.specs.Parts.{part, token_at}

-- ECMA-262 LabelledStatement
abbrev pub labelled_statement : List ℕ → List Phrase → Phrase
labelled_statement source l = phrase.Statement
    (stmt.Labelled (identifier source (token_at 0 l)) (statement_of (part 2 l)))
