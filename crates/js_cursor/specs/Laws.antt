-- What an expression at the start of some tokens is, is settled by the tokens.
use Rattle.std.specs.Prelude.{◌≡◌, ℕ, List}
use Rattle.js_grammar.specs.Grammar.{Tree}
use Rattle.js_lexer.specs.declared.token.Token.{Token}
use Rattle.js_reader.specs.Runs.{IsRun, IsExpressionAt}

-- tokens have one longest run that has a partial tree of an expression
abbrev pub One_run : Type 0
One_run =
    (source : List ℕ) (tokens b r c s : List Token) → IsRun source tokens b r → IsRun source tokens c s
    → (b ≡ c) × (r ≡ s)

-- and begin with one expression at most, which has one tree
-- ECMA-262 Expression
abbrev pub One_expression : Type 0
One_expression =
    (source : List ℕ) (tokens b r c s : List Token) (x y : Tree) → IsExpressionAt source tokens b r x
    → IsExpressionAt source tokens c s y → (b ≡ c) × (r ≡ s) × (x ≡ y)
