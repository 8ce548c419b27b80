-- The parts of a production by their places, from 0.
use Rattle.std.specs.Prelude.{ℕ, zero, suc, List}
use Rattle.js_lexer.specs.declared.token.Token.{Token}
use Rattle.js_tree.specs.declared.tree.Expr.{Expr}
use Rattle.js_phrase.specs.declared.phrase.Phrase.{Phrase}
use Rattle.js_phrase.specs.Phrases.{next_of, token_of, expression_of}
use Rattle.js_phrase.specs.Queues.{rest_of}

abbrev pub part : ℕ → List Phrase → Phrase
part zero l = next_of l
part (suc n) l = part n (rest_of l)

-- what stands behind so many parts
abbrev pub behind : ℕ → List Phrase → List Phrase
behind zero l = l
behind (suc n) l = behind n (rest_of l)

abbrev pub token_at : ℕ → List Phrase → Token
token_at n l = token_of (part n l)

abbrev pub expression_at : ℕ → List Phrase → Expr
expression_at n l = expression_of (part n l)
