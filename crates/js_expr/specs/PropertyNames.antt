-- Property names.
use Rattle.std.specs.Prelude.{ℕ, List}
use Rattle.js_tree.specs.declared.tree.PropertyKey.TheVariants as key
use Rattle.js_phrase.specs.declared.phrase.Phrase.{Phrase}
use Rattle.js_phrase.specs.declared.phrase.Phrase.TheVariants as phrase
use Rattle.js_expr.specs.Literals.{string_text}
use Rattle.js_expr.specs.Names.{bytes_of, identifier}
use Rattle.js_expr.specs.Numbers.{number_of}
use Rattle.js_expr.specs.Parts.{token_at, expression_at}

-- an IdentifierName
-- ECMA-262 LiteralPropertyName
abbrev pub word_name : List ℕ → List Phrase → Phrase
word_name source l = phrase.Key (key.Named (identifier source (token_at 0 l)))

-- a StringLiteral, by its value
abbrev pub string_name : List ℕ → List Phrase → Phrase
string_name source l = phrase.Key (key.Named
    (record { place = (token_at 0 l).start; name = string_text source (token_at 0 l) }))

-- a NumericLiteral
abbrev pub numeric_name : List ℕ → List Phrase → Phrase
numeric_name source l =
    phrase.Key (key.Numbered (token_at 0 l).start (number_of (bytes_of source (token_at 0 l))))

-- ECMA-262 ComputedPropertyName
abbrev pub computed_property_name : List Phrase → Phrase
computed_property_name l = phrase.Key (key.Computed (token_at 0 l).start (expression_at 1 l))
