-- Names.
use Rattle.std.specs.Prelude.{ℕ, ◌&&◌, nat_le, if◌then◌else◌, List, [], length, slice_range}
use Rattle.js_lexer.specs.declared.token.Token.{Token}
use Rattle.js_text.specs.Utf8.{units_of}
use Rattle.js_tree.specs.declared.tree.Expr.TheVariants as expr
use Rattle.js_tree.specs.declared.tree.Identifier.{Identifier}
use Rattle.js_phrase.specs.declared.phrase.Phrase.{Phrase}
use Rattle.js_phrase.specs.declared.phrase.Phrase.TheVariants as phrase
use Rattle.js_expr.specs.Parts.{token_at}

-- the bytes of a token; none where it is no token of the source
abbrev pub bytes_of : List ℕ → Token → List ℕ
bytes_of source t =
    if nat_le t.from t.to && nat_le t.to (length source) then slice_range source t.from t.to else []

-- ECMA-262 Static Semantics: StringValue, of an IdentifierName
abbrev pub identifier : List ℕ → Token → Identifier
identifier source t = record { place = t.start; name = units_of (bytes_of source t) }

-- ECMA-262 IdentifierReference
abbrev pub identifier_reference : List ℕ → List Phrase → Phrase
identifier_reference source l = phrase.Expression (expr.Name (identifier source (token_at 0 l)))
