-- The text of a token.
use Rattle.std.specs.Prelude.{◌≡◌, ℕ, Bool, List, ◌++◌, slice_range}
use Rattle.std.specs.Str.{encode_utf8_all}
use Rattle.js_lexer.specs.declared.element.Element.{Element}
use Rattle.js_lexer.specs.declared.token.Token.{Token}
use Rattle.js_lexer.specs.Elements.{IsElement}
use Rattle.js_lexer.specs.Sources.{IsKind}

-- the bytes of a token, from the first up to the last, are
-- the text of an element of its kind that stands there
abbrev pub IsTextOf : List ℕ → Token → Type 0
IsTextOf bytes t =
    (within : Bool) × (e : Element) × (w : List ℕ) × (left : List ℕ)
    × (slice_range bytes t.from t.to ≡ encode_utf8_all w)
    × IsElement within e (w ++ left) left × IsKind e w t.kind
