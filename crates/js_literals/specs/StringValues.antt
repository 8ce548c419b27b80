-- What string literals and templates are worth, by their characters.
use Rattle.std.specs.Prelude.{ℕ, zero, suc, ◌==◌, ◌&&◌, ◌||◌, if◌then◌else◌, Bool, true, List, [], ◌∷◌, ◌++◌, Option, Some, None}
use Rattle.std.specs.Char.Escape.{encode_utf16}
use Rattle.js_lexer.specs.Grammar.{is}
use Rattle.js_lexer.specs.Rules.{begins_with}
use Rattle.js_literals.specs.Escapes.{Piece, piece, escape_sequence, one_of}
use Rattle.js_literals.specs.declared.pieces.Delimiter.{Delimiter}
use Rattle.js_literals.specs.declared.pieces.Delimiter.TheVariants.{Quote, Template}

-- what a character begins, with these behind it: itself, or behind a backslash an escape or a line continuation
-- ECMA-262 SV of DoubleStringCharacter and SingleStringCharacter
abbrev pub string_character : ℕ → List ℕ → Piece
string_character c cs = if c == 92 then escape_sequence cs else piece (Some c) 0

-- the same in a template, where CR, and CR with LF behind it, is LF
-- ECMA-262 TV of TemplateCharacter
-- ECMA-262 TRV of LineTerminatorSequence
abbrev pub template_character : ℕ → List ℕ → Piece
template_character c cs =
    if c == 13 then piece (Some 10) (one_of 10 cs) else string_character c cs

-- what the first character of a text begins
abbrev pub front_piece : Delimiter → List ℕ → Piece
front_piece delimiter [] = piece None 0
front_piece (Quote quote) (c ∷ cs) = string_character c cs
front_piece Template (c ∷ cs) = template_character c cs

-- the text ends here: with its quote; or, in a template, with the grave accent or the `${`
-- ECMA-262 String Literals, StringLiteral
-- ECMA-262 Template Literal Lexical Components, Template and TemplateSubstitutionTail
abbrev pub is_end : Delimiter → List ℕ → Bool
is_end delimiter [] = true
is_end (Quote quote) (c ∷ cs) = c == quote
is_end Template (c ∷ cs) = c == 96 || (c == 36 && begins_with (is 123) cs)

-- a code point in UTF-16, where there is one
-- ECMA-262 UTF16EncodeCodePoint
abbrev pub units_of_code : Option ℕ → List ℕ
units_of_code None = []
units_of_code (Some c) = encode_utf16 c

-- the characters up to the end, one piece after the other; the
-- first `passed` ones belong to the piece before them
-- ECMA-262 SV of DoubleStringCharacters and SingleStringCharacters
-- ECMA-262 TV of TemplateCharacters
abbrev pub value_behind : Delimiter → ℕ → List ℕ → List ℕ
value_behind delimiter passed [] = []
value_behind delimiter (suc passed) (c ∷ cs) = value_behind delimiter passed cs
value_behind delimiter zero (c ∷ cs) =
    if is_end delimiter (c ∷ cs) then []
    else units_of_code (front_piece delimiter (c ∷ cs)).code
    ++ value_behind delimiter (front_piece delimiter (c ∷ cs)).taken cs

-- the text of a string literal, from its quote on
-- own: what is no literal ends with the first such quote, or else with its last character
-- ECMA-262 Static Semantics: SV
abbrev pub sv : List ℕ → List ℕ
sv [] = []
sv (quote ∷ cs) = value_behind (Quote quote) 0 cs

-- the text of a template, or of a part of one, from its grave accent or `}` on
-- ECMA-262 Static Semantics: TV
abbrev pub tv : List ℕ → List ℕ
tv [] = []
tv (c ∷ cs) = value_behind Template 0 cs
