-- What stands for itself.
use Rattle.std.specs.Prelude.{ℕ, nat_lt, ◌==◌, ◌&&◌, ◌||◌, not, Bool}
use Rattle.js_literals.specs.declared.pieces.Delimiter.{Delimiter}
use Rattle.js_literals.specs.declared.pieces.Delimiter.TheVariants.{Quote, Template}

-- a character that stands for itself, whatever follows it: it neither ends the text nor begins an escape
-- ECMA-262 String Literals, DoubleStringCharacter and SingleStringCharacter
-- ECMA-262 Template Literal Lexical Components, TemplateCharacter
abbrev pub is_itself : Delimiter → ℕ → Bool
is_itself (Quote quote) c = not (c == quote || c == 92)
is_itself Template c = not (c == 96 || c == 92 || c == 36 || c == 13)

-- such a character of ASCII, which is one byte and one unit
abbrev pub is_plain : Delimiter → ℕ → Bool
is_plain delimiter c = nat_lt c 128 && is_itself delimiter c
