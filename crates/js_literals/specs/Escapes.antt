-- What stands behind a backslash in a string literal or a template.
use Rattle.std.specs.Prelude.{ℕ, suc, zero, ◌+◌, ◌==◌, nat_le, if◌then◌else◌, List, [], ◌∷◌, length, drop, Option, Some, None}
use Rattle.js_lexer.specs.Characters.{is_hex_digit, is_line_terminator}
use Rattle.js_lexer.specs.Grammar.{hex_from, is}
use Rattle.js_lexer.specs.Rules.{begins_with}
use Rattle.js_literals.specs.declared.escapes.TheConstants.{SINGLE_ESCAPES}

-- a part of a text: its code point, where it has one, and how many characters of the text belong to it
pub record Piece : Type 0 where
  pub code : Option ℕ
  pub taken : ℕ

abbrev pub piece : Option ℕ → ℕ → Piece
piece code taken = record { code = code; taken = taken }

-- the same with one character more in front of it
abbrev pub behind_one : Piece → Piece
behind_one p = record { code = p.code; taken = suc p.taken }

-- the character by the table, or itself
abbrev pub escaped_by : List (ℕ × ℕ) → ℕ → ℕ
escaped_by [] c = c
escaped_by (row ∷ rows) c = if row.0 == c then row.1 else escaped_by rows c

-- the character for which one behind a backslash stands
-- ECMA-262 SV of EscapeSequence, CharacterEscapeSequence
-- ECMA-262 String Single Character Escape Sequences
abbrev pub character_escape : ℕ → ℕ
character_escape c = escaped_by SINGLE_ESCAPES c

-- the hexadecimal digits at the start of a text, so many of them at most
abbrev pub hex_digits : ℕ → List ℕ → List ℕ
hex_digits zero cs = []
hex_digits (suc most) [] = []
hex_digits (suc most) (c ∷ cs) = if is_hex_digit c then c ∷ hex_digits most cs else []

-- the code point of this number
-- own: a number past the code points, which no literal writes, has none
abbrev pub code_point : ℕ → Option ℕ
code_point n = if nat_le n 0x10FFFF then Some n else None

-- so many digits behind the `x` or the `u`
-- own: where fewer stand, which is no literal, these
-- ECMA-262 SV of HexEscapeSequence
-- ECMA-262 SV of Hex4Digits
abbrev pub digits_escape : ℕ → List ℕ → Piece
digits_escape most cs = piece (code_point (hex_from 0 (hex_digits most cs))) (length (hex_digits most cs))

-- whether a character stands at the start, as the number of characters that it takes there
abbrev pub one_of : ℕ → List ℕ → ℕ
one_of c cs = if begins_with (is c) cs then 1 else 0

-- digits, and a `}`, behind the `{`
-- ECMA-262 SV of UnicodeEscapeSequence, CodePoint
abbrev pub code_point_escape : List ℕ → Piece
code_point_escape cs = let digits = hex_digits (length cs) cs in
    piece (code_point (hex_from 0 digits)) (length digits + one_of 125 (drop (length digits) cs))

-- behind the `u`
-- ECMA-262 SV of UnicodeEscapeSequence
abbrev pub unicode_escape : List ℕ → Piece
unicode_escape [] = digits_escape 4 []
unicode_escape (c ∷ cs) =
    if c == 123 then behind_one (code_point_escape cs) else digits_escape 4 (c ∷ cs)

-- behind the backslash: a line continuation has no code point
-- ECMA-262 SV of EscapeSequence
-- ECMA-262 SV of LineContinuation
abbrev pub escape_sequence : List ℕ → Piece
escape_sequence [] = piece None 0
escape_sequence (c ∷ cs) =
    if c == 117 then behind_one (unicode_escape cs)
    else if c == 120 then behind_one (digits_escape 2 cs)
    else if c == 13 then behind_one (piece None (one_of 10 cs))
    else if is_line_terminator c then piece None 1
    else piece (Some (character_escape c)) 1
