-- Characters, and which of them ECMA-262 has in which class.
use Rattle.std.specs.Prelude.{◌≡◌, ℕ, Bool, ◌||◌, ◌&&◌, ◌==◌, ◌-◌, nat_le, nat_lt, if◌then◌else◌, List, [], ◌∷◌, Option, Some, None, MatchOption}
use Rattle.std.specs.Char.{is_ascii_digit, is_ascii_hexdigit, is_ascii_alphabetic}
use Rattle.unicode_ident.specs.Ident.{is_xid_start, is_xid_continue}

-- the first character of a text
abbrev pub first_of : List ℕ → Option ℕ
first_of [] = None
first_of (c ∷ cs) = Some c

-- the first character of a text is taken from it, where there is one
abbrev pub TakesFirst : List ℕ → Option ℕ → List ℕ → Type 0
TakesFirst old taken new = MatchOption taken ((old ≡ []) × (new ≡ [])) (λ c. old ≡ c ∷ new)

-- LF, CR, LS, PS
-- ECMA-262 Line Terminators, LineTerminator
abbrev pub is_line_terminator : ℕ → Bool
is_line_terminator c = c == 10 || c == 13 || c == 0x2028 || c == 0x2029

-- TAB, VT, FF, and the characters that Unicode calls spaces
-- ECMA-262 White Space, WhiteSpace
abbrev pub is_white_space : ℕ → Bool
is_white_space c =
    c == 9 || c == 11 || c == 12 || c == 32 || c == 160 || c == 0x1680
    || (nat_le 0x2000 c && nat_le c 0x200a)
    || c == 0x202f || c == 0x205f || c == 0x3000 || c == 0xfeff

-- `$`, `_`, or a character that Unicode lets begin an identifier
-- ECMA-262 Names and Keywords, IdentifierStartChar
-- Unicode XID_Start
unfoldable pub is_name_start : ℕ → Bool
is_name_start c = c == 36 || c == 95 || is_xid_start c

-- `$`, or a character that Unicode lets go on with an identifier,
-- of which `_`, ZWNJ and ZWJ are some
-- ECMA-262 Names and Keywords, IdentifierPartChar
-- Unicode XID_Continue
unfoldable pub is_name_part : ℕ → Bool
is_name_part c = c == 36 || is_xid_continue c

-- ECMA-262 Numeric Literals, DecimalDigit
abbrev pub is_digit : ℕ → Bool
is_digit c = is_ascii_digit c

-- ECMA-262 Numeric Literals, HexDigit
abbrev pub is_hex_digit : ℕ → Bool
is_hex_digit c = is_ascii_hexdigit c

-- the start of a name or a digit: no numeric literal ends before one. ASCII's letters, `$` and `_`
-- are starts of names; they stand here by themselves so
-- that it can be seen without Unicode's tables
-- ECMA-262 Numeric Literals
unfoldable pub bars_number_end : ℕ → Bool
bars_number_end c = is_digit c || is_ascii_alphabetic c || c == 36 || c == 95 || is_name_start c

-- the number that a hexadecimal digit writes
-- ECMA-262 Numeric Literals, MV of HexDigit
abbrev pub hex_value : ℕ → ℕ
hex_value c = if nat_lt c 58 then c - 48 else if nat_lt c 71 then c - 55 else c - 87
