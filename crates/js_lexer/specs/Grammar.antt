-- The lexical grammar, as far as the profile of the
-- language has it, and the forms of it that the profile
-- leaves out by name.
use Rattle.std.specs.Prelude.{ℕ, ◌+◌, ◌*◌, ◌==◌, ◌&&◌, ◌||◌, not, nat_le, Bool, true, false, List, [], ◌∷◌}
use Rattle.js_lexer.specs.Characters.{is_line_terminator, is_white_space, is_name_start, is_name_part, is_digit, is_hex_digit, bars_number_end, hex_value}
use Rattle.js_lexer.specs.Rules.{Rule, Nothing, One, NotBefore, Then, Or, Many, OnlyIf}

-- this character
abbrev pub is : ℕ → ℕ → Bool
is a c = c == a

-- the character a
abbrev pub char : ℕ → Rule
char a = One (is a)

-- either of two characters
abbrev pub either : ℕ → ℕ → Rule
either a b = One (λ c. c == a || c == b)

-- White Space and Line Terminators

-- ECMA-262 White Space, WhiteSpace
abbrev pub white_space : Rule
white_space = One is_white_space

-- ECMA-262 Line Terminators, LineTerminator
abbrev pub line_terminator : Rule
line_terminator = One is_line_terminator

-- Comments

abbrev pub in_line : ℕ → Bool
in_line c = not (is_line_terminator c)

-- the characters up to the end of the line
-- ECMA-262 Comments, SingleLineCommentChars
abbrev pub rest_of_line : Rule
rest_of_line = Then (Many (One in_line)) (NotBefore in_line)

-- ECMA-262 Comments, SingleLineComment
abbrev pub line_comment : Rule
line_comment = Then (char 47) (Then (char 47) rest_of_line)

-- ECMA-262 Hashbang Comments, HashbangComment
abbrev pub hashbang : Rule
hashbang = Then (char 35) (Then (char 33) rest_of_line)

abbrev pub not_asterisk : ℕ → Bool
not_asterisk c = not (c == 42)

-- the characters of a comment between `/*` and `*/`, and its end
-- ECMA-262 Comments, MultiLineCommentChars
abbrev pub rest_of_comment : Rule
rest_of_comment =
    Then (Many (Or (One not_asterisk) (Then (char 42) (NotBefore (is 47)))))
    (Then (char 42) (char 47))

-- ECMA-262 Comments, MultiLineComment
abbrev pub block_comment : Rule
block_comment = Then (char 47) (Then (char 42) rest_of_comment)

-- Names and Keywords

abbrev pub name_rest : Rule
name_rest = Then (Many (One is_name_part)) (NotBefore is_name_part)

-- ECMA-262 Names and Keywords, IdentifierName
abbrev pub name : Rule
name = Then (One is_name_start) name_rest

-- Escapes

-- ECMA-262 Numeric Literals, HexDigit
abbrev pub hex_digit : Rule
hex_digit = One is_hex_digit

-- the number that hexadecimal digits write, behind the
-- number that the digits in front of them write
-- ECMA-262 Numeric Literals, MV of HexDigits
abbrev pub hex_from : ℕ → List ℕ → ℕ
hex_from v [] = v
hex_from v (c ∷ cs) = hex_from (v * 16 + hex_value c) cs

-- hexadecimal digits, but only if they write at most
-- 0x10FFFF; here the ones behind digits that write v
-- ECMA-262 Names and Keywords, CodePoint
abbrev pub code_point_after : ℕ → Rule
code_point_after v = OnlyIf (Many hex_digit) (λ w. nat_le (hex_from v w) 0x10FFFF)

-- ECMA-262 Names and Keywords, CodePoint
abbrev pub code_point : Rule
code_point = OnlyIf (Then hex_digit (Many hex_digit)) (λ w. nat_le (hex_from 0 w) 0x10FFFF)

-- behind the `u` of an escape
-- ECMA-262 String Literals, UnicodeEscapeSequence
abbrev pub after_u : Rule
after_u =
    Or (Then hex_digit (Then hex_digit (Then hex_digit hex_digit)))
    (Then (char 123) (Then code_point (char 125)))

-- ECMA-262 String Literals, UnicodeEscapeSequence
abbrev pub unicode_escape : Rule
unicode_escape = Then (char 117) after_u

-- what may stand behind a backslash for itself
-- ECMA-262 String Literals, SingleEscapeCharacter and NonEscapeCharacter
abbrev pub is_escape_character : ℕ → Bool
is_escape_character c = not (is_digit c || c == 120 || c == 117 || is_line_terminator c)

-- ECMA-262 Line Terminators, LineTerminatorSequence
abbrev pub line_terminator_sequence : Rule
line_terminator_sequence =
    Or (One (λ c. c == 10 || c == 0x2028 || c == 0x2029))
    (Then (char 13) (Or (char 10) (NotBefore (is 10))))

-- what stands behind a backslash in a text: an escape, without the octal ones, or the end of a line
-- ECMA-262 String Literals, EscapeSequence and LineContinuation
abbrev pub after_backslash : Rule
after_backslash =
    Or (One is_escape_character)
    (Or (Then (char 48) (NotBefore is_digit))
    (Or (Then (char 120) (Then hex_digit hex_digit))
    (Or unicode_escape line_terminator_sequence)))

abbrev pub escape_sequence : Rule
escape_sequence = Then (char 92) after_backslash

-- String Literals

-- a character that stands for itself between these quotes; U+2028 and U+2029 may
abbrev pub is_plain_in : ℕ → ℕ → Bool
is_plain_in quote c = not (c == quote || c == 92 || c == 10 || c == 13)

-- ECMA-262 String Literals, DoubleStringCharacter and SingleStringCharacter
abbrev pub string_character : ℕ → Rule
string_character quote = Or (One (is_plain_in quote)) escape_sequence

-- behind the opening quote
abbrev pub rest_of_string : ℕ → Rule
rest_of_string quote = Then (Many (string_character quote)) (char quote)

-- between `"` or `'`
-- ECMA-262 String Literals, StringLiteral
abbrev pub string_literal : ℕ → Rule
string_literal quote = Then (char quote) (rest_of_string quote)

-- Template Literal Lexical Components

abbrev pub is_plain_in_template : ℕ → Bool
is_plain_in_template c = not (c == 96 || c == 92 || c == 36)

-- ECMA-262 Template Literal Lexical Components, TemplateCharacter
abbrev pub template_character : Rule
template_character =
    Or (One is_plain_in_template) (Or (Then (char 36) (NotBefore (is 123))) escape_sequence)

-- up to the closing grave accent
abbrev pub rest_of_template : Rule
rest_of_template = Then (Many template_character) (char 96)

-- up to the `${` that begins a substitution
abbrev pub rest_to_substitution : Rule
rest_to_substitution = Then (Many template_character) (Then (char 36) (char 123))

-- ECMA-262 Template Literal Lexical Components, NoSubstitutionTemplate
abbrev pub no_substitution_template : Rule
no_substitution_template = Then (char 96) rest_of_template

-- ECMA-262 Template Literal Lexical Components, TemplateHead
abbrev pub template_head : Rule
template_head = Then (char 96) rest_to_substitution

-- ECMA-262 Template Literal Lexical Components, TemplateMiddle
abbrev pub template_middle : Rule
template_middle = Then (char 125) rest_to_substitution

-- ECMA-262 Template Literal Lexical Components, TemplateTail
abbrev pub template_tail : Rule
template_tail = Then (char 125) rest_of_template

-- Numeric Literals. Each is written for digits with separators between them and without

abbrev pub optional : Rule → Rule
optional a = Or a Nothing

-- behind a first digit
-- ECMA-262 Numeric Literals, NumericLiteralSeparator
abbrev pub more_digits : Bool → (ℕ → Bool) → Rule
more_digits false p = Many (One p)
more_digits true p = Many (Or (One p) (Then (char 95) (One p)))

-- ECMA-262 Numeric Literals, DecimalDigits, HexDigits, OctalDigits and BinaryDigits
abbrev pub digits : Bool → (ℕ → Bool) → Rule
digits separators p = Then (One p) (more_digits separators p)

-- ECMA-262 Numeric Literals, NonZeroDigit
abbrev pub is_nonzero_digit : ℕ → Bool
is_nonzero_digit c = nat_le 49 c && nat_le c 57

-- ECMA-262 Numeric Literals, OctalDigit
abbrev pub is_octal_digit : ℕ → Bool
is_octal_digit c = nat_le 48 c && nat_le c 55

-- ECMA-262 Numeric Literals, BinaryDigit
abbrev pub is_binary_digit : ℕ → Bool
is_binary_digit c = c == 48 || c == 49

-- without the forms with a leading zero, which strict code refuses
-- ECMA-262 Numeric Literals, DecimalIntegerLiteral
abbrev pub decimal_integer : Bool → Rule
decimal_integer separators =
    Or (char 48) (Then (One is_nonzero_digit) (more_digits separators is_digit))

-- ECMA-262 Numeric Literals, ExponentPart
abbrev pub exponent : Bool → Rule
exponent separators =
    Then (either 101 69) (Then (optional (either 43 45)) (digits separators is_digit))

-- no point follows an integer that takes none
-- ECMA-262 Numeric Literals, DecimalLiteral
abbrev pub decimal_literal : Bool → Rule
decimal_literal separators =
    Or (Then (decimal_integer separators)
    (Then (Or (Then (char 46) (optional (digits separators is_digit))) (NotBefore (is 46)))
    (optional (exponent separators))))
    (Then (char 46) (Then (digits separators is_digit) (optional (exponent separators))))

-- ECMA-262 Numeric Literals, HexIntegerLiteral, OctalIntegerLiteral and BinaryIntegerLiteral
abbrev pub non_decimal_integer : Bool → Rule
non_decimal_integer separators =
    Then (char 48)
    (Or (Then (either 120 88) (digits separators is_hex_digit))
    (Or (Then (either 111 79) (digits separators is_octal_digit))
    (Then (either 98 66) (digits separators is_binary_digit))))

-- neither the start of a name nor a digit follows a numeric literal
-- ECMA-262 Numeric Literals
abbrev pub literal_end : Rule
literal_end = NotBefore bars_number_end

-- without BigInts
-- ECMA-262 Numeric Literals, NumericLiteral
abbrev pub numeric_literal : Bool → Rule
numeric_literal separators =
    Then (Or (decimal_literal separators) (non_decimal_integer separators)) literal_end

-- The forms that the profile leaves out by name

-- ECMA-262 Numeric Literals, DecimalBigIntegerLiteral and BigIntLiteralSuffix
abbrev pub bigint : Rule
bigint = Then (Or (decimal_integer true) (non_decimal_integer true)) (Then (char 110) literal_end)

-- up to its first escape
-- ECMA-262 Names and Keywords, IdentifierName
abbrev pub escaped_name : Rule
escaped_name =
    Then (optional (Then (One is_name_start) (Many (One is_name_part))))
    (Then (char 92) unicode_escape)

-- its first character
-- ECMA-262 Names and Keywords, PrivateIdentifier
abbrev pub private_name : Rule
private_name = Then (char 35) (Or (One is_name_start) (Then (char 92) unicode_escape))

-- the `@` of a decorator
-- own: decorators are a proposal, and the profile refuses them by name
abbrev pub decorator : Rule
decorator = char 64
