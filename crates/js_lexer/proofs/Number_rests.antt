-- What of the grammar is left of a numeric literal behind the part of it that was read last.
use Rattle.std.proofs.Common.{Bool, true, false, cond}
use Rattle.js_lexer.specs.Characters.{is_digit, is_hex_digit}
use Rattle.js_lexer.specs.Rules.{Rule, Never, Nothing, NotBefore, Then, Or}
use Rattle.js_lexer.specs.Grammar.{is, char, either, optional, more_digits, digits, is_octal_digit, is_binary_digit, exponent, literal_end, numeric_literal, bigint}
use Rattle.js_lexer.specs.Numbers.{is_radix_digit}
use Rattle.js_lexer.specs.declared.numbers.Numeral.{Numeral}
use Rattle.js_lexer.specs.declared.numbers.Numeral.TheVariants.{Number, Separated, BigInt}
use Rattle.js_lexer.specs.declared.numbers.NumberPart.{NumberPart}
use Rattle.js_lexer.specs.declared.numbers.NumberPart.TheVariants.{Start, LeadingPoint, Zero, Integer, IntegerSeparator, Point, Fraction, FractionSeparator, ExponentIndicator, ExponentSign, ExponentDigits, ExponentSeparator, RadixPrefix, RadixDigits, RadixSeparator, BigIntSuffix}

-- numbers without separators, numbers with separators or without, BigInts
pub data Kind : Type 0 where
  plain : Kind
  with_separators : Kind
  big : Kind

-- the outcome is that of a literal of the kind
abbrev pub gives : Numeral → Kind → Bool
gives Number plain = true
gives Number with_separators = true
gives Separated with_separators = true
gives BigInt big = true
gives _ _ = false

-- a separator was read
abbrev separated : NumberPart → Bool
separated (Integer s) = s
separated IntegerSeparator = true
separated (Point s) = s
separated (Fraction s) = s
separated FractionSeparator = true
separated (ExponentIndicator s) = s
separated (ExponentSign s) = s
separated (ExponentDigits s) = s
separated ExponentSeparator = true
separated (RadixDigits r s) = s
separated (RadixSeparator r) = true
separated _ = false

-- behind the digits of a DecimalIntegerLiteral
abbrev decimal_rest : Bool → Rule
decimal_rest b = Then (Or (Then (char 46) (optional (digits b is_digit))) (NotBefore (is 46))) (optional (exponent b))

-- behind the `0` of a NonDecimalIntegerLiteral
abbrev radix_rest : Bool → Rule
radix_rest b =
    Or (Then (either 120 88) (digits b is_hex_digit))
    (Or (Then (either 111 79) (digits b is_octal_digit))
    (Then (either 98 66) (digits b is_binary_digit)))

abbrev pub literal_rest : Bool → NumberPart → Rule
literal_rest b Start = numeric_literal b
literal_rest b LeadingPoint = Then (Then (digits b is_digit) (optional (exponent b))) literal_end
literal_rest b Zero = Then (Or (decimal_rest b) (radix_rest b)) literal_end
literal_rest b (Integer s) = Then (Then (more_digits b is_digit) (decimal_rest b)) literal_end
literal_rest b IntegerSeparator = Then (Then (digits b is_digit) (decimal_rest b)) literal_end
literal_rest b (Point s) = Then (Then (optional (digits b is_digit)) (optional (exponent b))) literal_end
literal_rest b (Fraction s) = Then (Then (more_digits b is_digit) (optional (exponent b))) literal_end
literal_rest b FractionSeparator = Then (Then (digits b is_digit) (optional (exponent b))) literal_end
literal_rest b (ExponentIndicator s) = Then (Then (optional (either 43 45)) (digits b is_digit)) literal_end
literal_rest b (ExponentSign s) = Then (digits b is_digit) literal_end
literal_rest b (ExponentDigits s) = Then (more_digits b is_digit) literal_end
literal_rest b ExponentSeparator = Then (digits b is_digit) literal_end
literal_rest b (RadixPrefix r) = Then (digits b (is_radix_digit r)) literal_end
literal_rest b (RadixDigits r s) = Then (more_digits b (is_radix_digit r)) literal_end
literal_rest b (RadixSeparator r) = Then (digits b (is_radix_digit r)) literal_end
literal_rest b BigIntSuffix = Never

-- the `n` of a BigInt
abbrev suffix_rest : Rule
suffix_rest = Then (char 110) literal_end

abbrev pub bigint_rest : NumberPart → Rule
bigint_rest Start = bigint
bigint_rest Zero = Then (Or Nothing (radix_rest true)) suffix_rest
bigint_rest (Integer s) = Then (more_digits true is_digit) suffix_rest
bigint_rest IntegerSeparator = Then (digits true is_digit) suffix_rest
bigint_rest (RadixPrefix r) = Then (digits true (is_radix_digit r)) suffix_rest
bigint_rest (RadixDigits r s) = Then (more_digits true (is_radix_digit r)) suffix_rest
bigint_rest (RadixSeparator r) = Then (digits true (is_radix_digit r)) suffix_rest
bigint_rest BigIntSuffix = literal_end
bigint_rest _ = Never

-- what is left of the literal: of one without separators nothing, where a separator was read
abbrev pub number_rest : NumberPart → Kind → Rule
number_rest part plain = cond (separated part) Never (literal_rest false part)
number_rest part with_separators = literal_rest true part
number_rest part big = bigint_rest part
