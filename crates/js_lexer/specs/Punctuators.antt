-- Punctuators.
use Rattle.std.specs.Prelude.{◌≡◌, ℕ, ◌≤◌, ◌==◌, ◌&&◌, ◌||◌, not, Bool, true, cond, List, [], ◌∷◌, ◌++◌, length, codes, Option, Some, None, MatchOption}
use Rattle.js_lexer.specs.Characters.{is_digit}
use Rattle.js_lexer.specs.Rules.{begins_with}
use Rattle.js_lexer.specs.declared.punctuators.Punctuator.{Punctuator}
use Rattle.js_lexer.specs.declared.punctuators.Punctuator.TheVariants.{LeftBrace, RightBrace, LeftParenthesis, RightParenthesis, LeftBracket, RightBracket, Dot, Ellipsis, Semicolon, Comma, Less, Greater, LessOrEqual, GreaterOrEqual, Equal, NotEqual, StrictEqual, StrictNotEqual, Plus, Minus, Star, Slash, Percent, StarStar, Increment, Decrement, ShiftLeft, ShiftRight, UnsignedShiftRight, Ampersand, Bar, Caret, Exclamation, Tilde, LogicalAnd, LogicalOr, Coalesce, Question, OptionalChain, Colon, Assign, AddAssign, SubtractAssign, MultiplyAssign, DivideAssign, RemainderAssign, ExponentiateAssign, ShiftLeftAssign, ShiftRightAssign, UnsignedShiftRightAssign, BitAndAssign, BitOrAssign, BitXorAssign, LogicalAndAssign, LogicalOrAssign, CoalesceAssign, Arrow}

-- the text of a punctuator
-- ECMA-262 Punctuators
abbrev pub text_of : Punctuator → List ℕ
text_of LeftBrace = codes "{"
text_of RightBrace = codes "}"
text_of LeftParenthesis = codes "("
text_of RightParenthesis = codes ")"
text_of LeftBracket = codes "["
text_of RightBracket = codes "]"
text_of Dot = codes "."
text_of Ellipsis = codes "..."
text_of Semicolon = codes ";"
text_of Comma = codes ","
text_of Less = codes "<"
text_of Greater = codes ">"
text_of LessOrEqual = codes "<="
text_of GreaterOrEqual = codes ">="
text_of Equal = codes "=="
text_of NotEqual = codes "!="
text_of StrictEqual = codes "==="
text_of StrictNotEqual = codes "!=="
text_of Plus = codes "+"
text_of Minus = codes "-"
text_of Star = codes "*"
text_of Slash = codes "/"
text_of Percent = codes "%"
text_of StarStar = codes "**"
text_of Increment = codes "++"
text_of Decrement = codes "--"
text_of ShiftLeft = codes "<<"
text_of ShiftRight = codes ">>"
text_of UnsignedShiftRight = codes ">>>"
text_of Ampersand = codes "&"
text_of Bar = codes "|"
text_of Caret = codes "^"
text_of Exclamation = codes "!"
text_of Tilde = codes "~"
text_of LogicalAnd = codes "&&"
text_of LogicalOr = codes "||"
text_of Coalesce = codes "??"
text_of Question = codes "?"
text_of OptionalChain = codes "?."
text_of Colon = codes ":"
text_of Assign = codes "="
text_of AddAssign = codes "+="
text_of SubtractAssign = codes "-="
text_of MultiplyAssign = codes "*="
text_of DivideAssign = codes "/="
text_of RemainderAssign = codes "%="
text_of ExponentiateAssign = codes "**="
text_of ShiftLeftAssign = codes "<<="
text_of ShiftRightAssign = codes ">>="
text_of UnsignedShiftRightAssign = codes ">>>="
text_of BitAndAssign = codes "&="
text_of BitOrAssign = codes "|="
text_of BitXorAssign = codes "^="
text_of LogicalAndAssign = codes "&&="
text_of LogicalOrAssign = codes "||="
text_of CoalesceAssign = codes "??="
text_of Arrow = codes "=>"

-- what may follow a punctuator: a point before a digit begins a number,
-- and two characters begin a comment behind a slash
-- ECMA-262 Punctuators, OptionalChainingPunctuator
-- ECMA-262 Numeric Literals, DecimalLiteral
-- ECMA-262 Comments, Comment
abbrev pub follows : Punctuator → List ℕ → Bool
follows Dot ys = not (begins_with is_digit ys)
follows OptionalChain ys = not (begins_with is_digit ys)
follows Slash ys = not (begins_with (λ c. c == 47 || c == 42) ys)
follows _ ys = true

-- the punctuator stands at the start of a text, of which this rest is left behind it
abbrev pub Stands : Punctuator → List ℕ → List ℕ → Type 0
Stands p xs ys = (xs ≡ text_of p ++ ys) × (follows p ys ≡ true)

-- it is the longest that stands there
-- ECMA-262 ECMAScript Language: Lexical Grammar
abbrev pub IsPunctuator : Punctuator → List ℕ → List ℕ → Type 0
IsPunctuator p xs ys =
    Stands p xs ys
    × ((q : Punctuator) (zs : List ℕ) → Stands q xs zs → length (text_of q) ≤ length (text_of p))

-- The longest punctuator, read a character at a time

-- the punctuators of one character
abbrev pub singles : List (ℕ × Punctuator)
singles =
    (123, LeftBrace)
    ∷ (125, RightBrace)
    ∷ (40, LeftParenthesis)
    ∷ (41, RightParenthesis)
    ∷ (91, LeftBracket)
    ∷ (93, RightBracket)
    ∷ (46, Dot)
    ∷ (59, Semicolon)
    ∷ (44, Comma)
    ∷ (60, Less)
    ∷ (62, Greater)
    ∷ (43, Plus)
    ∷ (45, Minus)
    ∷ (42, Star)
    ∷ (47, Slash)
    ∷ (37, Percent)
    ∷ (38, Ampersand)
    ∷ (124, Bar)
    ∷ (94, Caret)
    ∷ (33, Exclamation)
    ∷ (126, Tilde)
    ∷ (63, Question)
    ∷ (58, Colon)
    ∷ (61, Assign)
    ∷ []

abbrev pub named : ℕ → List (ℕ × Punctuator) → Option Punctuator
named c [] = None
named c (e ∷ es) = cond (c == e.0) (Some e.1) (named c es)

abbrev pub single : ℕ → Option Punctuator
single c = named c singles

-- the punctuator with `=` behind it
abbrev pub with_equals : Punctuator → Option Punctuator
with_equals Less = Some LessOrEqual
with_equals Greater = Some GreaterOrEqual
with_equals Equal = Some StrictEqual
with_equals NotEqual = Some StrictNotEqual
with_equals Plus = Some AddAssign
with_equals Minus = Some SubtractAssign
with_equals Star = Some MultiplyAssign
with_equals Slash = Some DivideAssign
with_equals Percent = Some RemainderAssign
with_equals StarStar = Some ExponentiateAssign
with_equals ShiftLeft = Some ShiftLeftAssign
with_equals ShiftRight = Some ShiftRightAssign
with_equals UnsignedShiftRight = Some UnsignedShiftRightAssign
with_equals Ampersand = Some BitAndAssign
with_equals Bar = Some BitOrAssign
with_equals Caret = Some BitXorAssign
with_equals Exclamation = Some NotEqual
with_equals LogicalAnd = Some LogicalAndAssign
with_equals LogicalOr = Some LogicalOrAssign
with_equals Coalesce = Some CoalesceAssign
with_equals Assign = Some Equal
with_equals _ = None

-- the character other than `=` that makes another punctuator of this one, and that punctuator
abbrev pub twice : Punctuator → Option (ℕ × Punctuator)
twice Less = Some (60, ShiftLeft)
twice Greater = Some (62, ShiftRight)
twice Plus = Some (43, Increment)
twice Minus = Some (45, Decrement)
twice Star = Some (42, StarStar)
twice ShiftRight = Some (62, UnsignedShiftRight)
twice Ampersand = Some (38, LogicalAnd)
twice Bar = Some (124, LogicalOr)
twice Question = Some (63, Coalesce)
twice Assign = Some (62, Arrow)
twice _ = None

abbrev pub if_next : ℕ → Option (ℕ × Punctuator) → Option Punctuator
if_next c None = None
if_next c (Some e) = cond (c == e.0) (Some e.1) None

-- the punctuator with one character more
abbrev pub extended : Punctuator → ℕ → Option Punctuator
extended p c = cond (c == 61) (with_equals p) (if_next c (twice p))

abbrev pub grows : (Punctuator → Punctuator × List ℕ) → Punctuator → ℕ → List ℕ → Option Punctuator → Punctuator × List ℕ
grows go p c cs None = (p, c ∷ cs)
grows go p c cs (Some q) = go q

-- the punctuator with all that makes it longer, and what is left
abbrev pub grown : Punctuator → List ℕ → Punctuator × List ℕ
grown p [] = (p, [])
grown p (c ∷ cs) = grows (λ q. grown q cs) p c cs (extended p c)

-- behind a `.`
abbrev pub dots : List ℕ → Punctuator × List ℕ
dots [] = (Dot, [])
dots (c ∷ []) = (Dot, c ∷ [])
dots (c ∷ d ∷ cs) = cond (c == 46 && d == 46) (Ellipsis, cs) (Dot, c ∷ d ∷ cs)

-- behind a `?`
abbrev pub question : List ℕ → Punctuator × List ℕ
question [] = (Question, [])
question (c ∷ cs) =
    cond (c == 46 && follows OptionalChain cs) (OptionalChain, cs) (grown Question (c ∷ cs))

-- behind a first character
abbrev pub started : Punctuator → List ℕ → Punctuator × List ℕ
started Dot cs = dots cs
started Question cs = question cs
started p cs = grown p cs

abbrev pub begun : Option Punctuator → List ℕ → Option (Punctuator × List ℕ)
begun None cs = None
begun (Some p) cs = cond (follows p cs) (Some (started p cs)) None

abbrev pub punctuator_of : List ℕ → Option (Punctuator × List ℕ)
punctuator_of [] = None
punctuator_of (c ∷ cs) = begun (single c) cs

-- the answer and what is left of the text are this reading
abbrev pub IsReading : Option (Punctuator × List ℕ) → Option Punctuator → List ℕ → Type 0
IsReading reading answer left = MatchOption answer (reading ≡ None) (λ p. reading ≡ Some (p, left))

-- no punctuator stands at the start of the text
abbrev pub NoPunctuator : List ℕ → Type 0
NoPunctuator xs = (p : Punctuator) (ys : List ℕ) → ¬ (IsPunctuator p xs ys)
