-- Symbols, keys and values are read back.
use Rattle.std.proofs.Common.{◌≡◌, ℕ, ℤ, pos, negsuc, neg_ℤ, zero, suc, ◌+◌, ◌%◌, ◌<◌, ◌≤◌, ◌^◌, ◌==◌, Bool, true, false, not, ◌&&◌, ◌||◌, cond, List, [], ◌∷◌, ◌++◌, decimal, length, get_or, nat_le, nat_lt, Option, Some, None, refl, ap, ◌∙◌, sym, subst, arith, le-leb, lt-ltb}
use Rattle.std.proofs.lemmas.Bool.{and_from, and_right, cond-false, cond-true, ne_eqb, or_from}
use Rattle.std.proofs.lemmas.Bool.Decides.{nat_tests}
use Rattle.std.proofs.lemmas.Fmt.{decimal_by_steps, decimal_digit, decimal_is_IsNumeral, decimal_nonempty, first_decimal, length-decimal-le}
use Rattle.std.proofs.lemmas.Grind.{flat_map-append}
use Rattle.std.proofs.lemmas.Int.{ints}
use Rattle.std.proofs.lemmas.List.{append_assoc}
use Rattle.std.specs.Fmt.{signed_decimal}
use Rattle.std.specs.Char.{digit_value}
use Rattle.std.specs.List.{flat_map, list_all}
use Rattle.std.specs.Str.Parse.{AllDigits, digits_value}
use Rattle.lava_base.specs.SafeIntegers.{IsSafe}
use Rattle.lava_base.specs.declared.ids.MadeSymbol.{MadeSymbol}
use Rattle.lava_base.specs.declared.ids.Ref.{Ref}
use Rattle.lava_base.specs.declared.ids.Ref.TheVariants.{Common, Own}
use Rattle.lava_base.specs.declared.limits.TheConstants.{MAX_SAFE_INTEGER}
use Rattle.js_text.specs.Indices as index
use Rattle.js_text.specs.Indices.{has_leading_zero, is_array_index, is_short, key_of_text}
use Rattle.js_text.specs.declared.index.TheConstants.{MAX_INDEX}
use Rattle.js_text.specs.declared.value.Key.{Key}
use Rattle.js_text.specs.declared.value.Key.TheVariants as key
use Rattle.js_text.specs.declared.value.Symbol.{Symbol}
use Rattle.js_text.specs.declared.value.Symbol.TheVariants as symbol
use Rattle.js_text.specs.declared.value.Value.{Value}
use Rattle.js_text.specs.declared.value.Value.TheVariants as value
use Rattle.lava_journal.specs.Bodies.{Pieces, key_pieces, object_or_null, object_or_undefined, symbol_pieces, truth_pieces, value_pieces}
use Rattle.lava_journal.specs.Quotes.{pair_text, quoted_unit}
use Rattle.lava_journal.specs.Sheets.{A_symbol, known_symbol, number_of}
use Rattle.lava_trace.specs.Items.{integer_at, key_at, object_at, object_or_word_at, plain_value_at, signed, symbol_at, text_at, truth_at, value_at}
use Rattle.lava_trace.specs.Left.{Got, Left, byte_at, is_digit}
use Rattle.lava_trace_laws.specs.Sound.{AreUnits, IsText, Sound_key, Sound_symbol, Sound_value}
use Rattle.lava_trace_laws.specs.Spelled.{Listed, Place, Reads, at, piece_names, spelled}
use Rattle.lava_trace_laws.proofs.Name_laws.{closed_digit, left, made_reads, number_read, object_reads}
use Rattle.lava_trace_laws.proofs.Text_laws.{text_read}

-- DIGITS

-- the first of some bytes is a digit
abbrev pub Digital : List ℕ → Type 0
Digital ds = (rest : List ℕ) → (48 ≤ get_or (ds ++ rest) 0 0) × (get_or (ds ++ rest) 0 0 < 58)

one_digit : (n : ℕ) → n < 10 → Digital ((48 + n) ∷ [])
one_digit n h = λ rest. (omega arith, omega (arith, h))

more_digits : (n : ℕ) (ds : List ℕ) → 10 ≤ n → Digital ds → Digital (ds ++ ((48 + n % 10) ∷ []))
more_digits n ds h r = λ rest. subst (λ bs. (48 ≤ get_or bs 0 0) × (get_or bs 0 0 < 58)) (sym (append_assoc ds ((48 + n % 10) ∷ []) rest)) (r ((48 + n % 10) ∷ rest))

pub digital : (n : ℕ) → n < 2 ^ 64 → Digital (decimal n)
digital n h = decimal_by_steps (λ m ds. Digital ds) one_digit more_digits n h

-- a digit is none of the bytes that begin another value
pub is_not : (b k : ℕ) → 48 ≤ b → b < 58 → 58 ≤ k → (b == k) ≡ false
is_not b k l h g = grind (arith, nat_tests)

is_not_less : (b k : ℕ) → 48 ≤ b → k < 48 → (b == k) ≡ false
is_not_less b k l g = grind (arith, nat_tests)

-- SYMBOLS

pair_digital : (p k : ℕ) → p < 2 ^ 64 → Digital (pair_text p k)
pair_digital p k h = λ rest. subst (λ bs. (48 ≤ get_or bs 0 0) × (get_or bs 0 0 < 58)) (sym (append_assoc (decimal p) (46 ∷ decimal k) rest)) (digital p h (46 ∷ (decimal k ++ rest)))

pub symbol_reads : (s : Symbol MadeSymbol) → Sound_symbol s → Reads symbol_at (symbol_pieces s) s
unfolding symbol_at
symbol_reads symbol.Iterator o listed c q h e = refl
symbol_reads (symbol.Registered t) o listed c q h e = ap (λ (g : Got (List ℕ)). (symbol.Registered g.0, g.1)) (text_read t (spelled c.names listed q) c.marks c.named o)
symbol_reads (symbol.Made s) o listed c q h e =
    let number = number_of c.names s.party.0 (known_symbol c.names s) in
    let rest = spelled (piece_names c.names (A_symbol s)) listed q in
    let b = get_or (pair_text s.party.0 number ++ rest) 0 0 in
    let digit = pair_digital s.party.0 number (omega (arith, h.0.1)) rest in
    cond-false (b == 105) _ _ (is_not b 105 digit.0 digit.1 (omega arith)) ∙ cond-false (b == 102) _ _ (is_not b 102 digit.0 digit.1 (omega arith))
    ∙ ap (λ (g : Got MadeSymbol). (symbol.Made g.0, g.1)) (made_reads s listed c q h e)

-- KEYS

digit_unit : (d : ℕ) → d < 10 → quoted_unit (48 + d) ≡ (48 + d) ∷ []
digit_unit d h =
    cond-false ((48 + d) == 34) _ _ (is_not_less (48 + d) 34 (omega arith) (omega arith))
    ∙ cond-false ((48 + d) == 92) _ _ (is_not (48 + d) 92 (omega arith) (omega (arith, h)) (omega arith))
    ∙ cond-true (nat_le 32 (48 + d) && nat_lt (48 + d) 127) _ _ (grind (arith, nat_tests))

-- the digits of a number stand between quotes as they are
pub quoted_digits : (n : ℕ) → n < 2 ^ 64 → flat_map quoted_unit (decimal n) ≡ decimal n
quoted_digits n h = decimal_by_steps (λ m ds. flat_map quoted_unit ds ≡ ds)
    (λ m l. ap (λ (x : List ℕ). x ++ []) (digit_unit m l))
    (λ m ds l e. flat_map-append quoted_unit ds ((48 + m % 10) ∷ []) ∙ (λ k. e k ++ (digit_unit (m % 10) (omega arith) k ++ [])))
    n h

joined_units : (a b : List ℕ) → AreUnits a → AreUnits b → AreUnits (a ++ b)
joined_units [] b h k = k
joined_units (u ∷ a) b h k = (h.0, joined_units a b h.1 k)

digits_are_units : (n : ℕ) → n < 2 ^ 64 → AreUnits (decimal n)
digits_are_units n h = decimal_by_steps (λ m ds. AreUnits ds) (λ m l. (omega (arith, l), tt)) (λ m ds l e. joined_units ds ((48 + m % 10) ∷ []) e (omega arith, tt)) n h

all_digits : (ds : List ℕ) → AllDigits 10 ds → list_all index.is_digit ds ≡ true
all_digits [] h = refl
all_digits (b ∷ bs) h = and_from (nat_lt (digit_value b) 10) (list_all index.is_digit bs) (lt-ltb (digit_value b) 10 h.0) (all_digits bs h.1)

no_lead : (n : ℕ) → n ≤ MAX_INDEX → has_leading_zero (decimal n) ≡ false
no_lead zero h = ap has_leading_zero (decimal_digit 0 (omega arith))
no_lead (suc n) h =
    let first = first_decimal (suc n) (omega arith) (omega (arith, h)) in
    and_right _ _ (ne_eqb (get_or (decimal (suc n)) 0 0) 48 (λ e. omega (arith, first, e)))

-- the digits of an index are its key
pub index_key : (n : ℕ) → n ≤ MAX_INDEX → key_of_text {S = MadeSymbol} (decimal n) ≡ key.Index n
index_key n h =
    let ds = decimal n in
    let numeral = decimal_is_IsNumeral n (omega (arith, h)) in
    let some = decimal_nonempty n (omega (arith, h)) in
    let few = length-decimal-le 10 n (omega arith) (omega (arith, h)) (omega (arith, h)) in
    let short : is_short ds ≡ true = and_from _ _ (lt-ltb 0 (length ds) some) (le-leb (length ds) 10 few) in
    let small : nat_le (digits_value 10 ds) MAX_INDEX ≡ true = le-leb (digits_value 10 ds) MAX_INDEX (omega (arith, numeral.1, h)) in
    let is_index : is_array_index ds ≡ true = and_from _ _ short (and_from _ _ (ap not (no_lead n h)) (and_from _ _ (all_digits ds numeral.0.1) small)) in
    cond-true (is_array_index ds) (key.Index (digits_value 10 ds)) (key.Text ds) is_index ∙ ap (λ (m : ℕ). key.Index m) numeral.1

at_sign : (s : Symbol MadeSymbol) (listed : Listed) (c : Place) (q : Pieces Ref MadeSymbol) → byte_at (at listed c (symbol_pieces s ++ q)) 0 ≡ 64
at_sign symbol.Iterator listed c q = refl
at_sign (symbol.Registered t) listed c q = refl
at_sign (symbol.Made s) listed c q = refl

abbrev key_by : ℕ → Left → Got (Key MadeSymbol)
key_by b l = cond (b == 64) (key.Symbol (symbol_at l).0, (symbol_at l).1) (key_of_text (text_at l).0, (text_at l).1)

pub key_reads : (k : Key MadeSymbol) → Sound_key k → Reads key_at (key_pieces k) k
unfolding key_at
key_reads (key.Index n) o listed c q h e =
    let rest = spelled c.names listed q in
    let ds = decimal n in
    let text : IsText ds = record { short = omega (arith, length-decimal-le 10 n (omega arith) (omega (arith, o)) (omega (arith, o))); units = digits_are_units n (omega (arith, o)) } in
    ap (λ (bs : List ℕ). key_by 34 (left ((34 ∷ (bs ++ 34 ∷ [])) ++ rest) c.marks c.named)) (sym (quoted_digits n (omega (arith, o))))
    ∙ ap (λ (g : Got (List ℕ)). (key_of_text g.0, g.1)) (text_read ds rest c.marks c.named text)
    ∙ ap (λ (k : Key MadeSymbol). (k, left rest c.marks c.named)) (index_key n o)
key_reads (key.Text t) o listed c q h e =
    let rest = spelled c.names listed q in
    ap (λ (g : Got (List ℕ)). (key_of_text g.0, g.1)) (text_read t rest c.marks c.named o.0)
    ∙ ap (λ (k : Key MadeSymbol). (k, left rest c.marks c.named)) (cond-false (is_array_index t) (key.Index (digits_value 10 t)) (key.Text t) o.1)
key_reads (key.Symbol s) o listed c q h e =
    ap (λ (b : ℕ). key_by b (at listed c (symbol_pieces s ++ q))) (at_sign s listed c q)
    ∙ ap (λ (g : Got (Symbol MadeSymbol)). (key.Symbol g.0, g.1)) (symbol_reads s o listed c q h e)

-- INTEGERS

pub not_over : (n : ℕ) → IsSafe (pos n) → n ≤ MAX_SAFE_INTEGER
not_over n h = grind (arith, ints, h.1)

pub not_under : (n : ℕ) → IsSafe (negsuc n) → suc n ≤ MAX_SAFE_INTEGER
not_under n h = grind (arith, ints, h.0)

pub integer_read : (z : ℤ) (rest : List ℕ) (m d : Listed) → IsSafe z → is_digit (get_or rest 0 0) ≡ false → integer_at (left (signed_decimal z ++ rest) m d) ≡ (z, left rest m d)
unfolding integer_at
integer_read (pos n) rest m d h e =
    let small = not_over n h in
    let digit = digital n (omega (arith, small)) rest in
    cond-false (get_or (decimal n ++ rest) 0 0 == 45) _ _ (is_not_less (get_or (decimal n ++ rest) 0 0) 45 digit.0 (omega arith))
    ∙ ap (λ (g : Got ℕ). (signed false g.0, g.1)) (number_read n rest m d (omega (arith, small)) e)
    ∙ ap (λ (z : ℤ). (z, left rest m d)) (cond-true (nat_le n MAX_SAFE_INTEGER) (pos n) (pos 0) (le-leb n MAX_SAFE_INTEGER small))
integer_read (negsuc n) rest m d h e =
    let small = not_under n h in
    ap (λ (g : Got ℕ). (signed true g.0, g.1)) (number_read (suc n) rest m d (omega (arith, small)) e)
    ∙ ap (λ (z : ℤ). (z, left rest m d)) (cond-true (nat_le (suc n) MAX_SAFE_INTEGER) (neg_ℤ (pos (suc n))) (pos 0) (le-leb (suc n) MAX_SAFE_INTEGER small))

-- VALUES

abbrev value_by : ℕ → Left → Got (Value Ref MadeSymbol)
value_by b l =
    cond (b == 34) (value.Text (text_at l).0, (text_at l).1)
    (cond (b == 64) (value.Symbol (symbol_at l).0, (symbol_at l).1)
    (cond (b == 35 || b == 37) (value.Ref (object_at l).0, (object_at l).1) (plain_value_at b l)))

-- a digit begins an integer
digit_value_read : (b : ℕ) (l : Left) → 48 ≤ b → b < 58 → value_by b l ≡ (value.Int (integer_at l).0, (integer_at l).1)
unfolding plain_value_at
digit_value_read b l h k =
    cond-false (b == 34) _ _ (is_not_less b 34 h (omega arith)) ∙ cond-false (b == 64) _ _ (is_not b 64 h k (omega arith))
    ∙ cond-false (b == 35 || b == 37) _ _ (or_from (b == 35) (b == 37) (is_not_less b 35 h (omega arith)) (is_not_less b 37 h (omega arith)))
    ∙ cond-false (b == 117) _ _ (is_not b 117 h k (omega arith)) ∙ cond-false (b == 110) _ _ (is_not b 110 h k (omega arith))
    ∙ cond-false (b == 116) _ _ (is_not b 116 h k (omega arith)) ∙ cond-false (b == 102) _ _ (is_not b 102 h k (omega arith))

pub value_reads : (v : Value Ref MadeSymbol) → Sound_value v → Reads value_at (value_pieces v) v
unfolding value_at plain_value_at
value_reads value.Undefined o listed c q h e = refl
value_reads value.Null o listed c q h e = refl
value_reads (value.Bool true) o listed c q h e = refl
value_reads (value.Bool false) o listed c q h e = refl
value_reads (value.Int (pos n)) o listed c q h e =
    let rest = spelled c.names listed q in
    let digit = digital n (omega (arith, not_over n o)) rest in
    digit_value_read (get_or (decimal n ++ rest) 0 0) (left (decimal n ++ rest) c.marks c.named) digit.0 digit.1
    ∙ ap (λ (g : Got ℤ). (value.Int g.0, g.1)) (integer_read (pos n) rest c.marks c.named o (closed_digit (get_or rest 0 0) e))
value_reads (value.Int (negsuc n)) o listed c q h e =
    let rest = spelled c.names listed q in
    ap (λ (g : Got ℤ). (value.Int g.0, g.1)) (integer_read (negsuc n) rest c.marks c.named o (closed_digit (get_or rest 0 0) e))
value_reads (value.Text t) o listed c q h e = ap (λ (g : Got (List ℕ)). (value.Text g.0, g.1)) (text_read t (spelled c.names listed q) c.marks c.named o)
value_reads (value.Symbol s) o listed c q h e =
    ap (λ (b : ℕ). value_by b (at listed c (symbol_pieces s ++ q))) (at_sign s listed c q)
    ∙ ap (λ (g : Got (Symbol MadeSymbol)). (value.Symbol g.0, g.1)) (symbol_reads s o listed c q h e)
value_reads (value.Ref (Common r)) o listed c q h e = ap (λ (g : Got Ref). (value.Ref g.0, g.1)) (object_reads (Common r) listed c q h e)
value_reads (value.Ref (Own p i)) o listed c q h e = ap (λ (g : Got Ref). (value.Ref g.0, g.1)) (object_reads (Own p i) listed c q h e)

pub truth_reads : (b : Bool) → Reads truth_at (truth_pieces b) b
unfolding truth_at
truth_reads true listed c q h e = refl
truth_reads false listed c q h e = refl

pub null_reads : (o : Option Ref) → Reads (object_or_word_at 4) (object_or_null o) o
unfolding object_or_word_at
null_reads None listed c q h e = refl
null_reads (Some (Common r)) listed c q h e = ap (λ (g : Got Ref). (Some g.0, g.1)) (object_reads (Common r) listed c q h e)
null_reads (Some (Own p i)) listed c q h e = ap (λ (g : Got Ref). (Some g.0, g.1)) (object_reads (Own p i) listed c q h e)

pub undefined_reads : (o : Option Ref) → Reads (object_or_word_at 9) (object_or_undefined o) o
unfolding object_or_word_at
undefined_reads None listed c q h e = refl
undefined_reads (Some (Common r)) listed c q h e = ap (λ (g : Got Ref). (Some g.0, g.1)) (object_reads (Common r) listed c q h e)
undefined_reads (Some (Own p i)) listed c q h e = ap (λ (g : Got Ref). (Some g.0, g.1)) (object_reads (Own p i) listed c q h e)
