-- Texts in UTF-8 are what their units say again.
use Rattle.std.proofs.Common.{◌≡◌, ◌⊎◌, ◌<◌, ◌≤◌, ℕ, ◌+◌, ◌-◌, ◌/◌, ◌%◌, ◌&&◌, true, false, nat_lt, List, [], ◌∷◌, ◌++◌, map, get_or, Some, None, ap, ◌∙◌, ⊎_elim, arith, unwrap_or}
use Rattle.std.proofs.lemmas.Bool.{and_left, and_parts, and_right, cases_Bool, cond-true, cond-false, le-ltb, lt-leb, ltb-false}
use Rattle.std.proofs.lemmas.Str.{encodes-chars, scalars-chars, utf16_chars-nil, utf16_chars_lone, utf16_chars_pair}
use Rattle.std.specs.Char.Escape.{encode_utf16}
use Rattle.std.specs.Char.Utf16.{surrogate_pair_char, utf16_chars, utf16_lossy_chars}
use Rattle.std.specs.Prelude.{IsUtf8, chars, encode_utf8_all, nat_le}
use Rattle.js_text.specs.Indices.{is_array_index}
use Rattle.js_text.specs.Texts.{utf8_of}
use Rattle.js_text.specs.Utf8.{units_of, utf16_of}
use Rattle.policy_globals.specs.Keys.{has_point}
use Rattle.lava_granted.specs.FreeNames.{IsIdentifier}
use lib.Utf8.{scalar, scalar_cases, scalars}

abbrev IsNoSurrogate : ℕ → Type 0
IsNoSurrogate c = (c < 55296) ⊎ ((57344 ≤ c) × (c < 1114112))

lone_by : (c : ℕ) → IsNoSurrogate c → (nat_le 0xD800 c && nat_lt c 0xE000) ≡ false
lone_by c h =
    ⊎_elim
    (λ low. and_left (nat_le 0xD800 c) (nat_lt c 0xE000) (lt-leb 0xD800 c low))
    (λ (high : (57344 ≤ c) × (c < 1114112)). and_right (nat_le 0xD800 c) (nat_lt c 0xE000) (le-ltb c 0xE000 high.0))
    h

no_pair : (c v : ℕ) → IsNoSurrogate c → (0xD800 ≤ c) × (c < 0xDC00) × (0xDC00 ≤ v) × (v < 0xE000) → ⊥
no_pair c v h pair =
    let from = pair.0 in
    let to = pair.1 in
    ⊎_elim (λ low. absurd (omega (arith, low, from))) (λ (high : (57344 ≤ c) × (c < 1114112)). let least = high.0 in absurd (omega (arith, least, to))) h

one_unit : (c : ℕ) (us : List ℕ) → IsNoSurrogate c → utf16_chars (c ∷ us) ≡ Some c ∷ utf16_chars us
one_unit c us h =
    utf16_chars_lone c us (no_pair c (get_or us 0 0) h) ∙ ap (λ o. o ∷ utf16_chars us) (cond-false (nat_le 0xD800 c && nat_lt c 0xE000) None (Some c) (lone_by c h))

two_units : (c : ℕ) (us : List ℕ) → 0x10000 ≤ c → c < 1114112
    → utf16_chars ((0xD800 + (c - 0x10000) / 0x400) ∷ (0xDC00 + (c - 0x10000) % 0x400) ∷ us) ≡ Some c ∷ utf16_chars us
two_units c us least most =
    let high = 0xD800 + (c - 0x10000) / 0x400 in
    let low = 0xDC00 + (c - 0x10000) % 0x400 in
    let char : surrogate_pair_char high low ≡ c = omega (arith, least, most) in
    utf16_chars_pair high low us (omega arith, omega (arith, least, most), omega arith, omega arith) ∙ ap (λ d. Some d ∷ utf16_chars us) char

past_units : (c : ℕ) → 0x10000 ≤ c → IsNoSurrogate c → c < 1114112
past_units c least h = ⊎_elim (λ low. absurd (omega (arith, least, low))) (λ (high : (57344 ≤ c) × (c < 1114112)). high.1) h

one_char : (c : ℕ) (us : List ℕ) → IsNoSurrogate c → utf16_chars (encode_utf16 c ++ us) ≡ Some c ∷ utf16_chars us
one_char c us h =
    ⊎_elim
    (λ e. ap (λ front. utf16_chars (front ++ us)) (cond-true (nat_lt c 0x10000) (c ∷ []) _ e) ∙ one_unit c us h)
    (λ e. let least = ltb-false c 0x10000 e in
    ap (λ front. utf16_chars (front ++ us)) (cond-false (nat_lt c 0x10000) (c ∷ []) _ e) ∙ two_units c us least (past_units c least h))
    (cases_Bool (nat_lt c 0x10000))

same_chars : (cs : List ℕ) → scalars cs ≡ true → utf16_lossy_chars (utf16_of cs) ≡ cs
same_chars [] h = ap (map (λ o. unwrap_or o 0xFFFD)) utf16_chars-nil
same_chars (c ∷ cs) h =
    let both = and_parts (scalar c) (scalars cs) h in
    ap (map (λ o. unwrap_or o 0xFFFD)) (one_char c (utf16_of cs) (scalar_cases c both.0)) ∙ ap (λ ds. c ∷ ds) (same_chars cs both.1)

-- bytes in UTF-8 are those of their units
pub utf8_back : (bytes : List ℕ) → IsUtf8 bytes → utf8_of (units_of bytes) ≡ bytes
utf8_back bytes h = ap encode_utf8_all (same_chars (chars bytes) (scalars-chars bytes h)) ∙ encodes-chars bytes h

pub names_are_identifiers : (bytes : List ℕ) → IsUtf8 bytes → has_point bytes ≡ false → is_array_index (units_of bytes) ≡ false → IsIdentifier (units_of bytes)
names_are_identifiers bytes h one named =
    let back = utf8_back bytes h in record { text = ap units_of back; one = ap has_point back ∙ one; named = named }
