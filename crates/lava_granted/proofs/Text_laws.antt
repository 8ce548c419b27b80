-- Texts that begin in ASCII, in UTF-8.
use Rattle.std.proofs.Common.{◌≡◌, ℕ, ◌<◌, false, List, [], ◌∷◌, ◌++◌, map, Option, Some, None, refl, ap, ◌∙◌, sym, arith, unwrap_or, append-nil}
use Rattle.std.proofs.lemmas.Bool.{and_left, cond-true, cond-false, lt-leb, lt-ltb}
use Rattle.std.proofs.lemmas.Str.{chars-IsAscii, encode_ascii, utf16_chars-nil, utf16_chars_lone}
use Rattle.std.proofs.lemmas.Str.Ascii.{IsAscii-cons, IsAscii-nil}
use Rattle.std.specs.Char.Utf16.{lone_unit_char, utf16_chars}
use Rattle.std.specs.List.{AllByRecursion}
use Rattle.std.specs.Prelude.{encode_utf8_all, nat_le, nat_lt, ◌&&◌}
use Rattle.std.specs.Str.{IsAscii}
use Rattle.js_text.specs.Texts.{utf8_of}
use Rattle.js_text.specs.Utf8.{units_of, utf16_of}

-- each unit, or byte, is an ASCII character
abbrev pub AllAscii : List ℕ → Type 0
AllAscii us = AllByRecursion (λ u. u < 128) us

below_surrogates : (u : ℕ) → u < 128 → nat_le 0xD800 u ≡ false
below_surrogates u lt = lt-leb 0xD800 u (omega (arith, lt))

alone : (u : ℕ) → u < 128 → lone_unit_char u ≡ Some u
alone u lt = cond-false (nat_le 0xD800 u && nat_lt u 0xE000) None (Some u) (and_left (nat_le 0xD800 u) (nat_lt u 0xE000) (below_surrogates u lt))

ascii_first : (u : ℕ) (us : List ℕ) → u < 128 → utf8_of (u ∷ us) ≡ u ∷ utf8_of us
ascii_first u us lt =
    let lossy : List (Option ℕ) → List ℕ = λ cs. encode_utf8_all (map (λ o. unwrap_or o 0xFFFD) cs) in
    let lone : utf16_chars (u ∷ us) ≡ Some u ∷ utf16_chars us =
    utf16_chars_lone u us (λ pair. absurd (omega (arith, lt, pair.0))) ∙ ap (λ o. o ∷ utf16_chars us) (alone u lt) in
    ap lossy lone ∙ ap (λ bs. bs ++ utf8_of us) (encode_ascii u lt)

-- an ASCII front is as it is in UTF-8
pub ascii_front : (a b : List ℕ) → AllAscii a → utf8_of (a ++ b) ≡ a ++ utf8_of b
ascii_front [] b h = refl
ascii_front (u ∷ a) b h = ascii_first u (a ++ b) h.0 ∙ ap (λ t. u ∷ t) (ascii_front a b h.1)

as_ascii : (bs : List ℕ) → AllAscii bs → IsAscii bs
as_ascii [] h = IsAscii-nil
as_ascii (b ∷ bs) h = IsAscii-cons b bs h.0 (as_ascii bs h.1)

ascii_in_utf16 : (cs : List ℕ) → AllAscii cs → utf16_of cs ≡ cs
ascii_in_utf16 [] h = refl
ascii_in_utf16 (c ∷ cs) h =
    let few : c < 0x10000 = omega (arith, h.0) in
    ap (λ us. us ++ utf16_of cs) (cond-true (nat_lt c 0x10000) (c ∷ []) _ (lt-ltb c 0x10000 few)) ∙ ap (λ us. c ∷ us) (ascii_in_utf16 cs h.1)

-- ASCII bytes are the units of their text
pub ascii_units : (bs : List ℕ) → AllAscii bs → units_of bs ≡ bs
ascii_units bs h = ap utf16_of (chars-IsAscii bs (as_ascii bs h)) ∙ ascii_in_utf16 bs h

utf8_of_nothing : utf8_of [] ≡ []
utf8_of_nothing = ap (λ cs. encode_utf8_all (map (λ o. unwrap_or o 0xFFFD) cs)) utf16_chars-nil

-- and units in ASCII are the bytes of theirs
pub ascii_bytes : (us : List ℕ) → AllAscii us → utf8_of us ≡ us
ascii_bytes us h =
    sym (ap utf8_of (append-nil us)) ∙ ascii_front us [] h ∙ ap (λ t. us ++ t) utf8_of_nothing ∙ append-nil us
