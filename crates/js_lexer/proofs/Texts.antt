-- What the next character does to what is left of a text.
use Rattle.std.proofs.Common.{◌≡◌, ℕ, MatchOption, List, [], ◌∷◌, ◌++◌, length, Option, Some, None, refl, sym, ap, ◌∙◌, ◌-◌, ◌≤◌, take, length-append, arith}
use Rattle.std.proofs.Math.Seq.{take-append_seam}
use Rattle.std.specs.Str.{IsUtf8, chars, encode_utf8_all}
use Rattle.std.specs.Char.{encode_utf8}
use Rattle.std.proofs.lemmas.Str.{chars_past_char, chars-nil, encodes-chars, encodes-append}

empty : (bs : List ℕ) → length bs ≡ 0 → bs ≡ []
empty [] h = refl
empty (b ∷ bs) h = absurd (cc)

pub next_character : (r : Option ℕ) (old new : List ℕ) → IsUtf8 old → MatchOption r ((length old ≡ 0) × (new ≡ old)) (λ c. old ≡ encode_utf8 c ++ new) →
    MatchOption r ((chars old ≡ []) × (chars new ≡ [])) (λ c. chars old ≡ c ∷ chars new)
next_character None old new u h =
    let e : chars old ≡ [] = ap chars (empty old h.0) ∙ chars-nil in (e, ap chars h.1 ∙ e)
next_character (Some c) old new u h = chars_past_char old new c u h

pub no_characters : (bs : List ℕ) → length bs ≡ 0 → chars bs ≡ []
no_characters bs h = ap chars (empty bs h) ∙ chars-nil

pub bytes_left : (bs : List ℕ) → IsUtf8 bs → length bs ≡ length (encode_utf8_all (chars bs))
bytes_left bs u = ap length (sym (encodes-chars bs u))

front_of_both : (a b : List ℕ) (n : ℕ) → n ≡ length a → take n (a ++ b) ≡ a
front_of_both a b n e = ap (λ m. take m (a ++ b)) e ∙ take-append_seam a b

-- the bytes of a front
pub bytes_between : (bs w ys : List ℕ) → IsUtf8 bs → chars bs ≡ w ++ ys → take (length bs - length (encode_utf8_all ys)) bs ≡ encode_utf8_all w
bytes_between bs w ys u e =
    let whole : bs ≡ encode_utf8_all w ++ encode_utf8_all ys = sym (encodes-chars bs u) ∙ ap encode_utf8_all e ∙ encodes-append w ys in
    let size : length bs - length (encode_utf8_all ys) ≡ length (encode_utf8_all w) = omega (arith, ap length whole ∙ length-append (encode_utf8_all w) (encode_utf8_all ys)) in
    ap (λ z. take (length bs - length (encode_utf8_all ys)) z) whole ∙ front_of_both (encode_utf8_all w) (encode_utf8_all ys) (length bs - length (encode_utf8_all ys)) size

pub fits_between : (bs w ys : List ℕ) → IsUtf8 bs → chars bs ≡ w ++ ys → length (encode_utf8_all ys) ≤ length bs
fits_between bs w ys u e =
    let whole : bs ≡ encode_utf8_all w ++ encode_utf8_all ys = sym (encodes-chars bs u) ∙ ap encode_utf8_all e ∙ encodes-append w ys in
    omega (arith, ap length whole ∙ length-append (encode_utf8_all w) (encode_utf8_all ys))
