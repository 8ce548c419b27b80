-- The UTF-16 of characters, one more at a time.
use Rattle.std.proofs.Common.{◌≡◌, ℕ, ◌+◌, ◌<◌, ◌≤◌, List, [], ◌∷◌, ◌++◌, length, min, refl, ap, sym, ◌∙◌, append-nil, arith}
use Rattle.std.proofs.lemmas.List.{append_assoc, length-append}
use Rattle.std.proofs.lemmas.Bool.Decides.{nat_tests}
use Rattle.std.specs.Char.Escape.{encode_utf16}
use Rattle.js_text.specs.Utf8.{utf16_of}

pub utf16_append : (xs ys : List ℕ) → utf16_of (xs ++ ys) ≡ utf16_of xs ++ utf16_of ys
utf16_append [] ys = refl
utf16_append (x ∷ xs) ys = ap (λ l. encode_utf16 x ++ l) (utf16_append xs ys) ∙ sym (append_assoc (encode_utf16 x) (utf16_of xs) (utf16_of ys))

pub utf16_push : (xs : List ℕ) (c : ℕ) → utf16_of (xs ++ c ∷ []) ≡ utf16_of xs ++ encode_utf16 c
utf16_push xs c = utf16_append xs (c ∷ []) ∙ ap (λ l. utf16_of xs ++ l) (append-nil (encode_utf16 c))

encoded_len : (c n : ℕ) → (c < 65536 → n ≡ 1) → (65536 ≤ c → n ≡ 2) → n ≡ length (encode_utf16 c)
encoded_len c n one two = grind (arith, nat_tests)

pub capped_push : (xs : List ℕ) (c n len most : ℕ) → (c < 65536 → n ≡ 1) → (65536 ≤ c → n ≡ 2) → len ≡ min (length (utf16_of xs)) most
    → min (len + n) most ≡ min (length (utf16_of (xs ++ c ∷ []))) most
capped_push xs c n len most one two is =
    omega (arith, is, encoded_len c n one two, ap length (utf16_push xs c), length-append (utf16_of xs) (encode_utf16 c))
