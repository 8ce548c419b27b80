-- From one spot to another.
use Rattle.std.proofs.Common.{◌≡◌, ◌<◌, ◌≤◌, ◌+◌, ℕ, List, [], ◌∷◌, ◌++◌, length, refl, sym, ap, ◌∙◌, length-append, arith}
use Rattle.std.specs.Char.{encode_utf8}
use Rattle.std.specs.Str.{encode_utf8_all}
use Rattle.std.proofs.lemmas.Str.{encodes-append, length-le-encodes}
use Rattle.std.proofs.lemmas.List.{append_cancel_right}
use Rattle.js_lexer.specs.declared.spot.Spot.{Spot}
use Rattle.js_lexer.specs.Spots.{over}

-- where more bytes are left than behind, a character stands between
pub one_more : (c : ℕ) (cs ys w : List ℕ) → c ∷ cs ≡ w ++ ys → length (encode_utf8_all ys) < length (encode_utf8_all (c ∷ cs)) → (v : List ℕ) × (cs ≡ v ++ ys) × (w ≡ c ∷ v)
one_more c cs ys [] e h = absurd (omega (arith, h, ap (λ z. length (encode_utf8_all z)) e))
one_more c cs ys (x ∷ v) e h = (v, tails e, ap (λ z. z ∷ v) (sym (heads e)))
  where
    heads : c ∷ cs ≡ x ∷ (v ++ ys) → c ≡ x
    heads e = cc

    tails : c ∷ cs ≡ x ∷ (v ++ ys) → cs ≡ v ++ ys
    tails e = cc

-- where no more are, none does
pub none_more : (xs ys w : List ℕ) → xs ≡ w ++ ys → length (encode_utf8_all xs) ≤ length (encode_utf8_all ys) → w ≡ []
none_more xs ys [] e h = refl
none_more xs ys (c ∷ w) e h =
    absurd (omega (arith, h, ap (λ z. length (encode_utf8_all z)) e, ap length (encodes-append (c ∷ w) ys), length-append (encode_utf8_all (c ∷ w)) (encode_utf8_all ys), length-le-encodes (c ∷ w), some c w))
  where
    some : (c : ℕ) (w : List ℕ) → 1 ≤ length (c ∷ w)
    some c w = omega arith

pub one_front : (v w ys xs : List ℕ) → xs ≡ v ++ ys → xs ≡ w ++ ys → v ≡ w
one_front v w ys xs a b = append_cancel_right v w ys (sym a ∙ b)

pub bytes_behind : (s : Spot) (c : ℕ) (cs : List ℕ) (t : Spot) (total : ℕ) → t ≡ over s c → s.offset + length (encode_utf8_all (c ∷ cs)) ≡ total → t.offset + length (encode_utf8_all cs) ≡ total
bytes_behind s c cs t total e h =
    omega (arith, ap (λ z. z.offset) e, h, ap length (encodes-append (c ∷ []) cs), length-append (encode_utf8 c) (encode_utf8_all cs))
