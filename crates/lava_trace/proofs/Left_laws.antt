-- A number, digit by digit, and a path, place by place.
use Rattle.std.proofs.Common.{◌≡◌, ℕ, ◌+◌, ◌-◌, ◌*◌, ◌%◌, ◌^◌, ◌<◌, true, false, cond, List, [], ◌∷◌, length, drop, get_or, refl, ap, ◌∙◌, sym, arith, true≢false}
use Rattle.std.proofs.lemmas.List.{get_or_default}
use Rattle.lava_trace.specs.Left.{is_digit, number_from}

-- a digit more
pub digit_more : (v : ℕ) (bs : List ℕ) → is_digit (get_or bs 0 0) ≡ true → number_from (((v * 10) % 2 ^ 64 + (get_or bs 0 0 - 48)) % 2 ^ 64) (drop 1 bs) ≡ number_from v bs
unfolding number_from
digit_more v [] h = absurd (true≢false (sym h))
digit_more v (b ∷ bs) h = ap (λ t. cond t (number_from (((v * 10) % 2 ^ 64 + (b - 48)) % 2 ^ 64) bs) (v, b ∷ bs)) (sym h)

-- no digit more
pub digit_end : (v : ℕ) (bs : List ℕ) → is_digit (get_or bs 0 0) ≡ false → number_from v bs ≡ (v, bs)
unfolding number_from
digit_end v [] h = refl
digit_end v (b ∷ bs) h = ap (λ t. cond t (number_from (((v * 10) % 2 ^ 64 + (b - 48)) % 2 ^ 64) bs) (v, b ∷ bs)) h

-- a byte that is no 0 is there
pub digit_left : (bs : List ℕ) → is_digit (get_or bs 0 0) ≡ true → 0 < length bs
digit_left [] h = absurd (true≢false (sym h))
digit_left (b ∷ bs) h = omega arith

-- an item that is there, whatever stands for one that is not
pub same_item : {X : Type 0} (xs : List X) (i : ℕ) (x d : X) → i < length xs → x ≡ get_or xs i x → x ≡ get_or xs i d
same_item xs i x d h e = e ∙ get_or_default xs i x d h
