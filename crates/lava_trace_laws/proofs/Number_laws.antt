-- A number that is written in decimal is read back.
use Rattle.std.proofs.Common.{◌≡◌, ℕ, ◌+◌, ◌-◌, ◌*◌, ◌%◌, ◌/◌, ◌^◌, ◌<◌, ◌≤◌, true, false, cond, List, [], ◌∷◌, ◌++◌, decimal, get_or, refl, ap, ◌∙◌, arith}
use Rattle.std.proofs.lemmas.List.{append_assoc}
use Rattle.std.proofs.lemmas.Fmt.{decimal_by_steps}
use Rattle.std.proofs.lemmas.Bool.Decides.{nat_tests}
use Rattle.lava_trace.specs.Left.{is_digit, number_from}

-- no digit more
pub digit_end : (v : ℕ) (bs : List ℕ) → is_digit (get_or bs 0 0) ≡ false → number_from v bs ≡ (v, bs)
unfolding number_from
digit_end v [] h = refl
digit_end v (b ∷ bs) h = ap (λ t. cond t (number_from (((v * 10) % 2 ^ 64 + (b - 48)) % 2 ^ 64) bs) (v, b ∷ bs)) h

digit_is : (d : ℕ) → d < 10 → is_digit (48 + d) ≡ true
digit_is d h = grind (arith, nat_tests)

kept : (v d : ℕ) → v * 10 + d < 2 ^ 64 → ((v * 10) % 2 ^ 64 + (48 + d - 48)) % 2 ^ 64 ≡ v * 10 + d
kept v d k = omega arith

-- one digit more
digit_step : (v d : ℕ) (rest : List ℕ) → d < 10 → v * 10 + d < 2 ^ 64 → number_from v ((48 + d) ∷ rest) ≡ number_from (v * 10 + d) rest
unfolding number_from
digit_step v d rest h k =
    ap (λ t. cond t (number_from (((v * 10) % 2 ^ 64 + (48 + d - 48)) % 2 ^ 64) rest) (v, (48 + d) ∷ rest)) (digit_is d h)
    ∙ ap (λ (m : ℕ). number_from m rest) (kept v d k)

-- digits that are read whole, whatever is behind them
abbrev Whole : ℕ → List ℕ → Type 0
Whole n ds = (rest : List ℕ) → n < 2 ^ 64 → number_from 0 (ds ++ rest) ≡ number_from n rest

one : (n : ℕ) → n < 10 → Whole n ((48 + n) ∷ [])
one n h = λ rest k. digit_step 0 n rest h (omega arith) ∙ ap (λ (m : ℕ). number_from m rest) (omega arith)

more : (n : ℕ) (ds : List ℕ) → 10 ≤ n → Whole (n / 10) ds → Whole n (ds ++ ((48 + n % 10) ∷ []))
more n ds h r = λ rest k.
    ap (λ l. number_from 0 l) (append_assoc ds ((48 + n % 10) ∷ []) rest)
    ∙ r ((48 + n % 10) ∷ rest) (omega arith)
    ∙ digit_step (n / 10) (n % 10) rest (omega arith) (omega arith)
    ∙ ap (λ (m : ℕ). number_from m rest) (omega arith)

pub number_of_decimal : (n : ℕ) (rest : List ℕ) → n < 2 ^ 64 → is_digit (get_or rest 0 0) ≡ false → number_from 0 (decimal n ++ rest) ≡ (n, rest)
number_of_decimal n rest h e = decimal_by_steps Whole one more n h rest h ∙ digit_end n rest e
