-- Laws of digits and of the numbers that they write.
use Rattle.std.proofs.Common.{◌≡◌, ℕ, zero, suc, ◌+◌, ◌*◌, ◌^◌, ◌<◌, ◌≤◌, List, [], ◌∷◌, ◌++◌, length, get_or, take, drop, refl, ap, sym, ◌∙◌, arith, drop-cons, add-one}
use Rattle.std.proofs.Math.Nat.{pow-suc, le-mul_of_pos_right}
use Rattle.std.specs.Char.{digit_value}
use Rattle.std.specs.Str.Parse.{AllDigits, digits_value, digits_value_after}

pub after_ge : (radix n : ℕ) (ds : List ℕ) → 1 ≤ radix → n ≤ digits_value_after radix n ds
after_ge radix n [] h = omega arith
after_ge radix n (c ∷ cs) h =
    omega (arith, le-mul_of_pos_right {m = radix} n (omega arith), after_ge radix (n * radix + digit_value c) cs h)

pub after_append : (radix n : ℕ) (xs ys : List ℕ) → digits_value_after radix n (xs ++ ys) ≡ digits_value_after radix (digits_value_after radix n xs) ys
after_append radix n [] ys = refl
after_append radix n (c ∷ cs) ys = after_append radix (n * radix + digit_value c) cs ys

shifted : (n d v p q : ℕ) → q ≡ p * 10 → (n * 10 + d) * p + v ≡ n * q + ((0 + d) * p + v)
shifted n d v p q e = rw e (omega arith)

pub after_is : (n : ℕ) (ds : List ℕ) → digits_value_after 10 n ds ≡ n * 10 ^ length ds + digits_value 10 ds
after_is n [] = omega arith
after_is n (c ∷ cs) =
    after_is (n * 10 + digit_value c) cs
    ∙ shifted n (digit_value c) (digits_value 10 cs) (10 ^ length cs) (10 ^ suc (length cs)) (pow-suc 10 (length cs))
    ∙ ap (λ v. n * 10 ^ suc (length cs) + v) (sym (after_is (0 + digit_value c) cs))

pub value_append : (xs ys : List ℕ) → digits_value 10 (xs ++ ys) ≡ digits_value 10 xs * 10 ^ length ys + digits_value 10 ys
value_append xs ys = after_append 10 0 xs ys ∙ after_is (digits_value 10 xs) ys

pub all_append : (radix : ℕ) (xs ys : List ℕ) → AllDigits radix xs → AllDigits radix ys → AllDigits radix (xs ++ ys)
all_append radix [] ys h k = k
all_append radix (c ∷ cs) ys h k = (h.0, all_append radix cs ys h.1 k)

-- one digit more is read
pub after_step : (radix n i : ℕ) (ds : List ℕ) → i < length ds → digits_value_after radix n (drop i ds) ≡ digits_value_after radix (n * radix + digit_value (get_or ds i 0)) (drop (i + 1) ds)
after_step radix n i ds h = rw add-one (ap (digits_value_after radix n) (drop-cons ds i 0 h))

pub all_digit_at : (radix : ℕ) (ds : List ℕ) (i : ℕ) → AllDigits radix ds → i < length ds → digit_value (get_or ds i 0) < radix
all_digit_at radix [] i all h = absurd (omega arith)
all_digit_at radix (c ∷ cs) zero all h = all.0
all_digit_at radix (c ∷ cs) (suc i) all h = all_digit_at radix cs i all.1 (omega arith)

pub all_take : (radix : ℕ) (ds : List ℕ) (i : ℕ) → AllDigits radix ds → AllDigits radix (take i ds)
all_take radix ds zero all = tt
all_take radix [] (suc i) all = tt
all_take radix (c ∷ cs) (suc i) all = (all.0, all_take radix cs i all.1)

pub all_drop : (radix : ℕ) (ds : List ℕ) (i : ℕ) → AllDigits radix ds → AllDigits radix (drop i ds)
all_drop radix ds zero all = all
all_drop radix [] (suc i) all = tt
all_drop radix (c ∷ cs) (suc i) all = all_drop radix cs i all.1
