-- Values behind a first one, one after another.
use Rattle.std.proofs.Common.{◌≡◌, ℕ, zero, suc, ◌+◌, ◌<◌, ◌≤◌, List, [], ◌∷◌, ◌++◌, length, take, get_or, refl, ap, ◌∙◌, arith}

module _ {A : Type 0} where
  behind_more : (i : ℕ) (xs : List A) (d : A) → i < length xs → take (suc i) xs ≡ take i xs ++ get_or xs i d ∷ []
  behind_more i [] d l = absurd (omega arith)
  behind_more zero (x ∷ xs) d l = refl
  behind_more (suc i) (x ∷ xs) d l = ap (λ t. x ∷ t) (behind_more i xs d (omega arith))

  pub one_more_behind : (i : ℕ) (first : A) (xs : List A) (d : A) → i < length xs → first ∷ take (i + 1) xs ≡ (first ∷ take i xs) ++ get_or xs i d ∷ []
  one_more_behind i first xs d l = let e : i + 1 ≡ suc i = omega arith in ap (λ n. first ∷ take n xs) e ∙ ap (λ t. first ∷ t) (behind_more i xs d l)

  pub all_behind : (i : ℕ) (first : A) (xs : List A) → length xs ≤ i → first ∷ take i xs ≡ first ∷ xs
  all_behind i first xs l = ap (λ t. first ∷ t) (all i xs l) where
    all : (i : ℕ) (xs : List A) → length xs ≤ i → take i xs ≡ xs
    all zero [] l = refl
    all (suc i) [] l = refl
    all zero (x ∷ xs) l = absurd (omega arith)
    all (suc i) (x ∷ xs) l = ap (λ t. x ∷ t) (all i xs (omega arith))
