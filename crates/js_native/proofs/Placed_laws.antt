-- Texts with their places, one after another.
use Rattle.std.proofs.Common.{◌≡◌, ℕ, zero, suc, ◌+◌, ◌<◌, ◌≤◌, List, [], ◌∷◌, ◌++◌, length, take, get_or, refl, ap, ◌∙◌, arith}
use Rattle.js_native.specs.SortedPlaces.{placed_texts}

placed_more : (i n m : ℕ) (ts : List (List ℕ)) (d : List ℕ) → i < length ts → n + i ≡ m
    → placed_texts n (take (suc i) ts) ≡ placed_texts n (take i ts) ++ record { text = record { 0 = get_or ts i d }; place = m } ∷ []
placed_more i n m [] d l e = absurd (omega arith)
placed_more zero n m (t ∷ ts) d l e = let p : n ≡ m = omega arith in ap (λ k. record { text = record { 0 = t }; place = k } ∷ []) p
placed_more (suc i) n m (t ∷ ts) d l e = ap (λ x. record { text = record { 0 = t }; place = n } ∷ x) (placed_more i (n + 1) m ts d (omega arith) (omega arith))

pub placed_step : (i : ℕ) (ts : List (List ℕ)) (d : List ℕ) → i < length ts
    → placed_texts 0 (take (i + 1) ts) ≡ placed_texts 0 (take i ts) ++ record { text = record { 0 = get_or ts i d }; place = i } ∷ []
placed_step i ts d l = let e : i + 1 ≡ suc i = omega arith in ap (λ n. placed_texts 0 (take n ts)) e ∙ placed_more i 0 i ts d l (omega arith)

take_all : (i : ℕ) (ts : List (List ℕ)) → length ts ≤ i → take i ts ≡ ts
take_all zero [] l = refl
take_all (suc i) [] l = refl
take_all zero (t ∷ ts) l = absurd (omega arith)
take_all (suc i) (t ∷ ts) l = ap (λ x. t ∷ x) (take_all i ts (omega arith))

pub placed_all : (i : ℕ) (ts : List (List ℕ)) → length ts ≤ i → placed_texts 0 (take i ts) ≡ placed_texts 0 ts
placed_all i ts l = ap (λ x. placed_texts 0 x) (take_all i ts l)
