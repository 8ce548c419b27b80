-- Texts joined one after another.
use Rattle.std.proofs.Common.{◌≡◌, ℕ, zero, suc, ◌+◌, ◌<◌, ◌≤◌, true, ◌&&◌, List, [], ◌∷◌, ◌++◌, length, take, drop, get_or, refl, ap, sym, ◌∙◌, append_assoc, length-append, arith}
use Rattle.js_text.specs.declared.value.Value.{Value}
use Rattle.js_native.specs.TextNatives.{are_texts, is_text, joined_texts, text_of_value}

append-nil : (xs : List ℕ) → xs ++ [] ≡ [] ++ xs
append-nil [] = refl
append-nil (x ∷ xs) = ap (λ t. x ∷ t) (append-nil xs)

module _ {R S : Type 0} where
  joined_more : (i : ℕ) (vs : List (Value R S)) (d : Value R S) → i < length vs → joined_texts (take (suc i) vs) ≡ joined_texts (take i vs) ++ text_of_value (get_or vs i d)
  joined_more i [] d l = absurd (omega arith)
  joined_more zero (v ∷ vs) d l = append-nil (text_of_value v)
  joined_more (suc i) (v ∷ vs) d l =
      ap (λ t. text_of_value v ++ t) (joined_more i vs d (omega arith)) ∙ sym (append_assoc (text_of_value v) (joined_texts (take i vs)) (text_of_value (get_or vs i d)))

  -- one more text
  pub joined_step : (i : ℕ) (vs : List (Value R S)) (d : Value R S) → i < length vs → joined_texts (take (i + 1) vs) ≡ joined_texts (take i vs) ++ text_of_value (get_or vs i d)
  joined_step i vs d l = let e : i + 1 ≡ suc i = omega arith in ap (λ n. joined_texts (take n vs)) e ∙ joined_more i vs d l

  joined_part : (i : ℕ) (vs : List (Value R S)) → length (joined_texts (take i vs)) ≤ length (joined_texts vs)
  joined_part zero vs = omega arith
  joined_part (suc i) [] = omega arith
  joined_part (suc i) (v ∷ vs) =
      let h = joined_part i vs in
      let a = length-append (text_of_value v) (joined_texts (take i vs)) in
      let b = length-append (text_of_value v) (joined_texts vs) in
      omega (arith, h, a, b)

  -- what is too long already is too long in the end
  pub joined_within : (i : ℕ) (vs : List (Value R S)) (d : Value R S) (m : ℕ) → i < length vs → m < length (joined_texts (take i vs) ++ text_of_value (get_or vs i d)) → m < length (joined_texts vs)
  joined_within i vs d m l h = let p = joined_part (i + 1) vs in let e = ap length (joined_step i vs d l) in omega (arith, p, e)

  pub joined_all : (i : ℕ) (vs : List (Value R S)) → length vs ≤ i → joined_texts (take i vs) ≡ joined_texts vs
  joined_all zero [] l = refl
  joined_all (suc i) [] l = refl
  joined_all zero (v ∷ vs) l = absurd (omega arith)
  joined_all (suc i) (v ∷ vs) l = ap (λ t. text_of_value v ++ t) (joined_all i vs (omega arith))

  texts_next : (i : ℕ) (vs : List (Value R S)) (d : Value R S) → i < length vs → are_texts (drop i vs) ≡ is_text (get_or vs i d) && are_texts (drop (suc i) vs)
  texts_next i [] d l = absurd (omega arith)
  texts_next zero (v ∷ vs) d l = refl
  texts_next (suc i) (v ∷ vs) d l = texts_next i vs d (omega arith)

  -- whether the rest are texts
  pub texts_step : (i : ℕ) (vs : List (Value R S)) (d : Value R S) → i < length vs → are_texts (drop i vs) ≡ is_text (get_or vs i d) && are_texts (drop (i + 1) vs)
  texts_step i vs d l = let e : suc i ≡ i + 1 = omega arith in texts_next i vs d l ∙ ap (λ n. is_text (get_or vs i d) && are_texts (drop n vs)) e

  pub texts_end : (i : ℕ) (vs : List (Value R S)) → length vs ≤ i → are_texts (drop i vs) ≡ true
  texts_end zero [] l = refl
  texts_end (suc i) [] l = refl
  texts_end zero (v ∷ vs) l = absurd (omega arith)
  texts_end (suc i) (v ∷ vs) l = texts_end i vs (omega arith)
