-- Fixed keys, one after another.
use Rattle.std.proofs.Common.{◌≡◌, ℕ, zero, suc, ◌+◌, ◌<◌, ◌≤◌, Bool, true, ◌&&◌, ◌||◌, List, [], ◌∷◌, length, drop, get_or, refl, ap, ◌∙◌, arith}
use Rattle.std.specs.Prelude.{not, min}
use Rattle.js_text.specs.declared.value.Key.{Key}
use Rattle.js_operations.specs.KeyLists.{is_among}
use Rattle.js_traps.specs.KeysTrap.{fixed_are_among}

module _ {S : Type 0} (made : S → S → Bool) where
  fixed_by : (i : ℕ) (told ks : List (Key S)) (fs : List Bool) (d : Key S) (e : Bool) → i < length ks → i < length fs
      → fixed_are_among made told (drop i ks) (drop i fs) ≡ ((not (get_or fs i e) || is_among made told (get_or ks i d)) && fixed_are_among made told (drop (suc i) ks) (drop (suc i) fs))
  fixed_by i told [] fs d e l m = absurd (omega arith)
  fixed_by i told (k ∷ ks) [] d e l m = absurd (omega arith)
  fixed_by zero told (k ∷ ks) (f ∷ fs) d e l m = refl
  fixed_by (suc i) told (k ∷ ks) (f ∷ fs) d e l m = fixed_by i told ks fs d e (omega arith) (omega arith)

  -- the rest are told where the next one is, and what is behind it
  pub fixed_next : (i : ℕ) (told ks : List (Key S)) (fs : List Bool) (d : Key S) (e : Bool) → i < length ks → i < length fs
      → fixed_are_among made told (drop i ks) (drop i fs) ≡ ((not (get_or fs i e) || is_among made told (get_or ks i d)) && fixed_are_among made told (drop (i + 1) ks) (drop (i + 1) fs))
  fixed_next i told ks fs d e l m =
      let p : suc i ≡ i + 1 = omega arith in
      fixed_by i told ks fs d e l m ∙ ap (λ n. (not (get_or fs i e) || is_among made told (get_or ks i d)) && fixed_are_among made told (drop n ks) (drop n fs)) p

  pub fixed_end : (i : ℕ) (told ks : List (Key S)) (fs : List Bool) → min (length ks) (length fs) ≤ i → fixed_are_among made told (drop i ks) (drop i fs) ≡ true
  fixed_end zero told [] fs l = refl
  fixed_end (suc i) told [] fs l = refl
  fixed_end zero told (k ∷ ks) [] l = refl
  fixed_end (suc i) told (k ∷ ks) [] l = nothing (drop i ks) where
    nothing : (ks : List (Key S)) → fixed_are_among made told ks [] ≡ true
    nothing [] = refl
    nothing (k ∷ ks) = refl
  fixed_end zero told (k ∷ ks) (f ∷ fs) l = absurd (omega arith)
  fixed_end (suc i) told (k ∷ ks) (f ∷ fs) l = fixed_end i told ks fs (omega (arith, l))
