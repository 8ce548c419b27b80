-- Lists of items, read one after the other.
use Rattle.std.proofs.Common.{◌≡◌, ℕ, zero, suc, ◌+◌, ◌<◌, ◌≤◌, true, ◌&&◌, List, [], ◌∷◌, length, drop, get_or, refl, ap, ◌∙◌, arith}
use Rattle.js_native.specs.TextNatives.{are_texts, is_text}
use Rattle.js_native_steps.specs.Steps.{MachineValue}

abbrev V : Type 0
V = MachineValue

-- what a list has from a place on
dropped : (i : ℕ) (vs : List V) (d : V) → i < length vs → drop i vs ≡ get_or vs i d ∷ drop (suc i) vs
dropped i [] d l = absurd (omega (arith, l))
dropped zero (v ∷ vs) d l = refl
dropped (suc i) (v ∷ vs) d l = dropped i vs d (omega (arith, l))

next : (i : ℕ) → suc i ≡ i + 1
next i = omega arith

pub one_more : (i : ℕ) (vs : List V) (d : V) → i < length vs → drop i vs ≡ get_or vs i d ∷ drop (i + 1) vs
one_more i vs d l = dropped i vs d l ∙ ap (λ n. get_or vs i d ∷ drop n vs) (next i)

pub no_more : (i : ℕ) (vs : List V) → length vs ≤ i → drop i vs ≡ []
no_more zero [] l = refl
no_more (suc i) [] l = refl
no_more zero (v ∷ vs) l = absurd (omega (arith, l))
no_more (suc i) (v ∷ vs) l = no_more i vs (omega (arith, l))

pub texts_step : (i : ℕ) (vs : List V) (d : V) → i < length vs → are_texts (drop i vs) ≡ is_text (get_or vs i d) && are_texts (drop (i + 1) vs)
texts_step i vs d l = ap are_texts (one_more i vs d l)

pub texts_end : (i : ℕ) (vs : List V) → length vs ≤ i → are_texts (drop i vs) ≡ true
texts_end i vs l = ap are_texts (no_more i vs l)
