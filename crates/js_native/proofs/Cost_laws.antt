-- Units of values, one after another.
use Rattle.std.proofs.Common.{◌≡◌, ℕ, zero, suc, ◌+◌, ◌<◌, ◌≤◌, List, [], ◌∷◌, length, take, get_or, refl, ap, ◌∙◌, arith}
use Rattle.js_text.specs.declared.value.Value.{Value}
use Rattle.js_native.specs.Costs.{units_of_values}
use Rattle.js_native.specs.TextNatives.{text_of_value}

module _ {R S : Type 0} where
  units_more : (i : ℕ) (vs : List (Value R S)) (d : Value R S) → i < length vs → units_of_values (take (suc i) vs) ≡ units_of_values (take i vs) + length (text_of_value (get_or vs i d))
  units_more i [] d l = absurd (omega arith)
  units_more zero (v ∷ vs) d l = omega arith
  units_more (suc i) (v ∷ vs) d l = let h = units_more i vs d (omega arith) in omega (arith, h)

  -- one more value
  pub units_step : (i : ℕ) (vs : List (Value R S)) (d : Value R S) → i < length vs → units_of_values (take (i + 1) vs) ≡ units_of_values (take i vs) + length (text_of_value (get_or vs i d))
  units_step i vs d l = let e : i + 1 ≡ suc i = omega arith in ap (λ n. units_of_values (take n vs)) e ∙ units_more i vs d l

  pub units_all : (i : ℕ) (vs : List (Value R S)) → length vs ≤ i → units_of_values (take i vs) ≡ units_of_values vs
  units_all zero [] l = refl
  units_all (suc i) [] l = refl
  units_all zero (v ∷ vs) l = absurd (omega arith)
  units_all (suc i) (v ∷ vs) l = ap (λ n. length (text_of_value v) + n) (units_all i vs (omega arith))
