-- Keys as values, one after another.
use Rattle.std.proofs.Common.{◌≡◌, ℕ, zero, suc, ◌+◌, ◌<◌, ◌≤◌, List, [], ◌∷◌, ◌++◌, length, take, get_or, refl, ap, ◌∙◌, arith}
use Rattle.js_text.specs.declared.value.Key.{Key}
use Rattle.js_text.specs.declared.value.Value.{Value}
use Rattle.js_conversions.specs.js_operations.Names.{key_value}
use Rattle.js_object_natives.specs.Resumed.{values_of_keys}

module _ {R S : Type 0} where
  value_more : (i : ℕ) (ks : List (Key S)) (d : Key S) → i < length ks → values_of_keys {R = R} (take (suc i) ks) ≡ values_of_keys (take i ks) ++ key_value (get_or ks i d) ∷ []
  value_more i [] d l = absurd (omega arith)
  value_more zero (k ∷ ks) d l = refl
  value_more (suc i) (k ∷ ks) d l = ap (λ t. key_value k ∷ t) (value_more i ks d (omega arith))

  pub one_more_value : (i : ℕ) (ks : List (Key S)) (d : Key S) → i < length ks → values_of_keys {R = R} (take (i + 1) ks) ≡ values_of_keys (take i ks) ++ key_value (get_or ks i d) ∷ []
  one_more_value i ks d l = let e : i + 1 ≡ suc i = omega arith in ap (λ n. values_of_keys (take n ks)) e ∙ value_more i ks d l

  pub all_values : (i : ℕ) (ks : List (Key S)) → length ks ≤ i → values_of_keys {R = R} (take i ks) ≡ values_of_keys ks
  all_values zero [] l = refl
  all_values (suc i) [] l = refl
  all_values zero (k ∷ ks) l = absurd (omega arith)
  all_values (suc i) (k ∷ ks) l = ap (λ t. key_value k ∷ t) (all_values i ks (omega arith))
