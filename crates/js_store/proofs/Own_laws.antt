-- What is found after a property is written or taken out.
use Rattle.std.proofs.Common.{◌≡◌, Bool, true, false, cond, [], ◌∷◌, Some, None, refl, sym, ◌∙◌, ap, subst}
use Rattle.js_text.specs.SameKeys.{same_key_decides}
use Rattle.js_text.specs.Values.{IsSameness, same_key}
use Rattle.js_text.specs.declared.value.Key.{Key}
use Rattle.js_desc.specs.declared.descriptor.Descriptor.{Descriptor}
use Rattle.js_store.specs.Laws.{Properties, Written_is_own, Writing_leaves_others, Removed_is_gone, Removing_leaves_others}
use Rattle.js_store.specs.Objects.{ordinary_get_own_property, goes_before, written, without}
use Rattle.js_store.specs.Order.{PrecedesAll, IsInOrder}

-- a key that may stand before all others is not among them
pub none_after : {R S : Type 0} (same : S → S → Bool) (k : Key S) (ps : Properties R S) → PrecedesAll same k ps → ordinary_get_own_property same k ps ≡ None
none_after same k [] all = refl
none_after same k (p ∷ ps) all = ap (λ b. cond b (Some p.1) (ordinary_get_own_property same k ps)) all.0.other ∙ none_after same k ps all.1

module _ {S : Type 0} (same : S → S → Bool) (decides : IsSameness same) where
  -- a key that is another one than k is another one than what is k
  still_other : (other k o : Key S) → same_key same k o ≡ true → same_key same other k ≡ false → same_key same other o ≡ false
  still_other other k o h apart = subst (λ x. same_key same other x ≡ false) ((same_key_decides decides k o).0 h) apart

  itself : (k : Key S) → same_key same k k ≡ true
  itself k = (same_key_decides decides k k).1 refl

module _ {R S : Type 0} (same : S → S → Bool) (decides : IsSameness same) where
  found : (k : Key S) (d : Descriptor R S) (ps : Properties R S) → ordinary_get_own_property same k (written same k d ps) ≡ Some d
  found k d [] = ap (λ b. cond b (Some d) None) (itself same decides k)
  found k d (p ∷ ps) = by_tests (same_key same k p.0) (goes_before k p.0) refl (found k d ps)
    where
      by_tests : (is before : Bool) → same_key same k p.0 ≡ is → ordinary_get_own_property same k (written same k d ps) ≡ Some d → ordinary_get_own_property same k (cond is ((p.0, d) ∷ ps) (cond before ((k, d) ∷ p ∷ ps) (p ∷ written same k d ps))) ≡ Some d
      by_tests true before h rest = ap (λ b. cond b (Some d) (ordinary_get_own_property same k ps)) h
      by_tests false true h rest = ap (λ b. cond b (Some d) (ordinary_get_own_property same k (p ∷ ps))) (itself same decides k)
      by_tests false false h rest = ap (λ b. cond b (Some p.1) (ordinary_get_own_property same k (written same k d ps))) h ∙ rest

  left : (k other : Key S) (d : Descriptor R S) (ps : Properties R S) → same_key same other k ≡ false → ordinary_get_own_property same other (written same k d ps) ≡ ordinary_get_own_property same other ps
  left k other d [] apart = ap (λ b. cond b (Some d) None) apart
  left k other d (p ∷ ps) apart = by_tests (same_key same k p.0) (goes_before k p.0) refl (left k other d ps apart)
    where
      by_tests : (is before : Bool) → same_key same k p.0 ≡ is → ordinary_get_own_property same other (written same k d ps) ≡ ordinary_get_own_property same other ps → ordinary_get_own_property same other (cond is ((p.0, d) ∷ ps) (cond before ((k, d) ∷ p ∷ ps) (p ∷ written same k d ps))) ≡ ordinary_get_own_property same other (p ∷ ps)
      by_tests true before h rest =
          let away = still_other same decides other k p.0 h apart in
          ap (λ b. cond b (Some d) (ordinary_get_own_property same other ps)) away ∙ sym (ap (λ b. cond b (Some p.1) (ordinary_get_own_property same other ps)) away)
      by_tests false true h rest = ap (λ b. cond b (Some d) (ordinary_get_own_property same other (p ∷ ps))) apart
      by_tests false false h rest = ap (λ o. cond (same_key same other p.0) (Some p.1) o) rest

  gone : (k : Key S) (ps : Properties R S) → IsInOrder same ps → ordinary_get_own_property same k (without same k ps) ≡ None
  gone k [] order = refl
  gone k (p ∷ ps) order = by_test (same_key same k p.0) refl (gone k ps order.1)
    where
      by_test : (is : Bool) → same_key same k p.0 ≡ is → ordinary_get_own_property same k (without same k ps) ≡ None → ordinary_get_own_property same k (cond is ps (p ∷ without same k ps)) ≡ None
      by_test true h rest = subst (λ x. ordinary_get_own_property same x ps ≡ None) (sym ((same_key_decides decides k p.0).0 h)) (none_after same p.0 ps order.0)
      by_test false h rest = ap (λ b. cond b (Some p.1) (ordinary_get_own_property same k (without same k ps))) h ∙ rest

  spared : (k other : Key S) (ps : Properties R S) → same_key same other k ≡ false → ordinary_get_own_property same other (without same k ps) ≡ ordinary_get_own_property same other ps
  spared k other [] apart = refl
  spared k other (p ∷ ps) apart = by_test (same_key same k p.0) refl (spared k other ps apart)
    where
      by_test : (is : Bool) → same_key same k p.0 ≡ is → ordinary_get_own_property same other (without same k ps) ≡ ordinary_get_own_property same other ps → ordinary_get_own_property same other (cond is ps (p ∷ without same k ps)) ≡ ordinary_get_own_property same other (p ∷ ps)
      by_test true h rest = sym (ap (λ b. cond b (Some p.1) (ordinary_get_own_property same other ps)) (still_other same decides other k p.0 h apart))
      by_test false h rest = ap (λ o. cond (same_key same other p.0) (Some p.1) o) rest

pub written_is_own : (R S : Type 0) → Written_is_own R S
written_is_own R S same decides k d ps = found same decides k d ps

pub writing_leaves_others : (R S : Type 0) → Writing_leaves_others R S
writing_leaves_others R S same decides k other d ps apart = left same decides k other d ps apart

pub removed_is_gone : (R S : Type 0) → Removed_is_gone R S
removed_is_gone R S same decides k ps order = gone same decides k ps order

pub removing_leaves_others : (R S : Type 0) → Removing_leaves_others R S
removing_leaves_others R S same decides k other ps apart = spared same decides k other ps apart
