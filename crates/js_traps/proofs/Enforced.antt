-- The rows of a proxy enforce the invariants.
use Rattle.std.proofs.Common.{◌≡◌, ℕ, zero, suc, List, [], ◌∷◌, Bool, true, false, cond, ◌&&◌, ◌||◌, Some, None, Option, refl, ap, sym, subst, ◌∙◌}
use Rattle.std.proofs.lemmas.Bool.{true≢false}
use Rattle.std.specs.Bool.{beq}
use Rattle.std.specs.Cmp.{first_so, second_so}
use Rattle.std.specs.Cmp.{both_ways}
use Rattle.std.specs.Prelude.{not, slice_get}
use Rattle.js_text.specs.SameKeys.{same_key_decides}
use Rattle.js_text.specs.Values.{IsSameness, same_key}
use Rattle.js_text.specs.declared.value.Key.{Key}
use Rattle.js_text.specs.declared.value.Value.{Value}
use Rattle.js_text.specs.declared.value.Value.TheVariants as value
use Rattle.js_desc.specs.Descriptors.{configurable_of, fields_of, same_option}
use Rattle.js_desc.specs.Validate.{is_compatible_property_descriptor}
use Rattle.js_desc.specs.declared.descriptor.Descriptor.{Descriptor}
use Rattle.js_desc.specs.declared.descriptor.Descriptor.TheVariants.{Data, Accessor}
use Rattle.js_operations.specs.KeyLists.{are_among, is_among}
use Rattle.js_traps.specs.KeysTrap.{are_the_same_keys, fixed_are_among, may_be_listed}
use Rattle.js_traps.specs.Laws.{Keys_are_told_once, TellsFixedKeys, Closed_as_the_target, Closed_targets_keep_their_properties, Closed_targets_keep_their_prototype, Definitions_fit_the_target, Extensible_as_the_target, Fixed_properties_are_not_denied, IsAnswer, IsThereFixed, SetsNoFixedValues, TellsFittingProperties, TellsFixedValues}
use Rattle.js_traps.specs.PropertyTraps.{is_fixed, is_fixed_as_told, is_given_false, is_unwritable, is_writable, may_be_defined, may_be_told}
use Rattle.js_traps.specs.PrototypeTraps.{prototype_answer}
use Rattle.js_traps.specs.TrapDecisions.{ProxyDecision, contradicted, told}
use Rattle.js_traps.specs.ValueTraps.{is_undefined, may_be_got, may_be_set}

-- an answer comes only where the test is passed
only_if : {R S : Type 0} (b : Bool) (d : ProxyDecision R S) → IsAnswer (cond b d contradicted) → b ≡ true
only_if true d h = refl
only_if false d h = absurd h

same_truth : (b e : Bool) → beq b e ≡ true → b ≡ e
same_truth true true h = refl
same_truth true false h = cc
same_truth false true h = cc
same_truth false false h = refl

undefined_is : {R S : Type 0} (v : Value R S) → is_undefined v ≡ true → v ≡ value.Undefined
undefined_is value.Undefined h = refl
undefined_is _ h = cc

pub closed_targets_keep_their_prototype : (R S : Type 0) → Closed_targets_keep_their_prototype R S
closed_targets_keep_their_prototype R S same set p q h = only_if (same_option same p q) (prototype_answer set p) h

pub extensible_as_the_target : (R S : Type 0) → Extensible_as_the_target R S
extensible_as_the_target R S b e h = same_truth b e (only_if (beq b e) (told {R = R} {S = S} b) h)

pub closed_as_the_target : (R S : Type 0) → Closed_as_the_target R S
closed_as_the_target R S true h = absurd h
closed_as_the_target R S false h = refl

pub fixed_properties_are_not_denied : (R S : Type 0) → Fixed_properties_are_not_denied R S
fixed_properties_are_not_denied R S target a d h = rw h refl

pub closed_targets_keep_their_properties : (R S : Type 0) → Closed_targets_keep_their_properties R S
closed_targets_keep_their_properties R S a true h = refl
closed_targets_keep_their_properties R S a false h = absurd h

pub tells_fixed_values : (R S : Type 0) → TellsFixedValues R S
tells_fixed_values R S = record {
  writable = λ same made v w e h. only_if (may_be_got same made v (Some (Data w false e false))) _ h;
  accessor = λ same made v set e h. undefined_is v (only_if (may_be_got same made v (Some (Accessor None set e false))) _ h);
}

pub sets_no_fixed_values : (R S : Type 0) → SetsNoFixedValues R S
sets_no_fixed_values R S = record {
  writable = λ same made v w e h. only_if (may_be_set same made v (Some (Data w false e false))) _ h;
  accessor = λ same made v get e h. h;
}

defined_by : {R S : Type 0} (same : R → R → Bool) (made : S → S → Bool) (d : _) (there : Option (Descriptor R S)) (e : Bool) → may_be_defined same made e d there ≡ true → is_compatible_property_descriptor same made e d there ≡ true
defined_by same made d None e h = first_so e (not (is_given_false d.configurable)) h
defined_by same made d (Some old) e h = first_so (is_compatible_property_descriptor same made e d (Some old)) _ h

pub definitions_fit_the_target : (R S : Type 0) → Definitions_fit_the_target R S
definitions_fit_the_target R S same made d there e h = defined_by same made d there e (only_if (may_be_defined same made e d there) _ h)

not_both : (x y : Bool) → not (x && y) ≡ true → x ≡ true → y ≡ false
not_both true true h e = absurd (true≢false (sym h))
not_both true false h e = refl
not_both false y h e = absurd (true≢false (sym e))

first_not : (x y : Bool) → (x || y) ≡ false → x ≡ false
first_not true y h = absurd (true≢false h)
first_not false y h = refl

turned : (x : Bool) → x ≡ false → not x ≡ true
turned true h = absurd (true≢false h)
turned false h = refl

fixed_by : {R S : Type 0} (there : Option (Descriptor R S)) (new : Descriptor R S) → is_fixed_as_told new there ≡ true → configurable_of new ≡ false → IsThereFixed there
fixed_by None new h e = true≢false (sym (sym (ap (λ c. not (not c)) e) ∙ h))
fixed_by (Some old) new h e = first_not (configurable_of old) (is_unwritable new && is_writable old) (not_both (is_fixed new) (configurable_of old || (is_unwritable new && is_writable old)) h (turned (configurable_of new) e))

pub tells_fitting_properties : (R S : Type 0) → TellsFittingProperties R S
tells_fitting_properties R S = record {
  fits = λ same made e there new h. first_so (is_compatible_property_descriptor same made e (fields_of new) there) (is_fixed_as_told new there) (only_if (may_be_told same made e new there) _ h);
  fixed = λ same made e there new h c. fixed_by there new (second_so (is_compatible_property_descriptor same made e (fields_of new) there) (is_fixed_as_told new there) (only_if (may_be_told same made e new there) _ h)) c;
}

-- KEYS

told_by : (f a : Bool) → (not f || a) ≡ true → f ≡ true → a ≡ true
told_by true a h e = h
told_by false a h e = absurd (true≢false (sym e))

some_is : {A : Type 0} (x y : A) → Some x ≡ Some y → x ≡ y
some_is x y h = cc

fixed_told : {S : Type 0} (made : S → S → Bool) (told there : List (Key S)) (fixed : List Bool) (i : ℕ) (k : Key S)
    → fixed_are_among made told there fixed ≡ true → slice_get there i ≡ Some k → slice_get fixed i ≡ Some true → is_among made told k ≡ true
fixed_told made told [] fixed i k h e f = cc
fixed_told made told (x ∷ there) [] i k h e f = cc
fixed_told made told (x ∷ there) (b ∷ fixed) zero k h e f =
    subst (λ y. is_among made told y ≡ true) (some_is x k e)
    (told_by b (is_among made told x) (first_so (not b || is_among made told x) (fixed_are_among made told there fixed) h) (some_is b true f))
fixed_told made told (x ∷ there) (b ∷ fixed) (suc i) k h e f =
    fixed_told made told there fixed i k (second_so (not b || is_among made told x) (fixed_are_among made told there fixed) h) e f

or_either : {C : Type 0} (a b : Bool) → (a || b) ≡ true → (a ≡ true → C) → (b ≡ true → C) → C
or_either true b h f g = f refl
or_either false b h f g = g h

among_both : {S : Type 0} {made : S → S → Bool} (decides : IsSameness made) (xs ys : List (Key S)) (k : Key S) → are_among made xs ys ≡ true → is_among made xs k ≡ true → is_among made ys k ≡ true
among_both decides [] ys k h e = absurd (true≢false (sym e))
among_both {made = made} decides (x ∷ xs) ys k h e =
    or_either (same_key made k x) (is_among made xs k) e
    (λ p. subst (λ y. is_among made ys y ≡ true) (sym ((same_key_decides decides k x).0 p)) (first_so (is_among made ys x) (are_among made xs ys) h))
    (λ p. among_both decides xs ys k (second_so (is_among made ys x) (are_among made xs ys) h) p)

closed_by : (e s : Bool) → (e || s) ≡ true → e ≡ false → s ≡ true
closed_by true s h e = absurd (true≢false e)
closed_by false s h e = h

pub tells_fixed_keys : (R S : Type 0) → TellsFixedKeys R S
tells_fixed_keys R S = record {
  fixed = λ made l i k h e f. fixed_told made l.told l.there l.fixed i k (first_so (fixed_are_among made l.told l.there l.fixed) _ (only_if (may_be_listed made l) _ h)) e f;
  closed = λ made decides l k h e.
      let same = closed_by l.extensible (are_the_same_keys made l.told l.there) (second_so (fixed_are_among made l.told l.there l.fixed) _ (only_if (may_be_listed made l) _ h)) e in
      both_ways (is_among made l.told k) (is_among made l.there k)
      (among_both decides l.told l.there k (second_so (are_among made l.there l.told) (are_among made l.told l.there) same))
      (among_both decides l.there l.told k (first_so (are_among made l.there l.told) (are_among made l.told l.there) same));
}

pub keys_are_told_once : (R S : Type 0) → Keys_are_told_once R S
keys_are_told_once R S made target told h = rw h refl
