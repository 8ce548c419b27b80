-- A change keeps the normal order, and a key that is there its place.
use Rattle.std.proofs.Common.{◌≡◌, Bool, true, false, cond, is_some, [], ◌∷◌, ◌++◌, Option, Some, None, refl, sym, ◌∙◌, ap, subst, true≢false, arith}
use Rattle.std.proofs.lemmas.Bool.{false_from_ne_true}
use Rattle.std.proofs.lemmas.Bool.Decides.{nat_tests}
use Rattle.std.specs.Map.{keys_of}
use Rattle.std.specs.Option.{IsSome}
use Rattle.js_text.specs.SameKeys.{same_key_decides}
use Rattle.js_text.specs.Values.{IsSameness, same_key}
use Rattle.js_text.specs.declared.value.Key.{Key}
use Rattle.js_text.specs.declared.value.Key.TheVariants as key
use Rattle.js_desc.specs.declared.descriptor.Descriptor.{Descriptor}
use Rattle.js_store.specs.Halves.{is_index}
use Rattle.js_store.specs.Laws.{Properties, Writing_keeps_the_order, Removing_keeps_the_order, Old_keys_keep_their_places, New_names_go_last}
use Rattle.js_store.specs.Objects.{ordinary_get_own_property, goes_before, written, without}
use Rattle.js_store.specs.Order.{MayPrecede, PrecedesAll, IsInOrder}
use Rattle.js_store.proofs.Own_laws.{none_after}

module _ {S : Type 0} (same : S → S → Bool) where
  -- a key that goes before another one may stand before it
  first : (k o : Key S) → goes_before k o ≡ true → MayPrecede same k o
  first (key.Index a) (key.Index b) h = record { other = grind (arith, nat_tests); before = grind (arith, nat_tests) }
  first (key.Index a) (key.Text t) h = record { other = refl; before = refl }
  first (key.Index a) (key.Symbol s) h = record { other = refl; before = refl }
  first (key.Text t) o h = absurd cc
  first (key.Symbol s) o h = absurd cc

  -- and before what that one may stand before
  further : (k o x : Key S) → goes_before k o ≡ true → MayPrecede same o x → MayPrecede same k x
  further (key.Index a) (key.Index b) (key.Index c) h m = let other = m.other in let before = m.before in record { other = grind (arith, nat_tests); before = grind (arith, nat_tests) }
  further (key.Index a) (key.Index b) (key.Text t) h m = record { other = refl; before = refl }
  further (key.Index a) (key.Index b) (key.Symbol s) h m = record { other = refl; before = refl }
  further (key.Index a) (key.Text u) (key.Index c) h m = absurd (true≢false m.before)
  further (key.Index a) (key.Text u) (key.Text t) h m = record { other = refl; before = refl }
  further (key.Index a) (key.Text u) (key.Symbol s) h m = record { other = refl; before = refl }
  further (key.Index a) (key.Symbol u) (key.Index c) h m = absurd (true≢false m.before)
  further (key.Index a) (key.Symbol u) (key.Text t) h m = record { other = refl; before = refl }
  further (key.Index a) (key.Symbol u) (key.Symbol s) h m = record { other = refl; before = refl }
  further (key.Text t) o x h m = absurd cc
  further (key.Symbol s) o x h m = absurd cc

-- it goes before no key
goes_last : {S : Type 0} (k o : Key S) → is_index k ≡ false → goes_before k o ≡ false
goes_last (key.Index j) o h = absurd cc
goes_last (key.Text t) o h = refl
goes_last (key.Symbol s) o h = refl

-- another key is another one both ways
turned : {S : Type 0} (same : S → S → Bool) (decides : IsSameness same) (a b : Key S) → same_key same a b ≡ false → same_key same b a ≡ false
turned same decides a b h = false_from_ne_true (same_key same b a) (λ e. true≢false (sym ((same_key_decides decides a b).1 (sym ((same_key_decides decides b a).0 e))) ∙ h))

module _ {R S : Type 0} (same : S → S → Bool) where
  all_further : (k o : Key S) (ps : Properties R S) → goes_before k o ≡ true → PrecedesAll same o ps → PrecedesAll same k ps
  all_further k o [] h all = record {}
  all_further k o (p ∷ ps) h all = (further same k o p.0 h all.0, all_further k o ps h all.1)

  -- a key that goes before the first one may stand before all
  before_all : (k : Key S) (p : Key S × Descriptor R S) (ps : Properties R S) → goes_before k p.0 ≡ true → PrecedesAll same p.0 ps → PrecedesAll same k (p ∷ ps)
  before_all k p ps h all = (first same k p.0 h, all_further k p.0 ps h all)

  -- A KEY BEFORE A CHANGE

  precedes_written : (a k : Key S) (d : Descriptor R S) (ps : Properties R S) → MayPrecede same a k → PrecedesAll same a ps → PrecedesAll same a (written same k d ps)
  precedes_written a k d [] new all = (new, record {})
  precedes_written a k d (p ∷ ps) new all = by_tests (same_key same k p.0) (goes_before k p.0) (precedes_written a k d ps new all.1)
    where
      by_tests : (is before : Bool) → PrecedesAll same a (written same k d ps) → PrecedesAll same a (cond is ((p.0, d) ∷ ps) (cond before ((k, d) ∷ p ∷ ps) (p ∷ written same k d ps)))
      by_tests true before rest = all
      by_tests false true rest = (new, all)
      by_tests false false rest = (all.0, rest)

  precedes_without : (a k : Key S) (ps : Properties R S) → PrecedesAll same a ps → PrecedesAll same a (without same k ps)
  precedes_without a k [] all = record {}
  precedes_without a k (p ∷ ps) all = by_test (same_key same k p.0) (precedes_without a k ps all.1)
    where
      by_test : (is : Bool) → PrecedesAll same a (without same k ps) → PrecedesAll same a (cond is ps (p ∷ without same k ps))
      by_test true rest = all.1
      by_test false rest = (all.0, rest)

  -- THE ORDER

  without_in_order : (k : Key S) (ps : Properties R S) → IsInOrder same ps → IsInOrder same (without same k ps)
  without_in_order k [] order = record {}
  without_in_order k (p ∷ ps) order = by_test (same_key same k p.0) (without_in_order k ps order.1)
    where
      by_test : (is : Bool) → IsInOrder same (without same k ps) → IsInOrder same (cond is ps (p ∷ without same k ps))
      by_test true rest = order.1
      by_test false rest = (precedes_without p.0 k ps order.0, rest)

  -- THE PLACES

  places : (k : Key S) (d : Descriptor R S) (ps : Properties R S) → IsInOrder same ps → IsSome (ordinary_get_own_property same k ps) → keys_of (written same k d ps) ≡ keys_of ps
  places k d [] order there = absurd (true≢false (sym there))
  places k d (p ∷ ps) order there = by_tests (same_key same k p.0) (goes_before k p.0) refl refl (λ h. places k d ps order.1 h)
    where
      by_tests : (is before : Bool) → same_key same k p.0 ≡ is → goes_before k p.0 ≡ before → (IsSome (ordinary_get_own_property same k ps) → keys_of (written same k d ps) ≡ keys_of ps)
          → keys_of (cond is ((p.0, d) ∷ ps) (cond before ((k, d) ∷ p ∷ ps) (p ∷ written same k d ps))) ≡ keys_of (p ∷ ps)
      by_tests true before h g rest = refl
      by_tests false true h g rest = absurd (true≢false (sym there ∙ ap is_some (none_after same k (p ∷ ps) (before_all k p ps g order.0))))
      by_tests false false h g rest = ap (λ l. p.0 ∷ l) (rest (subst (λ b. IsSome (cond b (Some p.1) (ordinary_get_own_property same k ps))) h there))

  -- what is not found is not the first one, and not found in the rest
  not_found : (is : Bool) (d : Descriptor R S) (rest : Option (Descriptor R S)) → cond is (Some d) rest ≡ None → (is ≡ false) × (rest ≡ None)
  not_found true d rest h = absurd cc
  not_found false d rest h = (refl, h)

  last : (k : Key S) (d : Descriptor R S) (ps : Properties R S) → ordinary_get_own_property same k ps ≡ None → is_index k ≡ false → written same k d ps ≡ ps ++ (k, d) ∷ []
  last k d [] none named = refl
  last k d (p ∷ ps) none named =
      let parts = not_found (same_key same k p.0) p.1 (ordinary_get_own_property same k ps) none in
      ap (λ b. cond b ((p.0, d) ∷ ps) (cond (goes_before k p.0) ((k, d) ∷ p ∷ ps) (p ∷ written same k d ps))) parts.0
      ∙ (ap (λ b. cond b ((k, d) ∷ p ∷ ps) (p ∷ written same k d ps)) (goes_last k p.0 named)
      ∙ ap (λ l. p ∷ l) (last k d ps parts.1 named))

module _ {R S : Type 0} (same : S → S → Bool) (decides : IsSameness same) where
  written_in_order : (k : Key S) (d : Descriptor R S) (ps : Properties R S) → IsInOrder same ps → IsInOrder same (written same k d ps)
  written_in_order k d [] order = (record {}, record {})
  written_in_order k d (p ∷ ps) order = by_tests (same_key same k p.0) (goes_before k p.0) refl refl (written_in_order k d ps order.1)
    where
      by_tests : (is before : Bool) → same_key same k p.0 ≡ is → goes_before k p.0 ≡ before → IsInOrder same (written same k d ps)
          → IsInOrder same (cond is ((p.0, d) ∷ ps) (cond before ((k, d) ∷ p ∷ ps) (p ∷ written same k d ps)))
      by_tests true before h g rest = order
      by_tests false true h g rest = (before_all same k p ps g order.0, order)
      by_tests false false h g rest = (precedes_written same p.0 k d ps (record { other = turned same decides k p.0 h; before = g }) order.0, rest)

pub writing_keeps_the_order : (R S : Type 0) → Writing_keeps_the_order R S
writing_keeps_the_order R S same decides k d ps order = written_in_order same decides k d ps order

pub removing_keeps_the_order : (R S : Type 0) → Removing_keeps_the_order R S
removing_keeps_the_order R S same k ps order = without_in_order same k ps order

pub old_keys_keep_their_places : (R S : Type 0) → Old_keys_keep_their_places R S
old_keys_keep_their_places R S same k d ps order there = places same k d ps order there

pub new_names_go_last : (R S : Type 0) → New_names_go_last R S
new_names_go_last R S same k d ps none named = last same k d ps none named
