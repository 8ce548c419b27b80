-- The length of an array stays above each of its indices, whatever becomes of its properties.
use Rattle.std.proofs.Common.{◌≡◌, ℕ, pos, negsuc, ◌≤◌, Bool, true, false, cond, nat_lt, filter, List, [], ◌∷◌, Option, Some, None, refl, ap, ◌∙◌, subst, arith}
use Rattle.std.specs.List.{AllByRecursion}
use Rattle.std.specs.Option.{option_map}
use Rattle.std.proofs.lemmas.Bool.Decides.{nat_tests}
use Rattle.js_text.specs.Values.{same_key}
use Rattle.js_text.specs.declared.value.Key.{Key}
use Rattle.js_text.specs.declared.value.Key.TheVariants as key
use Rattle.js_text.specs.declared.value.Value.TheVariants as value
use Rattle.js_desc.specs.Descriptors.{configurable_of}
use Rattle.js_desc.specs.declared.descriptor.Change.{Change}
use Rattle.js_desc.specs.declared.descriptor.Change.TheVariants as change
use Rattle.js_desc.specs.declared.descriptor.Descriptor.{Descriptor}
use Rattle.js_desc.specs.declared.descriptor.Descriptor.TheVariants.{Data, Accessor}
use Rattle.js_store.specs.Objects.{after, goes_before, ordinary_get_own_property, replaced, without, written}
use Rattle.js_store.specs.Laws.{Properties}
use Rattle.js_exotic.specs.ArrayLengths.{array_length_of, end_by, is_below, kept_length, length_property}
use Rattle.js_exotic.specs.declared.array_length.ArrayLength.{ArrayLength}
use Rattle.js_exotic.specs.declared.array_length.TheConstants.{LENGTH_LIMIT}

-- WHAT THE PROPERTY SAYS

-- it is the property of that length, which is in range
pub record IsRead {R S : Type 0} (own : Option (Descriptor R S)) (l : ArrayLength) : Type 0 where
  pub property : own ≡ Some (length_property l l.count)
  pub within : nat_lt l.count LENGTH_LIMIT ≡ true

pub read : {R S : Type 0} (own : Option (Descriptor R S)) (l : ArrayLength) → array_length_of own ≡ Some l → IsRead own l
read None l h = absurd cc
read (Some (Accessor g s e c)) l h = absurd cc
read (Some (Data value.Undefined w e c)) l h = absurd cc
read (Some (Data value.Null w e c)) l h = absurd cc
read (Some (Data (value.Bool b) w e c)) l h = absurd cc
read (Some (Data (value.Text t) w e c)) l h = absurd cc
read (Some (Data (value.Symbol s) w e c)) l h = absurd cc
read (Some (Data (value.Ref r) w e c)) l h = absurd cc
read (Some (Data (value.Int (negsuc n)) w e c)) l h = absurd cc
read {R} {S} (Some (Data (value.Int (pos n)) w e c)) l h = by_test (nat_lt n LENGTH_LIMIT) refl h
  where
    unpacked : (k : ArrayLength) → Some k ≡ Some l → k ≡ l
    unpacked k h = cc

    by_test : (b : Bool) → nat_lt n LENGTH_LIMIT ≡ b → option_map (λ m. record { count = m; writable = w; enumerable = e; configurable = c }) (cond b (Some n) None) ≡ Some l → IsRead {R = R} {S = S} (Some (Data (value.Int (pos n)) w e c)) l
    by_test true t h = subst (λ k. IsRead {R = R} {S = S} (Some (Data (value.Int (pos n)) w e c)) k) (unpacked (record { count = n; writable = w; enumerable = e; configurable = c }) h) (record { property = refl; within = t })
    by_test false t h = absurd cc

-- a property with a number in range says it
pub says : (R S : Type 0) (n : ℕ) (w e c : Bool) → nat_lt n LENGTH_LIMIT ≡ true → array_length_of {R = R} {S = S} (Some (Data (value.Int (pos n)) w e c)) ≡ Some (record { count = n; writable = w; enumerable = e; configurable = c })
says R S n w e c h = ap (λ b. option_map (λ m. record { count = m; writable = w; enumerable = e; configurable = c }) (cond b (Some n) None)) h

-- ALL INDICES ARE BELOW

abbrev pub AllBelow : {R S : Type 0} → ℕ → Properties R S → Type 0
AllBelow n ps = AllByRecursion (λ p. is_below n p.0 ≡ true) ps

-- a greater length is above them too
pub weaker : {S : Type 0} (n m : ℕ) (k : Key S) → n ≤ m → is_below n k ≡ true → is_below m k ≡ true
weaker n m (key.Index i) le h = grind (arith, nat_tests)
weaker n m (key.Text t) le h = refl
weaker n m (key.Symbol s) le h = refl

module _ {R S : Type 0} (made : S → S → Bool) where
  pub below_written : (n : ℕ) (k : Key S) (d : Descriptor R S) (ps : Properties R S) → is_below n k ≡ true → AllBelow n ps → AllBelow n (written made k d ps)
  below_written n k d [] h all = (h, tt)
  below_written n k d (p ∷ ps) h all = by_tests (same_key made k p.0) (goes_before k p.0) (below_written n k d ps h all.1)
    where
      by_tests : (s b : Bool) → AllBelow n (written made k d ps) → AllBelow n (cond s ((p.0, d) ∷ ps) (cond b ((k, d) ∷ p ∷ ps) (p ∷ written made k d ps)))
      by_tests true b rest = all
      by_tests false true rest = (h, all)
      by_tests false false rest = (all.0, rest)

  pub below_after : (n : ℕ) (k : Key S) (c : Change R S) (ps : Properties R S) → is_below n k ≡ true → AllBelow n ps → AllBelow n (after made k c ps)
  below_after n k change.Nothing ps h all = all
  below_after n k (change.Write d) ps h all = below_written n k d ps h all

  pub below_without : (n : ℕ) (k : Key S) (ps : Properties R S) → AllBelow n ps → AllBelow n (without made k ps)
  below_without n k [] all = all
  below_without n k (p ∷ ps) all = by_test (same_key made k p.0) (below_without n k ps all.1)
    where
      by_test : (s : Bool) → AllBelow n (without made k ps) → AllBelow n (cond s ps (p ∷ without made k ps))
      by_test true rest = all.1
      by_test false rest = (all.0, rest)

  pub below_replaced : (n : ℕ) (k : Key S) (d : Descriptor R S) (ps : Properties R S) → AllBelow n ps → AllBelow n (replaced made k d ps)
  below_replaced n k d [] all = all
  below_replaced n k d (p ∷ ps) all = by_test (same_key made k p.0) (below_replaced n k d ps all.1)
    where
      by_test : (s : Bool) → AllBelow n (replaced made k d ps) → AllBelow n (cond s ((p.0, d) ∷ ps) (p ∷ replaced made k d ps))
      by_test true rest = all
      by_test false rest = (all.0, rest)

  pub below_more : (n m : ℕ) (ps : Properties R S) → n ≤ m → AllBelow n ps → AllBelow m ps
  below_more n m [] le all = all
  below_more n m (p ∷ ps) le all = (weaker n m p.0 le all.0, below_more n m ps le all.1)

  -- those that are left are below
  pub below_left : (n : ℕ) (ps : Properties R S) → AllBelow n (filter (λ p. is_below n p.0) ps)
  below_left n [] = tt
  below_left n (p ∷ ps) = by_test (is_below n p.0) refl (below_left n ps)
    where
      by_test : (b : Bool) → is_below n p.0 ≡ b → AllBelow n (filter (λ q. is_below n q.0) ps) → AllBelow n (cond b (p ∷ filter (λ q. is_below n q.0) ps) (filter (λ q. is_below n q.0) ps))
      by_test true e rest = (e, rest)
      by_test false e rest = rest

  -- nothing stops past them
  pub kept_below : (least n : ℕ) (ps : Properties R S) → least ≤ n → AllBelow n ps → kept_length least ps ≤ n
  kept_below least n [] le all = le
  kept_below least n (p ∷ ps) le all = let one = ends p.0 (configurable_of p.1) all.0 in let rest = kept_below least n ps le all.1 in omega arith
    where
      ends : (k : Key S) (c : Bool) → is_below n k ≡ true → end_by k c ≤ n
      ends (key.Index i) true h = omega arith
      ends (key.Index i) false h = grind (arith, nat_tests)
      ends (key.Text t) c h = omega arith
      ends (key.Symbol s) c h = omega arith

  -- a key that is no index is found among those that are left
  pub found_left : (n : ℕ) (t : List ℕ) (ps : Properties R S) → ordinary_get_own_property made (key.Text t) (filter (λ p. is_below n p.0) ps) ≡ ordinary_get_own_property made (key.Text t) ps
  found_left n t [] = refl
  found_left n t (p ∷ ps) = by_key p.0 p.1 (found_left n t ps)
    where
      by_test : (i : ℕ) (d : Descriptor R S) (b : Bool) → ordinary_get_own_property made (key.Text t) (filter (λ q. is_below n q.0) ps) ≡ ordinary_get_own_property made (key.Text t) ps → ordinary_get_own_property made (key.Text t) (cond b ((key.Index i, d) ∷ filter (λ q. is_below n q.0) ps) (filter (λ q. is_below n q.0) ps)) ≡ ordinary_get_own_property made (key.Text t) ps
      by_test i d true rest = rest
      by_test i d false rest = rest

      by_key : (k : Key S) (d : Descriptor R S) → ordinary_get_own_property made (key.Text t) (filter (λ q. is_below n q.0) ps) ≡ ordinary_get_own_property made (key.Text t) ps → ordinary_get_own_property made (key.Text t) (cond (is_below n k) ((k, d) ∷ filter (λ q. is_below n q.0) ps) (filter (λ q. is_below n q.0) ps)) ≡ cond (same_key made (key.Text t) k) (Some d) (ordinary_get_own_property made (key.Text t) ps)
      by_key (key.Index i) d rest = by_test i d (nat_lt i n) rest
      by_key (key.Text u) d rest = ap (λ r. cond (same_key made (key.Text t) (key.Text u)) (Some d) r) rest
      by_key (key.Symbol s) d rest = rest

  -- what is put in the place of a property is found there
  pub found_replaced : (k : Key S) (d old : Descriptor R S) (ps : Properties R S) → ordinary_get_own_property made k ps ≡ Some old → ordinary_get_own_property made k (replaced made k d ps) ≡ Some d
  found_replaced k d old [] h = absurd cc
  found_replaced k d old (p ∷ ps) h = by_test (same_key made k p.0) refl h (λ e. found_replaced k d old ps e)
    where
      by_test : (b : Bool) → same_key made k p.0 ≡ b → cond b (Some p.1) (ordinary_get_own_property made k ps) ≡ Some old → (ordinary_get_own_property made k ps ≡ Some old → ordinary_get_own_property made k (replaced made k d ps) ≡ Some d) → ordinary_get_own_property made k (cond b ((p.0, d) ∷ ps) (p ∷ replaced made k d ps)) ≡ Some d
      by_test true e t rest = ap (λ b. cond b (Some d) (ordinary_get_own_property made k ps)) e
      by_test false e t rest = ap (λ b. cond b (Some p.1) (ordinary_get_own_property made k (replaced made k d ps))) e ∙ rest t
