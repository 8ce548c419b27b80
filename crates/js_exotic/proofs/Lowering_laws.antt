-- Elements that are taken out from the highest down: what stays, and where that stops.
use Rattle.std.proofs.Common.{◌≡◌, ℕ, suc, max, ◌+◌, ◌<◌, ◌≤◌, Bool, true, false, cond, nat_eq, nat_lt, filter, List, [], ◌∷◌, length, slice_set, Option, Some, None, refl, sym, ap, ◌∙◌, subst, arith}
use Rattle.std.specs.Option.{unwrap_or}
use Rattle.std.proofs.lemmas.Bool.Decides.{nat_tests}
use Rattle.std.proofs.lemmas.List.{length-set, get_or-set_same, set-get_or, set-set}
use Rattle.js_text.specs.Values.{same_key}
use Rattle.js_text.specs.declared.value.Key.{Key}
use Rattle.js_text.specs.declared.value.Key.TheVariants as key
use Rattle.js_desc.specs.Descriptors.{configurable_of}
use Rattle.js_desc.specs.declared.descriptor.Descriptor.{Descriptor}
use Rattle.js_store.specs.Objects.{Object, object_at, at_place, goes_before, index_before, last_index, ordinary_get_own_property, without, without_property}
use Rattle.js_store.specs.Laws.{Properties}
use Rattle.js_store.specs.Order.{PrecedesAll, IsInOrder}
use Rattle.js_exotic.specs.ArrayLengths.{end_by, kept_length, is_below, is_configurable, without_elements}

-- each index is at most a number
abbrev IsUpTo : {S : Type 0} → ℕ → Key S → Type 0
IsUpTo n (key.Index i) = i ≤ n
IsUpTo n (key.Text t) = Unit {0}
IsUpTo n (key.Symbol s) = Unit {0}

abbrev AllUpTo : {R S : Type 0} → ℕ → Properties R S → Type 0
AllUpTo n [] = Unit {0}
AllUpTo n (p ∷ ps) = IsUpTo n p.0 × AllUpTo n ps

module _ {R S : Type 0} where
  abbrev below : ℕ → Key S × Descriptor R S → Bool
  below n p = is_below n p.0

  -- NO INDEX AT ALL

  kept_none : (k : Key S) (d : Descriptor R S) (least : ℕ) (ps : Properties R S) → index_before k (last_index ps) ≡ None → (last_index ps ≡ None → kept_length least ps ≡ least) → kept_length least ((k, d) ∷ ps) ≡ least
  kept_none (key.Index i) d least ps none rest = absurd cc
  kept_none (key.Text t) d least ps none rest = max_zero (kept_length least ps) ∙ rest none
    where
      max_zero : (n : ℕ) → max 0 n ≡ n
      max_zero n = grind (arith)
  kept_none (key.Symbol s) d least ps none rest = max_zero (kept_length least ps) ∙ rest none
    where
      max_zero : (n : ℕ) → max 0 n ≡ n
      max_zero n = grind (arith)

  pub none_kept : (least : ℕ) (ps : Properties R S) → last_index ps ≡ None → kept_length least ps ≡ least
  none_kept least [] none = refl
  none_kept least (p ∷ ps) none = kept_none p.0 p.1 least ps none (none_kept least ps)

  cut_none : (k : Key S) (d : Descriptor R S) (n : ℕ) (ps : Properties R S) → index_before k (last_index ps) ≡ None → (last_index ps ≡ None → filter (below n) ps ≡ ps) → filter (below n) ((k, d) ∷ ps) ≡ (k, d) ∷ ps
  cut_none (key.Index i) d n ps none rest = absurd cc
  cut_none (key.Text t) d n ps none rest = ap (λ l. (key.Text t, d) ∷ l) (rest none)
  cut_none (key.Symbol s) d n ps none rest = ap (λ l. (key.Symbol s, d) ∷ l) (rest none)

  pub none_cut : (n : ℕ) (ps : Properties R S) → last_index ps ≡ None → filter (below n) ps ≡ ps
  none_cut n [] none = refl
  none_cut n (p ∷ ps) none = cut_none p.0 p.1 n ps none (none_cut n ps)

  -- THE LAST INDEX IS THE GREATEST

  module _ (made : S → S → Bool) where
    last_above : (i m : ℕ) (ps : Properties R S) → PrecedesAll made (key.Index i) ps → last_index ps ≡ Some m → i < m
    last_above i m [] before last = absurd cc
    last_above i m (p ∷ ps) before last = by_key p.0 before.0.other before.0.before last (last_index ps) refl (λ e. last_above i m ps before.1 e)
      where
        by_key : (k : Key S) → same_key made (key.Index i) k ≡ false → goes_before k (key.Index i) ≡ false → index_before k (last_index ps) ≡ Some m → (o : Option ℕ) → last_index ps ≡ o → (last_index ps ≡ Some m → i < m) → i < m
        by_key (key.Index j) other before' h None e rest = let same : Some j ≡ Some m = sym (ap (λ o. Some (unwrap_or o j)) e) ∙ h in let jm : j ≡ m = cc in grind (arith, nat_tests)
        by_key (key.Index j) other before' h (Some l) e rest = rest (e ∙ (let same : Some l ≡ Some m = sym (ap (λ o. Some (unwrap_or o j)) e) ∙ h in same))
        by_key (key.Text t) other before' h o e rest = rest h
        by_key (key.Symbol s) other before' h o e rest = rest h

    none_up_to : (n : ℕ) (ps : Properties R S) → last_index ps ≡ None → AllUpTo n ps
    none_up_to n [] none = tt
    none_up_to n (p ∷ ps) none = by_key p.0 none (none_up_to n ps)
      where
        by_key : (k : Key S) → index_before k (last_index ps) ≡ None → (last_index ps ≡ None → AllUpTo n ps) → IsUpTo n k × AllUpTo n ps
        by_key (key.Index i) h rest = absurd cc
        by_key (key.Text t) h rest = (tt, rest h)
        by_key (key.Symbol s) h rest = (tt, rest h)

    pub up_to : (n : ℕ) (ps : Properties R S) → IsInOrder made ps → last_index ps ≡ Some n → AllUpTo n ps
    up_to n [] order last = absurd cc
    up_to n (p ∷ ps) order last = by_key p.0 order.0 last (λ e. up_to n ps order.1 e)
      where
        by_last : (i : ℕ) → PrecedesAll made (key.Index i) ps → (o : Option ℕ) → last_index ps ≡ o → Some (unwrap_or o i) ≡ Some n → (last_index ps ≡ Some n → AllUpTo n ps) → (i ≤ n) × AllUpTo n ps
        by_last i before None e h rest = let same : i ≡ n = cc in (omega arith, none_up_to n ps e)
        by_last i before (Some m) e h rest = let same : m ≡ n = cc in let there : last_index ps ≡ Some n = e ∙ ap (λ x. Some x) same in let lt = last_above i n ps before there in (omega arith, rest there)

        by_key : (k : Key S) → PrecedesAll made k ps → index_before k (last_index ps) ≡ Some n → (last_index ps ≡ Some n → AllUpTo n ps) → IsUpTo n k × AllUpTo n ps
        by_key (key.Index i) before h rest = by_last i before (last_index ps) refl h rest
        by_key (key.Text t) before h rest = (tt, rest h)
        by_key (key.Symbol s) before h rest = (tt, rest h)

    -- WHAT IS BELOW A LENGTH STAYS

    pub all_below : (n count : ℕ) (ps : Properties R S) → n < count → AllUpTo n ps → filter (below count) ps ≡ ps
    all_below n count [] lt all = refl
    all_below n count (p ∷ ps) lt all = by_test (is_below count p.0) (stays p.0 all.0) (all_below n count ps lt all.1)
      where
        stays : (k : Key S) → IsUpTo n k → is_below count k ≡ true
        stays (key.Index i) h = grind (arith, nat_tests)
        stays (key.Text t) h = refl
        stays (key.Symbol s) h = refl

        by_test : (b : Bool) → b ≡ true → filter (below count) ps ≡ ps → cond b (p ∷ filter (below count) ps) (filter (below count) ps) ≡ p ∷ ps
        by_test true e rest = ap (λ l. p ∷ l) rest
        by_test false e rest = absurd cc

    -- nothing stops above the last index
    pub kept_up_to : (n least : ℕ) (ps : Properties R S) → AllUpTo n ps → kept_length least ps ≤ max least (suc n)
    kept_up_to n least [] all = omega arith
    kept_up_to n least (p ∷ ps) all = let one = ends p.0 (configurable_of p.1) all.0 in let rest = kept_up_to n least ps all.1 in omega arith
      where
        ends : (k : Key S) (c : Bool) → IsUpTo n k → end_by k c ≤ suc n
        ends (key.Index i) true h = omega arith
        ends (key.Index i) false h = omega arith
        ends (key.Text t) c h = omega arith
        ends (key.Symbol s) c h = omega arith

    absent : (n : ℕ) (ps : Properties R S) → PrecedesAll made (key.Index n) ps → is_configurable (ordinary_get_own_property made (key.Index n) ps) ≡ true
    absent n [] before = refl
    absent n (p ∷ ps) before = by_test (same_key made (key.Index n) p.0) before.0.other (absent n ps before.1)
      where
        by_test : (b : Bool) → b ≡ false → is_configurable (ordinary_get_own_property made (key.Index n) ps) ≡ true → is_configurable (cond b (Some p.1) (ordinary_get_own_property made (key.Index n) ps)) ≡ true
        by_test true e rest = absurd cc
        by_test false e rest = rest

    -- and nothing at it, where it may go
    pub kept_under : (n least : ℕ) (ps : Properties R S) → IsInOrder made ps → AllUpTo n ps → is_configurable (ordinary_get_own_property made (key.Index n) ps) ≡ true → kept_length least ps ≤ max least n
    kept_under n least [] order all may = omega arith
    kept_under n least (p ∷ ps) order all may = let one = head p.0 p.1 order.0 all.0 may (λ e. kept_under n least ps order.1 all.1 e) in omega arith
      where
        by_test : (i : ℕ) (d : Descriptor R S) → PrecedesAll made (key.Index i) ps → i ≤ n → (b : Bool) → nat_eq n i ≡ b
            → is_configurable (cond b (Some d) (ordinary_get_own_property made (key.Index n) ps)) ≡ true
            → (is_configurable (ordinary_get_own_property made (key.Index n) ps) ≡ true → kept_length least ps ≤ max least n)
            → max (end_by {S = S} (key.Index i) (configurable_of d)) (kept_length least ps) ≤ max least n
        by_test i d before le true e may' rest =
            let same : i ≡ n = grind (arith, nat_tests) in
            let r = rest (absent n ps (subst (λ m. PrecedesAll made (key.Index m) ps) same before)) in
            let end : end_by {S = S} (key.Index i) (configurable_of d) ≡ 0 = ap (λ b. cond b 0 (suc i)) may' in
            omega arith
        by_test i d before le false e may' rest =
            let lt : i < n = grind (arith, nat_tests) in
            let r = rest may' in
            let end = ends i (configurable_of d) lt in
            omega arith
          where
            ends : (i : ℕ) (c : Bool) → i < n → end_by {S = S} (key.Index i) c ≤ n
            ends i true lt = omega arith
            ends i false lt = omega arith

        head : (k : Key S) (d : Descriptor R S) → PrecedesAll made k ps → IsUpTo n k → is_configurable (cond (same_key made (key.Index n) k) (Some d) (ordinary_get_own_property made (key.Index n) ps)) ≡ true
            → (is_configurable (ordinary_get_own_property made (key.Index n) ps) ≡ true → kept_length least ps ≤ max least n)
            → max (end_by k (configurable_of d)) (kept_length least ps) ≤ max least n
        head (key.Index i) d before le may' rest = by_test i d before le (nat_eq n i) refl may' rest
        head (key.Text t) d before le may' rest = let r = rest may' in omega arith
        head (key.Symbol s) d before le may' rest = let r = rest may' in omega arith

    -- an element that may not go is a stop
    pub kept_reaches : (n least : ℕ) (ps : Properties R S) → is_configurable (ordinary_get_own_property made (key.Index n) ps) ≡ false → suc n ≤ kept_length least ps
    kept_reaches n least [] may = absurd cc
    kept_reaches n least (p ∷ ps) may = head p.0 p.1 may (λ e. kept_reaches n least ps e)
      where
        by_test : (i : ℕ) (d : Descriptor R S) (b : Bool) → nat_eq n i ≡ b
            → is_configurable (cond b (Some d) (ordinary_get_own_property made (key.Index n) ps)) ≡ false
            → (is_configurable (ordinary_get_own_property made (key.Index n) ps) ≡ false → suc n ≤ kept_length least ps)
            → suc n ≤ max (end_by {S = S} (key.Index i) (configurable_of d)) (kept_length least ps)
        by_test i d true e may' rest =
            let same : i ≡ n = grind (arith, nat_tests) in
            let end : end_by {S = S} (key.Index i) (configurable_of d) ≡ suc i = ap (λ b. cond b 0 (suc i)) may' in
            omega arith
        by_test i d false e may' rest = let r = rest may' in omega arith

        head : (k : Key S) (d : Descriptor R S) → is_configurable (cond (same_key made (key.Index n) k) (Some d) (ordinary_get_own_property made (key.Index n) ps)) ≡ false
            → (is_configurable (ordinary_get_own_property made (key.Index n) ps) ≡ false → suc n ≤ kept_length least ps)
            → suc n ≤ max (end_by k (configurable_of d)) (kept_length least ps)
        head (key.Index i) d may' rest = by_test i d (nat_eq n i) refl may' rest
        head (key.Text t) d may' rest = let r = rest may' in omega arith
        head (key.Symbol s) d may' rest = let r = rest may' in omega arith

    pub kept_least : (least : ℕ) (ps : Properties R S) → least ≤ kept_length least ps
    kept_least least [] = omega arith
    kept_least least (p ∷ ps) = let r = kept_least least ps in omega arith

    -- ONE ELEMENT GOES

    pub kept_without : (n least : ℕ) (ps : Properties R S) → is_configurable (ordinary_get_own_property made (key.Index n) ps) ≡ true → kept_length least (without made (key.Index n) ps) ≡ kept_length least ps
    kept_without n least [] may = refl
    kept_without n least (p ∷ ps) may = head p.0 p.1 may (λ e. kept_without n least ps e)
      where
        max_zero : (m : ℕ) → m ≡ max 0 m
        max_zero m = grind (arith)

        by_test : (i : ℕ) (d : Descriptor R S) (b : Bool)
            → is_configurable (cond b (Some d) (ordinary_get_own_property made (key.Index n) ps)) ≡ true
            → (is_configurable (ordinary_get_own_property made (key.Index n) ps) ≡ true → kept_length least (without made (key.Index n) ps) ≡ kept_length least ps)
            → kept_length least (cond b ps ((key.Index i, d) ∷ without made (key.Index n) ps)) ≡ max (end_by {S = S} (key.Index i) (configurable_of d)) (kept_length least ps)
        by_test i d true may' rest = max_zero (kept_length least ps) ∙ ap (λ b. max (cond b 0 (suc i)) (kept_length least ps)) (sym may')
        by_test i d false may' rest = ap (λ m. max (end_by {S = S} (key.Index i) (configurable_of d)) m) (rest may')

        head : (k : Key S) (d : Descriptor R S) → is_configurable (cond (same_key made (key.Index n) k) (Some d) (ordinary_get_own_property made (key.Index n) ps)) ≡ true
            → (is_configurable (ordinary_get_own_property made (key.Index n) ps) ≡ true → kept_length least (without made (key.Index n) ps) ≡ kept_length least ps)
            → kept_length least (cond (same_key made (key.Index n) k) ps ((k, d) ∷ without made (key.Index n) ps)) ≡ max (end_by k (configurable_of d)) (kept_length least ps)
        head (key.Index i) d may' rest = by_test i d (nat_eq n i) may' rest
        head (key.Text t) d may' rest = ap (λ m. max 0 m) (rest may')
        head (key.Symbol s) d may' rest = ap (λ m. max 0 m) (rest may')

    pub cut_without : (n count : ℕ) (ps : Properties R S) → count ≤ n → filter (below count) (without made (key.Index n) ps) ≡ filter (below count) ps
    cut_without n count [] le = refl
    cut_without n count (p ∷ ps) le = head p.0 p.1 (cut_without n count ps le)
      where
        by_test : (i : ℕ) (d : Descriptor R S) (b : Bool) → nat_eq n i ≡ b → filter (below count) (without made (key.Index n) ps) ≡ filter (below count) ps
            → filter (below count) (cond b ps ((key.Index i, d) ∷ without made (key.Index n) ps)) ≡ cond (nat_lt i count) ((key.Index i, d) ∷ filter (below count) ps) (filter (below count) ps)
        by_test i d true e rest = let gone : nat_lt i count ≡ false = grind (arith, nat_tests) in sym (ap (λ b. cond b ((key.Index i, d) ∷ filter (below count) ps) (filter (below count) ps)) gone)
        by_test i d false e rest = ap (λ l. cond (nat_lt i count) ((key.Index i, d) ∷ l) l) rest

        head : (k : Key S) (d : Descriptor R S) → filter (below count) (without made (key.Index n) ps) ≡ filter (below count) ps
            → filter (below count) (cond (same_key made (key.Index n) k) ps ((k, d) ∷ without made (key.Index n) ps)) ≡ cond (is_below count k) ((k, d) ∷ filter (below count) ps) (filter (below count) ps)
        head (key.Index i) d rest = by_test i d (nat_eq n i) refl rest
        head (key.Text t) d rest = ap (λ l. (key.Text t, d) ∷ l) rest
        head (key.Symbol s) d rest = ap (λ l. (key.Symbol s, d) ∷ l) rest

    -- fewer are left
    pub fewer_left : (n : ℕ) (ps : Properties R S) → last_index ps ≡ Some n → length (without made (key.Index n) ps) < length ps
    fewer_left n [] last = absurd cc
    fewer_left n (p ∷ ps) last = head p.0 p.1 last (λ e. fewer_left n ps e)
      where
        by_last : (i : ℕ) (d : Descriptor R S) (o : Option ℕ) → last_index ps ≡ o → Some (unwrap_or o i) ≡ Some n → (last_index ps ≡ Some n → length (without made (key.Index n) ps) < length ps)
            → length (cond (nat_eq n i) ps ((key.Index i, d) ∷ without made (key.Index n) ps)) < suc (length ps)
        by_last i d None e h rest = let same : i ≡ n = cc in let hit : nat_eq n i ≡ true = grind (arith, nat_tests) in rw hit (omega arith)
        by_last i d (Some m) e h rest = let same : m ≡ n = cc in let r = rest (e ∙ ap (λ x. Some x) same) in by_test (nat_eq n i) r
          where
            by_test : (b : Bool) → length (without made (key.Index n) ps) < length ps → length (cond b ps ((key.Index i, d) ∷ without made (key.Index n) ps)) < suc (length ps)
            by_test true r = omega arith
            by_test false r = omega arith

        head : (k : Key S) (d : Descriptor R S) → index_before k (last_index ps) ≡ Some n → (last_index ps ≡ Some n → length (without made (key.Index n) ps) < length ps)
            → length (cond (same_key made (key.Index n) k) ps ((k, d) ∷ without made (key.Index n) ps)) < suc (length ps)
        head (key.Index i) d h rest = by_last i d (last_index ps) refl h rest
        head (key.Text t) d h rest = let r = rest h in omega arith
        head (key.Symbol s) d h rest = let r = rest h in omega arith

-- OBJECTS IN A LIST

-- two changes of one object, one after the other
pub in_turn : {R S : Type 0} (old middle new : List (Object R S)) (i : ℕ) (f g : Object R S → Object R S) → i < length old → middle ≡ at_place old i f → new ≡ at_place middle i g → new ≡ slice_set old i (g (f (object_at old i)))
in_turn old middle new i f g lt first second =
    second ∙ (ap (λ os. at_place os i g) first
    ∙ (set-set old i (f (object_at old i)) (g (object_at (at_place old i f) i))
    ∙ ap (λ o. slice_set old i (g o)) (get_or-set_same old i (f (object_at old i)) _ lt)))

-- a list of objects in the middle of a lowering: what is to come of it is what was to come of it at first
pub record IsLowered {R S : Type 0} (least : ℕ) (id : ℕ) (old new : List (Object R S)) : Type 0 where
  pub kept : kept_length least (object_at new id).properties ≡ kept_length least (object_at old id).properties
  pub left : at_place new id (without_elements (kept_length least (object_at old id).properties)) ≡ at_place old id (without_elements (kept_length least (object_at old id).properties))
  pub count : length new ≡ length old

pub lowered_first : {R S : Type 0} (least id : ℕ) (old : List (Object R S)) → IsLowered least id old old
lowered_first least id old = record { kept = refl; left = refl; count = refl }

pub lowered_step : {R S : Type 0} (made : S → S → Bool) (least id n : ℕ) (old middle new : List (Object R S))
    → IsLowered least id old middle → id < length middle → least ≤ n
    → last_index (object_at middle id).properties ≡ Some n → IsInOrder made (object_at middle id).properties
    → is_configurable (ordinary_get_own_property made (key.Index n) (object_at middle id).properties) ≡ true
    → new ≡ at_place middle id (without_property made (key.Index n))
    → IsLowered least id old new × (length (object_at new id).properties < length (object_at middle id).properties)
lowered_step {R} {S} made least id n old middle new h lt le last order may next =
    let o : Object R S = object_at middle id in
    let same : object_at new id ≡ without_property made (key.Index n) o = ap (λ os. object_at os id) next ∙ get_or-set_same middle id (without_property made (key.Index n) o) _ lt in
    let k : ℕ = kept_length least (object_at old id).properties in
    let bound : kept_length least o.properties ≤ max least n = kept_under made n least o.properties order (up_to made n o.properties order last) may in
    let under : k ≤ n = let e = h.kept in omega arith in (
      record {
        kept = ap (λ (x : Object R S). kept_length least x.properties) same ∙ (kept_without made n least o.properties may ∙ h.kept);
        left = ap (λ os. at_place os id (without_elements k)) next
            ∙ (set-set middle id (without_property made (key.Index n) o) (without_elements k (object_at (at_place middle id (without_property made (key.Index n))) id))
            ∙ (ap (λ x. slice_set middle id (without_elements k x)) (get_or-set_same middle id (without_property made (key.Index n) o) _ lt)
            ∙ (ap (λ ps. slice_set middle id (record o { properties = ps })) (cut_without made n k o.properties under)
            ∙ h.left)));
        count = ap length next ∙ (length-set middle id (without_property made (key.Index n) o) ∙ h.count);
      },
      subst (λ (x : Object R S). length x.properties < length o.properties) (sym same) (fewer_left made n o.properties last),
    )

-- what stands at the end
pub record IsCutDown {R S : Type 0} (least id count : ℕ) (old new : List (Object R S)) : Type 0 where
  pub count_is : count ≡ kept_length least (object_at old id).properties
  pub objects_are : new ≡ at_place old id (without_elements count)

lowered_end : {R S : Type 0} (least id count : ℕ) (old new : List (Object R S)) → IsLowered least id old new
    → kept_length least (object_at new id).properties ≡ count → filter (λ p. is_below count p.0) (object_at new id).properties ≡ (object_at new id).properties
    → IsCutDown least id count old new
lowered_end {R} {S} least id count old new h stop whole =
    let k : count ≡ kept_length least (object_at old id).properties = sym stop ∙ h.kept in
    record {
      count_is = k;
      objects_are =
          sym (set-get_or new id _)
          ∙ (ap (λ ps. slice_set new id (record (object_at new id) { properties = ps })) (sym whole)
          ∙ subst (λ n. at_place new id (without_elements n) ≡ at_place old id (without_elements n)) (sym k) h.left);
    }

pub lowered_none : {R S : Type 0} (least id : ℕ) (old new : List (Object R S)) → IsLowered least id old new → last_index (object_at new id).properties ≡ None → IsCutDown least id least old new
lowered_none least id old new h none = lowered_end least id least old new h (none_kept least (object_at new id).properties none) (none_cut least (object_at new id).properties none)

pub lowered_under : {R S : Type 0} (made : S → S → Bool) (least id n : ℕ) (old new : List (Object R S)) → IsLowered least id old new → n < least
    → last_index (object_at new id).properties ≡ Some n → IsInOrder made (object_at new id).properties → IsCutDown least id least old new
lowered_under {R} {S} made least id n old new h lt last order =
    let ps = (object_at new id).properties in
    let all = up_to made n ps order last in
    let top = kept_up_to made n least ps all in
    let bottom = kept_least made least ps in
    let stop : kept_length least ps ≡ least = omega arith in
    lowered_end least id least old new h stop (all_below made n least ps lt all)

pub lowered_stop : {R S : Type 0} (made : S → S → Bool) (least id n : ℕ) (old new : List (Object R S)) → IsLowered least id old new → least ≤ n
    → last_index (object_at new id).properties ≡ Some n → IsInOrder made (object_at new id).properties
    → is_configurable (ordinary_get_own_property made (key.Index n) (object_at new id).properties) ≡ false → IsCutDown least id (n + 1) old new
lowered_stop made least id n old new h le last order may =
    let ps = (object_at new id).properties in
    let all = up_to made n ps order last in
    let top = kept_up_to made n least ps all in
    let bottom = kept_reaches made n least ps may in
    let stop : kept_length least ps ≡ n + 1 = omega arith in
    lowered_end least id (n + 1) old new h stop (all_below made n (n + 1) ps (omega arith) all)
