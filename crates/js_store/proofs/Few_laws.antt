-- Entries in two lists, one after the other, are one list: each call on it is that on the first list where the key stands there, and else that on the second.
use Rattle.std.proofs.Common.{◌≡◌, ℕ, zero, suc, ◌+◌, ◌<◌, ◌≤◌, Bool, true, false, cond, List, [], ◌∷◌, ◌++◌, length, get_or, set, take, drop, filter, is_some, Result, Ok, Err, OnOk, OnErr, Option, Some, None, refl, sym, ◌∙◌, ap, add-one, drop-cons, arith}
use Rattle.std.specs.Cmp.{IsEquivalence}
use Rattle.std.specs.List.{AllByRecursion, IsDistinct, remove}
use Rattle.std.specs.Map.{keys_of, lookup, remove_entry, set_value}
use Rattle.std.proofs.lemmas.Map.{keys-set_value}
use Rattle.indexmap.specs.IndexMap.{insert_entry}
use Rattle.lava_base.specs.declared.memory.OutOfMemory.{OutOfMemory}
use Rattle.js_store.specs.Few.{entries_before, with_value_at}

module _ {K X : Type 0} where
  -- THE SCAN

  -- it stops at the key, or goes on
  pub scan_step : (test : K → Bool) (es : List (K × X)) (i : ℕ) (e : K × X) → i < length es → entries_before test (drop i es) ≡ cond (test (get_or es i e).0) 0 (suc (entries_before test (drop (i + 1) es)))
  scan_step test es i e h = rw (add-one, drop-cons es i e) refl

  -- behind the last one nothing is left
  pub scan_end : (test : K → Bool) (es : List (K × X)) → entries_before test (drop (length es) es) ≡ 0
  scan_end test [] = refl
  scan_end test (e ∷ es) = scan_end test es

  -- WHAT IS FOUND

  pub own_few : (test : K → Bool) (es fs : List (K × X)) (e : K × X) → entries_before test es < length es → lookup test (es ++ fs) ≡ Some (get_or es (entries_before test es) e).1
  own_few test [] fs e h = absurd (omega arith)
  own_few test (x ∷ es) fs e h = by_test (test x.0) (λ lt. own_few test es fs e lt) h
    where
      by_test : (b : Bool) → (entries_before test es < length es → lookup test (es ++ fs) ≡ Some (get_or es (entries_before test es) e).1)
          → cond b 0 (suc (entries_before test es)) < length (x ∷ es)
          → cond b (Some x.1) (lookup test (es ++ fs)) ≡ Some (get_or (x ∷ es) (cond b 0 (suc (entries_before test es))) e).1
      by_test true rest lt = refl
      by_test false rest lt = rest (omega arith)

  pub found_few : (test : K → Bool) (es fs : List (K × X)) (i : ℕ) → i ≡ entries_before test es → i < length es → true ≡ is_some (lookup test (es ++ fs))
  found_few test [] fs i at lt = absurd (omega arith)
  found_few test (e ∷ es) fs i at lt = sym (ap is_some (own_few test (e ∷ es) fs e (omega arith)))

  pub own_many : (test : K → Bool) (es fs : List (K × X)) → length es ≤ entries_before test es → lookup test (es ++ fs) ≡ lookup test fs
  own_many test [] fs h = refl
  own_many test (x ∷ es) fs h = by_test (test x.0) (λ le. own_many test es fs le) h
    where
      by_test : (b : Bool) → (length es ≤ entries_before test es → lookup test (es ++ fs) ≡ lookup test fs)
          → length (x ∷ es) ≤ cond b 0 (suc (entries_before test es))
          → cond b (Some x.1) (lookup test (es ++ fs)) ≡ lookup test fs
      by_test true rest le = absurd (omega arith)
      by_test false rest le = rest (omega arith)

  pub own_none : (test : K → Bool) (es fs : List (K × X)) → length es ≤ entries_before test es → length fs ≡ 0 → lookup test (es ++ fs) ≡ None
  own_none test es [] h none = own_many test es [] h
  own_none test es (f ∷ fs) h none = absurd (omega arith)

  -- WHAT IS WRITTEN

  -- one more is written at its place
  pub put_at : (es : List (K × X)) (i : ℕ) (e : K × X) (x : X) → i < length es → with_value_at es i x ≡ set es i ((get_or es i e).0, x)
  put_at [] i e x h = absurd (omega arith)
  put_at (y ∷ es) zero e x h = refl
  put_at (y ∷ es) (suc i) e x h = ap (λ l. y ∷ l) (put_at es i e x (omega arith))

  pub written_few : (eq : K → K → Bool) (k : K) (x : X) (es fs : List (K × X)) → entries_before (eq k) es < length es → with_value_at es (entries_before (eq k) es) x ++ fs ≡ insert_entry eq (es ++ fs) k x
  written_few eq k x [] fs h = absurd (omega arith)
  written_few eq k x (y ∷ es) fs h = by_test (eq k y.0) (λ lt. written_few eq k x es fs lt) h
    where
      by_test : (b : Bool) → (entries_before (eq k) es < length es → with_value_at es (entries_before (eq k) es) x ++ fs ≡ insert_entry eq (es ++ fs) k x)
          → cond b 0 (suc (entries_before (eq k) es)) < length (y ∷ es)
          → with_value_at (y ∷ es) (cond b 0 (suc (entries_before (eq k) es))) x ++ fs ≡ cond b ((y.0, x) ∷ es ++ fs) (y ∷ insert_entry eq (es ++ fs) k x)
      by_test true rest lt = refl
      by_test false rest lt = ap (λ l. y ∷ l) (rest (omega arith))

  -- where the place and what is written are known by equations
  pub written_here : (eq : K → K → Bool) (k : K) (x : X) (es fs gs : List (K × X)) (i : ℕ) → gs ≡ with_value_at es i x → i ≡ entries_before (eq k) es → i < length es → gs ++ fs ≡ insert_entry eq (es ++ fs) k x
  written_here eq k x es fs gs i put at lt = ap (λ l. l ++ fs) (put ∙ ap (λ n. with_value_at es n x) at) ∙ written_few eq k x es fs (omega arith)

  pub written_many : (eq : K → K → Bool) (k : K) (x : X) (es fs : List (K × X)) → length es ≤ entries_before (eq k) es → es ++ insert_entry eq fs k x ≡ insert_entry eq (es ++ fs) k x
  written_many eq k x [] fs h = refl
  written_many eq k x (y ∷ es) fs h = by_test (eq k y.0) (λ le. written_many eq k x es fs le) h
    where
      by_test : (b : Bool) → (length es ≤ entries_before (eq k) es → es ++ insert_entry eq fs k x ≡ insert_entry eq (es ++ fs) k x)
          → length (y ∷ es) ≤ cond b 0 (suc (entries_before (eq k) es))
          → (y ∷ es) ++ insert_entry eq fs k x ≡ cond b ((y.0, x) ∷ es ++ fs) (y ∷ insert_entry eq (es ++ fs) k x)
      by_test true rest le = absurd (omega arith)
      by_test false rest le = ap (λ l. y ∷ l) (rest (omega arith))

  -- the first list takes one more where the second is empty
  pub written_next : (eq : K → K → Bool) (k : K) (x : X) (es fs : List (K × X)) → length es ≤ entries_before (eq k) es → length fs ≡ 0 → (es ++ (k, x) ∷ []) ++ fs ≡ insert_entry eq (es ++ fs) k x
  written_next eq k x es [] h none = nothing_behind (es ++ (k, x) ∷ []) ∙ written_many eq k x es [] h
    where
      nothing_behind : (l : List (K × X)) → l ++ [] ≡ l
      nothing_behind [] = refl
      nothing_behind (y ∷ l) = ap (λ t. y ∷ t) (nothing_behind l)
  written_next eq k x es (f ∷ fs) h none = absurd (omega arith)

  -- WHAT IS TAKEN OUT

  pub removed_few : (test : K → Bool) (es fs : List (K × X)) → entries_before test es < length es → remove es (entries_before test es) ++ fs ≡ remove_entry test (es ++ fs)
  removed_few test [] fs h = absurd (omega arith)
  removed_few test (y ∷ es) fs h = by_test (test y.0) (λ lt. removed_few test es fs lt) h
    where
      by_test : (b : Bool) → (entries_before test es < length es → remove es (entries_before test es) ++ fs ≡ remove_entry test (es ++ fs))
          → cond b 0 (suc (entries_before test es)) < length (y ∷ es)
          → remove (y ∷ es) (cond b 0 (suc (entries_before test es))) ++ fs ≡ cond b (es ++ fs) (y ∷ remove_entry test (es ++ fs))
      by_test true rest lt = refl
      by_test false rest lt = ap (λ l. y ∷ l) (rest (omega arith))

  -- where the place and what is left are known by equations
  pub removed_here : (test : K → Bool) (es fs gs : List (K × X)) (i : ℕ) → gs ≡ remove es i → i ≡ entries_before test es → i < length es → gs ++ fs ≡ remove_entry test (es ++ fs)
  removed_here test es fs gs i left at lt = ap (λ l. l ++ fs) (left ∙ ap (λ n. remove es n) at) ∙ removed_few test es fs (omega arith)

  pub removed_many : (test : K → Bool) (es fs : List (K × X)) → length es ≤ entries_before test es → es ++ remove_entry test fs ≡ remove_entry test (es ++ fs)
  removed_many test [] fs h = refl
  removed_many test (y ∷ es) fs h = by_test (test y.0) (λ le. removed_many test es fs le) h
    where
      by_test : (b : Bool) → (length es ≤ entries_before test es → es ++ remove_entry test fs ≡ remove_entry test (es ++ fs))
          → length (y ∷ es) ≤ cond b 0 (suc (entries_before test es))
          → (y ∷ es) ++ remove_entry test fs ≡ cond b (es ++ fs) (y ∷ remove_entry test (es ++ fs))
      by_test true rest le = absurd (omega arith)
      by_test false rest le = ap (λ l. y ∷ l) (rest (omega arith))

  -- WHAT IS REPLACED

  pub replaced_few : (test : K → Bool) (x : X) (es fs : List (K × X)) → entries_before test es < length es → with_value_at es (entries_before test es) x ++ fs ≡ set_value test (es ++ fs) x
  replaced_few test x [] fs h = absurd (omega arith)
  replaced_few test x (y ∷ es) fs h = by_test (test y.0) (λ lt. replaced_few test x es fs lt) h
    where
      by_test : (b : Bool) → (entries_before test es < length es → with_value_at es (entries_before test es) x ++ fs ≡ set_value test (es ++ fs) x)
          → cond b 0 (suc (entries_before test es)) < length (y ∷ es)
          → with_value_at (y ∷ es) (cond b 0 (suc (entries_before test es))) x ++ fs ≡ cond b ((y.0, x) ∷ es ++ fs) (y ∷ set_value test (es ++ fs) x)
      by_test true rest lt = refl
      by_test false rest lt = ap (λ l. y ∷ l) (rest (omega arith))

  pub replaced_here : (test : K → Bool) (x : X) (es fs gs : List (K × X)) (i : ℕ) → gs ≡ with_value_at es i x → i ≡ entries_before test es → i < length es → gs ++ fs ≡ set_value test (es ++ fs) x
  replaced_here test x es fs gs i put at lt = ap (λ l. l ++ fs) (put ∙ ap (λ n. with_value_at es n x) at) ∙ replaced_few test x es fs (omega arith)

  pub replaced_many : (test : K → Bool) (x : X) (es fs : List (K × X)) → length es ≤ entries_before test es → es ++ set_value test fs x ≡ set_value test (es ++ fs) x
  replaced_many test x [] fs h = refl
  replaced_many test x (y ∷ es) fs h = by_test (test y.0) (λ le. replaced_many test x es fs le) h
    where
      by_test : (b : Bool) → (length es ≤ entries_before test es → es ++ set_value test fs x ≡ set_value test (es ++ fs) x)
          → length (y ∷ es) ≤ cond b 0 (suc (entries_before test es))
          → (y ∷ es) ++ set_value test fs x ≡ cond b ((y.0, x) ∷ es ++ fs) (y ∷ set_value test (es ++ fs) x)
      by_test true rest le = absurd (omega arith)
      by_test false rest le = ap (λ l. y ∷ l) (rest (omega arith))

  -- a key that is there is replaced where it is inserted again
  pub inserted_again : (eq : K → K → Bool) (k : K) (x : X) (es : List (K × X)) → is_some (lookup (eq k) es) ≡ true → insert_entry eq es k x ≡ set_value (eq k) es x
  inserted_again eq k x [] h = absurd cc
  inserted_again eq k x (y ∷ es) h = by_test (eq k y.0) (λ t. inserted_again eq k x es t) h
    where
      by_test : (b : Bool) → (is_some (lookup (eq k) es) ≡ true → insert_entry eq es k x ≡ set_value (eq k) es x)
          → is_some (cond b (Some y.1) (lookup (eq k) es)) ≡ true
          → cond b ((y.0, x) ∷ es) (y ∷ insert_entry eq es k x) ≡ cond b ((y.0, x) ∷ es) (y ∷ set_value (eq k) es x)
      by_test true rest t = refl
      by_test false rest t = ap (λ l. y ∷ l) (rest t)

  -- a key that is not there is not replaced
  pub none_replaced : (test : K → Bool) (x : X) (es : List (K × X)) → is_some (lookup test es) ≡ false → set_value test es x ≡ es
  none_replaced test x [] h = refl
  none_replaced test x (y ∷ es) h = by_test (test y.0) (λ t. none_replaced test x es t) h
    where
      by_test : (b : Bool) → (is_some (lookup test es) ≡ false → set_value test es x ≡ es)
          → is_some (cond b (Some y.1) (lookup test es)) ≡ false
          → cond b ((y.0, x) ∷ es) (y ∷ set_value test es x) ≡ y ∷ es
      by_test true rest t = absurd cc
      by_test false rest t = ap (λ l. y ∷ l) (rest t)

-- NONE TWICE

turned : {K : Type 0} {eq : K → K → Bool} → IsEquivalence eq → (j k : K) → eq k j ≡ false → eq j k ≡ false
turned laws j k h = laws.symm j k ∙ h

module _ {K X : Type 0} {eq : K → K → Bool} (laws : IsEquivalence eq) where
  others : (k j : K) (x : X) (es : List (K × X)) → eq j k ≡ false → AllByRecursion (λ o. eq j o ≡ false) (keys_of es) → AllByRecursion (λ o. eq j o ≡ false) (keys_of (insert_entry eq es k x))
  others k j x [] h all = (h, record {})
  others k j x (e ∷ es) h all = by_test (eq k e.0) (others k j x es h all.1)
    where
      by_test : (b : Bool) → AllByRecursion (λ o. eq j o ≡ false) (keys_of (insert_entry eq es k x)) → AllByRecursion (λ o. eq j o ≡ false) (keys_of (cond b ((e.0, x) ∷ es) (e ∷ insert_entry eq es k x)))
      by_test true rest = all
      by_test false rest = (all.0, rest)

  pub distinct_written : (k : K) (x : X) (es : List (K × X)) → IsDistinct eq (keys_of es) → IsDistinct eq (keys_of (insert_entry eq es k x))
  unfolding IsDistinct
  distinct_written k x [] distinct = (record {}, record {})
  distinct_written k x (e ∷ es) distinct = by_test (eq k e.0) refl (distinct_written k x es distinct.1)
    where
      by_test : (b : Bool) → eq k e.0 ≡ b → IsDistinct eq (keys_of (insert_entry eq es k x)) → IsDistinct eq (keys_of (cond b ((e.0, x) ∷ es) (e ∷ insert_entry eq es k x)))
      by_test true same rest = distinct
      by_test false other rest = (others k e.0 x es (turned laws e.0 k other) distinct.0, rest)

fewer : {K X : Type 0} (eq : K → K → Bool) (test : K → Bool) (j : K) (es : List (K × X)) → AllByRecursion (λ o. eq j o ≡ false) (keys_of es) → AllByRecursion (λ o. eq j o ≡ false) (keys_of (remove_entry test es))
fewer eq test j [] all = all
fewer {K} {X} eq test j (e ∷ es) all = by_test (test e.0) (fewer eq test j es all.1)
  where
    by_test : (b : Bool) → AllByRecursion (λ o. eq j o ≡ false) (keys_of (remove_entry test es)) → AllByRecursion (λ o. eq j o ≡ false) (keys_of (cond b es (e ∷ remove_entry test es)))
    by_test true rest = all.1
    by_test false rest = (all.0, rest)

pub distinct_removed : {K X : Type 0} (eq : K → K → Bool) (test : K → Bool) (es : List (K × X)) → IsDistinct eq (keys_of es) → IsDistinct eq (keys_of (remove_entry test es))
unfolding IsDistinct
distinct_removed eq test [] distinct = distinct
distinct_removed {K} {X} eq test (e ∷ es) distinct = by_test (test e.0) (distinct_removed eq test es distinct.1)
  where
    by_test : (b : Bool) → IsDistinct eq (keys_of (remove_entry test es)) → IsDistinct eq (keys_of (cond b es (e ∷ remove_entry test es)))
    by_test true rest = distinct.1
    by_test false rest = (fewer eq test e.0 es distinct.0, rest)

-- WHAT A CALL LEAVES

pub distinct_after : {K X : Type 0} {eq : K → K → Bool} → IsEquivalence eq → (k : K) (x : X) (es fs : List (K × X)) (r : Result (Unit {0}) OutOfMemory) → OnOk r (fs ≡ insert_entry eq es k x) → OnErr r (fs ≡ es) → IsDistinct eq (keys_of es) → IsDistinct eq (keys_of fs)
distinct_after laws k x es fs (Ok u) ok err distinct = rw ok (distinct_written laws k x es distinct)
distinct_after laws k x es fs (Err e) ok err distinct = rw err distinct

-- the chosen ones of two lists, one after the other
pub chosen_behind : {K X : Type 0} (test : K → Bool) (es fs : List (K × X)) → filter test (keys_of (es ++ fs)) ≡ filter test (keys_of es) ++ filter test (keys_of fs)
chosen_behind test [] fs = refl
chosen_behind test (e ∷ es) fs = by_test (test e.0) (chosen_behind test es fs)
  where
    by_test : (b : Bool) → filter test (keys_of (es ++ fs)) ≡ filter test (keys_of es) ++ filter test (keys_of fs) → cond b (e.0 ∷ filter test (keys_of (es ++ fs))) (filter test (keys_of (es ++ fs))) ≡ cond b (e.0 ∷ filter test (keys_of es)) (filter test (keys_of es)) ++ filter test (keys_of fs)
    by_test true rest = ap (λ l. e.0 ∷ l) rest
    by_test false rest = rest

pub distinct_less : {K X : Type 0} (eq : K → K → Bool) (test : K → Bool) (es fs : List (K × X)) → fs ≡ remove_entry test es → IsDistinct eq (keys_of es) → IsDistinct eq (keys_of fs)
distinct_less eq test es fs same distinct = rw same (distinct_removed eq test es distinct)

pub distinct_replaced : {K X : Type 0} (eq : K → K → Bool) (test : K → Bool) (x : X) (es fs : List (K × X)) → fs ≡ set_value test es x → IsDistinct eq (keys_of es) → IsDistinct eq (keys_of fs)
distinct_replaced eq test x es fs same distinct = rw same (rw keys-set_value distinct)
