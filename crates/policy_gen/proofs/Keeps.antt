-- Which keys a row keeps, and with which grade.
use Rattle.std.proofs.Common.{◌≡◌, ℕ, ◌+◌, suc, List, [], ◌∷◌, Bool, true, false, ◌&&◌, ◌||◌, not, cond, Some, None, fold, map, take, length, bytes_eq, refl, sym, ap, ◌∙◌, arith, le-ltb, ltb-false}
use Rattle.std.proofs.lemmas.List.{take_all}
use Rattle.std.proofs.lemmas.List.Folds.{length-prefix_len}
use Rattle.std.specs.List.{list_all, list_any, prefix_len, before_first, after_first}
use Rattle.policy_row.specs.Rows.{Entries, at_name, is_granting, is_write, raised}
use Rattle.policy_row.specs.declared.grade.Grade.{Grade}
use Rattle.policy_row.specs.declared.grade.Grade.TheVariants.{No, Yes, Write}
use Rattle.policy_globals.specs.Keys.{first_name, second_name, has_point, is_point}
use Rattle.policy_gen.specs.Kept.{kept_key, with_kept, kept_keys}
use Rattle.policy_gen.specs.Laws.{begins_with}
use Rattle.policy_gen.specs.Uses.{write_grade}
use Rattle.policy_gen.proofs.Anys.{Among, some_of, any_same, any_map, same_bytes, itself, and_both, and_first, and_second, both_ways, by_truth, clash, not_some}
use Rattle.policy_gen.proofs.Raises.{Want, with_want, all_wants, wanted, assigned, grade_from, want_found, want_is, want_names, want_writes, want_grants}

-- FIRST NAMES

one_more : (n : ℕ) → 1 + n ≡ suc n
one_more n = omega arith

module _ (p : ℕ → Bool) where
  front : List ℕ → List ℕ
  front xs = take (prefix_len p xs) xs

  front_by : (x : ℕ) (xs : List ℕ) (b : Bool) → p x ≡ b → take (prefix_len p (take (prefix_len p xs) xs)) (take (prefix_len p xs) xs) ≡ take (prefix_len p xs) xs → take (prefix_len p (take (cond b (1 + prefix_len p xs) 0) (x ∷ xs))) (take (cond b (1 + prefix_len p xs) 0) (x ∷ xs)) ≡ take (cond b (1 + prefix_len p xs) 0) (x ∷ xs)
  front_by x xs true is rest =
      rw (one_more (prefix_len p xs), is, one_more (prefix_len p (take (prefix_len p xs) xs))) (ap (λ ys. x ∷ ys) rest)
  front_by x xs false is rest = refl

  front_once : (xs : List ℕ) → take (prefix_len p (take (prefix_len p xs) xs)) (take (prefix_len p xs) xs) ≡ take (prefix_len p xs) xs
  front_once [] = refl
  front_once (x ∷ xs) = front_by x xs (p x) refl (front_once xs)

-- a first name has no other first name
pub first_once : (key : List ℕ) → first_name (first_name key) ≡ first_name key
first_once key = front_once (λ x. not (is_point x)) key

-- a first name has no second one
no_second_by : (key : List ℕ) (b : Bool) → has_point key ≡ b → second_name key ≡ None → b ≡ false
no_second_by key true is none = not_some _ (sym none ∙ ap (λ b. cond b (Some (before_first is_point (after_first is_point key))) None) is)
no_second_by key false is none = refl

-- a key without a second name is its first one
pub lone_is_first : (key : List ℕ) → second_name key ≡ None → first_name key ≡ key
lone_is_first key none =
    take_all (prefix_len (λ x. not (is_point x)) key) key (ltb-false (prefix_len (λ x. not (is_point x)) key) (length key) (no_second_by key (has_point key) refl none))

pub first_is_lone : (key : List ℕ) → second_name (first_name key) ≡ None
first_is_lone key =
    let q : ℕ → Bool = λ x. not (is_point x) in
    let name = first_name key in
    let whole : length name ≡ prefix_len q name = ap length (sym (first_once key)) ∙ length-prefix_len q name in
    ap (λ b. cond b (Some (before_first is_point (after_first is_point name))) None) (le-ltb (prefix_len q name) (length name) (omega (arith, whole)))

-- THE KEPT KEYS, AS KEYS THAT ARE WANTED

module _ (keys : Entries) where
  abbrev kept_want : List ℕ × Grade → Want
  kept_want e = (kept_key keys e.0, is_write e.1)

  same_grade : (g : Grade) → is_granting g ≡ true → g ≡ write_grade (is_write g)
  same_grade No h = clash (sym h)
  same_grade Yes h = refl
  same_grade Write h = refl

  kept_from : (es done : Entries) → list_all (λ e. is_granting e.1) es ≡ true → fold (with_kept keys) done es ≡ fold with_want done (map kept_want es)
  kept_from [] done all = refl
  kept_from (e ∷ es) done all =
      ap (λ g. fold (with_kept keys) (raised done (kept_key keys e.0) g) es) (same_grade e.1 (and_first (is_granting e.1) _ all))
      ∙ kept_from es (with_want done (kept_want e)) (and_second (is_granting e.1) _ all)

module _ (us : List Want) where
  -- the key that stands for one
  abbrev pub kept_of : List ℕ → List ℕ
  kept_of key = cond (wanted (first_name key) us) (first_name key) key

  -- each of them grants
  pub kept_grants : list_all (λ e. is_granting e.1) (kept_keys (all_wants us)) ≡ true
  kept_grants =
      ap (list_all (λ e. is_granting e.1)) (kept_from (all_wants us) (all_wants us) [] (want_grants us))
      ∙ want_grants (map (kept_want (all_wants us)) (all_wants us))

  kept_same : (key : List ℕ) → kept_key (all_wants us) key ≡ kept_of key
  kept_same key = ap (λ b. cond b (first_name key) key) (want_is (first_name key) us)

  module _ (k : List ℕ) where
    kept_wanted : wanted k (map (kept_want (all_wants us)) (all_wants us)) ≡ list_any (λ u. bytes_eq k (kept_of u.0)) us
    kept_wanted =
        any_map (λ (u : Want). bytes_eq k u.0) (kept_want (all_wants us)) (all_wants us)
        ∙ want_names (λ key. bytes_eq k (kept_key (all_wants us) key)) us
        ∙ any_same (λ u. bytes_eq k (kept_key (all_wants us) u.0)) (λ u. bytes_eq k (kept_of u.0)) us (λ u. ap (bytes_eq k) (kept_same u.0))

    kept_assigned : assigned k (map (kept_want (all_wants us)) (all_wants us)) ≡ list_any (λ u. bytes_eq k (kept_of u.0) && u.1) us
    kept_assigned =
        any_map (λ (u : Want). bytes_eq k u.0 && u.1) (kept_want (all_wants us)) (all_wants us)
        ∙ want_writes (λ key. bytes_eq k (kept_key (all_wants us) key)) us
        ∙ any_same (λ u. bytes_eq k (kept_key (all_wants us) u.0) && u.1) (λ u. bytes_eq k (kept_of u.0) && u.1) us (λ u. ap (λ m. bytes_eq k m && u.1) (kept_same u.0))

    kept_found : at_name k (kept_keys (all_wants us)) ≡ grade_from (list_any (λ u. bytes_eq k (kept_of u.0)) us) (list_any (λ u. bytes_eq k (kept_of u.0) && u.1) us)
    kept_found =
        ap (at_name k) (kept_from (all_wants us) (all_wants us) [] (want_grants us))
        ∙ want_found k (map (kept_want (all_wants us)) (all_wants us))
        ∙ ap (λ i. grade_from i (assigned k (map (kept_want (all_wants us)) (all_wants us)))) kept_wanted
        ∙ ap (λ w. grade_from (list_any (λ u. bytes_eq k (kept_of u.0)) us) w) kept_assigned

  -- WHICH KEYS STAND

  abbrev pub has_prefix : List ℕ → Bool
  has_prefix k = wanted (first_name k) us && not (bytes_eq (first_name k) k)

  -- a key stands where it is wanted, and no proper prefix is
  abbrev pub stands : List ℕ → Bool
  stands k = wanted k us && not (has_prefix k)

  unless : (b : Bool) → not (b && false) ≡ true
  unless true = refl
  unless false = refl

  no_prefix : (k : List ℕ) → bytes_eq (first_name k) k ≡ true → not (has_prefix k) ≡ true
  no_prefix k h = ap (λ b. not (wanted (first_name k) us && not b)) h ∙ unless (wanted (first_name k) us)

  prefix_same_by : (k : List ℕ) (b : Bool) → bytes_eq (first_name k) k ≡ b → not (true && not b) ≡ true → first_name k ≡ k
  prefix_same_by k true is h = same_bytes (first_name k) k is
  prefix_same_by k false is h = clash (sym h)

  pub prefix_same : (k : List ℕ) → stands k ≡ true → wanted (first_name k) us ≡ true → first_name k ≡ k
  prefix_same k h used =
      prefix_same_by k (bytes_eq (first_name k) k) refl (sym (ap (λ b. not (b && not (bytes_eq (first_name k) k))) used) ∙ and_second (wanted k us) (not (has_prefix k)) h)

  first_stands : (key : List ℕ) → wanted (first_name key) us ≡ true → stands (first_name key) ≡ true
  first_stands key used =
      and_both (wanted (first_name key) us) _ used (no_prefix (first_name key) (ap (λ m. bytes_eq m (first_name key)) (first_once key) ∙ itself (first_name key)))

  key_stands : (u : Want) → Among u us → wanted (first_name u.0) us ≡ false → stands u.0 ≡ true
  key_stands u among unused =
      and_both (wanted u.0 us) _ (among (λ v. bytes_eq u.0 v.0) (itself u.0)) (ap (λ b. not (b && not (bytes_eq (first_name u.0) u.0))) unused)

  kept_stands : (k : List ℕ) (u : Want) → Among u us → bytes_eq k (kept_of u.0) ≡ true → stands k ≡ true
  kept_stands k u among h =
      by_truth (stands k ≡ true) (wanted (first_name u.0) us)
      (λ used. ap stands (same_bytes k (first_name u.0) (sym (ap (λ b. bytes_eq k (cond b (first_name u.0) u.0)) used) ∙ h)) ∙ first_stands u.0 used)
      (λ unused. ap stands (same_bytes k u.0 (sym (ap (λ b. bytes_eq k (cond b (first_name u.0) u.0)) unused) ∙ h)) ∙ key_stands u among unused)

  kept_itself : (k : List ℕ) → stands k ≡ true → kept_of k ≡ k
  kept_itself k h =
      by_truth (kept_of k ≡ k) (wanted (first_name k) us)
      (λ used. ap (λ b. cond b (first_name k) k) used ∙ prefix_same k h used)
      (λ unused. ap (λ b. cond b (first_name k) k) unused)

  module _ (k : List ℕ) where
    stands_kept : stands k ≡ true → list_any (λ u. bytes_eq k (kept_of u.0)) us ≡ true
    stands_kept h =
        let found = some_of (λ (u : Want). bytes_eq k u.0) us (and_first (wanted k us) (not (has_prefix k)) h) in
        found.2 (λ u. bytes_eq k (kept_of u.0)) (ap (λ m. bytes_eq k (kept_of m)) (sym (same_bytes k found.0.0 found.1)) ∙ ap (bytes_eq k) (kept_itself k h) ∙ itself k)

    which_stand : list_any (λ u. bytes_eq k (kept_of u.0)) us ≡ stands k
    which_stand =
        both_ways (list_any (λ u. bytes_eq k (kept_of u.0)) us) (stands k)
        (λ h. let found = some_of (λ (u : Want). bytes_eq k (kept_of u.0)) us h in kept_stands k found.0 found.2 found.1) stands_kept

    or_absorbs : (a b : Bool) → (a ≡ true → b ≡ true) → b ≡ (a || b)
    or_absorbs true b h = h refl
    or_absorbs false b h = refl

    or_keeps : (a b : Bool) → (b ≡ true → a ≡ true) → a ≡ (a || b)
    or_keeps true b h = refl
    or_keeps false true h = clash (sym (h refl))
    or_keeps false false h = refl

    prefix_here : stands k ≡ true → (key : List ℕ) → wanted (first_name key) us ≡ true → k ≡ key → k ≡ first_name key
    prefix_here h key used same =
        sym (prefix_same k h (ap (λ m. wanted (first_name m) us) same ∙ used)) ∙ ap first_name same

    -- a key stands for those that begin with it
    begins : stands k ≡ true → (key : List ℕ) → bytes_eq k (kept_of key) ≡ begins_with k key
    begins h key =
        by_truth (bytes_eq k (kept_of key) ≡ begins_with k key) (wanted (first_name key) us)
        (λ used. ap (λ b. bytes_eq k (cond b (first_name key) key)) used
        ∙ or_absorbs (bytes_eq k key) (bytes_eq k (first_name key)) (λ is. ap (λ m. bytes_eq m (first_name key)) (prefix_here h key used (same_bytes k key is)) ∙ itself (first_name key)))
        (λ unused. ap (λ b. bytes_eq k (cond b (first_name key) key)) unused
        ∙ or_keeps (bytes_eq k key) (bytes_eq k (first_name key)) (λ is. clash (sym (ap (λ m. wanted m us) (sym (same_bytes k (first_name key) is)) ∙ and_first (wanted k us) _ h) ∙ unused)))

    swapped : (b c : Bool) → (b && c) ≡ (c && b)
    swapped true true = refl
    swapped true false = refl
    swapped false true = refl
    swapped false false = refl

    exact_by : (b : Bool) → stands k ≡ b → grade_from b (list_any (λ u. bytes_eq k (kept_of u.0) && u.1) us) ≡ cond b (Some (write_grade (list_any (λ u. u.1 && begins_with k u.0) us))) None
    exact_by true h =
        ap (λ w. Some (write_grade w))
        (any_same (λ u. bytes_eq k (kept_of u.0) && u.1) (λ u. u.1 && begins_with k u.0) us (λ u. ap (λ b. b && u.1) (begins h u.0) ∙ swapped (begins_with k u.0) u.1))
    exact_by false h = refl

    -- what stands at a key that is kept
    pub kept_exact : at_name k (kept_keys (all_wants us)) ≡ cond (stands k) (Some (write_grade (list_any (λ u. u.1 && begins_with k u.0) us))) None
    kept_exact =
        kept_found k ∙ ap (λ i. grade_from i (list_any (λ u. bytes_eq k (kept_of u.0) && u.1) us)) which_stand ∙ exact_by (stands k) refl
