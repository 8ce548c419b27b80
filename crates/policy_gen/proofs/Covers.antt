-- The generated policy covers each use, and nothing less does.
use Rattle.std.proofs.Common.{◌≡◌, ◌⊎◌, inl, inr, ℕ, List, Bool, true, false, ◌&&◌, ◌||◌, not, cond, Option, Some, None, is_some, bytes_eq, refl, sym, ap, ◌∙◌, subst}
use Rattle.std.specs.List.{list_all, list_any}
use Rattle.pkg_load.specs.Applications.{Application as App}
use Rattle.pkg_source.specs.declared.code.ModuleCode.{ModuleCode}
use Rattle.policy_globals.specs.Hosts.{host_name, is_intrinsic}
use Rattle.policy_globals.specs.Keys.{first_name}
use Rattle.policy_globals.specs.declared.host.HostObject.TheVariants.{Fs}
use Rattle.policy_row.specs.Laws.{entries_of_kind}
use Rattle.policy_row.specs.Rows.{at_name, is_granting}
use Rattle.policy_row.specs.declared.grade.Grade.{Grade}
use Rattle.policy_row.specs.declared.grade.Grade.TheVariants.{No, Yes, Write}
use Rattle.policy_row.specs.declared.grade.Kind.{Kind}
use Rattle.policy_row.specs.declared.grade.Kind.TheVariants.{Builtin, Globals, Packages}
use Rattle.policy_row.specs.declared.row.Row.{Row}
use Rattle.policy_gen.specs.Generated.{generated, generated_row}
use Rattle.policy_gen.specs.Laws.{owner_name, uses_key, begins_with, is_assignment, assigns_below, uses_builtin, uses_package, has_used_prefix, exact_key, exact_entry, grants_no_more, GrantsNoMore, Each_use_is_covered, No_less_covers}
use Rattle.policy_gen.specs.Needs.{Use, OfKey, OfBuiltin, OfPackage, uses_of, grants, covers, covered_by}
use Rattle.policy_gen.specs.Uses.{path_key, write_grade}
use Rattle.policy_gen.proofs.Anys.{Among, on_some, some_of, all_of, all_at, any_same, any_never, any_picked, same_bytes, itself, and_both, and_first, and_second, or_first, or_second, by_truth, falsely, clash, unwrapped}
use Rattle.policy_gen.proofs.Exact.{row_exact}
use Rattle.policy_gen.proofs.Keeps.{first_once}
use Rattle.policy_gen.proofs.PlacedRows.{row_there}
use Rattle.policy_gen.proofs.Raises.{Want}
use Rattle.policy_gen.proofs.Wants.{path_want, all_paths, keys_alone, request_never}

-- EACH USE OF A GLOBAL WANTS A GRANT, AND IS OF NO INTRINSIC

abbrev pub is_sound : Use → Bool
is_sound (OfKey key grade) = not (is_intrinsic (first_name key)) && is_granting grade
is_sound OfBuiltin = true
is_sound (OfPackage name) = true

sound_by : (key : List ℕ) (write : Bool) (b : Bool) → is_intrinsic (first_name key) ≡ b → on_some (λ (u : Want). not (not (is_intrinsic (first_name u.0)) && is_granting (write_grade u.1))) (cond b None (Some (key, write))) ≡ false
sound_by key write true is = refl
sound_by key true false is = ap (λ b. not (not b && true)) is
sound_by key false false is = ap (λ b. not (not b && true)) is

twice_not : (b : Bool) → not b ≡ false → b ≡ true
twice_not true h = refl
twice_not false h = clash h

module _ (app : App ModuleCode) (owner : ℕ) where
  none_unsound : list_any (λ u. not (is_sound u)) (uses_of app owner) ≡ false
  none_unsound =
      keys_alone (λ u. not (is_sound u)) app owner (request_never (λ u. not (is_sound u)) app.packages owner refl (λ name. refl))
      ∙ any_picked (λ (u : Want). not (is_sound (OfKey u.0 (write_grade u.1)))) path_want (all_paths app owner)
      ∙ any_same (λ p. on_some (λ (u : Want). not (is_sound (OfKey u.0 (write_grade u.1)))) (path_want p)) (λ p. false) (all_paths app owner) (λ p. sound_by (path_key p) p.write (is_intrinsic (first_name (path_key p))) refl)
      ∙ any_never (all_paths app owner)

  pub use_sound : (u : Use) → Among u (uses_of app owner) → is_sound u ≡ true
  use_sound u among =
      by_truth (is_sound u ≡ true) (is_sound u) (λ is. is) (λ is. clash (sym (among (λ v. not (is_sound v)) (ap not is)) ∙ none_unsound))

module _ (us : List Use) where
  -- a key stands in the row that the uses show
  abbrev pub shows : List ℕ → Bool
  shows key = list_any (uses_key key) us && not (has_used_prefix us key)

  unless : (b : Bool) → not (b && false) ≡ true
  unless true = refl
  unless false = refl

  pub first_shows : (key : List ℕ) → list_any (uses_key (first_name key)) us ≡ true → shows (first_name key) ≡ true
  first_shows key used =
      and_both (list_any (uses_key (first_name key)) us) _ used
      (ap (λ b. not (list_any (uses_key (first_name (first_name key))) us && not b)) (ap (λ m. bytes_eq m (first_name key)) (first_once key) ∙ itself (first_name key))
      ∙ unless (list_any (uses_key (first_name (first_name key))) us))

  pub key_shows : (key : List ℕ) → list_any (uses_key key) us ≡ true → list_any (uses_key (first_name key)) us ≡ false → shows key ≡ true
  key_shows key used unused = and_both (list_any (uses_key key) us) _ used (ap (λ b. not (b && not (bytes_eq (first_name key) key))) unused)

  same_by : (key : List ℕ) (b : Bool) → bytes_eq (first_name key) key ≡ b → not (true && not b) ≡ true → first_name key ≡ key
  same_by key true is h = same_bytes (first_name key) key is
  same_by key false is h = clash (sym h)

  -- no other prefix of a key that stands is used
  pub shows_alone : (key : List ℕ) → shows key ≡ true → list_any (uses_key (first_name key)) us ≡ true → first_name key ≡ key
  shows_alone key h used =
      same_by key (bytes_eq (first_name key) key) refl
      (sym (ap (λ b. not (b && not (bytes_eq (first_name key) key))) used) ∙ and_second (list_any (uses_key key) us) (not (has_used_prefix us key)) h)

  -- COVERED

  grants_enough : (grade : Grade) (w : Bool) → (grade ≡ Write → w ≡ true) → grants grade (Some (write_grade w)) ≡ true
  grants_enough No w h = refl
  grants_enough Yes true h = refl
  grants_enough Yes false h = refl
  grants_enough Write w h = ap (λ w. grants Write (Some (write_grade w))) (h refl)

  shown_grants : (key used : List ℕ) (grade : Grade) → Among (OfKey used grade) us → shows key ≡ true → begins_with key used ≡ true → grants grade (exact_key us key) ≡ true
  shown_grants key used grade among is begins =
      ap (λ b. grants grade (cond b (Some (write_grade (list_any (assigns_below key) us))) None)) is
      ∙ grants_enough grade (list_any (assigns_below key) us) (λ writes. among (assigns_below key) (and_both (is_assignment grade) (begins_with key used) (ap is_assignment writes) begins))

  key_covered : (key : List ℕ) (grade : Grade) → Among (OfKey key grade) us → (grants grade (exact_key us key) || grants grade (exact_key us (first_name key))) ≡ true
  key_covered key grade among =
      by_truth ((grants grade (exact_key us key) || grants grade (exact_key us (first_name key))) ≡ true) (list_any (uses_key (first_name key)) us)
      (λ used. or_second (grants grade (exact_key us key)) _ (shown_grants (first_name key) key grade among (first_shows key used) (or_second (bytes_eq (first_name key) key) _ (itself (first_name key)))))
      (λ unused. or_first _ (grants grade (exact_key us (first_name key))) (shown_grants key key grade among (key_shows key (among (uses_key key) (itself key)) unused) (or_first (bytes_eq key key) _ (itself key))))

  module _ (row : Row) (exact : (kind : Kind) (key : List ℕ) → at_name key (entries_of_kind kind row) ≡ exact_entry us kind key) where
    pub use_covered : (u : Use) → Among u us → covers row u ≡ true
    use_covered (OfKey key grade) among =
        ap (λ o. grants grade o || grants grade (at_name (first_name key) row.globals)) (exact Globals key)
        ∙ ap (λ o. grants grade (exact_key us key) || grants grade o) (exact Globals (first_name key)) ∙ key_covered key grade among
    use_covered OfBuiltin among =
        ap (grants Yes) (exact Builtin (host_name Fs)) ∙ ap (λ b. grants Yes (cond b (Some Yes) None)) (among uses_builtin refl)
    use_covered (OfPackage name) among =
        ap (grants Yes) (exact Packages name) ∙ ap (λ b. grants Yes (cond b (Some Yes) None)) (among (uses_package name) (itself name))

    -- LEAST

    module _ (less : Row) (below : GrantsNoMore less row) (all : list_all (covers less) us ≡ true) where
      some_more : (grade : Grade) → is_granting grade ≡ true → (o other : Option Grade) → grants grade o ≡ true → grants_no_more o other ≡ true → is_some other ≡ true
      some_more grade granting o (Some g) h more = refl
      some_more No granting o None h more = clash (sym granting)
      some_more Yes granting None None h more = clash (sym h)
      some_more Yes granting (Some No) None h more = clash (sym h)
      some_more Yes granting (Some Yes) None h more = clash (sym more)
      some_more Yes granting (Some Write) None h more = clash (sym more)
      some_more Write granting None None h more = clash (sym h)
      some_more Write granting (Some No) None h more = clash (sym h)
      some_more Write granting (Some Yes) None h more = clash (sym h)
      some_more Write granting (Some Write) None h more = clash (sym more)

      some_shows : (b : Bool) (g : Grade) → is_some (cond b (Some g) None) ≡ true → b ≡ true
      some_shows true g h = refl
      some_shows false g h = h

      -- what the lesser row grants stands in the row
      granted_shows : (key : List ℕ) (grade : Grade) → is_granting grade ≡ true → grants grade (at_name key less.globals) ≡ true → shows key ≡ true
      granted_shows key grade granting h =
          some_shows (shows key) (write_grade (list_any (assigns_below key) us))
          (ap is_some (sym (exact Globals key)) ∙ some_more grade granting (at_name key less.globals) (at_name key row.globals) h (below Globals key))

      -- the prefix by which the lesser row grants a use is the key that stands
      module _ (key used : List ℕ) (grade : Grade) (is : shows key ≡ true) (granting : is_granting grade ≡ true) where
        abbrev here : List ℕ → Type 0
        here k = grants grade (at_name k less.globals) ≡ true

        by_key : key ≡ used → here used → here key
        by_key same h = subst here (sym same) h

        by_first : key ≡ first_name used → here (first_name used) → here key
        by_first same h = subst here (sym same) h

        first_of_key : key ≡ used → here (first_name used) → here key
        first_of_key same h =
            let first : here (first_name key) = subst (λ k. here (first_name k)) (sym same) h in
            subst here (shows_alone key is (and_first (list_any (uses_key (first_name key)) us) _ (granted_shows (first_name key) grade granting first))) first

        key_of_first : key ≡ first_name used → here used → here key
        key_of_first same h =
            let shown : list_any (uses_key (first_name used)) us ≡ true = ap (λ k. list_any (uses_key k) us) (sym same) ∙ and_first (list_any (uses_key key) us) _ is in
            subst here (sym (same ∙ shows_alone used (granted_shows used grade granting h) shown)) h

        here_by : (b : Bool) → grants grade (at_name used less.globals) ≡ b → (b || grants grade (at_name (first_name used) less.globals)) ≡ true → (key ≡ used) ⊎ (key ≡ first_name used) → here key
        here_by true first h (inl same) = by_key same first
        here_by true first h (inr same) = key_of_first same first
        here_by false first h (inl same) = first_of_key same h
        here_by false first h (inr same) = by_first same h

        grants_here : (grants grade (at_name used less.globals) || grants grade (at_name (first_name used) less.globals)) ≡ true → (key ≡ used) ⊎ (key ≡ first_name used) → here key
        grants_here h same = here_by (grants grade (at_name used less.globals)) refl h same

      grants_yes : (grade : Grade) (o : Option Grade) → is_granting grade ≡ true → grants grade o ≡ true → grants Yes o ≡ true
      grants_yes No o granting h = clash (sym granting)
      grants_yes Yes o granting h = h
      grants_yes Write None granting h = h
      grants_yes Write (Some No) granting h = h
      grants_yes Write (Some Yes) granting h = refl
      grants_yes Write (Some Write) granting h = refl

      is_write_grade : (grade : Grade) → is_assignment grade ≡ true → grade ≡ Write
      is_write_grade No h = clash (sym h)
      is_write_grade Yes h = clash (sym h)
      is_write_grade Write h = refl

      which : (key used : List ℕ) (b : Bool) → bytes_eq key used ≡ b → (b || bytes_eq key (first_name used)) ≡ true → (key ≡ used) ⊎ (key ≡ first_name used)
      which key used true is h = inl (same_bytes key used is)
      which key used false is h = inr (same_bytes key (first_name used) h)

      from_assignment : (key : List ℕ) (u : Use) → shows key ≡ true → assigns_below key u ≡ true → covers less u ≡ true → grants Write (at_name key less.globals) ≡ true
      from_assignment key (OfKey used grade) is assigns h =
          let writes : grade ≡ Write = is_write_grade grade (and_first (is_assignment grade) _ assigns) in
          grants_here key used Write is refl (subst (λ g. (grants g (at_name used less.globals) || grants g (at_name (first_name used) less.globals)) ≡ true) writes h)
          (which key used (bytes_eq key used) refl (and_second (is_assignment grade) _ assigns))
      from_assignment key OfBuiltin is assigns h = clash (sym assigns)
      from_assignment key (OfPackage name) is assigns h = clash (sym assigns)

      from_use : (key : List ℕ) (u : Use) → shows key ≡ true → uses_key key u ≡ true → is_sound u ≡ true → covers less u ≡ true → grants Yes (at_name key less.globals) ≡ true
      from_use key (OfKey used grade) is uses sound h =
          let granting : is_granting grade ≡ true = and_second (not (is_intrinsic (first_name used))) (is_granting grade) sound in
          grants_yes grade (at_name key less.globals) granting (grants_here key used grade is granting h (inl (same_bytes key used uses)))
      from_use key OfBuiltin is uses sound h = clash (sym uses)
      from_use key (OfPackage name) is uses sound h = clash (sym uses)

      from_package : (name : List ℕ) (u : Use) → uses_package name u ≡ true → covers less u ≡ true → grants Yes (at_name name less.packages) ≡ true
      from_package name (OfKey used grade) uses h = clash (sym uses)
      from_package name OfBuiltin uses h = clash (sym uses)
      from_package name (OfPackage used) uses h = ap (λ n. grants Yes (at_name n less.packages)) (same_bytes name used uses) ∙ h

      from_builtin : (u : Use) → uses_builtin u ≡ true → covers less u ≡ true → grants Yes (at_name (host_name Fs) less.builtin) ≡ true
      from_builtin (OfKey used grade) uses h = clash (sym uses)
      from_builtin OfBuiltin uses h = h
      from_builtin (OfPackage used) uses h = clash (sym uses)

      covered_at : (u : Use) → Among u us → covers less u ≡ true
      covered_at u among = all_at (covers less) us u all among

      package_no_less : (name : List ℕ) (b : Bool) → list_any (uses_package name) us ≡ b → grants_no_more (cond b (Some Yes) None) (at_name name less.packages) ≡ true
      package_no_less name true is =
          let found = some_of (uses_package name) us is in
          from_package name found.0 found.1 (covered_at found.0 found.2)
      package_no_less name false is = refl

      builtin_no_less : (key : List ℕ) (b : Bool) → (bytes_eq key (host_name Fs) && list_any uses_builtin us) ≡ b → grants_no_more (cond b (Some Yes) None) (at_name key less.builtin) ≡ true
      builtin_no_less key true is =
          let found = some_of uses_builtin us (and_second (bytes_eq key (host_name Fs)) _ is) in
          ap (λ k. grants Yes (at_name k less.builtin)) (same_bytes key (host_name Fs) (and_first (bytes_eq key (host_name Fs)) _ is))
          ∙ from_builtin found.0 found.1 (covered_at found.0 found.2)
      builtin_no_less key false is = refl

      module _ (sound : (u : Use) → Among u us → is_sound u ≡ true) where
        key_by : (key : List ℕ) → shows key ≡ true → (w : Bool) → list_any (assigns_below key) us ≡ w → grants (write_grade w) (at_name key less.globals) ≡ true
        key_by key is true assigns =
            let found = some_of (assigns_below key) us assigns in
            from_assignment key found.0 is found.1 (covered_at found.0 found.2)
        key_by key is false assigns =
            let found = some_of (uses_key key) us (and_first (list_any (uses_key key) us) _ is) in
            from_use key found.0 is found.1 (sound found.0 found.2) (covered_at found.0 found.2)

        key_no_less : (key : List ℕ) (b : Bool) → shows key ≡ b → grants_no_more (cond b (Some (write_grade (list_any (assigns_below key) us))) None) (at_name key less.globals) ≡ true
        key_no_less key true is = key_by key is (list_any (assigns_below key) us) refl
        key_no_less key false is = refl

        pub no_less : (kind : Kind) (key : List ℕ) → grants_no_more (at_name key (entries_of_kind kind row)) (at_name key (entries_of_kind kind less)) ≡ true
        no_less Builtin key = ap (λ e. grants_no_more e (at_name key less.builtin)) (exact Builtin key) ∙ builtin_no_less key (bytes_eq key (host_name Fs) && list_any uses_builtin us) refl
        no_less Globals key = ap (λ e. grants_no_more e (at_name key less.globals)) (exact Globals key) ∙ key_no_less key (shows key) refl
        no_less Packages key = ap (λ e. grants_no_more e (at_name key less.packages)) (exact Packages key) ∙ package_no_less key (list_any (uses_package key) us) refl

pub each_use_is_covered : Each_use_is_covered
each_use_is_covered app owner named is =
    all_of (λ u. covered_by (at_name (owner_name app owner) (generated app)) u) (uses_of app owner)
    (λ u among. ap (λ o. covered_by o u) (row_there app owner named is) ∙ use_covered (uses_of app owner) (generated_row app owner) (row_exact app owner) u among)

pub no_less_covers : No_less_covers
no_less_covers app owner row less named is there below kind key lacks =
    let same : generated_row app owner ≡ row = unwrapped (generated_row app owner) row (sym (row_there app owner named is) ∙ there) in
    let exact : (kind : Kind) (key : List ℕ) → at_name key (entries_of_kind kind row) ≡ exact_entry (uses_of app owner) kind key =
    λ kind key. ap (λ r. at_name key (entries_of_kind kind r)) (sym same) ∙ row_exact app owner kind key in
    falsely (list_all (covers less) (uses_of app owner))
    (λ all. clash (sym (no_less (uses_of app owner) row exact less below all (use_sound app owner) kind key) ∙ lacks))
