-- What the keys of a row say of a first name and of a second one.
use Rattle.std.proofs.Common.{◌≡◌, ℕ, List, [], ◌∷◌, Bool, true, false, ◌&&◌, ◌||◌, cond, Option, Some, None, is_some, is_none, option_map, fold, bytes_eq, refl, sym, ap, ◌∙◌}
use Rattle.std.proofs.lemmas.Map.Text.{is_eq-slice_cmp}
use Rattle.std.specs.List.{list_all, list_any}
use Rattle.std.specs.Ordering.{is_eq}
use Rattle.policy_globals.proofs.Prefix_laws.{found_backed, is_whole, firsts_backed}
use Rattle.policy_globals.specs.Keys.{first_name, second_name, whole_grade, with_second_name, with_second, firsts, seconds}
use Rattle.policy_row.specs.Rows.{Entries, order_of_names, at_name, is_granting, greater, raised, raised_grade}
use Rattle.policy_row.specs.declared.grade.Grade.{Grade}
use Rattle.policy_row.specs.declared.grade.Grade.TheVariants.{No, Yes, Write}
use Rattle.policy_gen.specs.Needs.{grants}
use Rattle.policy_gen.proofs.Anys.{some_of, and_first, and_second, clash, fold_same, itself, same_bytes, unwrapped}
use Rattle.policy_gen.proofs.Keeps.{lone_is_first}
use Rattle.policy_gen.proofs.Puts.{put_found, values_put}

-- what stands there grants at least so much
abbrev pub at_least : Grade → Option Grade → Bool
at_least g None = false
at_least g (Some other) = grants g (Some other)

abbrev Effect : Type 0
Effect = Option (List ℕ × Grade)

abbrev with_effect : Entries → Effect → Entries
with_effect es None = es
with_effect es (Some u) = raised es u.0 u.1

module _ (n : List ℕ) (g : Grade) where
  raised_keeps : (o : Option Grade) (h : Grade) → at_least g o ≡ true → at_least g (Some (raised_grade o h)) ≡ true
  raised_keeps None h is = clash (sym is)
  raised_keeps (Some No) h is = by_grade g h is
    where
      by_grade : (g h : Grade) → grants g (Some No) ≡ true → grants g (Some h) ≡ true
      by_grade No h is = refl
      by_grade Yes h is = clash (sym is)
      by_grade Write h is = clash (sym is)
  raised_keeps (Some Yes) h is = by_grade g h is
    where
      by_grade : (g h : Grade) → grants g (Some Yes) ≡ true → grants g (Some (greater Yes h)) ≡ true
      by_grade No h is = refl
      by_grade Yes No is = refl
      by_grade Yes Yes is = refl
      by_grade Yes Write is = refl
      by_grade Write h is = clash (sym is)
  raised_keeps (Some Write) h is = is

  raised_reaches : (o : Option Grade) → at_least g (Some (raised_grade o g)) ≡ true
  raised_reaches None = by_grade g
    where
      by_grade : (g : Grade) → grants g (Some g) ≡ true
      by_grade No = refl
      by_grade Yes = refl
      by_grade Write = refl
  raised_reaches (Some old) = by_grades old g
    where
      by_grades : (old g : Grade) → grants g (Some (greater old g)) ≡ true
      by_grades old No = refl
      by_grades No Yes = refl
      by_grades Yes Yes = refl
      by_grades Write Yes = refl
      by_grades No Write = refl
      by_grades Yes Write = refl
      by_grades Write Write = refl

  keeps_by : (m : List ℕ) (h : Grade) (es : Entries) (b : Bool) → bytes_eq n m ≡ b → at_least g (at_name n es) ≡ true → at_least g (cond b (Some (raised_grade (at_name m es) h)) (at_name n es)) ≡ true
  keeps_by m h es true same is = raised_keeps (at_name m es) h (ap (λ k. at_least g (at_name k es)) (sym (same_bytes n m same)) ∙ is)
  keeps_by m h es false same is = is

  effect_keeps : (es : Entries) (u : Effect) → at_least g (at_name n es) ≡ true → at_least g (at_name n (with_effect es u)) ≡ true
  effect_keeps es None is = is
  effect_keeps es (Some u) is =
      ap (at_least g) (put_found n u.0 (raised_grade (at_name u.0 es) u.1) es) ∙ keeps_by u.0 u.1 es (bytes_eq n u.0) refl is

  effect_reaches : (es : Entries) → at_least g (at_name n (raised es n g)) ≡ true
  effect_reaches es =
      ap (at_least g) (put_found n n (raised_grade (at_name n es) g) es)
      ∙ ap (λ b. at_least g (cond b (Some (raised_grade (at_name n es) g)) (at_name n es))) (itself n) ∙ raised_reaches (at_name n es)

  module _ (effect : List ℕ × Grade → Effect) where
    all_keep : (es done : Entries) → at_least g (at_name n done) ≡ true → at_least g (at_name n (fold (λ done e. with_effect done (effect e)) done es)) ≡ true
    all_keep [] done is = is
    all_keep (e ∷ es) done is = all_keep es (with_effect done (effect e)) (effect_keeps done (effect e) is)

    module _ (key : List ℕ) (grade : Grade) (is : effect (key, grade) ≡ Some (n, g)) where
      reach_by : (e : List ℕ × Grade) (es done : Entries) (b : Bool) → is_eq (order_of_names key e.0) ≡ b → cond b (Some e.1) (at_name key es) ≡ Some grade → ((done : Entries) → at_name key es ≡ Some grade → at_least g (at_name n (fold (λ done e. with_effect done (effect e)) done es)) ≡ true) → at_least g (at_name n (fold (λ done e. with_effect done (effect e)) (with_effect done (effect e)) es)) ≡ true
      reach_by e es done true same found more =
          let here : effect e ≡ Some (n, g) =
          sym (ap (λ k. effect (k, grade)) (same_bytes key e.0 (sym (is_eq-slice_cmp key e.0) ∙ same)) ∙ ap (λ v. effect (e.0, v)) (sym (unwrapped e.1 grade found))) ∙ is in
          all_keep es (with_effect done (effect e)) (ap (λ u. at_least g (at_name n (with_effect done u))) here ∙ effect_reaches done)
      reach_by e es done false same found more = more (with_effect done (effect e)) found

      -- an entry raises what it is of
      all_reach : (es done : Entries) → at_name key es ≡ Some grade → at_least g (at_name n (fold (λ done e. with_effect done (effect e)) done es)) ≡ true
      all_reach [] done found = absurd (none found)
        where
          none : None ≡ Some grade → ⊥
          none e = cc
      all_reach (e ∷ es) done found = reach_by e es done (is_eq (order_of_names key e.0)) refl found (λ done h. all_reach es done h)

-- FIRST NAMES

abbrev first_effect : List ℕ × Grade → Effect
first_effect e = Some (first_name e.0, whole_grade (second_name e.0) e.1)

pub firsts_reach : (key : List ℕ) (grade : Grade) (es : Entries) → at_name key es ≡ Some grade → at_least (whole_grade (second_name key) grade) (at_name (first_name key) (firsts es)) ≡ true
firsts_reach key grade es found = all_reach (first_name key) (whole_grade (second_name key) grade) first_effect key grade refl es [] found

any_is_some : (n : List ℕ) (es : Entries) → list_any (λ e. bytes_eq n e.0) es ≡ true → is_some (at_name n es) ≡ true
any_is_some n [] h = h
any_is_some n (e ∷ es) h = by_test (is_eq (order_of_names n e.0)) (bytes_eq n e.0) (is_eq-slice_cmp n e.0) h (any_is_some n es)
  where
    by_test : (b c : Bool) → b ≡ c → (c || list_any (λ e. bytes_eq n e.0) es) ≡ true → (list_any (λ e. bytes_eq n e.0) es ≡ true → is_some (at_name n es) ≡ true) → is_some (cond b (Some e.1) (at_name n es)) ≡ true
    by_test true c same h more = refl
    by_test false true same h more = clash (sym same)
    by_test false false same h more = more h

none_by : (o : Option (List ℕ)) → is_none o ≡ true → o ≡ None
none_by None h = refl
none_by (Some x) h = clash (sym h)

-- a first name that is granted whole is an entry by itself
pub whole_stands : (n : List ℕ) (whole : Grade) (es : Entries) → at_name n (firsts es) ≡ Some whole → is_granting whole ≡ true → is_some (at_name n es) ≡ true
whole_stands n whole es found granting =
    let some = some_of (λ (e : List ℕ × Grade). is_granting e.1 && is_whole n e.0) es (found_backed es is_whole n (firsts es) whole (firsts_backed es) found granting) in
    let e = some.0 in
    let is : is_whole n e.0 ≡ true = and_second (is_granting e.1) (is_whole n e.0) some.1 in
    let first : first_name e.0 ≡ n = same_bytes (first_name e.0) n (and_first (bytes_eq (first_name e.0) n) _ is) in
    let lone : first_name e.0 ≡ e.0 = lone_is_first e.0 (none_by (second_name e.0) (and_second (bytes_eq (first_name e.0) n) _ is)) in
    any_is_some n es (some.2 (λ f. bytes_eq n f.0) (ap (λ k. bytes_eq k e.0) (sym first ∙ lone) ∙ itself e.0))

-- SECOND NAMES

abbrev second_effect : List ℕ → List ℕ × Grade → Effect
second_effect n e = cond (bytes_eq (first_name e.0) n) (option_map (λ second. (second, e.1)) (second_name e.0)) None

second_is : (n : List ℕ) (es : Entries) (e : List ℕ × Grade) → with_second n es e ≡ with_effect es (second_effect n e)
second_is n es e = by_test (bytes_eq (first_name e.0) n) (second_name e.0)
  where
    by_test : (b : Bool) (o : Option (List ℕ)) → cond b (with_second_name es o e.1) es ≡ with_effect es (cond b (option_map (λ second. (second, e.1)) o) None)
    by_test true None = refl
    by_test true (Some second) = refl
    by_test false o = refl

pub seconds_reach : (key member : List ℕ) (grade : Grade) (es : Entries) → at_name key es ≡ Some grade → second_name key ≡ Some member → at_least grade (at_name member (seconds (first_name key) es)) ≡ true
seconds_reach key member grade es found second =
    let n = first_name key in
    ap (λ parts. at_least grade (at_name member parts)) (fold_same (with_second n) (λ done e. with_effect done (second_effect n e)) [] es (second_is n))
    ∙ all_reach member grade (second_effect n) key grade
    (ap (λ b. cond b (option_map (λ s. (s, grade)) (second_name key)) None) (itself n) ∙ ap (option_map (λ s. (s, grade))) second) es [] found

granting_by : (o : Option Grade) (g : Grade) → is_granting g ≡ true → is_granting (raised_grade o g) ≡ true
granting_by None g h = h
granting_by (Some No) g h = h
granting_by (Some Yes) No h = refl
granting_by (Some Yes) Yes h = refl
granting_by (Some Yes) Write h = refl
granting_by (Some Write) g h = refl

second_grants : (es : Entries) (o : Option (List ℕ)) (g : Grade) (b : Bool) → is_granting g ≡ true → list_all (λ e. is_granting e.1) es ≡ true → list_all (λ e. is_granting e.1) (cond b (with_second_name es o g) es) ≡ true
second_grants es None g true granting all = all
second_grants es (Some second) g true granting all = values_put is_granting second (raised_grade (at_name second es) g) es (granting_by (at_name second es) g granting) all
second_grants es o g false granting all = all

seconds_from : (n : List ℕ) (es done : Entries) → list_all (λ e. is_granting e.1) es ≡ true → list_all (λ e. is_granting e.1) done ≡ true → list_all (λ e. is_granting e.1) (fold (with_second n) done es) ≡ true
seconds_from n [] done all grants = grants
seconds_from n (e ∷ es) done all grants =
    seconds_from n es (with_second n done e) (and_second (is_granting e.1) _ all)
    (second_grants done (second_name e.0) e.1 (bytes_eq (first_name e.0) n) (and_first (is_granting e.1) _ all) grants)

-- where each key grants, each second name does
pub seconds_grant : (n : List ℕ) (es : Entries) → list_all (λ e. is_granting e.1) es ≡ true → list_all (λ e. is_granting e.1) (seconds n es) ≡ true
seconds_grant n es all = seconds_from n es [] all refl
