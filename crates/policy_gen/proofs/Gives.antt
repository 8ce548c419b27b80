-- A package starts with what its uses are of.
use Rattle.std.proofs.Common.{◌≡◌, ℕ, ◌==◌, List, [], ◌∷◌, Bool, true, false, ◌&&◌, ◌||◌, not, cond, Option, Some, None, is_some, filter_map, length, nat_eq, bytes_eq, refl, sym, ap, ◌∙◌, subst}
use Rattle.std.specs.List.{list_all, list_any, cons_option}
use Rattle.js_desc.specs.declared.start.Grant.{Grant}
use Rattle.js_desc.specs.declared.start.Grant.TheVariants.{Whole, Part, Live, LivePart}
use Rattle.pkg_load.specs.Applications.{Application as App}
use Rattle.pkg_source.specs.declared.code.ModuleCode.{ModuleCode}
use Rattle.policy_globals.specs.Hosts.{host_name, host_number, host_members, host_global, is_intrinsic}
use Rattle.policy_globals.specs.Keys.{first_name, second_name, firsts, seconds, whole_grade}
use Rattle.policy_globals.specs.Laws.{is_among}
use Rattle.policy_globals.specs.Starts.{deciding, member_if_granted, granted_members, whole_or_part, host_grant, member_if_live, live_part, live_grant, grant_for, with_name, named_grant, globals_of, start_for}
use Rattle.policy_globals.specs.declared.host.HostObject.{HostObject}
use Rattle.policy_globals.specs.declared.host.HostObject.TheVariants.{Console, Input, Clock, Fs}
use Rattle.policy_row.specs.Rows.{Entries, at_name, is_granted, is_granting, is_write, root_name, row_grants}
use Rattle.policy_row.specs.declared.grade.Grade.{Grade}
use Rattle.policy_row.specs.declared.grade.Grade.TheVariants.{No, Yes, Write}
use Rattle.policy_row.specs.declared.grade.Kind.TheVariants.{Globals, Packages}
use Rattle.policy_gen.specs.Generated.{whole_builtin, generated, generated_row}
use Rattle.policy_gen.specs.Kept.{kept_keys}
use Rattle.policy_gen.specs.Laws.{AreNamedInOrder, IsOther, owner_name, uses_key, assigns_below, has_used_prefix, uses_builtin, uses_package, exact_key, Each_use_is_given}
use Rattle.policy_gen.specs.Needs.{Use, OfKey, OfBuiltin, OfPackage, uses_of, grants, host_has, writes_enough, gives_host, gives_live, gives_key, give_key, is_given}
use Rattle.policy_gen.specs.Uses.{write_grade, used_keys}
use Rattle.policy_gen.proofs.Anys.{Among, on_some, some_of, all_of, all_at, any_picked, and_both, and_first, and_second, or_second, by_truth, clash, not_some, itself, same_bytes}
use Rattle.policy_gen.proofs.Covers.{is_sound, use_sound, shows, shows_alone, use_covered}
use Rattle.policy_gen.proofs.Exact.{row_exact, builtin_is}
use Rattle.policy_gen.proofs.Firsts.{at_least, firsts_reach, whole_stands, seconds_reach, seconds_grant}
use Rattle.policy_gen.proofs.Keeps.{first_once, first_is_lone, lone_is_first, kept_grants}
use Rattle.policy_gen.proofs.PlacedRows.{row_there}
use Rattle.policy_gen.proofs.Puts.{found_among}
use Rattle.policy_gen.proofs.Wants.{wants_of, used_are_wanted}

-- GRADES

grants_through : (a b : Grade) (o : Option Grade) → grants a (Some b) ≡ true → grants b o ≡ true → grants a o ≡ true
grants_through No b o first second = refl
grants_through Yes No o first second = clash (sym first)
grants_through Yes Yes o first second = second
grants_through Yes Write None first second = second
grants_through Yes Write (Some No) first second = second
grants_through Yes Write (Some Yes) first second = refl
grants_through Yes Write (Some Write) first second = refl
grants_through Write No o first second = clash (sym first)
grants_through Write Yes o first second = clash (sym first)
grants_through Write Write o first second = second

still_granting : (a b : Grade) → is_granting a ≡ true → grants a (Some b) ≡ true → is_granting b ≡ true
still_granting No b granting h = clash (sym granting)
still_granting Yes b granting h = h
still_granting Write No granting h = h
still_granting Write Yes granting h = refl
still_granting Write Write granting h = refl

enough : (a b : Grade) → grants a (Some b) ≡ true → writes_enough a (is_write b) ≡ true
enough No b h = refl
enough Yes b h = refl
enough Write b h = h

some_grade : (a : Grade) (o : Option Grade) → is_granting a ≡ true → grants a o ≡ true → (g : Grade) × (o ≡ Some g) × (grants a (Some g) ≡ true)
some_grade No o granting h = clash (sym granting)
some_grade Yes None granting h = clash (sym h)
some_grade Yes (Some g) granting h = (g, refl, h)
some_grade Write None granting h = clash (sym h)
some_grade Write (Some g) granting h = (g, refl, h)

least_grade : (a : Grade) (o : Option Grade) → at_least a o ≡ true → (g : Grade) × (o ≡ Some g) × (grants a (Some g) ≡ true)
least_grade a None h = clash (sym h)
least_grade a (Some g) h = (g, refl, h)

-- THE OBJECTS OF THE HOST

module _ (parts : Entries) (grant_all : list_all (λ e. is_granting e.1) parts ≡ true) (whole : Grade) where
  decides_by : (member : List ℕ) (o : Option Grade) → at_name member parts ≡ o → is_granting whole ≡ true → deciding o whole ≡ true
  decides_by member None is granting = granting
  decides_by member (Some own) is granting =
      all_at (λ (e : List ℕ × Grade). is_granting e.1) parts (member, own) grant_all (λ q here. found_among member own q parts is here)

  all_members : is_granting whole ≡ true → (ms : List (List ℕ × ℕ)) → granted_members parts whole ms ≡ ms
  all_members granting [] = refl
  all_members granting (m ∷ ms) =
      ap (λ b. cons_option (cond b (Some (m.0, m.1)) None) (granted_members parts whole ms)) (decides_by m.0 (at_name m.0 parts) refl granting)
      ∙ ap (λ rest. m ∷ rest) (all_members granting ms)

  -- a name that is granted is the whole object
  whole_object : is_granting whole ≡ true → (object : HostObject) → host_grant parts object whole ≡ Some (Whole (host_number object))
  whole_object granting object =
      ap (whole_or_part (host_number object) (length (host_members object))) (all_members granting (host_members object)) ∙ by_object object
    where
      by_object : (object : HostObject) → whole_or_part (host_number object) (length (host_members object)) (host_members object) ≡ Some (Whole (host_number object))
      by_object Console = refl
      by_object Input = refl
      by_object Clock = refl
      by_object Fs = refl

  -- a member that is granted is among those that are
  member_there : (member : List ℕ) (own : Grade) (ms : List (List ℕ × ℕ)) → at_name member parts ≡ Some own → is_among member ms ≡ true → is_among member (granted_members parts whole ms) ≡ true
  member_there member own ms found listed =
      let some = some_of (λ (m : List ℕ × ℕ). bytes_eq m.0 member) ms listed in
      let same : some.0.0 ≡ member = same_bytes some.0.0 member some.1 in
      let granting : is_granting own ≡ true = all_at (λ (e : List ℕ × Grade). is_granting e.1) parts (member, own) grant_all (λ q here. found_among member own q parts found here) in
      any_picked (λ (m : List ℕ × ℕ). bytes_eq m.0 member) (member_if_granted parts whole) ms
      ∙ some.2 (λ m. on_some (λ (m : List ℕ × ℕ). bytes_eq m.0 member) (member_if_granted parts whole m))
      (ap (λ o. on_some (λ (m : List ℕ × ℕ). bytes_eq m.0 member) (cond (deciding o whole) (Some (some.0.0, some.0.1)) None)) (ap (λ n. at_name n parts) same ∙ found)
      ∙ ap (λ b. on_some (λ (m : List ℕ × ℕ). bytes_eq m.0 member) (cond b (Some (some.0.0, some.0.1)) None)) granting ∙ some.1)

same_number : (object : HostObject) → nat_eq (host_number object) (host_number object) ≡ true
same_number Console = refl
same_number Input = refl
same_number Clock = refl
same_number Fs = refl

gives_whole : (object : HostObject) (member : Option (List ℕ)) → gives_host object member (Whole (host_number object)) ≡ true
gives_whole object None = same_number object
gives_whole object (Some member) = same_number object

-- a grant of an object that has a member
abbrev GivesMember : HostObject → (member : List ℕ) → Option Grant → Type 0
GivesMember object member o = (grant : Grant) × (o ≡ Some grant) × (gives_host object (Some member) grant ≡ true)

part_gives : (object : HostObject) (member : List ℕ) (given : List (List ℕ × ℕ)) → is_among member given ≡ true → GivesMember object member (whole_or_part (host_number object) (length (host_members object)) given)
part_gives object member [] h = clash (sym h)
part_gives object member (m ∷ ms) h = by_count (length (m ∷ ms) == length (host_members object))
  where
    by_count : (b : Bool) → GivesMember object member (Some (cond b (Whole (host_number object)) (Part (m ∷ ms))))
    by_count true = (Whole (host_number object), refl, gives_whole object (Some member))
    by_count false = (Part (m ∷ ms), refl, h)

-- ALL NAMES

-- what keys grant of a first name gives what a key names
abbrev Given : (es : Entries) (grade : Grade) (name : List ℕ) (member : Option (List ℕ)) (whole : Grade) → Type 0
Given es grade name member whole =
    (grant : Grant) × (grant_for (host_global name) (seconds name es) whole ≡ Some grant) × (gives_key grade (host_global name) member grant ≡ true)

module _ (es : Entries) (grant_all : list_all (λ e. is_granting e.1) es ≡ true) (grade : Grade) (granting : is_granting grade ≡ true) (name : List ℕ) where
  abbrev parts : Entries
  parts = seconds name es

  parts_grant : list_all (λ e. is_granting e.1) (seconds name es) ≡ true
  parts_grant = seconds_grant name es grant_all

  live_whole : (member : Option (List ℕ)) (whole : Grade) → is_granting whole ≡ true → grants grade (Some whole) ≡ true → (grant : Grant) × (live_grant parts whole ≡ Some grant) × (gives_live grade member grant ≡ true)
  live_whole member whole is h =
      (Live (is_write whole), ap (λ b. cond b (Some (Live (is_write whole))) (live_part (filter_map member_if_live parts))) is, by_member member)
    where
      by_member : (member : Option (List ℕ)) → gives_live grade member (Live (is_write whole)) ≡ true
      by_member None = enough grade whole h
      by_member (Some m) = enough grade whole h

  -- where the name itself is granted
  given_whole : (member : Option (List ℕ)) (whole : Grade) → grants grade (Some whole) ≡ true → Given es grade name member whole
  given_whole member whole h = by_host (host_global name)
    where
      by_host : (object : Option HostObject) → (grant : Grant) × (grant_for object (seconds name es) whole ≡ Some grant) × (gives_key grade object member grant ≡ true)
      by_host None = live_whole member whole (still_granting grade whole granting h) h
      by_host (Some object) =
          (Whole (host_number object), whole_object (seconds name es) parts_grant whole (still_granting grade whole granting h) object, gives_whole object member)

  live_member_given : (member : List ℕ) (own : Grade) → at_name member parts ≡ Some own → grants grade (Some own) ≡ true → list_any (λ m. bytes_eq member m.0 && writes_enough grade m.1) (filter_map member_if_live parts) ≡ true
  live_member_given member own found h =
      any_picked (λ (m : List ℕ × Bool). bytes_eq member m.0 && writes_enough grade m.1) member_if_live parts
      ∙ found_among member own (λ e. on_some (λ (m : List ℕ × Bool). bytes_eq member m.0 && writes_enough grade m.1) (member_if_live e)) parts found
      (ap (λ b. on_some (λ (m : List ℕ × Bool). bytes_eq member m.0 && writes_enough grade m.1) (cond b (Some (member, is_write own)) None)) (still_granting grade own granting h)
      ∙ and_both (bytes_eq member member) _ (itself member) (enough grade own h))

  live_part_given : (member : List ℕ) (ms : List (List ℕ × Bool)) → list_any (λ m. bytes_eq member m.0 && writes_enough grade m.1) ms ≡ true → (grant : Grant) × (live_part ms ≡ Some grant) × (gives_live grade (Some member) grant ≡ true)
  live_part_given member [] h = clash (sym h)
  live_part_given member (m ∷ ms) h = (LivePart (m ∷ ms), refl, h)

  -- where a member of it is, and the name is not
  given_part : (member : List ℕ) (whole own : Grade) → is_granting whole ≡ false → at_name member (seconds name es) ≡ Some own → grants grade (Some own) ≡ true → host_has (host_global name) (Some member) ≡ true → Given es grade name (Some member) whole
  given_part member whole own denied found h there = by_host (host_global name) there
    where
      by_host : (object : Option HostObject) → host_has object (Some member) ≡ true → (grant : Grant) × (grant_for object (seconds name es) whole ≡ Some grant) × (gives_key grade object (Some member) grant ≡ true)
      by_host None there =
          let given = live_part_given member (filter_map member_if_live (seconds name es)) (live_member_given member own found h) in
          (given.0, ap (λ b. cond b (Some (Live (is_write whole))) (live_part (filter_map member_if_live (seconds name es)))) denied ∙ given.1, given.2)
      by_host (Some object) there =
          part_gives object member (granted_members (seconds name es) whole (host_members object)) (member_there (seconds name es) parts_grant whole member own (host_members object) found there)

  -- a grant of the name gives the key
  named_given : (key : List ℕ) (whole : Grade) → first_name key ≡ name → is_intrinsic name ≡ false → at_name name (firsts es) ≡ Some whole → Given es grade name (second_name key) whole → give_key grade key (globals_of es) ≡ true
  named_given key whole first other found given =
      let t : List ℕ × Grant → Bool = λ g. bytes_eq (first_name key) g.0 && gives_key grade (host_global (first_name key)) (second_name key) g.1 in
      any_picked t (named_grant es) (firsts es)
      ∙ found_among name whole (λ e. on_some t (named_grant es e)) (firsts es) found
      (ap (λ b. on_some t (with_name name (cond b None (grant_for (host_global name) (seconds name es) whole)))) other
      ∙ ap (λ o. on_some t (with_name name o)) given.1
      ∙ and_both (bytes_eq (first_name key) name) _ (ap (λ n. bytes_eq n name) first ∙ itself name)
      (ap (λ n. gives_key grade (host_global n) (second_name key) given.0) first ∙ given.2))

module _ (us : List Use) (es : Entries) (exact : (key : List ℕ) → at_name key es ≡ exact_key us key) (grant_all : list_all (λ e. is_granting e.1) es ≡ true) (grade : Grade) (granting : is_granting grade ≡ true) (key : List ℕ) (other : is_intrinsic (first_name key) ≡ false) where
  some_shows : (k : List ℕ) → is_some (at_name k es) ≡ true → shows us k ≡ true
  some_shows k is = by_cond (shows us k) (write_grade (list_any (assigns_below k) us)) (sym (ap is_some (exact k)) ∙ is)
    where
      by_cond : (b : Bool) (g : Grade) → is_some (cond b (Some g) None) ≡ true → b ≡ true
      by_cond true g h = refl
      by_cond false g h = h

  -- the first name of the key is granted by itself
  by_first : grants grade (at_name (first_name key) es) ≡ true → give_key grade key (globals_of es) ≡ true
  by_first h =
      let n = first_name key in
      let at = some_grade grade (at_name n es) granting h in
      let whole = least_grade (whole_grade (second_name n) at.0) (at_name (first_name n) (firsts es)) (firsts_reach n at.0 es at.1) in
      let more : grants at.0 (Some whole.0) ≡ true = ap (λ o. grants (whole_grade o at.0) (Some whole.0)) (sym (first_is_lone key)) ∙ whole.2 in
      let found : at_name n (firsts es) ≡ Some whole.0 = ap (λ m. at_name m (firsts es)) (sym (first_once key)) ∙ whole.1 in
      named_given es grant_all grade granting n key whole.0 refl other found
      (given_whole es grant_all grade granting n (second_name key) whole.0 (grants_through grade at.0 (Some whole.0) at.2 more))

  -- the key is, with a member
  by_member : (member : List ℕ) → second_name key ≡ Some member → grants grade (at_name key es) ≡ true → host_has (host_global (first_name key)) (second_name key) ≡ true → give_key grade key (globals_of es) ≡ true
  by_member member second h there =
      let n = first_name key in
      let at = some_grade grade (at_name key es) granting h in
      let whole = least_grade (whole_grade (second_name key) at.0) (at_name n (firsts es)) (firsts_reach key at.0 es at.1) in
      let own = least_grade at.0 (at_name member (seconds n es)) (seconds_reach key member at.0 es at.1 second) in
      let is_shown : shows us key ≡ true = some_shows key (ap is_some at.1) in
      let alone : is_granting whole.0 ≡ false =
      by_truth (is_granting whole.0 ≡ false) (is_granting whole.0)
      (λ is. let shown : shows us n ≡ true = some_shows n (whole_stands n whole.0 es whole.1 is) in
      let same : n ≡ key = shows_alone us key is_shown (and_first (list_any (uses_key n) us) (not (has_used_prefix us n)) shown) in
      not_some member (sym (first_is_lone key) ∙ ap second_name same ∙ second))
      (λ is. is) in
      named_given es grant_all grade granting n key whole.0 refl other whole.1
      (subst (λ o. Given es grade n o whole.0) (sym second)
      (given_part es grant_all grade granting n member whole.0 own.0 alone own.1 (grants_through grade at.0 (Some own.0) at.2 own.2) (sym (ap (host_has (host_global n)) second) ∙ there)))

  by_key : (o : Option (List ℕ)) → second_name key ≡ o → grants grade (at_name key es) ≡ true → host_has (host_global (first_name key)) (second_name key) ≡ true → give_key grade key (globals_of es) ≡ true
  by_key None second h there = by_first (ap (λ k. grants grade (at_name k es)) (lone_is_first key second) ∙ h)
  by_key (Some member) second h there = by_member member second h there

  pub key_given : (grants grade (at_name key es) || grants grade (at_name (first_name key) es)) ≡ true → host_has (host_global (first_name key)) (second_name key) ≡ true → give_key grade key (globals_of es) ≡ true
  key_given h there = by_test (grants grade (at_name key es)) refl h
    where
      by_test : (b : Bool) → grants grade (at_name key es) ≡ b → (b || grants grade (at_name (first_name key) es)) ≡ true → give_key grade key (globals_of es) ≡ true
      by_test true is h = by_key (second_name key) refl is there
      by_test false is h = by_first h

-- USES

not_true : (b : Bool) → not b ≡ true → b ≡ false
not_true true h = clash (sym h)
not_true false h = refl

module _ (app : App ModuleCode) (owner : ℕ) (named : AreNamedInOrder app.packages) (is : IsOther app.packages owner) where
  globals_grant : list_all (λ e. is_granting e.1) (kept_keys (used_keys app owner)) ≡ true
  globals_grant = ap (λ keys. list_all (λ e. is_granting e.1) (kept_keys keys)) (used_are_wanted app owner) ∙ kept_grants (wants_of app owner)

  given_or : (there given : Bool) → (there ≡ true → given ≡ true) → (not there || given) ≡ true
  given_or true given h = h refl
  given_or false given h = refl

  use_given : (u : Use) → Among u (uses_of app owner) → is_given (generated app) (owner_name app owner) u ≡ true
  use_given (OfKey key grade) among =
      let sound : is_sound (OfKey key grade) ≡ true = use_sound app owner (OfKey key grade) among in
      ap (λ o. not (host_has (host_global (first_name key)) (second_name key)) || give_key grade key (start_for o false).globals) (row_there app owner named is)
      ∙ given_or (host_has (host_global (first_name key)) (second_name key)) (give_key grade key (globals_of (kept_keys (used_keys app owner))))
      (key_given (uses_of app owner) (kept_keys (used_keys app owner)) (row_exact app owner Globals) globals_grant grade
      (and_second (not (is_intrinsic (first_name key))) (is_granting grade) sound) key (not_true (is_intrinsic (first_name key)) (and_first (not (is_intrinsic (first_name key))) (is_granting grade) sound))
      (use_covered (uses_of app owner) (generated_row app owner) (row_exact app owner) (OfKey key grade) among))
  use_given OfBuiltin among =
      ap (λ o. list_any (λ g. bytes_eq (host_name Fs) g.0 && gives_host Fs None g.1) (start_for o false).builtins) (row_there app owner named is)
      ∙ ap (λ b. list_any (λ g. bytes_eq (host_name Fs) g.0 && gives_host Fs None g.1) (start_for (Some (record { globals = []; builtin = cond b whole_builtin []; packages = [] })) false).builtins) (builtin_is app owner ∙ among uses_builtin refl)
  use_given (OfPackage linked) among =
      or_second (bytes_eq (owner_name app owner) root_name) _
      (ap (row_grants linked) (row_there app owner named is) ∙ ap is_granted (row_exact app owner Packages linked)
      ∙ ap (λ b. is_granted (cond b (Some Yes) None)) (among (uses_package linked) (itself linked)))

pub each_use_is_given : Each_use_is_given
each_use_is_given app owner named is = all_of (is_given (generated app) (owner_name app owner)) (uses_of app owner) (use_given app owner named is)
