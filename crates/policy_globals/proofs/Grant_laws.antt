-- What is given of a name, some key grants that is a prefix of it.
use Rattle.std.proofs.Common.{◌≡◌, ℕ, ◌≤◌, ◌==◌, List, [], ◌∷◌, Bool, true, false, ◌&&◌, ◌||◌, cond, Option, Some, None, is_none, length, bytes_eq, refl, sym, ap, ◌∙◌, suc, subst, arith}
use Rattle.std.proofs.lemmas.Slice.Eq.{bytes_eq-Decides}
use Rattle.std.specs.Cmp.{unsigned_Decides}
use Rattle.std.specs.List.{list_any, filter_map, cons_option}
use Rattle.js_desc.specs.declared.start.Grant.{Grant}
use Rattle.js_desc.specs.declared.start.Grant.TheVariants.{Whole, Part, Live, LivePart}
use Rattle.policy_row.specs.Rows.{Entries, at_name, is_granting, is_write}
use Rattle.policy_row.specs.declared.grade.Grade.{Grade}
use Rattle.policy_globals.proofs.Prefix_laws.{unwrapped, some_key, Backed, found_backed, is_whole, firsts_backed, is_some_of, is_member, seconds_backed}
use Rattle.policy_globals.specs.Hosts.{host_name, host_number, host_members, host_global, is_intrinsic}
use Rattle.policy_globals.specs.Keys.{first_name, second_name, firsts, seconds}
use Rattle.policy_globals.specs.Laws.{is_among, gives_member, give_member, builtin_object, is_the, is_prefix, has_granting_prefix, A_prefix_grants, A_prefix_grants_of_fs, An_empty_row_grants_nothing, No_row_grants_nothing}
use Rattle.policy_globals.specs.Starts.{deciding, granted_members, whole_or_part, host_grant, member_if_live, live_part, grant_for, grant_of, with_name, named_grant, builtin_list, builtin_grant}
use Rattle.policy_globals.specs.declared.host.HostObject.{HostObject}
use Rattle.policy_globals.specs.declared.host.HostObject.TheVariants.{Fs}

-- KEYS THAT ARE PREFIXES

passing : (p q : List ℕ → Bool) (keys : Entries) → ((key : List ℕ) → p key ≡ true → q key ≡ true) → some_key p keys ≡ true → list_any (λ e. is_granting e.1 && q e.0) keys ≡ true
passing p q [] more h = h
passing p q (e ∷ es) more h = by_test (is_granting e.1) (p e.0) (q e.0) (more e.0) h (passing p q es more)
  where
    by_test : (g a b : Bool) → (a ≡ true → b ≡ true) → ((g && a) || list_any (λ e. is_granting e.1 && p e.0) es) ≡ true → (list_any (λ e. is_granting e.1 && p e.0) es ≡ true → list_any (λ e. is_granting e.1 && q e.0) es ≡ true) → ((g && b) || list_any (λ e. is_granting e.1 && q e.0) es) ≡ true
    by_test true true b one h rest = rw (one refl) refl
    by_test true false true one h rest = refl
    by_test true false false one h rest = rest h
    by_test false a b one h rest = rest h

whole_is_prefix : (name member key : List ℕ) → is_whole name key ≡ true → is_prefix name member key ≡ true
whole_is_prefix name member key h = by_second (bytes_eq (first_name key) name) (second_name key) h
  where
    by_second : (b : Bool) (o : Option (List ℕ)) → (b && is_none o) ≡ true → (b && is_the o member) ≡ true
    by_second true None h = refl
    by_second true (Some second) h = cc
    by_second false o h = h

member_is_prefix : (name member key : List ℕ) → is_member name member key ≡ true → is_prefix name member key ≡ true
member_is_prefix name member key h = by_second (bytes_eq (first_name key) name) (second_name key) h
  where
    by_second : (b : Bool) (o : Option (List ℕ)) → (b && is_some_of o member) ≡ true → (b && is_the o member) ≡ true
    by_second true None h = cc
    by_second true (Some second) h = h
    by_second false o h = h

by_whole : (name member : List ℕ) (keys : Entries) → some_key (is_whole name) keys ≡ true → has_granting_prefix name member keys ≡ true
by_whole name member keys h = passing (is_whole name) (is_prefix name member) keys (whole_is_prefix name member) h

by_member : (name member : List ℕ) (keys : Entries) → some_key (is_member name member) keys ≡ true → has_granting_prefix name member keys ≡ true
by_member name member keys h = passing (is_member name member) (is_prefix name member) keys (member_is_prefix name member) h

same_name : (m n : List ℕ) → bytes_eq m n ≡ true → m ≡ n
same_name m n h = (bytes_eq-Decides m n).0 h

no_grant : {X : Type 0} (grant : Grant) → None ≡ Some grant → X
no_grant grant h = absurd (none_is h)
  where
    none_is : None ≡ Some grant → ⊥
    none_is e = cc

-- OBJECTS OF THE HOST

shorter : (parts : Entries) (whole : Grade) (ms : List (List ℕ × ℕ)) → length (granted_members parts whole ms) ≤ length ms
shorter parts whole [] = omega arith
shorter parts whole (m ∷ ms) = by_test (deciding (at_name m.0 parts) whole) (shorter parts whole ms)
  where
    by_test : (b : Bool) → length (granted_members parts whole ms) ≤ length ms → length (cons_option (cond b (Some (m.0, m.1)) None) (granted_members parts whole ms)) ≤ suc (length ms)
    by_test true h = omega (arith, h)
    by_test false h = omega (arith, h)

all_members : (parts : Entries) (whole : Grade) (member : List ℕ) (ms : List (List ℕ × ℕ)) → length (granted_members parts whole ms) ≡ length ms → is_among member ms ≡ true → is_among member (granted_members parts whole ms) ≡ true
all_members parts whole member [] same h = h
all_members parts whole member (m ∷ ms) same h =
    by_test (deciding (at_name m.0 parts) whole) same h (all_members parts whole member ms) (shorter parts whole ms)
  where
    by_name : (c : Bool) → (c || is_among member ms) ≡ true → (is_among member ms ≡ true → is_among member (granted_members parts whole ms) ≡ true) → (c || is_among member (granted_members parts whole ms)) ≡ true
    by_name true h rest = refl
    by_name false h rest = rest h

    by_test : (b : Bool) → length (cons_option (cond b (Some (m.0, m.1)) None) (granted_members parts whole ms)) ≡ suc (length ms) → (bytes_eq m.0 member || is_among member ms) ≡ true → (length (granted_members parts whole ms) ≡ length ms → is_among member ms ≡ true → is_among member (granted_members parts whole ms) ≡ true) → length (granted_members parts whole ms) ≤ length ms → is_among member (cons_option (cond b (Some (m.0, m.1)) None) (granted_members parts whole ms)) ≡ true
    by_test true same h rest short = by_name (bytes_eq m.0 member) h (rest (omega (arith, same)))
    by_test false same h rest short = absurd (omega (arith, same, short))

member_decided : (parts : Entries) (whole : Grade) (member : List ℕ) (ms : List (List ℕ × ℕ)) → is_among member (granted_members parts whole ms) ≡ true → deciding (at_name member parts) whole ≡ true
member_decided parts whole member [] h = cc
member_decided parts whole member (m ∷ ms) h =
    by_test (deciding (at_name m.0 parts) whole) refl h (member_decided parts whole member ms)
  where
    by_name : (c : Bool) → bytes_eq m.0 member ≡ c → deciding (at_name m.0 parts) whole ≡ true → (c || is_among member (granted_members parts whole ms)) ≡ true → (is_among member (granted_members parts whole ms) ≡ true → deciding (at_name member parts) whole ≡ true) → deciding (at_name member parts) whole ≡ true
    by_name true is here h rest = subst (λ name. deciding (at_name name parts) whole ≡ true) (same_name m.0 member is) here
    by_name false is here h rest = rest h

    by_test : (b : Bool) → deciding (at_name m.0 parts) whole ≡ b → is_among member (cons_option (cond b (Some (m.0, m.1)) None) (granted_members parts whole ms)) ≡ true → (is_among member (granted_members parts whole ms) ≡ true → deciding (at_name member parts) whole ≡ true) → deciding (at_name member parts) whole ≡ true
    by_test true here h rest = by_name (bytes_eq m.0 member) refl here h rest
    by_test false here h rest = rest h

-- the whole of an object is granted where all its members are
given_of_list : (object : HostObject) (parts : Entries) (whole : Grade) (member : List ℕ) (grant : Grant) (given : List (List ℕ × ℕ)) → granted_members parts whole (host_members object) ≡ given → whole_or_part (host_number object) (length (host_members object)) given ≡ Some grant → gives_member (Some object) member grant ≡ true → is_among member given ≡ true
given_of_list object parts whole member grant [] is some gives = no_grant grant some
given_of_list object parts whole member grant (m ∷ ms) is some gives =
    by_count (length (m ∷ ms) == length (host_members object)) refl (unwrapped _ grant some)
  where
    by_count : (b : Bool) → (length (m ∷ ms) == length (host_members object)) ≡ b → cond b (Whole (host_number object)) (Part (m ∷ ms)) ≡ grant → is_among member (m ∷ ms) ≡ true
    by_count true count grant_is =
        let given = granted_members parts whole (host_members object) in
        let same : length given ≡ length (host_members object) = ap length is ∙ (unsigned_Decides (length (m ∷ ms)) (length (host_members object))).0 count in
        let listed : is_among member (host_members object) ≡ true = ap (gives_member (Some object) member) grant_is ∙ gives in
        ap (is_among member) (sym is) ∙ all_members parts whole member (host_members object) same listed
    by_count false count grant_is = ap (gives_member (Some object) member) grant_is ∙ gives

-- KEYS BEHIND GRANTS

module _ (keys : Entries) (name member : List ℕ) (whole : Grade) (known : is_granting whole ≡ true → some_key (is_whole name) keys ≡ true) where
  decided_by : (o : Option Grade) → at_name member (seconds name keys) ≡ o → deciding o whole ≡ true → has_granting_prefix name member keys ≡ true
  decided_by None is grants = by_whole name member keys (known grants)
  decided_by (Some own) is grants = by_member name member keys (found_backed keys (is_member name) member (seconds name keys) own (seconds_backed name keys) is grants)

  host_backed : (object : HostObject) (grant : Grant) → host_grant (seconds name keys) object whole ≡ Some grant → gives_member (Some object) member grant ≡ true → has_granting_prefix name member keys ≡ true
  host_backed object grant is gives =
      let parts = seconds name keys in
      let given = granted_members parts whole (host_members object) in
      decided_by (at_name member parts) refl (member_decided parts whole member (host_members object) (given_of_list object parts whole member grant given refl is gives))

  live_members : (es : Entries) → Backed keys (is_member name) es → is_among member (filter_map member_if_live es) ≡ true → some_key (is_member name member) keys ≡ true
  live_members [] backed h = cc
  live_members (e ∷ es) backed h = by_test (is_granting e.1) refl h (live_members es (backed.1))
    where
      by_name : (c : Bool) → bytes_eq e.0 member ≡ c → is_granting e.1 ≡ true → (c || is_among member (filter_map member_if_live es)) ≡ true → (is_among member (filter_map member_if_live es) ≡ true → some_key (is_member name member) keys ≡ true) → some_key (is_member name member) keys ≡ true
      by_name true is grants h rest = subst (λ n. some_key (is_member name n) keys ≡ true) (same_name e.0 member is) (backed.0 grants)
      by_name false is grants h rest = rest h

      by_test : (b : Bool) → is_granting e.1 ≡ b → is_among member (cons_option (cond b (Some (e.0, is_write e.1)) None) (filter_map member_if_live es)) ≡ true → (is_among member (filter_map member_if_live es) ≡ true → some_key (is_member name member) keys ≡ true) → some_key (is_member name member) keys ≡ true
      by_test true grants h rest = by_name (bytes_eq e.0 member) refl grants h rest
      by_test false grants h rest = rest h

  live_given : (grant : Grant) (live : List (List ℕ × Bool)) → live_part live ≡ Some grant → gives_member None member grant ≡ true → is_among member live ≡ true
  live_given grant [] is gives = no_grant grant is
  live_given grant (m ∷ ms) is gives = ap (gives_member None member) (unwrapped (LivePart (m ∷ ms)) grant is) ∙ gives

  live_by : (b : Bool) → is_granting whole ≡ b → (grant : Grant) → cond b (Some (Live (is_write whole))) (live_part (filter_map member_if_live (seconds name keys))) ≡ Some grant → gives_member None member grant ≡ true → has_granting_prefix name member keys ≡ true
  live_by true grants grant is gives = by_whole name member keys (known grants)
  live_by false grants grant is gives =
      by_member name member keys (live_members (seconds name keys) (seconds_backed name keys) (live_given grant (filter_map member_if_live (seconds name keys)) is gives))

  name_backed : (object : Option HostObject) (grant : Grant) → grant_for object (seconds name keys) whole ≡ Some grant → gives_member object member grant ≡ true → has_granting_prefix name member keys ≡ true
  name_backed None grant is gives = live_by (is_granting whole) refl grant is gives
  name_backed (Some object) grant is gives = host_backed object grant is gives

  grant_backed : (b : Bool) (grant : Grant) → cond b None (grant_for (host_global name) (seconds name keys) whole) ≡ Some grant → gives_member (host_global name) member grant ≡ true → has_granting_prefix name member keys ≡ true
  grant_backed true grant is gives = no_grant grant is
  grant_backed false grant is gives = name_backed (host_global name) grant is gives

module _ (keys : Entries) (name member : List ℕ) where
  globals_backed : (es : Entries) → Backed keys is_whole es → give_member host_global name member (filter_map (named_grant keys) es) ≡ true → has_granting_prefix name member keys ≡ true
  globals_backed [] backed h = cc
  globals_backed (e ∷ es) backed h = by_grant (grant_of keys e) refl h (globals_backed es (backed.1))
    where
      by_tests : (grant : Grant) (c d : Bool) → grant_of keys e ≡ Some grant → bytes_eq e.0 name ≡ c → gives_member (host_global e.0) member grant ≡ d → ((c && d) || give_member host_global name member (filter_map (named_grant keys) es)) ≡ true → (give_member host_global name member (filter_map (named_grant keys) es) ≡ true → has_granting_prefix name member keys ≡ true) → has_granting_prefix name member keys ≡ true
      by_tests grant true true is here gives h rest = subst (λ n. has_granting_prefix n member keys ≡ true) (same_name e.0 name here) (grant_backed keys e.0 member e.1 (backed.0) (is_intrinsic e.0) grant is gives)
      by_tests grant true false is here gives h rest = rest h
      by_tests grant false d is here gives h rest = rest h

      by_grant : (o : Option Grant) → grant_of keys e ≡ o → give_member host_global name member (cons_option (with_name e.0 o) (filter_map (named_grant keys) es)) ≡ true → (give_member host_global name member (filter_map (named_grant keys) es) ≡ true → has_granting_prefix name member keys ≡ true) → has_granting_prefix name member keys ≡ true
      by_grant None is h rest = rest h
      by_grant (Some grant) is h rest = by_tests grant (bytes_eq e.0 name) (gives_member (host_global e.0) member grant) is refl refl h rest

  fs_given : (grant : Grant) (whole : Grade) (c d : Bool) → at_name (host_name Fs) (firsts keys) ≡ Some whole → host_grant (seconds (host_name Fs) keys) Fs whole ≡ Some grant → bytes_eq (host_name Fs) name ≡ c → gives_member (Some Fs) member grant ≡ d → ((c && d) || false) ≡ true → has_granting_prefix name member keys ≡ true
  fs_given grant whole true true found is here gives h =
      subst (λ n. has_granting_prefix n member keys ≡ true) (same_name (host_name Fs) name here) (host_backed keys (host_name Fs) member whole (found_backed keys is_whole (host_name Fs) (firsts keys) whole (firsts_backed keys) found) Fs grant is gives)
  fs_given grant whole true false found is here gives h = cc
  fs_given grant whole false d found is here gives h = cc

  fs_grant : (whole : Grade) → at_name (host_name Fs) (firsts keys) ≡ Some whole → (o : Option Grant) → host_grant (seconds (host_name Fs) keys) Fs whole ≡ o → give_member builtin_object name member (builtin_list o) ≡ true → has_granting_prefix name member keys ≡ true
  fs_grant whole found None is h = cc
  fs_grant whole found (Some grant) is h = fs_given grant whole (bytes_eq (host_name Fs) name) (gives_member (Some Fs) member grant) found is refl refl h

  fs_backed : (o : Option Grade) → at_name (host_name Fs) (firsts keys) ≡ o → give_member builtin_object name member (builtin_list (builtin_grant keys o)) ≡ true → has_granting_prefix name member keys ≡ true
  fs_backed None found h = cc
  fs_backed (Some whole) found h = fs_grant whole found (host_grant (seconds (host_name Fs) keys) Fs whole) refl h

pub a_prefix_grants : A_prefix_grants
a_prefix_grants row name member h = globals_backed row.globals name member (firsts row.globals) (firsts_backed row.globals) h

pub a_prefix_grants_of_fs : A_prefix_grants_of_fs
a_prefix_grants_of_fs row name member h = fs_backed row.builtin name member (at_name (host_name Fs) (firsts row.builtin)) refl h

pub an_empty_row_grants_nothing : An_empty_row_grants_nothing
an_empty_row_grants_nothing = refl

pub no_row_grants_nothing : No_row_grants_nothing
no_row_grants_nothing = refl
