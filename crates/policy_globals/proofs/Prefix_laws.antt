-- What is granted goes back to a key that grants.
use Rattle.std.proofs.Common.{◌≡◌, ℕ, List, [], ◌∷◌, Bool, true, false, ◌&&◌, ◌||◌, cond, Option, Some, None, is_none, fold, bytes_eq, refl, sym, ap, ◌∙◌, subst}
use Rattle.std.proofs.lemmas.Map.Text.{is_eq-slice_cmp}
use Rattle.std.proofs.lemmas.Slice.Eq.{bytes_eq-Decides}
use Rattle.std.specs.List.{list_any}
use Rattle.std.specs.Option.{unwrap_or}
use Rattle.std.specs.Ordering.{is_eq, match_ordering}
use Rattle.std.specs.declared.cmp.Ordering.{Ordering}
use Rattle.std.specs.declared.cmp.Ordering.TheVariants.{Less, Equal, Greater}
use Rattle.policy_row.specs.Rows.{Entries, order_of_names, at_name, with_entry, is_granting, raised, raised_grade}
use Rattle.policy_row.specs.declared.grade.Grade.{Grade}
use Rattle.policy_row.specs.declared.grade.Grade.TheVariants.{No, Yes, Write}
use Rattle.policy_globals.specs.Keys.{first_name, second_name, whole_grade, with_first, firsts, with_second_name, with_second, seconds}

no_some : {X Y : Type 0} (x : X) → None ≡ Some x → Y
no_some x h = absurd (none_is h)
  where
    none_is : None ≡ Some x → ⊥
    none_is e = cc

pub unwrapped : {X : Type 0} (x y : X) → Some x ≡ Some y → x ≡ y
unwrapped x y e = ap (λ o. unwrap_or o x) e

or_here : (b c : Bool) → b ≡ true → (b || c) ≡ true
or_here true c h = refl
or_here false c h = cc

or_there : (b c : Bool) → c ≡ true → (b || c) ≡ true
or_there true c h = refl
or_there false c h = h

same_name : (m n : List ℕ) → is_eq (order_of_names m n) ≡ true → m ≡ n
same_name m n h = (bytes_eq-Decides m n).0 (sym (is_eq-slice_cmp m n) ∙ h)

pub itself : (n : List ℕ) → bytes_eq n n ≡ true
itself n = (bytes_eq-Decides n n).1 refl

-- some key grants and passes a test
abbrev pub some_key : (List ℕ → Bool) → Entries → Bool
some_key p keys = list_any (λ e. is_granting e.1 && p e.0) keys

module _ (keys : Entries) (p : (name key : List ℕ) → Bool) where
  -- each entry that grants has a key that grants
  abbrev pub Backed : Entries → Type 0
  Backed [] = Unit {0}
  Backed (e ∷ es) = (is_granting e.1 ≡ true → some_key (p e.0) keys ≡ true) × Backed es

  by_same : (n m : List ℕ) → n ≡ m → some_key (p n) keys ≡ true → some_key (p m) keys ≡ true
  by_same n m same h = subst (λ k. some_key (p k) keys ≡ true) same h

  pub found_backed : (n : List ℕ) (es : Entries) (g : Grade) → Backed es → at_name n es ≡ Some g → is_granting g ≡ true → some_key (p n) keys ≡ true
  found_backed n [] g h found grants = no_some g found
  found_backed n (e ∷ es) g h found grants =
      by_test (is_eq (order_of_names n e.0)) refl found (λ is. found_backed n es g (h.1) is grants)
    where
      by_test : (b : Bool) → is_eq (order_of_names n e.0) ≡ b → cond b (Some e.1) (at_name n es) ≡ Some g → (at_name n es ≡ Some g → some_key (p n) keys ≡ true) → some_key (p n) keys ≡ true
      by_test true test is more = by_same e.0 n (sym (same_name n e.0 test)) (h.0 (ap is_granting (unwrapped e.1 g is) ∙ grants))
      by_test false test is more = more is

  put_by_order : (e : List ℕ × Grade) (es put : Entries) (n : List ℕ) (x : Grade) (o : Ordering) → order_of_names n e.0 ≡ o → Backed (e ∷ es) → Backed put → (is_granting x ≡ true → some_key (p n) keys ≡ true) → Backed (match_ordering o ((n, x) ∷ e ∷ es) ((e.0, x) ∷ es) (e ∷ put))
  put_by_order e es put n x Less is h rest here = (here, h)
  put_by_order e es put n x Equal is h rest here = (λ grants. by_same n e.0 (same_name n e.0 (ap is_eq is)) (here grants), h.1)
  put_by_order e es put n x Greater is h rest here = (h.0, rest)

  put_backed : (es : Entries) (n : List ℕ) (x : Grade) → Backed es → (is_granting x ≡ true → some_key (p n) keys ≡ true) → Backed (with_entry es n x)
  put_backed [] n x h here = (here, tt)
  put_backed (e ∷ es) n x h here = put_by_order e es (with_entry es n x) n x (order_of_names n e.0) refl h (put_backed es n x (h.1) here) here

  raised_grants : (es : Entries) (n : List ℕ) (g : Grade) (o : Option Grade) → at_name n es ≡ o → Backed es → (is_granting g ≡ true → some_key (p n) keys ≡ true) → is_granting (raised_grade o g) ≡ true → some_key (p n) keys ≡ true
  raised_grants es n g None is h here grants = here grants
  raised_grants es n g (Some No) is h here grants = here grants
  raised_grants es n g (Some Yes) is h here grants = found_backed n es Yes h is refl
  raised_grants es n g (Some Write) is h here grants = found_backed n es Write h is refl

  pub raise_backed : (es : Entries) (n : List ℕ) (g : Grade) → Backed es → (is_granting g ≡ true → some_key (p n) keys ≡ true) → Backed (raised es n g)
  raise_backed es n g h here = put_backed es n (raised_grade (at_name n es) g) h (raised_grants es n g (at_name n es) refl h here)

-- these are keys among all
abbrev pub AreKeys : (keys some : Entries) → Type 0
AreKeys keys some = (q : List ℕ × Grade → Bool) → list_any q some ≡ true → list_any q keys ≡ true

behind : (keys : Entries) (e : List ℕ × Grade) (es : Entries) → AreKeys keys (e ∷ es) → AreKeys keys es
behind keys e es among q h = among q (or_there (q e) (list_any q es) h)

key_of : (keys : Entries) (e : List ℕ × Grade) (es : Entries) (p : List ℕ → Bool) → AreKeys keys (e ∷ es) → is_granting e.1 ≡ true → p e.0 ≡ true → some_key p keys ≡ true
key_of keys e es p among grants passes =
    among (λ e. is_granting e.1 && p e.0) (or_here (is_granting e.1 && p e.0) (list_any (λ e. is_granting e.1 && p e.0) es) (rw grants passes))

-- FIRST NAMES

-- a key is this name alone
abbrev pub is_whole : (name key : List ℕ) → Bool
is_whole name key = bytes_eq (first_name key) name && is_none (second_name key)

whole_key : (keys : Entries) (e : List ℕ × Grade) (es : Entries) (o : Option (List ℕ)) → second_name e.0 ≡ o → AreKeys keys (e ∷ es) → is_granting (whole_grade o e.1) ≡ true → some_key (is_whole (first_name e.0)) keys ≡ true
whole_key keys e es None is among grants =
    key_of keys e es (is_whole (first_name e.0)) among grants (rw (itself (first_name e.0), is) refl)
whole_key keys e es (Some second) is among grants = cc

firsts_from : (keys es done : Entries) → AreKeys keys es → Backed keys is_whole done → Backed keys is_whole (fold with_first done es)
firsts_from keys [] done among h = h
firsts_from keys (e ∷ es) done among h =
    firsts_from keys es (with_first done e) (behind keys e es among) (raise_backed keys is_whole done (first_name e.0) (whole_grade (second_name e.0) e.1) h (whole_key keys e es (second_name e.0) refl among))

pub firsts_backed : (keys : Entries) → Backed keys is_whole (firsts keys)
firsts_backed keys = firsts_from keys keys [] (λ q h. h) tt

-- SECOND NAMES

abbrev pub is_some_of : Option (List ℕ) → (member : List ℕ) → Bool
is_some_of None member = false
is_some_of (Some second) member = bytes_eq second member

-- a key is this name and this member
abbrev pub is_member : (name member key : List ℕ) → Bool
is_member name member key = bytes_eq (first_name key) name && is_some_of (second_name key) member

member_key : (name : List ℕ) (keys : Entries) (e : List ℕ × Grade) (es : Entries) (done : Entries) (o : Option (List ℕ)) → bytes_eq (first_name e.0) name ≡ true → second_name e.0 ≡ o → AreKeys keys (e ∷ es) → Backed keys (is_member name) done → Backed keys (is_member name) (with_second_name done o e.1)
member_key name keys e es done None first is among h = h
member_key name keys e es done (Some second) first is among h =
    raise_backed keys (is_member name) done second e.1 h (λ grants. key_of keys e es (is_member name second) among grants (rw (first, is) (itself second)))

second_by : (name : List ℕ) (keys : Entries) (e : List ℕ × Grade) (es : Entries) (done : Entries) (b : Bool) → bytes_eq (first_name e.0) name ≡ b → AreKeys keys (e ∷ es) → Backed keys (is_member name) done → Backed keys (is_member name) (cond b (with_second_name done (second_name e.0) e.1) done)
second_by name keys e es done true first among h = member_key name keys e es done (second_name e.0) first refl among h
second_by name keys e es done false first among h = h

seconds_from : (name : List ℕ) (keys es done : Entries) → AreKeys keys es → Backed keys (is_member name) done → Backed keys (is_member name) (fold (with_second name) done es)
seconds_from name keys [] done among h = h
seconds_from name keys (e ∷ es) done among h =
    seconds_from name keys es (with_second name done e) (behind keys e es among) (second_by name keys e es done (bytes_eq (first_name e.0) name) refl among h)

pub seconds_backed : (name : List ℕ) (keys : Entries) → Backed keys (is_member name) (seconds name keys)
seconds_backed name keys = seconds_from name keys keys [] (λ q h. h) tt
