-- Grades of keys that are wanted one after the other.
use Rattle.std.proofs.Common.{◌≡◌, ℕ, List, [], ◌∷◌, Bool, true, false, ◌&&◌, ◌||◌, cond, Option, Some, None, is_some, fold, bytes_eq, refl, sym, ap, ◌∙◌}
use Rattle.std.specs.List.{list_all, list_any}
use Rattle.std.specs.Ordering.{is_eq}
use Rattle.std.specs.declared.cmp.Ordering.{Ordering}
use Rattle.std.specs.declared.cmp.Ordering.TheVariants.{Less, Equal, Greater}
use Rattle.std.specs.Ordering.{match_ordering}
use Rattle.policy_row.specs.Rows.{Entries, order_of_names, at_name, with_entry, is_granting, is_write, raised, raised_grade, is_in_order}
use Rattle.policy_row.specs.declared.grade.Grade.{Grade}
use Rattle.policy_row.specs.declared.grade.Grade.TheVariants.{No, Yes, Write}
use Rattle.policy_gen.specs.Uses.{write_grade}
use Rattle.policy_gen.proofs.Anys.{on_some, and_both, clash, same_bytes}
use Rattle.policy_gen.proofs.Puts.{put_found, found_among, equal_names, any_put, values_put, order_put}

-- a key that is wanted, and whether it is assigned
abbrev pub Want : Type 0
Want = List ℕ × Bool

abbrev pub with_want : Entries → Want → Entries
with_want es u = raised es u.0 (write_grade u.1)

abbrev pub all_wants : List Want → Entries
all_wants us = fold with_want [] us

abbrev pub wanted : List ℕ → List Want → Bool
wanted k us = list_any (λ u. bytes_eq k u.0) us

abbrev pub assigned : List ℕ → List Want → Bool
assigned k us = list_any (λ u. bytes_eq k u.0 && u.1) us

-- what stands at a key that is wanted, or not
abbrev pub grade_from : (is written : Bool) → Option Grade
grade_from is written = cond is (Some (write_grade written)) None

or_assoc : (a b c : Bool) → ((a || b) || c) ≡ (a || (b || c))
or_assoc true b c = refl
or_assoc false b c = refl

or_moved : (a b c : Bool) → ((a || b) || c) ≡ (b || (a || c))
or_moved true true c = refl
or_moved true false c = refl
or_moved false b c = refl

-- WHAT STANDS AT A KEY

raised_from : (is written assigns : Bool) → (written ≡ true → is ≡ true) → Some (raised_grade (grade_from is written) (write_grade assigns)) ≡ grade_from true (written || assigns)
raised_from true true assigns h = refl
raised_from true false true h = refl
raised_from true false false h = refl
raised_from false true assigns h = clash (sym (h refl))
raised_from false false assigns h = refl

or_false : (a : Bool) → a ≡ (a || false)
or_false true = refl
or_false false = refl

or_true : (a : Bool) → true ≡ (a || true)
or_true true = refl
or_true false = refl

module _ (k : List ℕ) (es : Entries) (is written : Bool) (before : at_name k es ≡ grade_from is written) (fits : written ≡ true → is ≡ true) where
  want_by : (n : List ℕ) (assigns : Bool) (b : Bool) → bytes_eq k n ≡ b → cond b (Some (raised_grade (at_name n es) (write_grade assigns))) (at_name k es) ≡ grade_from (is || b) (written || (b && assigns))
  want_by n assigns true same =
      ap (λ o. Some (raised_grade o (write_grade assigns))) (ap (λ m. at_name m es) (sym (same_bytes k n same)) ∙ before)
      ∙ raised_from is written assigns fits ∙ ap (λ i. grade_from i (written || assigns)) (or_true is)
  want_by n assigns false apart = before ∙ ap (λ i. grade_from i written) (or_false is) ∙ ap (λ w. grade_from (is || false) w) (or_false written)

  one_want : (u : Want) → at_name k (with_want es u) ≡ grade_from (is || bytes_eq k u.0) (written || (bytes_eq k u.0 && u.1))
  one_want u = put_found k u.0 (raised_grade (at_name u.0 es) (write_grade u.1)) es ∙ want_by u.0 u.1 (bytes_eq k u.0) refl

still_fits : (is written b assigns : Bool) → (written ≡ true → is ≡ true) → (written || (b && assigns)) ≡ true → (is || b) ≡ true
still_fits true written b assigns fits h = refl
still_fits false true b assigns fits h = clash (sym (fits refl))
still_fits false false true assigns fits h = refl
still_fits false false false assigns fits h = h

-- a key stands where it is wanted, with leave to write where it is assigned
want_from : (k : List ℕ) (us : List Want) (es : Entries) (is written : Bool) → (written ≡ true → is ≡ true) → at_name k es ≡ grade_from is written → at_name k (fold with_want es us) ≡ grade_from (is || wanted k us) (written || assigned k us)
want_from k [] es is written fits before = before ∙ ap (λ i. grade_from i written) (or_false is) ∙ ap (λ w. grade_from (is || false) w) (or_false written)
want_from k (u ∷ us) es is written fits before =
    want_from k us (with_want es u) (is || bytes_eq k u.0) (written || (bytes_eq k u.0 && u.1)) (still_fits is written (bytes_eq k u.0) u.1 fits) (one_want k es is written before fits u)
    ∙ ap (λ i. grade_from i ((written || (bytes_eq k u.0 && u.1)) || assigned k us)) (or_assoc is (bytes_eq k u.0) (wanted k us))
    ∙ ap (λ w. grade_from (is || wanted k (u ∷ us)) w) (or_assoc written (bytes_eq k u.0 && u.1) (assigned k us))

pub want_found : (k : List ℕ) (us : List Want) → at_name k (all_wants us) ≡ grade_from (wanted k us) (assigned k us)
want_found k us = want_from k us [] false false (λ h. h) refl

is_there : (is written : Bool) → is_some (grade_from is written) ≡ is
is_there true written = refl
is_there false written = refl

pub want_is : (k : List ℕ) (us : List Want) → is_some (at_name k (all_wants us)) ≡ wanted k us
want_is k us = ap is_some (want_found k us) ∙ is_there (wanted k us) (assigned k us)

-- THE ENTRIES

module _ (p : List ℕ → Bool) where
  names_from : (us : List Want) (es : Entries) → list_any (λ e. p e.0) (fold with_want es us) ≡ (list_any (λ e. p e.0) es || list_any (λ u. p u.0) us)
  names_from [] es = or_false (list_any (λ e. p e.0) es)
  names_from (u ∷ us) es =
      names_from us (with_want es u) ∙ ap (λ b. b || list_any (λ u. p u.0) us) (any_put p u.0 (raised_grade (at_name u.0 es) (write_grade u.1)) es)
      ∙ or_moved (p u.0) (list_any (λ e. p e.0) es) (list_any (λ u. p u.0) us)

  -- a name passes a test where one that is wanted does
  pub want_names : (us : List Want) → list_any (λ e. p e.0) (all_wants us) ≡ list_any (λ u. p u.0) us
  want_names us = names_from us []

  absorbed : (b t w rest : Bool) → (b ≡ true → t ≡ true → rest ≡ true) → ((b && (t || w)) || rest) ≡ ((b && w) || rest)
  absorbed true true true true h = refl
  absorbed true true false true h = refl
  absorbed true true true false h = refl
  absorbed true true false false h = sym (h refl refl)
  absorbed true false w rest h = refl
  absorbed false t w rest h = refl

  apart : (b t w rest : Bool) → ((b && (t || w)) || rest) ≡ ((b && w) || ((b && t) || rest))
  apart true true true rest = refl
  apart true true false rest = refl
  apart true false true rest = refl
  apart true false false rest = refl
  apart false t w rest = refl

  swapped : (a b c : Bool) → (a || (b || c)) ≡ (b || (a || c))
  swapped true true c = refl
  swapped true false c = refl
  swapped false b c = refl

  -- a name passes the test and is written to
  abbrev passes : List ℕ × Grade → Bool
  passes e = p e.0 && is_write e.1

  found_passes : (n : List ℕ) (es : Entries) (o : Option Grade) → at_name n es ≡ o → p n ≡ true → on_some is_write o ≡ true → list_any passes es ≡ true
  found_passes n es None is here writes = clash (sym writes)
  found_passes n es (Some g) is here writes = found_among n g passes es is (and_both (p n) (is_write g) here writes)

  module _ (n : List ℕ) (x : Grade) (w : Bool) where
    write_by : (e : List ℕ × Grade) (es put : Entries) (o : Ordering) → order_of_names n e.0 ≡ o → is_write x ≡ (on_some is_write (at_name n (e ∷ es)) || w) → (is_write x ≡ (on_some is_write (at_name n es) || w) → list_any passes put ≡ ((p n && w) || list_any passes es)) → list_any passes (match_ordering o ((n, x) ∷ e ∷ es) ((e.0, x) ∷ es) (e ∷ put)) ≡ ((p n && w) || list_any passes (e ∷ es))
    write_by e es put Less is writes rest =
        ap (λ b. (p n && b) || list_any passes (e ∷ es)) writes
        ∙ absorbed (p n) (on_some is_write (at_name n (e ∷ es))) w (list_any passes (e ∷ es)) (found_passes n (e ∷ es) (at_name n (e ∷ es)) refl)
    write_by e es put Equal is writes rest =
        let here : is_write x ≡ (is_write e.1 || w) = writes ∙ ap (λ o. on_some is_write (cond (is_eq o) (Some e.1) (at_name n es)) || w) is in
        ap (λ b. (p e.0 && b) || list_any passes es) here ∙ apart (p e.0) (is_write e.1) w (list_any passes es)
        ∙ ap (λ m. (p m && w) || list_any passes (e ∷ es)) (sym (equal_names n e.0 is))
    write_by e es put Greater is writes rest =
        let there : is_write x ≡ (on_some is_write (at_name n es) || w) = writes ∙ ap (λ o. on_some is_write (cond (is_eq o) (Some e.1) (at_name n es)) || w) is in
        ap (λ b. passes e || b) (rest there) ∙ swapped (passes e) (p n && w) (list_any passes es)

    write_put : (es : Entries) → is_write x ≡ (on_some is_write (at_name n es) || w) → list_any passes (with_entry es n x) ≡ ((p n && w) || list_any passes es)
    write_put [] writes = ap (λ b. (p n && b) || false) writes
    write_put (e ∷ es) writes = write_by e es (with_entry es n x) (order_of_names n e.0) refl writes (write_put es)

  raised_writes : (o : Option Grade) (w : Bool) → is_write (raised_grade o (write_grade w)) ≡ (on_some is_write o || w)
  raised_writes None true = refl
  raised_writes None false = refl
  raised_writes (Some No) true = refl
  raised_writes (Some No) false = refl
  raised_writes (Some Yes) true = refl
  raised_writes (Some Yes) false = refl
  raised_writes (Some Write) w = refl

  writes_from : (us : List Want) (es : Entries) → list_any passes (fold with_want es us) ≡ (list_any passes es || list_any (λ u. p u.0 && u.1) us)
  writes_from [] es = or_false (list_any passes es)
  writes_from (u ∷ us) es =
      writes_from us (with_want es u)
      ∙ ap (λ b. b || list_any (λ u. p u.0 && u.1) us) (write_put u.0 (raised_grade (at_name u.0 es) (write_grade u.1)) u.1 es (raised_writes (at_name u.0 es) u.1))
      ∙ or_moved (p u.0 && u.1) (list_any passes es) (list_any (λ u. p u.0 && u.1) us)

  -- and is written to where one that is wanted is assigned
  pub want_writes : (us : List Want) → list_any (λ e. p e.0 && is_write e.1) (all_wants us) ≡ list_any (λ u. p u.0 && u.1) us
  want_writes us = writes_from us []

-- each entry grants
raised_grants : (o : Option Grade) (w : Bool) → is_granting (raised_grade o (write_grade w)) ≡ true
raised_grants None true = refl
raised_grants None false = refl
raised_grants (Some No) true = refl
raised_grants (Some No) false = refl
raised_grants (Some Yes) true = refl
raised_grants (Some Yes) false = refl
raised_grants (Some Write) w = refl

grants_from : (us : List Want) (es : Entries) → list_all (λ e. is_granting e.1) es ≡ true → list_all (λ e. is_granting e.1) (fold with_want es us) ≡ true
grants_from [] es all = all
grants_from (u ∷ us) es all = grants_from us (with_want es u) (values_put is_granting u.0 (raised_grade (at_name u.0 es) (write_grade u.1)) es (raised_grants (at_name u.0 es) u.1) all)

pub want_grants : (us : List Want) → list_all (λ e. is_granting e.1) (all_wants us) ≡ true
want_grants us = grants_from us [] refl

order_from : (us : List Want) (es : Entries) → is_in_order es ≡ true → is_in_order (fold with_want es us) ≡ true
order_from [] es h = h
order_from (u ∷ us) es h = order_from us (with_want es u) (order_put u.0 (raised_grade (at_name u.0 es) (write_grade u.1)) es h)

-- and they stand in order
pub want_order : (us : List Want) → is_in_order (all_wants us) ≡ true
want_order us = order_from us [] refl
