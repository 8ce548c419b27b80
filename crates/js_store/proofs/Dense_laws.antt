-- The dense properties and the sparse ones after them are one list, ascending.
use Rattle.std.proofs.Common.{◌≡◌, ℕ, zero, suc, ◌+◌, ◌-◌, ◌<◌, ◌≤◌, Bool, true, false, cond, List, [], ◌∷◌, ◌++◌, length, set, get_or, take, slice_get, is_some, Result, Ok, Err, OnOk, OnErr, Option, Some, None, refl, sym, ◌∙◌, ap, arith}
use Rattle.std.proofs.lemmas.Bool.Decides.{nat_tests}
use Rattle.std.proofs.lemmas.List.{length_push, length-take, take_more, take_all}
use Rattle.std.specs.BTreeMap.{insert_entry, is_at}
use Rattle.std.specs.List.{AllByRecursion}
use Rattle.std.specs.List.Sorted.{IsStrictlySortedBy}
use Rattle.std.specs.Map.{keys_of, lookup, remove_entry, set_value}
use Rattle.std.specs.Option.{unwrap_or}
use Rattle.std.specs.Ordering.{is_eq, nat_cmp, match_ordering}
use Rattle.std.specs.declared.cmp.Ordering.{Ordering}
use Rattle.std.specs.declared.cmp.Ordering.TheVariants.{Less, Equal, Greater}
use Rattle.lava_base.specs.declared.ids.MadeSymbol.{MadeSymbol}
use Rattle.lava_base.specs.declared.ids.Ref.{Ref}
use Rattle.lava_base.specs.declared.memory.OutOfMemory.{OutOfMemory}
use Rattle.js_desc.specs.declared.descriptor.Descriptor.{Descriptor}
use Rattle.js_store.specs.Dense.{last_of, present}

abbrev Places : Type 0
Places = List (Option (Descriptor Ref MadeSymbol))

abbrev Entries : Type 0
Entries = List (ℕ × Descriptor Ref MadeSymbol)

-- all indices are at least k
abbrev pub Past : ℕ → Entries → Type 0
Past k es = AllByRecursion (λ i. k ≤ i) (keys_of es)

-- NUMBERS

itself : (n : ℕ) → nat_cmp (n + 0) n ≡ Equal
itself n = grind (arith, nat_tests)

above : (n k : ℕ) → nat_cmp (n + suc k) n ≡ Greater
above n k = grind (arith, nat_tests)

beyond : (n i : ℕ) → n < i → nat_cmp i n ≡ Greater
beyond n i h = grind (arith, nat_tests)

under : (i j : ℕ) → i < j → nat_cmp i j ≡ Less
under i j h = grind (arith, nat_tests)

apart : (i j : ℕ) → i < j → is_eq (nat_cmp i j) ≡ false
apart i j h = ap is_eq (under i j h)

less : (i k j : ℕ) → i < k → k ≤ j → i < j
less i k j a b = grind (arith)

step : (n k : ℕ) → n + suc k ≡ suc n + k
step n k = grind (arith)

no_less : (n k : ℕ) → suc n + k ≤ n + suc k
no_less n k = grind (arith)

-- WHAT IS PAST A NUMBER

weaken : (a b : ℕ) (es : Entries) → a ≤ b → Past b es → Past a es
weaken a b [] le past = record {}
weaken a b (e ∷ es) le past = (grind (arith), weaken a b es le past.1)

from_zero : (i : ℕ) → i ≡ 0 + i
from_zero i = grind (arith)

from_start : (os : Places) (rest : Entries) → Past (length os) rest → Past (0 + length os) rest
from_start os rest past = weaken (0 + length os) (length os) rest (grind (arith)) past

pub all_past : (n : ℕ) (os : Places) (rest : Entries) → Past (n + length os) rest → Past n (present n os ++ rest)
all_past n [] rest past = weaken n (n + 0) rest (grind (arith)) past
all_past n (None ∷ os) rest past = weaken n (suc n) (present (suc n) os ++ rest) (grind (arith)) (all_past (suc n) os rest (weaken (suc n + length os) (n + suc (length os)) rest (no_less n (length os)) past))
all_past n (Some d ∷ os) rest past = (grind (arith), weaken n (suc n) (present (suc n) os ++ rest) (grind (arith)) (all_past (suc n) os rest (weaken (suc n + length os) (n + suc (length os)) rest (no_less n (length os)) past)))

-- those after the first of a list of places
after_first : (n : ℕ) (o : Option (Descriptor Ref MadeSymbol)) (os : Places) (rest : Entries) → Past (n + length (o ∷ os)) rest → Past (suc n) (present (suc n) os ++ rest)
after_first n o os rest past = all_past (suc n) os rest (weaken (suc n + length os) (n + suc (length os)) rest (no_less n (length os)) past)

fewer : (n : ℕ) (o : Option (Descriptor Ref MadeSymbol)) (os : Places) (rest : Entries) → Past (n + length (o ∷ os)) rest → Past (suc n + length os) rest
fewer n o os rest past = weaken (suc n + length os) (n + suc (length os)) rest (no_less n (length os)) past

-- WHAT IS FOUND

missing : (i k : ℕ) (es : Entries) → i < k → Past k es → lookup (is_at (nat_cmp i)) es ≡ None
missing i k [] lt past = refl
missing i k (e ∷ es) lt past = ap (λ b. cond b (Some e.1) (lookup (is_at (nat_cmp i)) es)) (apart i e.0 (less i k e.0 lt past.0)) ∙ missing i k es lt past.1

found_from : (n k : ℕ) (os : Places) (rest : Entries) → k < length os → Past (n + length os) rest → lookup (is_at (nat_cmp (n + k))) (present n os ++ rest) ≡ get_or os k None
found_from n k [] rest lt past = absurd (grind (arith))
found_from n zero (None ∷ os) rest lt past = missing (n + 0) (suc n) (present (suc n) os ++ rest) (grind (arith)) (after_first n None os rest past)
found_from n zero (Some d ∷ os) rest lt past = ap (λ o. cond (is_eq o) (Some d) (lookup (is_at (nat_cmp (n + 0))) (present (suc n) os ++ rest))) (itself n)
found_from n (suc k) (None ∷ os) rest lt past =
    ap (λ i. lookup (is_at (nat_cmp i)) (present (suc n) os ++ rest)) (step n k)
    ∙ found_from (suc n) k os rest (grind (arith)) (fewer n None os rest past)
found_from n (suc k) (Some d ∷ os) rest lt past =
    ap (λ o. cond (is_eq o) (Some d) (lookup (is_at (nat_cmp (n + suc k))) (present (suc n) os ++ rest))) (above n k)
    ∙ ap (λ i. lookup (is_at (nat_cmp i)) (present (suc n) os ++ rest)) (step n k)
    ∙ found_from (suc n) k os rest (grind (arith)) (fewer n (Some d) os rest past)

pub found_dense : (i : ℕ) (os : Places) (rest : Entries) → i < length os → Past (length os) rest → lookup (is_at (nat_cmp i)) (present 0 os ++ rest) ≡ get_or os i None
found_dense i os rest lt past = ap (λ k. lookup (is_at (nat_cmp k)) (present 0 os ++ rest)) (from_zero i) ∙ found_from 0 i os rest lt (from_start os rest past)

found_after : (i n : ℕ) (os : Places) (rest : Entries) → n + length os ≤ i → lookup (is_at (nat_cmp i)) (present n os ++ rest) ≡ lookup (is_at (nat_cmp i)) rest
found_after i n [] rest le = refl
found_after i n (None ∷ os) rest le = found_after i (suc n) os rest (grind (arith))
found_after i n (Some d ∷ os) rest le =
    ap (λ o. cond (is_eq o) (Some d) (lookup (is_at (nat_cmp i)) (present (suc n) os ++ rest))) (beyond n i (grind (arith)))
    ∙ found_after i (suc n) os rest (grind (arith))

pub found_sparse : (i : ℕ) (os : Places) (rest : Entries) → length os ≤ i → lookup (is_at (nat_cmp i)) (present 0 os ++ rest) ≡ lookup (is_at (nat_cmp i)) rest
found_sparse i os rest le = found_after i 0 os rest (grind (arith))

-- WHAT IS WRITTEN

put_front : (i : ℕ) (d : Descriptor Ref MadeSymbol) (es : Entries) → Past (suc i) es → insert_entry nat_cmp es i d ≡ (i, d) ∷ es
put_front i d [] past = refl
put_front i d (e ∷ es) past = ap (λ o. match_ordering o ((i, d) ∷ e ∷ es) ((e.0, d) ∷ es) (e ∷ insert_entry nat_cmp es i d)) (under i e.0 (grind (arith)))

written_from : (n k : ℕ) (d : Descriptor Ref MadeSymbol) (os : Places) (rest : Entries) → k < length os → Past (n + length os) rest → present n (set os k (Some d)) ++ rest ≡ insert_entry nat_cmp (present n os ++ rest) (n + k) d
written_from n k d [] rest lt past = absurd (grind (arith))
written_from n zero d (None ∷ os) rest lt past =
    sym (ap (λ i. insert_entry nat_cmp (present (suc n) os ++ rest) i d) (grind (arith)) ∙ put_front n d (present (suc n) os ++ rest) (after_first n None os rest past))
written_from n zero d (Some o ∷ os) rest lt past =
    sym (ap (λ r. match_ordering r ((n + 0, d) ∷ (n, o) ∷ present (suc n) os ++ rest) ((n, d) ∷ present (suc n) os ++ rest) ((n, o) ∷ insert_entry nat_cmp (present (suc n) os ++ rest) (n + 0) d)) (itself n))
written_from n (suc k) d (None ∷ os) rest lt past =
    written_from (suc n) k d os rest (grind (arith)) (fewer n None os rest past)
    ∙ ap (λ i. insert_entry nat_cmp (present (suc n) os ++ rest) i d) (sym (step n k))
written_from n (suc k) d (Some o ∷ os) rest lt past =
    ap (λ l. (n, o) ∷ l) (written_from (suc n) k d os rest (grind (arith)) (fewer n (Some o) os rest past)
    ∙ ap (λ i. insert_entry nat_cmp (present (suc n) os ++ rest) i d) (sym (step n k)))
    ∙ sym (ap (λ r. match_ordering r ((n + suc k, d) ∷ (n, o) ∷ present (suc n) os ++ rest) ((n, d) ∷ present (suc n) os ++ rest) ((n, o) ∷ insert_entry nat_cmp (present (suc n) os ++ rest) (n + suc k) d)) (above n k))

pub written_dense : (i : ℕ) (d : Descriptor Ref MadeSymbol) (os : Places) (rest : Entries) → i < length os → Past (length os) rest → present 0 (set os i (Some d)) ++ rest ≡ insert_entry nat_cmp (present 0 os ++ rest) i d
written_dense i d os rest lt past = written_from 0 i d os rest lt (from_start os rest past) ∙ ap (λ k. insert_entry nat_cmp (present 0 os ++ rest) k d) (sym (from_zero i))

written_after : (i n : ℕ) (d : Descriptor Ref MadeSymbol) (os : Places) (rest : Entries) → n + length os ≤ i → present n os ++ insert_entry nat_cmp rest i d ≡ insert_entry nat_cmp (present n os ++ rest) i d
written_after i n d [] rest le = refl
written_after i n d (None ∷ os) rest le = written_after i (suc n) d os rest (grind (arith))
written_after i n d (Some o ∷ os) rest le =
    ap (λ l. (n, o) ∷ l) (written_after i (suc n) d os rest (grind (arith)))
    ∙ sym (ap (λ r. match_ordering r ((i, d) ∷ (n, o) ∷ present (suc n) os ++ rest) ((n, d) ∷ present (suc n) os ++ rest) ((n, o) ∷ insert_entry nat_cmp (present (suc n) os ++ rest) i d)) (beyond n i (grind (arith))))

pub written_sparse : (i : ℕ) (d : Descriptor Ref MadeSymbol) (os : Places) (rest : Entries) → length os ≤ i → present 0 os ++ insert_entry nat_cmp rest i d ≡ insert_entry nat_cmp (present 0 os ++ rest) i d
written_sparse i d os rest le = written_after i 0 d os rest (grind (arith))

one_more : (n : ℕ) (d : Descriptor Ref MadeSymbol) (os : Places) (rest : Entries) → present n (os ++ Some d ∷ []) ++ rest ≡ present n os ++ (n + length os, d) ∷ rest
one_more n d [] rest = ap (λ i. (i, d) ∷ rest) (grind (arith))
one_more n d (None ∷ os) rest = one_more (suc n) d os rest ∙ ap (λ i. present (suc n) os ++ (i, d) ∷ rest) (grind (arith))
one_more n d (Some o ∷ os) rest = ap (λ l. (n, o) ∷ l) (one_more (suc n) d os rest ∙ ap (λ i. present (suc n) os ++ (i, d) ∷ rest) (grind (arith)))

-- the first index is not there, so all are past it
not_there : (b : Bool) (v : Descriptor Ref MadeSymbol) (rest : Option (Descriptor Ref MadeSymbol)) → is_some (cond b (Some v) rest) ≡ false → (b ≡ false) × (is_some rest ≡ false)
not_there true v rest h = absurd cc
not_there false v rest h = (refl, h)

more_past : (k : ℕ) (es : Entries) → is_some (lookup (is_at (nat_cmp k)) es) ≡ false → Past k es → Past (suc k) es
more_past k [] none past = record {}
more_past k (e ∷ es) none past =
    let t = not_there (is_eq (nat_cmp k e.0)) e.1 (lookup (is_at (nat_cmp k)) es) none in
    (other k e.0 t.0 past.0, more_past k es t.1 past.1)
  where
    other : (a b : ℕ) → is_eq (nat_cmp a b) ≡ false → a ≤ b → suc a ≤ b
    other a b h le = grind (arith, nat_tests)

one_longer : (os : Places) (d : Descriptor Ref MadeSymbol) → length (os ++ Some d ∷ []) ≤ suc (length os)
one_longer os d = let l = length_push os (Some d) in grind (arith)

pub past_next : (i : ℕ) (os : Places) (d : Descriptor Ref MadeSymbol) (rest : Entries) → i ≡ length os → is_some (lookup (is_at (nat_cmp i)) rest) ≡ false → Past (length os) rest → Past (length (os ++ Some d ∷ [])) rest
past_next i os d rest same none past =
    weaken (length (os ++ Some d ∷ [])) (suc (length os)) rest (one_longer os d) (more_past (length os) rest (ap (λ k. is_some (lookup (is_at (nat_cmp k)) rest)) (sym same) ∙ none) past)

pub written_next : (i : ℕ) (d : Descriptor Ref MadeSymbol) (os : Places) (rest : Entries) → i ≡ length os → is_some (lookup (is_at (nat_cmp i)) rest) ≡ false → Past (length os) rest → present 0 (os ++ Some d ∷ []) ++ rest ≡ insert_entry nat_cmp (present 0 os ++ rest) i d
written_next i d os rest same none past =
    one_more 0 d os rest
    ∙ ap (λ k. present 0 os ++ (k, d) ∷ rest) (sym (from_zero (length os)) ∙ sym same)
    ∙ ap (λ l. present 0 os ++ l) (sym (put_front i d rest (weaken (suc i) (suc (length os)) rest (grind (arith)) (more_past (length os) rest (ap (λ k. is_some (lookup (is_at (nat_cmp k)) rest)) (sym same) ∙ none) past))))
    ∙ written_sparse i d os rest (grind (arith))

pub past_written : (k i : ℕ) (d : Descriptor Ref MadeSymbol) (es : Entries) → k ≤ i → Past k es → Past k (insert_entry nat_cmp es i d)
past_written k i d [] le past = (le, record {})
past_written k i d (e ∷ es) le past = by_order (nat_cmp i e.0) (past_written k i d es le past.1)
  where
    by_order : (o : Ordering) → Past k (insert_entry nat_cmp es i d) → Past k (match_ordering o ((i, d) ∷ e ∷ es) ((e.0, d) ∷ es) (e ∷ insert_entry nat_cmp es i d))
    by_order Less h = (le, past)
    by_order Equal h = past
    by_order Greater h = (past.0, h)

-- WHAT IS TAKEN OUT

untouched : (i k : ℕ) (es : Entries) → i < k → Past k es → remove_entry (is_at (nat_cmp i)) es ≡ es
untouched i k [] lt past = refl
untouched i k (e ∷ es) lt past =
    ap (λ b. cond b es (e ∷ remove_entry (is_at (nat_cmp i)) es)) (apart i e.0 (less i k e.0 lt past.0))
    ∙ ap (λ l. e ∷ l) (untouched i k es lt past.1)

removed_from : (n k : ℕ) (os : Places) (rest : Entries) → k < length os → Past (n + length os) rest → present n (set os k None) ++ rest ≡ remove_entry (is_at (nat_cmp (n + k))) (present n os ++ rest)
removed_from n k [] rest lt past = absurd (grind (arith))
removed_from n zero (None ∷ os) rest lt past = sym (untouched (n + 0) (suc n) (present (suc n) os ++ rest) (grind (arith)) (after_first n None os rest past))
removed_from n zero (Some d ∷ os) rest lt past = sym (ap (λ o. cond (is_eq o) (present (suc n) os ++ rest) ((n, d) ∷ remove_entry (is_at (nat_cmp (n + 0))) (present (suc n) os ++ rest))) (itself n))
removed_from n (suc k) (None ∷ os) rest lt past =
    removed_from (suc n) k os rest (grind (arith)) (fewer n None os rest past)
    ∙ ap (λ i. remove_entry (is_at (nat_cmp i)) (present (suc n) os ++ rest)) (sym (step n k))
removed_from n (suc k) (Some d ∷ os) rest lt past =
    ap (λ l. (n, d) ∷ l) (removed_from (suc n) k os rest (grind (arith)) (fewer n (Some d) os rest past)
    ∙ ap (λ i. remove_entry (is_at (nat_cmp i)) (present (suc n) os ++ rest)) (sym (step n k)))
    ∙ sym (ap (λ o. cond (is_eq o) (present (suc n) os ++ rest) ((n, d) ∷ remove_entry (is_at (nat_cmp (n + suc k))) (present (suc n) os ++ rest))) (above n k))

pub removed_dense : (i : ℕ) (os : Places) (rest : Entries) → i < length os → Past (length os) rest → present 0 (set os i None) ++ rest ≡ remove_entry (is_at (nat_cmp i)) (present 0 os ++ rest)
removed_dense i os rest lt past = removed_from 0 i os rest lt (from_start os rest past) ∙ ap (λ k. remove_entry (is_at (nat_cmp k)) (present 0 os ++ rest)) (sym (from_zero i))

removed_after : (i n : ℕ) (os : Places) (rest : Entries) → n + length os ≤ i → present n os ++ remove_entry (is_at (nat_cmp i)) rest ≡ remove_entry (is_at (nat_cmp i)) (present n os ++ rest)
removed_after i n [] rest le = refl
removed_after i n (None ∷ os) rest le = removed_after i (suc n) os rest (grind (arith))
removed_after i n (Some d ∷ os) rest le =
    ap (λ l. (n, d) ∷ l) (removed_after i (suc n) os rest (grind (arith)))
    ∙ sym (ap (λ o. cond (is_eq o) (present (suc n) os ++ rest) ((n, d) ∷ remove_entry (is_at (nat_cmp i)) (present (suc n) os ++ rest))) (beyond n i (grind (arith))))

pub removed_sparse : (i : ℕ) (os : Places) (rest : Entries) → length os ≤ i → present 0 os ++ remove_entry (is_at (nat_cmp i)) rest ≡ remove_entry (is_at (nat_cmp i)) (present 0 os ++ rest)
removed_sparse i os rest le = removed_after i 0 os rest (grind (arith))

pub past_removed : (k : ℕ) (test : ℕ → Bool) (es : Entries) → Past k es → Past k (remove_entry test es)
past_removed k test [] past = past
past_removed k test (e ∷ es) past = by_test (test e.0) (past_removed k test es past.1)
  where
    by_test : (b : Bool) → Past k (remove_entry test es) → Past k (cond b es (e ∷ remove_entry test es))
    by_test true h = past.1
    by_test false h = (past.0, h)

-- an empty place at the end shows nothing
pub none_at_end : (n : ℕ) (os : Places) → present n (os ++ None ∷ []) ≡ present n os
none_at_end n [] = refl
none_at_end n (None ∷ os) = none_at_end (suc n) os
none_at_end n (Some d ∷ os) = ap (λ l. (n, d) ∷ l) (none_at_end (suc n) os)

-- a place that is read as empty is empty
pub none_there : (xs : Places) (i : ℕ) (x : Option (Descriptor Ref MadeSymbol)) → x ≡ get_or xs i x → is_some x ≡ false → get_or xs i None ≡ None
none_there xs i None h none = sym h
none_there xs i (Some d) h none = absurd cc

-- all places are shown at first
pub all_shown : (len : ℕ) (os : Places) → len ≡ length os → (present 0 (take len os) ≡ present 0 os) × (len ≤ length os)
all_shown len os same = (ap (λ l. present 0 l) (take_all len os (grind (arith))), grind (arith))

pub shown_less : (len : ℕ) (os : Places) → 0 < len → len ≤ length os → get_or os (len - 1) None ≡ None → present 0 (take (len - 1) os) ≡ present 0 (take len os)
shown_less len os some le none =
    sym (ap (λ n. present 0 (take n os)) (one_back len some)
    ∙ ap (λ l. present 0 l) (take_more os (len - 1) None (grind (arith)) ∙ ap (λ o. take (len - 1) os ++ o ∷ []) none)
    ∙ none_at_end 0 (take (len - 1) os))
  where
    one_back : (n : ℕ) → 0 < n → n ≡ (n - 1) + 1
    one_back n h = grind (arith)

-- what is past a number in an entry list that is known by an equation

pub past_taken : (k : ℕ) (test : ℕ → Bool) (es fs : Entries) → fs ≡ remove_entry test es → Past k es → Past k fs
past_taken k test es fs same past = rw same (past_removed k test es past)

pub past_put : (k i : ℕ) (d : Descriptor Ref MadeSymbol) (es fs : Entries) (r : Result (Unit {0}) OutOfMemory) → OnOk r (fs ≡ insert_entry nat_cmp es i d) → OnErr r (fs ≡ es) → k ≤ i → Past k es → Past k fs
past_put k i d es fs (Ok u) ok err le past = rw ok (past_written k i d es le past)
past_put k i d es fs (Err e) ok err le past = rw err past

pub kept_push : (i : ℕ) (d : Descriptor Ref MadeSymbol) (os qs : Places) (es : Entries) (r : Result (Unit {0}) OutOfMemory) → OnOk r (qs ≡ os ++ Some d ∷ []) → OnErr r (qs ≡ os) → i < 4294967296 → i ≡ length os → is_some (lookup (is_at (nat_cmp i)) es) ≡ false → Past (length os) es → (length qs ≤ 4294967296) × Past (length qs) es
kept_push i d os qs es (Ok u) ok err fits same none past = rw ok (let l = one_longer os d in grind (arith), past_next i os d es same none past)
kept_push i d os qs es (Err e) ok err fits same none past = rw err (grind (arith), past)

-- THE ORDER

all_above : (n : ℕ) (es : Entries) → Past (suc n) es → AllByRecursion (λ j. nat_cmp n j ≡ Less) (keys_of es)
all_above n [] past = record {}
all_above n (e ∷ es) past = (under n e.0 (grind (arith)), all_above n es past.1)

ascend_from : (n : ℕ) (os : Places) (rest : Entries) → Past (n + length os) rest → IsStrictlySortedBy nat_cmp (keys_of rest) → IsStrictlySortedBy nat_cmp (keys_of (present n os ++ rest))
unfolding IsStrictlySortedBy
ascend_from n [] rest past sorted = sorted
ascend_from n (None ∷ os) rest past sorted = ascend_from (suc n) os rest (fewer n None os rest past) sorted
ascend_from n (Some d ∷ os) rest past sorted = (all_above n (present (suc n) os ++ rest) (after_first n (Some d) os rest past), ascend_from (suc n) os rest (fewer n (Some d) os rest past) sorted)

pub all_ascend : (os : Places) (rest : Entries) → Past (length os) rest → IsStrictlySortedBy nat_cmp (keys_of rest) → IsStrictlySortedBy nat_cmp (keys_of (present 0 os ++ rest))
all_ascend os rest past sorted = ascend_from 0 os rest (from_start os rest past) sorted

-- what a refusal tells: the index is not there
pub absent_sparse : (i : ℕ) (os : Places) (rest : Entries) (r : Result (Unit {0}) OutOfMemory) → length os ≤ i → OnErr r (lookup (is_at (nat_cmp i)) rest ≡ None) → OnErr r (lookup (is_at (nat_cmp i)) (present 0 os ++ rest) ≡ None)
absent_sparse i os rest (Ok u) le h = h
absent_sparse i os rest (Err e) le h = found_sparse i os rest le ∙ h

pub absent_next : (i : ℕ) (os : Places) (rest : Entries) (r : Result (Unit {0}) OutOfMemory) → i ≡ length os → is_some (lookup (is_at (nat_cmp i)) rest) ≡ false → OnErr r (lookup (is_at (nat_cmp i)) (present 0 os ++ rest) ≡ None)
absent_next i os rest (Ok u) same none = tt
absent_next i os rest (Err e) same none = found_sparse i os rest (omega arith) ∙ nothing (lookup (is_at (nat_cmp i)) rest) none
  where
    nothing : (o : Option (Descriptor Ref MadeSymbol)) → is_some o ≡ false → o ≡ None
    nothing None h = refl
    nothing (Some d) h = absurd cc

-- WHAT IS WRITTEN AGAIN

absent_above : (i : ℕ) (es : Entries) → Past (suc i) es → lookup (is_at (nat_cmp i)) es ≡ None
absent_above i [] past = refl
absent_above i (e ∷ es) past = ap (λ b. cond b (Some e.1) (lookup (is_at (nat_cmp i)) es)) (apart i e.0 (grind (arith))) ∙ absent_above i es past.1

past_sorted : (i n : ℕ) (es : Entries) → i < n → AllByRecursion (λ j. nat_cmp n j ≡ Less) (keys_of es) → Past (suc i) es
past_sorted i n [] lt above' = record {}
past_sorted i n (e ∷ es) lt above' = (let h = above'.0 in grind (arith, nat_tests), past_sorted i n es lt above'.1)

-- an index that is there is written at its place
pub written_again : (i : ℕ) (d : Descriptor Ref MadeSymbol) (es : Entries) → IsStrictlySortedBy nat_cmp (keys_of es) → is_some (lookup (is_at (nat_cmp i)) es) ≡ true → insert_entry nat_cmp es i d ≡ set_value (is_at (nat_cmp i)) es d
unfolding IsStrictlySortedBy
written_again i d [] sorted there = absurd cc
written_again i d (e ∷ es) sorted there = by_order (nat_cmp i e.0) refl there (written_again i d es sorted.1)
  where
    by_order : (o : Ordering) → nat_cmp i e.0 ≡ o → is_some (cond (is_eq o) (Some e.1) (lookup (is_at (nat_cmp i)) es)) ≡ true
        → (is_some (lookup (is_at (nat_cmp i)) es) ≡ true → insert_entry nat_cmp es i d ≡ set_value (is_at (nat_cmp i)) es d)
        → match_ordering o ((i, d) ∷ e ∷ es) ((e.0, d) ∷ es) (e ∷ insert_entry nat_cmp es i d) ≡ cond (is_eq o) ((e.0, d) ∷ es) (e ∷ set_value (is_at (nat_cmp i)) es d)
    by_order Less same h rest = let none = absent_above i es (past_sorted i e.0 es (grind (arith, nat_tests)) sorted.0) in absurd cc
    by_order Equal same h rest = refl
    by_order Greater same h rest = ap (λ l. e ∷ l) (rest h)

-- THE LAST ONE

last_at : (es : Entries) (n : ℕ) (e : ℕ × Descriptor Ref MadeSymbol) → suc n ≡ length es → slice_get es n ≡ Some e → last_of es ≡ Some e.0
last_at [] n e same h = absurd (omega arith)
last_at (x ∷ []) zero e same h = let t : x ≡ e = some_same x e h in ap (λ y. Some y.0) t
  where
    some_same : (a b : ℕ × Descriptor Ref MadeSymbol) → Some a ≡ Some b → a ≡ b
    some_same a b h = cc
last_at (x ∷ []) (suc n) e same h = absurd (omega arith)
last_at (x ∷ y ∷ es) zero e same h = absurd (omega arith)
last_at (x ∷ y ∷ es) (suc n) e same h = ap (λ o. Some (unwrap_or o x.0)) (last_at (y ∷ es) n e (omega arith) h)

last_behind : (es fs : Entries) (k : ℕ) → last_of fs ≡ Some k → last_of (es ++ fs) ≡ Some k
last_behind [] fs k h = h
last_behind (e ∷ es) fs k h = ap (λ o. Some (unwrap_or o e.0)) (last_behind es fs k h)

pub last_sparse : (es fs : Entries) (k : ℕ) (d : Descriptor Ref MadeSymbol) → 0 < length fs → slice_get fs (length fs - 1) ≡ Some (k, d) → last_of (es ++ fs) ≡ Some k
last_sparse es fs k d some h = last_behind es fs k (last_at fs (length fs - 1) (k, d) (omega arith) h)

pub last_alone : (es fs : Entries) → (0 < length fs → ⊥) → last_of (es ++ fs) ≡ last_of es
last_alone es (f ∷ fs) none = absurd (none (omega arith))
last_alone es [] none = ap last_of (nothing_behind es)
  where
    nothing_behind : (l : Entries) → l ++ [] ≡ l
    nothing_behind [] = refl
    nothing_behind (y ∷ l) = ap (λ t. y ∷ t) (nothing_behind l)

last_end : (n : ℕ) (os : Places) (d : Descriptor Ref MadeSymbol) → last_of (present n (os ++ Some d ∷ [])) ≡ Some (n + length os)
last_end n [] d = ap (λ k. Some k) (grind (arith))
last_end n (None ∷ os) d = last_end (suc n) os d ∙ ap (λ k. Some k) (grind (arith))
last_end n (Some o ∷ os) d = ap (λ r. Some (unwrap_or r n)) (last_end (suc n) os d) ∙ ap (λ k. Some k) (grind (arith))

-- a place that is filled shows the last index
pub last_shown : (len : ℕ) (os : Places) (o : Option (Descriptor Ref MadeSymbol)) → 0 < len → len ≤ length os → o ≡ get_or os (len - 1) o → is_some o ≡ true → last_of (present 0 (take len os)) ≡ Some (len - 1)
last_shown len os None some le same h = absurd cc
last_shown len os (Some d) some le same h =
    ap (λ n. last_of (present 0 (take n os))) (one_back len some)
    ∙ (ap (λ l. last_of (present 0 l)) (take_more os (len - 1) (Some d) (grind (arith)) ∙ ap (λ o. take (len - 1) os ++ o ∷ []) (sym same))
    ∙ (last_end 0 (take (len - 1) os) d
    ∙ ap (λ k. Some k) (let t = length-take (len - 1) os in grind (arith))))
  where
    one_back : (n : ℕ) → 0 < n → n ≡ (n - 1) + 1
    one_back n h = grind (arith)
