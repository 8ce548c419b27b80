-- A map by strings is one by their bytes, in byte order.
use Rattle.std.proofs.Common.{◌≡◌, ℕ, List, [], ◌∷◌, ◌++◌, Bool, true, false, cond, Option, Some, None, String, Global, string_bytes, string_cmp, bytes_eq, length, drop, refl, sym, ap, ◌∙◌, append_assoc, append-nil, Bor, suc, ◌+◌, ◌<◌, get_or, add-one, drop-cons}
use Rattle.std.proofs.lemmas.Cmp.{nat_list_cmp_total}
use Rattle.std.proofs.lemmas.Map.Text.{is_eq-slice_cmp}
use Rattle.std.specs.BTreeMap.{insert_entry, is_at}
use Rattle.std.specs.Cmp.{first_so, second_so}
use Rattle.std.specs.Cmp.Lexicographic.{slice_cmp}
use Rattle.std.specs.List.{AllByRecursion, list_all}
use Rattle.std.specs.List.Sorted.{IsStrictlySortedBy}
use Rattle.std.specs.Map.{keys_of, lookup}
use Rattle.std.specs.Option.{IfSome, option_copied}
use Rattle.std.specs.Ordering.{match_ordering, nat_cmp, is_lt, ordering_reverse}
use Rattle.std.specs.declared.cmp.Ordering.{Ordering}
use Rattle.std.specs.declared.cmp.Ordering.TheVariants.{Less, Equal, Greater}
use Rattle.policy_row.specs.declared.grade.Grade.{Grade}
use Rattle.policy_row.specs.Merging.{merged_entries}
use Rattle.policy_row.specs.Rows.{Entries, order_of_names, at_name, with_entry, are_in_order, is_in_order}
use Rattle.policy_row.specs.Texts.{by_bytes}

by_bytes-match_ordering : {X : Type 0} (o : Ordering) (a b c : List (String Global × X)) → by_bytes (match_ordering o a b c) ≡ match_ordering o (by_bytes a) (by_bytes b) (by_bytes c)
by_bytes-match_ordering Less a b c = refl
by_bytes-match_ordering Equal a b c = refl
by_bytes-match_ordering Greater a b c = refl

-- an entry goes in at its bytes
pub bytes_inserted : {X : Type 0} (es : List (String Global × X)) (k : String Global) (x : X) → by_bytes (insert_entry string_cmp es k x) ≡ with_entry (by_bytes es) (string_bytes k) x
bytes_inserted [] k x = refl
bytes_inserted (e ∷ es) k x = by_bytes-match_ordering (string_cmp k e.0) _ _ _ ∙ rw (bytes_inserted es k x)

-- and is found by them
pub bytes_found : {X : Type 0} (name : List ℕ) (es : List (String Global × X)) → lookup (is_at (λ k. slice_cmp nat_cmp name (string_bytes k))) es ≡ at_name name (by_bytes es)
bytes_found name [] = refl
bytes_found name (e ∷ es) = rw (bytes_found name es)

-- what is below each key is below each name
below : {X : Type 0} (k : String Global) (es : List (String Global × X)) → AllByRecursion (λ y. string_cmp k y ≡ Less) (keys_of es) → list_all (λ name. is_lt (order_of_names (string_bytes k) name)) (keys_of (by_bytes es)) ≡ true
below k [] h = refl
below k (e ∷ es) h = rw (h.0) (below k es h.1)

-- keys in order have their bytes in order
pub bytes_in_order : {X : Type 0} (es : List (String Global × X)) → IsStrictlySortedBy string_cmp (keys_of es) → is_in_order (by_bytes es) ≡ true
unfolding IsStrictlySortedBy
bytes_in_order [] h = refl
bytes_in_order (e ∷ es) h = rw (below e.0 es h.0) (bytes_in_order es h.1)

all_by_order : {K X : Type 0} (p : X → Bool) (e : K × X) (es put : List (K × X)) (k : K) (x : X) (o : Ordering) → p e.1 ≡ true → list_all (λ e. p e.1) es ≡ true → p x ≡ true → list_all (λ e. p e.1) put ≡ true → list_all (λ e. p e.1) (match_ordering o ((k, x) ∷ e ∷ es) ((e.0, x) ∷ es) (e ∷ put)) ≡ true
all_by_order p e es put k x Less first rest here there = rw (here, first) rest
all_by_order p e es put k x Equal first rest here there = rw here rest
all_by_order p e es put k x Greater first rest here there = rw first there

-- what holds of each value holds when one more is put for which it holds
pub all_inserted : {K X : Type 0} (p : X → Bool) (cmp : K → K → Ordering) (es : List (K × X)) (k : K) (x : X) → list_all (λ e. p e.1) es ≡ true → p x ≡ true → list_all (λ e. p e.1) (insert_entry cmp es k x) ≡ true
all_inserted p cmp [] k x h here = rw here refl
all_inserted p cmp (e ∷ es) k x h here =
    let rest = second_so (p e.1) (list_all (λ e. p e.1) es) h in
    all_by_order p e es (insert_entry cmp es k x) k x (cmp k e.0) (first_so (p e.1) (list_all (λ e. p e.1) es) h) rest here (all_inserted p cmp es k x rest here)

is_less : (o : Ordering) → is_lt o ≡ true → o ≡ Less
is_less Less h = refl
is_less Equal h = cc
is_less Greater h = cc

-- the first is below one that stands behind it
below_later : (k : List ℕ) (done : List (List ℕ)) (name : List ℕ) (more : List (List ℕ)) → list_all (λ other. is_lt (order_of_names k other)) (done ++ name ∷ more) ≡ true → is_lt (order_of_names k name) ≡ true
below_later k [] name more h = first_so (is_lt (order_of_names k name)) _ h
below_later k (d ∷ done) name more h = below_later k done name more (second_so (is_lt (order_of_names k d)) _ h)

-- a name that is above those before it goes last
pub put_last : {X : Type 0} (done : List (List ℕ × X)) (name : List ℕ) (x : X) (more : List (List ℕ)) → are_in_order (keys_of done ++ name ∷ more) ≡ true → with_entry done name x ≡ done ++ (name, x) ∷ []
put_last [] name x more h = refl
put_last (d ∷ done) name x more h =
    let behind = keys_of done ++ name ∷ more in
    let under : order_of_names d.0 name ≡ Less = is_less (order_of_names d.0 name) (below_later d.0 (keys_of done) name more (first_so (list_all (λ other. is_lt (order_of_names d.0 other)) behind) (are_in_order behind) h)) in
    let above : order_of_names name d.0 ≡ Greater = nat_list_cmp_total.antisymm name d.0 ∙ ap ordering_reverse under in
    rw above (ap (λ es. d ∷ es) (put_last done name x more (second_so (list_all (λ other. is_lt (order_of_names d.0 other)) behind) (are_in_order behind) h)))

pub keys_of-append : {X : Type 0} (es fs : List (List ℕ × X)) → keys_of (es ++ fs) ≡ keys_of es ++ keys_of fs
keys_of-append [] fs = refl
keys_of-append (e ∷ es) fs = ap (λ names. e.0 ∷ names) (keys_of-append es fs)

-- entries in order that are put one after the other stay as they are
put_all : (done es : Entries) → is_in_order (done ++ es) ≡ true → merged_entries done es ≡ done ++ es
put_all done [] h = sym (append-nil done)
put_all done (e ∷ es) h =
    rw (put_last done e.0 e.1 (keys_of es) (sym (ap are_in_order (keys_of-append done (e ∷ es))) ∙ h)) (put_all (done ++ e ∷ []) es (ap is_in_order (append_assoc done (e ∷ []) es) ∙ h) ∙ append_assoc done (e ∷ []) es)

pub put_in_order : (es : Entries) → is_in_order es ≡ true → merged_entries [] es ≡ es
put_in_order es h = put_all [] es h

-- what holds of each grade on both sides holds of what is put together
pub all_merged : (p : Grade → Bool) (under over : Entries) → list_all (λ e. p e.1) under ≡ true → list_all (λ e. p e.1) over ≡ true → list_all (λ e. p e.1) (merged_entries under over) ≡ true
all_merged p under [] h more = h
all_merged p under (e ∷ es) h more =
    all_merged p (with_entry under e.0 e.1) es (all_inserted p order_of_names under e.0 e.1 h (first_so (p e.1) _ more)) (second_so (p e.1) _ more)

-- the first entry of a name is the one that is found
pub found_first : (name : List ℕ) (e : List ℕ × Grade) (es : Entries) → bytes_eq name e.0 ≡ true → at_name name (e ∷ es) ≡ Some e.1
found_first name e es h = rw (is_eq-slice_cmp name e.0, h) refl

pub passed_by : (name : List ℕ) (e : List ℕ × Grade) (es : Entries) → bytes_eq name e.0 ≡ false → at_name name (e ∷ es) ≡ at_name name es
passed_by name e es h = rw (is_eq-slice_cmp name e.0, h) refl

-- the entry at a place, and those behind it
from_place : (es : Entries) (i : ℕ) (e : List ℕ × Grade) → i < length es → e ≡ get_or es i e → drop i es ≡ e ∷ drop (i + 1) es
from_place es i e lt here = rw (add-one) (drop-cons es i e lt ∙ ap (λ x. x ∷ drop (suc i) es) (sym here))

pub found_at : (name : List ℕ) (es : Entries) (i : ℕ) (e : List ℕ × Grade) → i < length es → e ≡ get_or es i e → bytes_eq name e.0 ≡ true → at_name name (drop i es) ≡ Some e.1
found_at name es i e lt here h = ap (at_name name) (from_place es i e lt here) ∙ found_first name e (drop (i + 1) es) h

pub passed_at : (name : List ℕ) (es : Entries) (i : ℕ) (e : List ℕ × Grade) → i < length es → e ≡ get_or es i e → bytes_eq name e.0 ≡ false → at_name name (drop (i + 1) es) ≡ at_name name (drop i es)
passed_at name es i e lt here h = sym (ap (at_name name) (from_place es i e lt here) ∙ passed_by name e (drop (i + 1) es) h)

-- what holds of each value holds of the one that is found
pub all_found : {K X : Type 0} (p : X → Bool) (test : K → Bool) (es : List (K × X)) → list_all (λ e. p e.1) es ≡ true → IfSome (lookup test es) (λ x. p x ≡ true)
all_found p test [] h = record {}
all_found p test (e ∷ es) h = by_test (test e.0) (first_so (p e.1) _ h) (all_found p test es (second_so (p e.1) _ h))
  where
    by_test : (b : Bool) → p e.1 ≡ true → IfSome (lookup test es) (λ x. p x ≡ true) → IfSome (cond b (Some e.1) (lookup test es)) (λ x. p x ≡ true)
    by_test true here there = here
    by_test false here there = there

-- the same behind a reference
pub kept_found : {X : Type 0} (p : X → Bool) (o : Option (Bor X)) → IfSome (option_copied o) (λ x. p x ≡ true) → IfSome o (λ x. p x.now ≡ true)
kept_found p None h = record {}
kept_found p (Some x) h = h
