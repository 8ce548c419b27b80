-- What stands at a name of a merge.
use Rattle.std.proofs.Common.{◌≡◌, ◌⊎◌, inl, inr, ℕ, List, [], ◌∷◌, Bool, true, false, cond, Option, Some, None, fold, bytes_eq, refl, sym, ap, ◌∙◌}
use Rattle.std.proofs.lemmas.Map.Text.{is_eq-slice_cmp}
use Rattle.std.proofs.lemmas.Slice.Eq.{bytes_eq-Decides}
use Rattle.std.specs.BTreeMap.{is_at}
use Rattle.std.specs.Cmp.{first_so, second_so}
use Rattle.std.specs.List.{list_all}
use Rattle.std.specs.Map.{keys_of}
use Rattle.std.specs.Option.{IfSome}
use Rattle.std.specs.Ordering.{is_eq, is_lt, match_ordering}
use Rattle.std.specs.declared.cmp.Ordering.{Ordering}
use Rattle.std.specs.declared.cmp.Ordering.TheVariants.{Less, Equal, Greater}
use Rattle.policy_row.proofs.Entries_laws.{all_found}
use Rattle.policy_row.specs.Laws.{entries_of_kind, entry_of_row, entry_at, prevailing, The_override_prevails, A_false_denies, A_false_denies_an_import, Nothing_is_added}
use Rattle.policy_row.specs.Merging.{merged_entries, merged_row, over_row, rows_over, merged_rows}
use Rattle.policy_row.specs.Rows.{Entries, Rows, order_of_names, at_name, with_entry, is_in_order, is_granted, is_kept, are_kept, row_grants}
use Rattle.policy_row.specs.declared.grade.Grade.{Grade}
use Rattle.policy_row.specs.declared.grade.Grade.TheVariants.{No}
use Rattle.policy_row.specs.declared.grade.Kind.{Kind}
use Rattle.policy_row.specs.declared.grade.Kind.TheVariants.{Builtin, Globals, Packages}
use Rattle.policy_row.specs.declared.row.Row.{Row}

twice : {X : Type 0} (b c : Bool) (x y z : X) → b ≡ c → cond b x z ≡ cond c x (cond b y z)
twice true true x y z h = refl
twice true false x y z h = cc
twice false true x y z h = cc
twice false false x y z h = refl

passing : {X : Type 0} (b c : Bool) (x y z w : X) → (b ≡ true → c ≡ true → ⊥) → w ≡ cond b x z → cond c y w ≡ cond b x (cond c y z)
passing true true x y z w apart h = absurd (apart refl refl)
passing true false x y z w apart h = h
passing false true x y z w apart h = refl
passing false false x y z w apart h = h

same_name : (m n : List ℕ) → order_of_names m n ≡ Equal → m ≡ n
same_name m n h = (bytes_eq-Decides m n).0 (sym (is_eq-slice_cmp m n) ∙ ap is_eq h)

not_above : (n m k : List ℕ) → order_of_names m k ≡ Greater → bytes_eq n m ≡ true → is_eq (order_of_names n k) ≡ true → ⊥
not_above n m k h first second =
    let left : n ≡ m = (bytes_eq-Decides n m).0 first in
    let right : n ≡ k = (bytes_eq-Decides n k).0 (sym (is_eq-slice_cmp n k) ∙ second) in
    let test : is_eq (order_of_names m k) ≡ true = is_eq-slice_cmp m k ∙ (bytes_eq-Decides m k).1 (sym left ∙ right) in
    let no : true ≡ false = sym test ∙ ap is_eq h in
    cc

below_is_other : (o : Ordering) → is_lt o ≡ true → is_eq o ≡ false
below_is_other Less h = refl
below_is_other Equal h = cc
below_is_other Greater h = refl

module _ {X : Type 0} where
  put_by_order : (e : List ℕ × X) (es put : List (List ℕ × X)) (m : List ℕ) (x : X) (n : List ℕ) (o : Ordering) → order_of_names m e.0 ≡ o → at_name n put ≡ cond (bytes_eq n m) (Some x) (at_name n es) → at_name n (match_ordering o ((m, x) ∷ e ∷ es) ((e.0, x) ∷ es) (e ∷ put)) ≡ cond (bytes_eq n m) (Some x) (at_name n (e ∷ es))
  put_by_order e es put m x n Less h rest = ap (λ b. cond b (Some x) (at_name n (e ∷ es))) (is_eq-slice_cmp n m)
  put_by_order e es put m x n Equal h rest =
      twice (is_eq (order_of_names n e.0)) (bytes_eq n m) (Some x) (Some e.1) (at_name n es) (is_eq-slice_cmp n e.0 ∙ ap (bytes_eq n) (sym (same_name m e.0 h)))
  put_by_order e es put m x n Greater h rest =
      passing (bytes_eq n m) (is_eq (order_of_names n e.0)) (Some x) (Some e.1) (at_name n es) (at_name n put) (not_above n m e.0 h) rest

  -- what stands at a name when one more is put
  pub found_put : (es : List (List ℕ × X)) (m : List ℕ) (x : X) (n : List ℕ) → at_name n (with_entry es m x) ≡ cond (bytes_eq n m) (Some x) (at_name n es)
  found_put [] m x n = ap (λ b. cond b (Some x) None) (is_eq-slice_cmp n m)
  found_put (e ∷ es) m x n = put_by_order e es (with_entry es m x) m x n (order_of_names m e.0) refl (found_put es m x n)

  -- a name that is below all others is none of them
  absent : (k : List ℕ) (es : List (List ℕ × X)) → list_all (λ other. is_lt (order_of_names k other)) (keys_of es) ≡ true → at_name k es ≡ None
  absent k [] h = refl
  absent k (e ∷ es) h =
      ap (λ b. cond b (Some e.1) (at_name k es)) (below_is_other (order_of_names k e.0) (first_so (is_lt (order_of_names k e.0)) _ h)) ∙ absent k es (second_so (is_lt (order_of_names k e.0)) _ h)

  module _ (over_one : Option X → X → X) where
    abbrev pub put_one : List (List ℕ × X) → List ℕ × X → List (List ℕ × X)
    put_one es e = with_entry es e.0 (over_one (at_name e.0 es) e.1)

    abbrev pub over_entry : (under over : Option X) → Option X
    over_entry under None = under
    over_entry under (Some x) = Some (over_one under x)

    by_name : (under : List (List ℕ × X)) (e : List ℕ × X) (es : List (List ℕ × X)) (n : List ℕ) (b : Bool) → bytes_eq n e.0 ≡ b → at_name e.0 es ≡ None → over_entry (cond b (Some (over_one (at_name e.0 under) e.1)) (at_name n under)) (at_name n es) ≡ over_entry (at_name n under) (cond b (Some e.1) (at_name n es))
    by_name under e es n true h none =
        let same : n ≡ e.0 = (bytes_eq-Decides n e.0).0 h in
        ap (over_entry (Some (over_one (at_name e.0 under) e.1))) (ap (λ name. at_name name es) same ∙ none) ∙ ap (λ name. Some (over_one (at_name name under) e.1)) (sym same)
    by_name under e es n false h none = refl

    -- what stands at a name when all of these are put, one after the other
    pub found_folded : (under over : List (List ℕ × X)) (n : List ℕ) → is_in_order over ≡ true → at_name n (fold put_one under over) ≡ over_entry (at_name n under) (at_name n over)
    found_folded under [] n h = refl
    found_folded under (e ∷ es) n h =
        let first = list_all (λ other. is_lt (order_of_names e.0 other)) (keys_of es) in
        found_folded (put_one under e) es n (second_so first (is_in_order es) h)
        ∙ ap (λ o. over_entry o (at_name n es)) (found_put under e.0 (over_one (at_name e.0 under) e.1) n)
        ∙ by_name under e es n (bytes_eq n e.0) refl (absent e.0 es (first_so first (is_in_order es) h))
        ∙ ap (λ b. over_entry (at_name n under) (cond b (Some e.1) (at_name n es))) (sym (is_eq-slice_cmp n e.0))

prevails : (under over : Option Grade) → over_entry (λ _ x. x) under over ≡ prevailing under over
prevails under None = refl
prevails under (Some grade) = refl

found_merged : (under over : Entries) (key : List ℕ) → is_in_order over ≡ true → at_name key (merged_entries under over) ≡ prevailing (at_name key under) (at_name key over)
found_merged under over key h = found_folded (λ _ x. x) under over key h ∙ prevails (at_name key under) (at_name key over)

alone : (o : Option Row) → over_entry over_row None o ≡ o
alone None = refl
alone (Some row) = refl

found_row : (under over : Rows) (name : List ℕ) → is_in_order under ≡ true → is_in_order over ≡ true → at_name name (merged_rows under over) ≡ over_entry over_row (at_name name under) (at_name name over)
found_row under over name h more =
    found_folded over_row (rows_over [] under) over name more
    ∙ ap (λ o. over_entry over_row o (at_name name over)) (found_folded over_row [] under name h ∙ alone (at_name name under))

in_order : (kind : Kind) (row : Row) → is_kept row ≡ true → is_in_order (entries_of_kind kind row) ≡ true
in_order Builtin row h = first_so (is_in_order row.builtin) _ (first_so (are_kept Builtin row.builtin) _ h)
in_order Globals row h =
    first_so (is_in_order row.globals) _ (first_so (are_kept Globals row.globals) _ (second_so (are_kept Builtin row.builtin) _ h))
in_order Packages row h =
    first_so (is_in_order row.packages) _ (second_so (are_kept Globals row.globals) _ (second_so (are_kept Builtin row.builtin) _ h))

nothing_under : (o : Option Grade) → o ≡ prevailing None o
nothing_under None = refl
nothing_under (Some grade) = refl

kind_merged : (kind : Kind) (under over : Row) (key : List ℕ) → at_name key (entries_of_kind kind (merged_row under over)) ≡ at_name key (merged_entries (entries_of_kind kind under) (entries_of_kind kind over))
kind_merged Builtin under over key = refl
kind_merged Globals under over key = refl
kind_merged Packages under over key = refl

row_merged : (kind : Kind) (key : List ℕ) (under over : Option Row) → IfSome over (λ row. is_kept row ≡ true) → entry_of_row kind key (over_entry over_row under over) ≡ prevailing (entry_of_row kind key under) (entry_of_row kind key over)
row_merged kind key under None h = refl
row_merged kind key None (Some row) h = nothing_under (at_name key (entries_of_kind kind row))
row_merged kind key (Some under) (Some row) h =
    kind_merged kind under row key ∙ found_merged (entries_of_kind kind under) (entries_of_kind kind row) key (in_order kind row h)

pub the_override_prevails : The_override_prevails
the_override_prevails under over name kind key below above =
    let kept = second_so (is_in_order over) (list_all (λ r. is_kept r.1) over) above in
    ap (entry_of_row kind key) (found_row under over name (first_so (is_in_order under) _ below) (first_so (is_in_order over) _ above))
    ∙ row_merged kind key (at_name name under) (at_name name over) (all_found is_kept (is_at (order_of_names name)) over kept)

denied_by : (under over : Option Grade) → over ≡ Some No → is_granted (prevailing under over) ≡ false
denied_by under over h = ap (λ o. is_granted (prevailing under o)) h

pub a_false_denies : A_false_denies
a_false_denies under over name kind key below above h =
    ap is_granted (the_override_prevails under over name kind key below above) ∙ denied_by (entry_at under name kind key) (entry_at over name kind key) h

grants_by_entry : (linked : List ℕ) (row : Option Row) → row_grants linked row ≡ is_granted (entry_of_row Packages linked row)
grants_by_entry linked None = refl
grants_by_entry linked (Some row) = refl

pub a_false_denies_an_import : A_false_denies_an_import
a_false_denies_an_import under over name linked below above other h =
    rw other (grants_by_entry linked (at_name name (merged_rows under over)) ∙ a_false_denies under over name Packages linked below above h)

one_grants : (under over : Option Grade) → is_granted (prevailing under over) ≡ true → (is_granted over ≡ true) ⊎ (is_granted under ≡ true)
one_grants under None h = inr h
one_grants under (Some grade) h = inl h

pub nothing_is_added : Nothing_is_added
nothing_is_added under over name kind key below above h =
    one_grants (entry_at under name kind key) (entry_at over name kind key) (sym (ap is_granted (the_override_prevails under over name kind key below above)) ∙ h)
