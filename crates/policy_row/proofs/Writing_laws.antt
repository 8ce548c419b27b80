-- What is written of a policy is read as that policy.
use Rattle.std.proofs.Common.{◌≡◌, ◌≤◌, ◌∷◌, ◌++◌, ℕ, List, [], true, Option, Some, None, Ok, refl, sym, ap, ◌∙◌, append_assoc, append-nil, String, Global, BTreeMap, length, take, IsUtf8, subst, arith}
use Rattle.std.proofs.lemmas.Bool.{false≢true}
use Rattle.std.proofs.lemmas.List.{take_all}
use Rattle.std.specs.Cmp.{first_so, second_so}
use Rattle.std.specs.List.{list_all}
use Rattle.std.specs.Map.{keys_of}
use Rattle.std.specs.Ordering.{match_ordering}
use Rattle.std.specs.declared.cmp.Ordering.{Ordering}
use Rattle.std.specs.declared.cmp.Ordering.TheVariants.{Less, Equal, Greater}
use Rattle.serde_json.specs.Data.{Data, object, Members, no_members, member, put, depth, members_depth}
use Rattle.serde_json.specs.Find.{get_member}
use Rattle.serde_json.specs.Read.{read, max_depth}
use Rattle.serde_json.specs.View.{view, members_view}
use Rattle.serde_json.specs.declared.value.Value.{Value, Object}
use Rattle.serde_json.proofs.Views.{view-Object}
use Rattle.policy_row.specs.Names.{kind_name}
use Rattle.policy_row.specs.Reading.{IsJson, grade_of, entries_in, kind_in, row_from, first_row, row_of, rows_in, policy_of}
use Rattle.policy_row.specs.Rows.{Entries, Rows, order_of_names, with_entry, are_in_order, is_in_order, may_stand, are_kept, is_kept}
use Rattle.policy_row.specs.Texts.{by_bytes}
use Rattle.policy_row.specs.Writing.{grade_data, written, put_each, entries_data, with_kind, put_kind, row_data, policy_data, IsPolicy}
use Rattle.policy_row.specs.declared.fault.PolicyFile.{PolicyFile}
use Rattle.policy_row.specs.declared.grade.Grade.{Grade}
use Rattle.policy_row.specs.declared.grade.Grade.TheVariants.{No, Yes, Write}
use Rattle.policy_row.specs.declared.grade.Kind.{Kind}
use Rattle.policy_row.specs.declared.grade.Kind.TheVariants.{Builtin, Globals, Packages}
use Rattle.policy_row.specs.declared.row.Row.{Row}
use Rattle.policy_row.proofs.Entries_laws.{put_last, keys_of-append}

written-match : {X : Type 0} (f : X → Data) (o : Ordering) (a b c : List (List ℕ × X)) → written f (match_ordering o a b c) ≡ match_ordering o (written f a) (written f b) (written f c)
written-match f Less a b c = refl
written-match f Equal a b c = refl
written-match f Greater a b c = refl

put_written : {X : Type 0} (f : X → Data) (es : List (List ℕ × X)) (name : List ℕ) (x : X) → put name (f x) (written f es) ≡ written f (with_entry es name x)
put_written f [] name x = refl
put_written f (e ∷ es) name x =
    (λ i. match_ordering (order_of_names name e.0) (member name (f x) (member e.0 (f e.1) (written f es))) (member e.0 (f x) (written f es)) (member e.0 (f e.1) (put_written f es name x i)))
    ∙ sym (written-match f (order_of_names name e.0) ((name, x) ∷ e ∷ es) ((e.0, x) ∷ es) (e ∷ with_entry es name x))

each_last : {X : Type 0} (f : X → Data) (done es : List (List ℕ × X)) → is_in_order (done ++ es) ≡ true → put_each f (written f done) es ≡ written f (done ++ es)
each_last f done [] h = ap (written f) (sym (append-nil done))
each_last f done (e ∷ es) h =
    ap (λ (ms : Members). put_each f ms es) (put_written f done e.0 e.1 ∙ ap (written f) (put_last done e.0 e.1 (keys_of es) (sym (ap are_in_order (keys_of-append done (e ∷ es))) ∙ h)))
    ∙ each_last f (done ++ e ∷ []) es (ap is_in_order (append_assoc done (e ∷ []) es) ∙ h)
    ∙ ap (written f) (append_assoc done (e ∷ []) es)

-- what is put in order stands as it is written
pub each_in_order : {X : Type 0} (f : X → Data) (es : List (List ℕ × X)) → is_in_order es ≡ true → put_each f no_members es ≡ written f es
each_in_order f es h = each_last f [] es h

-- the kinds that are put from the last on stand in byte order
pub kinds_in_order : (b g p : Entries) → put_kind Builtin b (put_kind Globals g (put_kind Packages p no_members)) ≡ with_kind Builtin b (with_kind Globals g (with_kind Packages p no_members))
kinds_in_order [] [] [] = refl
kinds_in_order [] [] (p ∷ ps) = refl
kinds_in_order [] (g ∷ gs) [] = refl
kinds_in_order [] (g ∷ gs) (p ∷ ps) = refl
kinds_in_order (b ∷ bs) [] [] = refl
kinds_in_order (b ∷ bs) [] (p ∷ ps) = refl
kinds_in_order (b ∷ bs) (g ∷ gs) [] = refl
kinds_in_order (b ∷ bs) (g ∷ gs) (p ∷ ps) = refl

grade_back : (kind : Kind) (grade : Grade) → may_stand kind grade ≡ true → grade_of kind (grade_data grade) ≡ Some grade
grade_back Builtin No h = refl
grade_back Builtin Yes h = refl
grade_back Builtin Write h = absurd (false≢true h)
grade_back Globals No h = refl
grade_back Globals Yes h = refl
grade_back Globals Write h = refl
grade_back Packages No h = refl
grade_back Packages Yes h = refl
grade_back Packages Write h = absurd (false≢true h)

entries_back : (file : PolicyFile) (row : List ℕ) (kind : Kind) (es : Entries) → list_all (λ e. may_stand kind e.1) es ≡ true → entries_in file row kind (written grade_data es) ≡ Ok es
entries_back file row kind [] h = refl
entries_back file row kind (e ∷ es) h =
    rw (grade_back kind e.1 (first_so (may_stand kind e.1) _ h), entries_back file row kind es (second_so (may_stand kind e.1) _ h)) refl

-- a kind with these entries, as it stands in a row
abbrev shown : Entries → Option Data
shown [] = None
shown (e ∷ es) = Some (entries_data (e ∷ es))

shown_back : (file : PolicyFile) (row : List ℕ) (kind : Kind) (es : Entries) → are_kept kind es ≡ true → kind_in file row kind (shown es) ≡ Ok es
shown_back file row kind [] h = refl
shown_back file row kind (e ∷ es) h = entries_back file row kind (e ∷ es) (second_so (is_in_order (e ∷ es)) _ h)

found_packages : (p : Entries) → get_member (kind_name Packages) (with_kind Packages p no_members) ≡ shown p
found_packages [] = refl
found_packages (p ∷ ps) = refl

past_globals : (g : Entries) (ms : Members) → get_member (kind_name Packages) (with_kind Globals g ms) ≡ get_member (kind_name Packages) ms
past_globals [] ms = refl
past_globals (g ∷ gs) ms = refl

past_builtin : (b : Entries) (ms : Members) → get_member (kind_name Packages) (with_kind Builtin b ms) ≡ get_member (kind_name Packages) ms
past_builtin [] ms = refl
past_builtin (b ∷ bs) ms = refl

globals_past_builtin : (b : Entries) (ms : Members) → get_member (kind_name Globals) (with_kind Builtin b ms) ≡ get_member (kind_name Globals) ms
globals_past_builtin [] ms = refl
globals_past_builtin (b ∷ bs) ms = refl

no_globals : (p : Entries) → get_member (kind_name Globals) (with_kind Packages p no_members) ≡ None
no_globals [] = refl
no_globals (p ∷ ps) = refl

found_globals : (g p : Entries) → get_member (kind_name Globals) (with_kind Globals g (with_kind Packages p no_members)) ≡ shown g
found_globals [] p = no_globals p
found_globals (g ∷ gs) p = refl

no_builtin : (g p : Entries) → get_member (kind_name Builtin) (with_kind Globals g (with_kind Packages p no_members)) ≡ None
no_builtin [] [] = refl
no_builtin [] (p ∷ ps) = refl
no_builtin (g ∷ gs) [] = refl
no_builtin (g ∷ gs) (p ∷ ps) = refl

found_builtin : (b g p : Entries) → get_member (kind_name Builtin) (with_kind Builtin b (with_kind Globals g (with_kind Packages p no_members))) ≡ shown b
found_builtin [] g p = no_builtin g p
found_builtin (b ∷ bs) g p = refl

row_back : (file : PolicyFile) (name : List ℕ) (row : Row) → is_kept row ≡ true → row_of file name (row_data row) ≡ Ok row
row_back file name row h =
    let b = row.builtin in
    let g = row.globals in
    let p = row.packages in
    let more = second_so (are_kept Builtin b) _ h in
    let builtin = ap (kind_in file name Builtin) (found_builtin b g p) ∙ shown_back file name Builtin b (first_so (are_kept Builtin b) _ h) in
    let globals = ap (kind_in file name Globals) (globals_past_builtin b (with_kind Globals g (with_kind Packages p no_members)) ∙ found_globals g p) ∙ shown_back file name Globals g (first_so (are_kept Globals g) _ more) in
    let packages = ap (kind_in file name Packages) (past_builtin b (with_kind Globals g (with_kind Packages p no_members)) ∙ past_globals g (with_kind Packages p no_members) ∙ found_packages p) ∙ shown_back file name Packages p (second_so (are_kept Globals g) _ more) in
    (λ i. row_from (builtin i) (globals i) (packages i))

rows_back : (file : PolicyFile) (rows : Rows) → list_all (λ r. is_kept r.1) rows ≡ true → rows_in file (written row_data rows) ≡ Ok rows
rows_back file [] h = refl
rows_back file (r ∷ rows) h =
    let row = row_back file r.0 r.1 (first_so (is_kept r.1) _ h) in
    let others = rows_back file rows (second_so (is_kept r.1) _ h) in
    (λ i. first_row r.0 (row i) (others i))

-- What is written of a policy is read as that policy.
pub policy_back : (file : PolicyFile) (rows : Rows) → list_all (λ r. is_kept r.1) rows ≡ true → policy_of file (policy_data rows) ≡ Ok rows
policy_back file rows h = rows_back file rows h

grade_flat : (grade : Grade) → depth (grade_data grade) ≡ 0
grade_flat No = refl
grade_flat Yes = refl
grade_flat Write = refl

entries_flat : (es : Entries) → members_depth (written grade_data es) ≡ 0
entries_flat [] = refl
entries_flat (e ∷ es) = rw (grade_flat e.1, entries_flat es) refl

kind_deep : (kind : Kind) (es : Entries) (ms : Members) → members_depth ms ≤ 1 → members_depth (with_kind kind es ms) ≤ 1
kind_deep kind [] ms h = h
kind_deep kind (e ∷ es) ms h = let flat = entries_flat (e ∷ es) in omega (arith, flat, h)

row_deep : (row : Row) → depth (row_data row) ≤ 2
row_deep row =
    let some = kind_deep Builtin row.builtin _ (kind_deep Globals row.globals _ (kind_deep Packages row.packages no_members (omega arith))) in
    omega (arith, some)

rows_deep : (rows : Rows) → members_depth (written row_data rows) ≤ 2
rows_deep [] = omega arith
rows_deep (r ∷ rows) = let row = row_deep r.1 in let others = rows_deep rows in omega (arith, row, others)

-- a policy does not nest deep
pub policy_deep : (rows : Rows) → depth (policy_data rows) ≤ 4
policy_deep rows = let deep = rows_deep rows in omega (arith, deep)

-- all entries are put
pub entries_done : (m : BTreeMap (String Global) Value) (es items : Entries) (n : ℕ) → items ≡ es → length items ≤ n → is_in_order es ≡ true → members_view m.entries ≡ put_each grade_data no_members (take n es) → view (Object m) ≡ entries_data es
entries_done m es items n is past order all =
    let whole = take_all n es (subst (λ (l : Entries). length l ≤ n) is past) in
    view-Object m ∙ ap object (all ∙ ap (put_each grade_data no_members) whole ∙ each_in_order grade_data es order)

-- what is kept of rows is kept of them by their bytes
pub kept_by_bytes : (rows : List (String Global × Row)) → list_all (λ r. is_kept r.1) (by_bytes rows) ≡ list_all (λ r. is_kept r.1) rows
kept_by_bytes [] = refl
kept_by_bytes (r ∷ rows) = rw (kept_by_bytes rows) refl

-- a text that reads back as a policy's value is the JSON of it
pub is_json : (bytes items : List ℕ) (d : Data) (rows : List (String Global × Row)) (policy : Rows) → bytes ≡ items → by_bytes rows ≡ policy → d ≡ policy_data (by_bytes rows) → IsUtf8 items → (depth d ≤ max_depth → read items ≡ Some d) → IsJson bytes (policy_data policy)
is_json bytes items d rows policy is same value utf8 back =
    let deep = policy_deep (by_bytes rows) in
    let flat : depth d ≤ max_depth = subst (λ (x : Data). depth x ≤ max_depth) (sym value) (omega (arith, deep)) in
    let whole : d ≡ policy_data policy = value ∙ ap policy_data same in
    subst (λ (b : List ℕ). IsJson b (policy_data policy)) (sym is) (utf8, back flat ∙ ap Some whole)

-- a text that reads back as a policy's value is this policy
pub is_policy : (file : PolicyFile) (bytes items : List ℕ) (d : Data) (rows : List (String Global × Row)) (policy : Rows) → bytes ≡ items → by_bytes rows ≡ policy → list_all (λ r. is_kept r.1) rows ≡ true → d ≡ policy_data (by_bytes rows) → IsUtf8 items → (depth d ≤ max_depth → read items ≡ Some d) → IsPolicy file bytes policy
is_policy file bytes items d rows policy is same kept value utf8 back =
    let deep = policy_deep (by_bytes rows) in
    let flat : depth d ≤ max_depth = subst (λ (x : Data). depth x ≤ max_depth) (sym value) (omega (arith, deep)) in
    let reads : policy_of file d ≡ Ok policy = ap (policy_of file) value ∙ policy_back file (by_bytes rows) (kept_by_bytes rows ∙ kept) ∙ ap Ok same in
    subst (λ (b : List ℕ). IsPolicy file b policy) (sym is) (d, (utf8, back flat), reads)
