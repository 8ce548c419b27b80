-- The line of a crossing is its pieces, and the marks that are read of it do for those that were listed.
use Rattle.std.proofs.Common.{◌≡◌, ℕ, Bool, true, false, ◌||◌, cond, is_some, List, [], ◌∷◌, ◌++◌, nat_eq, Option, Some, None, refl, ap, ◌∙◌, sym, true≢false, eq-eqb, eqb-true}
use Rattle.std.proofs.lemmas.Bool.{and_from, and_parts, false_from_ne_true, or_from, or_parts}
use Rattle.std.proofs.lemmas.List.{append_assoc, append-nil}
use Rattle.std.specs.List.{list_any}
use Rattle.std.specs.Map.{lookup}
use Rattle.std.specs.Option.{unwrap_or}
use Rattle.lava_base.specs.Ids.{same_ref}
use Rattle.lava_base.specs.declared.ids.MadeSymbol.{MadeSymbol}
use Rattle.lava_base.specs.declared.ids.ObjId.{ObjId}
use Rattle.lava_base.specs.declared.ids.PartyId.{PartyId}
use Rattle.lava_base.specs.declared.ids.Ref.{Ref}
use Rattle.lava_base.specs.declared.ids.Ref.TheVariants.{Common, Own}
use Rattle.lava_base.specs.declared.marks.Marks.{Marks}
use Rattle.lava_journal.specs.Bodies.{Pieces}
use Rattle.lava_journal.specs.Sheets.{An_object, A_symbol, Piece, Plain, Sheet, TraceNames, is_fixed, is_shown, known_object, known_symbol, with_marks_of, with_name, with_piece, with_object, with_pieces, with_shown, with_symbol}
use Rattle.lava_trace.specs.Items.{ordinary}
use Rattle.lava_trace_laws.specs.Spelled.{HaveMarks, Listed, Place, mark_text, marks_shown, name_text, named_then, passed, piece_names, piece_text, shown_then, spelled, start_of}

-- A SHEET IS ITS PIECES

abbrev sheet : List ℕ → TraceNames → Listed → Sheet
sheet t n m = record { text = t; names = n; marks = m }

object_written : (b : Bool) (s : Sheet) (r : Ref) → with_marks_of b (with_name s r) r ≡ sheet (s.text ++ (name_text s.names r ++ mark_text (marks_shown b s.marks r))) (shown_then b (named_then s.names r) r) s.marks
object_written true s (Common c) = ap (λ t. sheet (s.text ++ t) s.names s.marks) (sym (append-nil (name_text s.names (Common c))))
object_written true s (Own p i) = ap (λ t. sheet (s.text ++ t) (named_then s.names (Own p i)) s.marks) (sym (append-nil (name_text s.names (Own p i))))
object_written false s (Common c) =
    ap (λ t. sheet t (with_shown s.names (Common c)) s.marks) (append_assoc s.text (name_text s.names (Common c)) (mark_text (lookup (same_ref (Common c)) s.marks)))
object_written false s (Own p i) =
    ap (λ t. sheet t (with_shown (named_then s.names (Own p i)) (Own p i)) s.marks) (append_assoc s.text (name_text s.names (Own p i)) (mark_text (lookup (same_ref (Own p i)) s.marks)))

piece_written : (s : Sheet) (p : Piece Ref MadeSymbol) → with_piece s p ≡ sheet (s.text ++ piece_text s.names s.marks p) (piece_names s.names p) s.marks
piece_written s (Plain bytes) = refl
piece_written s (An_object r) = object_written (is_shown s.names r) s r
piece_written s (A_symbol m) = refl

-- what is named behind some pieces
abbrev pub names_behind : TraceNames → Pieces Ref MadeSymbol → TraceNames
names_behind names [] = names
names_behind names (p ∷ ps) = names_behind (piece_names names p) ps

pub sheet_is : (s : Sheet) (ps : Pieces Ref MadeSymbol) → with_pieces s ps ≡ sheet (s.text ++ spelled s.names s.marks ps) (names_behind s.names ps) s.marks
unfolding with_pieces
sheet_is s [] = ap (λ t. sheet t s.names s.marks) (sym (append-nil s.text))
sheet_is s (p ∷ ps) =
    ap (λ t. with_pieces t ps) (piece_written s p)
    ∙ sheet_is (sheet (s.text ++ piece_text s.names s.marks p) (piece_names s.names p) s.marks) ps
    ∙ ap (λ t. sheet t (names_behind (piece_names s.names p) ps) s.marks) (append_assoc s.text (piece_text s.names s.marks p) (spelled (piece_names s.names p) s.marks ps))

-- THE MARKS THAT ARE READ

same_is : (r s : Ref) → same_ref r s ≡ true → r ≡ s
same_is (Common a) (Common b) h = ap (λ (n : ℕ). Common (record { 0 = n })) (eqb-true a.0 b.0 h)
same_is (Common a) (Own q j) h = absurd (true≢false (sym h))
same_is (Own p i) (Common b) h = absurd (true≢false (sym h))
same_is (Own p i) (Own q j) h =
    let parts = and_parts (nat_eq p.0 q.0) (nat_eq i.0 j.0) h in
    (λ k. Own (record { 0 = eqb-true p.0 q.0 parts.0 k }) (record { 0 = eqb-true i.0 j.0 parts.1 k }))

itself : (r : Ref) → same_ref r r ≡ true
itself (Common a) = eq-eqb a.0 a.0 refl
itself (Own p i) = and_from (nat_eq p.0 p.0) (nat_eq i.0 i.0) (eq-eqb p.0 p.0 refl) (eq-eqb i.0 i.0 refl)

any_left : (r : Ref) (a b : List Ref) → list_any (same_ref r) (a ++ b) ≡ false → (list_any (same_ref r) a ≡ false) × (list_any (same_ref r) b ≡ false)
any_left r [] b h = (refl, h)
any_left r (x ∷ a) b h =
    let parts = or_parts (same_ref r x) (list_any (same_ref r) (a ++ b)) h in
    let more = any_left r a b parts.1 in
    (ap (λ t. t || list_any (same_ref r) a) parts.0 ∙ more.0, more.1)

-- no marks are read yet of what has not been shown
abbrev NotRead : Place → Type 0
NotRead c = (r : Ref) → is_shown c.names r ≡ false → lookup (same_ref r) c.named ≡ None

not_found : {V : Type 0} (b : Bool) (v : V) (rest : Option V) → cond b (Some v) rest ≡ None → (b ≡ false) × (rest ≡ None)
not_found true v rest h = absurd cc
not_found false v rest h = (refl, h)

found_behind : (r : Ref) (a b : Listed) → lookup (same_ref r) a ≡ None → lookup (same_ref r) (a ++ b) ≡ lookup (same_ref r) b
found_behind r [] b h = refl
found_behind r (e ∷ a) b h =
    let n = not_found (same_ref r e.0) e.1 (lookup (same_ref r) a) h in
    ap (λ t. cond t (Some e.1) (lookup (same_ref r) (a ++ b))) n.0 ∙ found_behind r a b n.1

object_shows : (names : TraceNames) (p : PartyId) (i : ObjId) (o : Option ℕ) → (with_object names p i o).shown ≡ names.shown
object_shows names p i None = refl
object_shows names p i (Some k) = refl

named_shows : (names : TraceNames) (r : Ref) → (named_then names r).shown ≡ names.shown
named_shows names (Common c) = refl
named_shows names (Own p i) = object_shows names p i (known_object names p i)

symbol_shows : (names : TraceNames) (m : MadeSymbol) (o : Option ℕ) → (with_symbol names m o).shown ≡ names.shown
symbol_shows names m None = refl
symbol_shows names m (Some k) = refl

-- what has not been shown behind a reference had not been before, and is another one
unshown : (b : Bool) (names : TraceNames) (r s : Ref) → is_shown names r ≡ b → is_shown (shown_then b (named_then names r) r) s ≡ false → (is_shown names s ≡ false) × (same_ref s r ≡ false)
unshown true names r s e h =
    let before : is_shown names s ≡ false = ap (λ l. is_fixed s || list_any (same_ref s) l) (sym (named_shows names r)) ∙ h in
    (before, false_from_ne_true (same_ref s r) (λ same. true≢false (sym e ∙ ap (λ x. is_shown names x) (sym (same_is s r same)) ∙ before)))
unshown false names r s e h =
    let parts = or_parts (is_fixed s) (list_any (same_ref s) ((named_then names r).shown ++ r ∷ [])) h in
    let any = any_left s (named_then names r).shown (r ∷ []) parts.1 in
    (or_from (is_fixed s) (list_any (same_ref s) names.shown) parts.0 (ap (λ l. list_any (same_ref s) l) (sym (named_shows names r)) ∙ any.0), (or_parts (same_ref s r) false any.1).0)

-- what is read behind some pieces begins with what was read before
read_more : (listed : Listed) (c : Place) (ps : Pieces Ref MadeSymbol) → Listed
read_more listed c [] = []
read_more listed c (Plain bytes ∷ ps) = read_more listed c ps
read_more listed c (An_object r ∷ ps) = (r, unwrap_or (marks_shown (is_shown c.names r) listed r) ordinary) ∷ read_more listed (passed listed c (An_object r ∷ [])) ps
read_more listed c (A_symbol m ∷ ps) = read_more listed (passed listed c (A_symbol m ∷ [])) ps

read_grows : (listed : Listed) (c : Place) (ps : Pieces Ref MadeSymbol) → (passed listed c ps).named ≡ c.named ++ read_more listed c ps
unfolding read_more
read_grows listed c [] = sym (append-nil c.named)
read_grows listed c (Plain bytes ∷ ps) = read_grows listed c ps
read_grows listed c (An_object r ∷ ps) =
    let e : Ref × Marks = (r, unwrap_or (marks_shown (is_shown c.names r) listed r) ordinary) in
    let d = passed listed c (An_object r ∷ []) in
    read_grows listed d ps ∙ append_assoc c.named (e ∷ []) (read_more listed d ps)
read_grows listed c (A_symbol m ∷ ps) = read_grows listed (passed listed c (A_symbol m ∷ [])) ps

some_is : {X : Type 0} (o : Option X) (d : X) → is_some o ≡ true → Some (unwrap_or o d) ≡ o
some_is None d h = absurd (true≢false (sym h))
some_is (Some x) d h = refl

marks_kept : (b : Bool) (listed before behind all : Listed) (r : Ref) → (b || is_some (lookup (same_ref r) listed)) ≡ true → (b ≡ false → lookup (same_ref r) before ≡ None)
    → all ≡ before ++ (r, unwrap_or (marks_shown b listed r) ordinary) ∷ behind → marks_shown b all r ≡ marks_shown b listed r
marks_kept true listed before behind all r h none e = refl
marks_kept false listed before behind all r h none e =
    let u = unwrap_or (lookup (same_ref r) listed) ordinary in
    ap (λ l. lookup (same_ref r) l) e ∙ found_behind r before ((r, u) ∷ behind) (none refl)
    ∙ ap (λ t. cond t (Some u) (lookup (same_ref r) behind)) (itself r) ∙ some_is (lookup (same_ref r) listed) ordinary h

-- the marks that are read do as well as those that were listed
marks_same : (listed : Listed) (c : Place) (ps : Pieces Ref MadeSymbol) → NotRead c → HaveMarks c.names listed ps
    → (all : Listed) → all ≡ (passed listed c ps).named → spelled c.names all ps ≡ spelled c.names listed ps
marks_same listed c [] n h all e = refl
marks_same listed c (Plain bytes ∷ ps) n h all e = ap (λ l. bytes ++ l) (marks_same listed c ps n h.1 all e)
marks_same listed c (A_symbol m ∷ ps) n h all e =
    let d = passed listed c (A_symbol m ∷ []) in
    let still : NotRead d = λ r u. n r (ap (λ l. is_fixed r || list_any (same_ref r) l) (sym (symbol_shows c.names m (known_symbol c.names m))) ∙ u) in
    ap (λ l. piece_text c.names listed (A_symbol m) ++ l) (marks_same listed d ps still h.1 all e)
marks_same listed c (An_object r ∷ ps) n h all e =
    let b = is_shown c.names r in
    let d = passed listed c (An_object r ∷ []) in
    let u = unwrap_or (marks_shown b listed r) ordinary in
    let still : NotRead d = λ s v.
    let other = unshown b c.names r s refl v in
    found_behind s c.named ((r, u) ∷ []) (n s other.0) ∙ ap (λ t. cond t (Some u) None) other.1 in
    let grown : all ≡ c.named ++ (r, u) ∷ read_more listed d ps =
    e ∙ read_grows listed d ps ∙ append_assoc c.named ((r, u) ∷ []) (read_more listed d ps) in
    (λ k. (name_text c.names r ++ mark_text (marks_kept b listed c.named (read_more listed d ps) all r h.0 (n r) grown k)) ++ marks_same listed d ps still h.1 all e k)

pub read_marks_do : (names : TraceNames) (listed : Listed) (ps : Pieces Ref MadeSymbol) → HaveMarks names listed ps
    → spelled names (passed listed (start_of names) ps).named ps ≡ spelled names listed ps
read_marks_do names listed ps h = marks_same listed (start_of names) ps (λ r u. refl) h (passed listed (start_of names) ps).named refl
