-- The marks that stand in a line do for those that were listed.
use Rattle.std.proofs.Common.{◌≡◌, ℕ, Bool, true, false, ◌||◌, cond, List, [], ◌∷◌, ◌++◌, map, Option, Some, None, refl, ap, ◌∙◌, sym, true≢false}
use Rattle.std.proofs.lemmas.Bool.{false_from_ne_true, or_left, or_parts, or_right}
use Rattle.std.proofs.lemmas.List.{append_assoc, append-nil, map-append}
use Rattle.std.proofs.lemmas.List.Folds.{list_any-append}
use Rattle.std.specs.List.{list_any}
use Rattle.std.specs.Map.{lookup}
use Rattle.std.specs.Option.{option_or}
use Rattle.std.specs.Prelude.{⊤}
use Rattle.lava_base.specs.Ids.{same_ref}
use Rattle.lava_base.specs.SameRefs.{same_ref_decides}
use Rattle.lava_base.specs.declared.ids.MadeSymbol.{MadeSymbol}
use Rattle.lava_base.specs.declared.ids.ObjId.{ObjId}
use Rattle.lava_base.specs.declared.ids.PartyId.{PartyId}
use Rattle.lava_base.specs.declared.ids.Ref.{Ref}
use Rattle.lava_base.specs.declared.ids.Ref.TheVariants.{Common, Own}
use Rattle.lava_base.specs.declared.marks.Marks.{Marks}
use Rattle.lava_journal.specs.Bodies.{Pieces}
use Rattle.lava_journal.specs.Sheets.{An_object, A_symbol, Piece, Plain, TraceNames, is_fixed, is_shown, known_object, known_symbol, with_object, with_symbol}
use Rattle.lava_trace_laws.specs.Spelled.{Listed, Place, entry, marks_in, marks_shown, named_then, passed, passed_piece, piece_names, shown_then, start_of}
use Rattle.lava_trace_laws.proofs.Line_laws.{names_behind}
use Rattle.lava_told.specs.Told.{renumbered, renumbered_marks}
use Rattle.lava_told.proofs.Counted_laws.{Counted, Grows, behind_grows, grows_on}
use Rattle.lava_told.proofs.Known_laws.{found_in, itself}
use Rattle.lava_told.proofs.Naming_laws.{next_is_named}
use Rattle.lava_told.proofs.Renaming_laws.{IsNamed, alike}

-- THE MARKS OF SOME PIECES

-- those of one piece: of a reference that stands there for the first time
abbrev pub piece_marks : TraceNames → Listed → Piece Ref MadeSymbol → Listed
piece_marks names listed (Plain bytes) = []
piece_marks names listed (An_object r) = entry r (marks_shown (is_shown names r) listed r)
piece_marks names listed (A_symbol s) = []

abbrev pub marks_from : TraceNames → Listed → Pieces Ref MadeSymbol → Listed
marks_from names listed [] = []
marks_from names listed (x ∷ ps) = piece_marks names listed x ++ marks_from (piece_names names x) listed ps

piece_passed : (listed : Listed) (c : Place) (x : Piece Ref MadeSymbol) → (passed_piece listed c x).marks ≡ c.marks ++ piece_marks c.names listed x
piece_passed listed c (Plain bytes) = sym (append-nil c.marks)
piece_passed listed c (An_object r) = refl
piece_passed listed c (A_symbol s) = sym (append-nil c.marks)

names_passed : (listed : Listed) (c : Place) (x : Piece Ref MadeSymbol) → (passed_piece listed c x).names ≡ piece_names c.names x
names_passed listed c (Plain bytes) = refl
names_passed listed c (An_object r) = refl
names_passed listed c (A_symbol s) = refl

all_passed : (listed : Listed) (c : Place) (ps : Pieces Ref MadeSymbol) → (passed listed c ps).marks ≡ c.marks ++ marks_from c.names listed ps
all_passed listed c [] = sym (append-nil c.marks)
all_passed listed c (x ∷ ps) =
    all_passed listed (passed_piece listed c x) ps
    ∙ (λ k. piece_passed listed c x k ++ marks_from (names_passed listed c x k) listed ps)
    ∙ append_assoc c.marks (piece_marks c.names listed x) (marks_from (piece_names c.names x) listed ps)

pub marks_are : (names : TraceNames) (listed : Listed) (ps : Pieces Ref MadeSymbol) → marks_in names listed ps ≡ marks_from names listed ps
marks_are names listed ps = all_passed listed (start_of names) ps

-- WHAT HAS BEEN SHOWN

object_shows : (names : TraceNames) (p : PartyId) (i : ObjId) (o : Option ℕ) → (with_object names p i o).shown ≡ names.shown
object_shows names p i None = refl
object_shows names p i (Some k) = refl

named_shows : (names : TraceNames) (r : Ref) → (named_then names r).shown ≡ names.shown
named_shows names (Common c) = refl
named_shows names (Own p i) = object_shows names p i (known_object names p i)

symbol_shows : (names : TraceNames) (s : MadeSymbol) (o : Option ℕ) → (with_symbol names s o).shown ≡ names.shown
symbol_shows names s None = refl
symbol_shows names s (Some k) = refl

abbrev shown_with : List Ref → Ref → Bool
shown_with shown s = is_fixed s || list_any (same_ref s) shown

or_assoc : (a b c : Bool) → (a || (b || c)) ≡ ((a || b) || c)
or_assoc true b c = refl
or_assoc false b c = refl

or-false : (a : Bool) → (a || false) ≡ a
or-false true = refl
or-false false = refl

-- what is shown behind a reference had been before, or is this one
shows_by : (b : Bool) (names : TraceNames) (r s : Ref) → is_shown names r ≡ b → is_shown (shown_then b (named_then names r) r) s ≡ (is_shown names s || same_ref s r)
shows_by true names r s e =
    ap (λ l. shown_with l s) (named_shows names r) ∙ there (same_ref s r) refl
  where
    there : (t : Bool) → same_ref s r ≡ t → is_shown names s ≡ (is_shown names s || t)
    there true same =
        let known : is_shown names s ≡ true = ap (is_shown names) ((same_ref_decides s r).0 same) ∙ e in
        known ∙ sym (or_right (is_shown names s) true refl)
    there false same = sym (or-false (is_shown names s))
shows_by false names r s e =
    ap (λ b. is_fixed s || b) (list_any-append (same_ref s) (named_then names r).shown (r ∷ []))
    ∙ ap (λ l. is_fixed s || (list_any (same_ref s) l || (same_ref s r || false))) (named_shows names r)
    ∙ ap (λ b. is_fixed s || (list_any (same_ref s) names.shown || b)) (or-false (same_ref s r))
    ∙ or_assoc (is_fixed s) (list_any (same_ref s) names.shown) (same_ref s r)

shows : (names : TraceNames) (r s : Ref) → is_shown (piece_names names (An_object r)) s ≡ (is_shown names s || same_ref s r)
shows names r s = shows_by (is_shown names r) names r s refl

symbol_shows_none : (names : TraceNames) (m : MadeSymbol) (s : Ref) → is_shown (piece_names names (A_symbol m)) s ≡ is_shown names s
symbol_shows_none names m s = ap (λ l. shown_with l s) (symbol_shows names m (known_symbol names m))

-- another one than what has been shown
another : (names : TraceNames) (r s : Ref) → is_shown names r ≡ true → is_shown names s ≡ false → same_ref r s ≡ false
another names r s e f = false_from_ne_true (same_ref r s) (λ same. true≢false (sym e ∙ ap (is_shown names) ((same_ref_decides r s).0 same) ∙ f))

-- WHAT IS FOUND

module _ (named : TraceNames) (c : Counted named) (listed : Listed) where
  abbrev told_marks : Listed → Listed
  told_marks l = map (renumbered_marks named) l

  -- the marks of a piece are found under its number
  abbrev pub FindsPiece : Listed → TraceNames → Piece Ref MadeSymbol → Type 0
  FindsPiece all names (Plain bytes) = ⊤
  FindsPiece all names (An_object r) = marks_shown (is_shown names r) all (renumbered named r) ≡ marks_shown (is_shown names r) listed r
  FindsPiece all names (A_symbol s) = ⊤

  abbrev pub Finds : Listed → TraceNames → Pieces Ref MadeSymbol → Type 0
  Finds all names [] = ⊤
  Finds all names (x ∷ ps) = FindsPiece all names x × Finds all (piece_names names x) ps

  -- a reference is not found among marks, under its number
  abbrev Misses : Listed → Ref → Type 0
  Misses l r = lookup (same_ref (renumbered named r)) l ≡ None

  misses_both : (a b : Listed) (r : Ref) → Misses a r → Misses b r → Misses (a ++ b) r
  misses_both a b r h k = found_in (same_ref (renumbered named r)) a b ∙ ap (λ o. option_or o (lookup (same_ref (renumbered named r)) b)) h ∙ k

  misses_entry : (r s : Ref) (o : Option Marks) → IsNamed named r → IsNamed named s → same_ref r s ≡ false → Misses (told_marks (entry s o)) r
  misses_entry r s None x y h = refl
  misses_entry r s (Some m) x y h = ap (λ b. cond b (Some m) None) (alike named c r s x y ∙ h)

  finds_entry : (r : Ref) (o : Option Marks) → lookup (same_ref (renumbered named r)) (told_marks (entry r o)) ≡ o
  finds_entry r None = refl
  finds_entry r (Some m) = ap (λ b. cond b (Some m) None) (itself (renumbered named r))

  none_behind : (o : Option Marks) → option_or o None ≡ o
  none_behind None = refl
  none_behind (Some m) = refl

  abbrev rest : TraceNames → Piece Ref MadeSymbol → Pieces Ref MadeSymbol → Listed
  rest names x ps = told_marks (marks_from (piece_names names x) listed ps)

  -- the names behind a piece grow to the last ones where those behind all do
  pub next_grows : (names : TraceNames) (x : Piece Ref MadeSymbol) (ps : Pieces Ref MadeSymbol) → Grows (names_behind names (x ∷ ps)) named → Grows (piece_names names x) named
  next_grows names x ps g = grows_on (piece_names names x) (names_behind (piece_names names x) ps) named (behind_grows (piece_names names x) ps) g

  -- what has been shown has no marks any more
  misses_marks : (b : Bool) (names : TraceNames) (r s : Ref) → is_shown names s ≡ b → is_shown names r ≡ true → IsNamed named r → IsNamed named s → Misses (told_marks (entry s (marks_shown b listed s))) r
  misses_marks true names r s e h x y = refl
  misses_marks false names r s e h x y = misses_entry r s (lookup (same_ref s) listed) x y (another names r s h e)

  pub shown_misses : (names : TraceNames) (ps : Pieces Ref MadeSymbol) (r : Ref) → Grows (names_behind names ps) named → is_shown names r ≡ true → IsNamed named r
      → Misses (told_marks (marks_from names listed ps)) r
  shown_misses names [] r g h x = refl
  shown_misses names (Plain bytes ∷ ps) r g h x = shown_misses names ps r g h x
  shown_misses names (A_symbol s ∷ ps) r g h x = shown_misses (piece_names names (A_symbol s)) ps r g (symbol_shows_none names s r ∙ h) x
  shown_misses names (An_object s ∷ ps) r g h x =
      let y = next_is_named named names s (next_grows names (An_object s) ps g) in
      let marks = entry s (marks_shown (is_shown names s) listed s) in
      ap (lookup (same_ref (renumbered named r))) (map-append (renumbered_marks named) marks (marks_from (piece_names names (An_object s)) listed ps))
      ∙ misses_both (told_marks marks) (rest names (An_object s) ps) r
      (misses_marks (is_shown names s) names r s refl h x y)
      (shown_misses (piece_names names (An_object s)) ps r g (shows names s r ∙ or_left (is_shown names r) (same_ref r s) h) x)

  -- those before miss what has not been shown
  abbrev pub MissesUnshown : Listed → TraceNames → Type 0
  MissesUnshown before names = (r : Ref) → IsNamed named r → is_shown names r ≡ false → Misses before r

  found_by : (b : Bool) (names : TraceNames) (r : Ref) (before behind : Listed) → is_shown names r ≡ b → IsNamed named r → MissesUnshown before names → Misses behind r
      → marks_shown b (before ++ (told_marks (entry r (marks_shown b listed r)) ++ behind)) (renumbered named r) ≡ marks_shown b listed r
  found_by true names r before behind e x n m = refl
  found_by false names r before behind e x n m =
      let same = same_ref (renumbered named r) in
      let o = lookup (same_ref r) listed in
      let marks = told_marks (entry r o) in
      found_in same before (marks ++ behind)
      ∙ ap (λ a. option_or a (lookup same (marks ++ behind))) (n r x e)
      ∙ found_in same marks behind
      ∙ (λ k. option_or (finds_entry r o k) (m k))
      ∙ none_behind o

  unshown_by : (b : Bool) (names : TraceNames) (r : Ref) (before : Listed) → is_shown names r ≡ b → IsNamed named r → MissesUnshown before names
      → MissesUnshown (before ++ told_marks (entry r (marks_shown b listed r))) (piece_names names (An_object r))
  unshown_by b names r before e x n s y h =
      let parts = or_parts (is_shown names s) (same_ref s r) (sym (shows names r s) ∙ h) in
      misses_both before (told_marks (entry r (marks_shown b listed r))) s (n s y parts.0) (misses_entry s r (marks_shown b listed r) y x parts.1)

  pub finds : (before : Listed) (names : TraceNames) (ps : Pieces Ref MadeSymbol) → MissesUnshown before names → Grows (names_behind names ps) named
      → (all : Listed) → all ≡ before ++ told_marks (marks_from names listed ps) → Finds all names ps
  finds before names [] n g all e = tt
  finds before names (Plain bytes ∷ ps) n g all e = (tt, finds before names ps n g all e)
  finds before names (A_symbol s ∷ ps) n g all e =
      (tt, finds before (piece_names names (A_symbol s)) ps (λ r x h. n r x (sym (symbol_shows_none names s r) ∙ h)) g all e)
  finds before names (An_object r ∷ ps) n g all e =
      let b = is_shown names r in
      let x = next_is_named named names r (next_grows names (An_object r) ps g) in
      let marks = entry r (marks_shown b listed r) in
      let behind = rest names (An_object r) ps in
      let now = piece_names names (An_object r) in
      let parted : all ≡ before ++ (told_marks marks ++ behind) = e ∙ ap (λ l. before ++ l) (map-append (renumbered_marks named) marks (marks_from now listed ps)) in
      let later = shown_misses now ps r g (shows names r r ∙ or_right (is_shown names r) (same_ref r r) (itself r)) x in (
        ap (λ l. marks_shown b l (renumbered named r)) parted ∙ found_by b names r before behind refl x n later,
        finds (before ++ told_marks marks) now ps (unshown_by b names r before refl x n) g all (parted ∙ sym (append_assoc before (told_marks marks) behind)),
      )

  -- nothing stands before the marks of a line
  pub finds_in_line : (names : TraceNames) (ps : Pieces Ref MadeSymbol) → Grows (names_behind names ps) named → Finds (told_marks (marks_from names listed ps)) names ps
  finds_in_line names ps g = finds [] names ps (λ r x h. refl) g (told_marks (marks_from names listed ps)) refl
