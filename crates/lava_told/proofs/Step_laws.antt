-- The pieces of a told line, beside those of the run's own line: one text, the same marks, and names in step.
use Rattle.std.proofs.Common.{◌≡◌, ℕ, ◌+◌, ◌≤◌, Bool, true, false, ◌||◌, is_some, [], ◌∷◌, ◌++◌, map, Option, Some, None, refl, ap, ◌∙◌, sym, subst, arith}
use Rattle.std.proofs.lemmas.List.{map-append}
use Rattle.std.specs.List.{AllByRecursion}
use Rattle.std.specs.Map.{lookup}
use Rattle.lava_base.specs.Ids.{same_ref}
use Rattle.lava_base.specs.declared.ids.MadeSymbol.{MadeSymbol}
use Rattle.lava_base.specs.declared.ids.Ref.{Ref}
use Rattle.lava_base.specs.declared.ids.Ref.TheVariants.{Common, Own}
use Rattle.lava_base.specs.declared.marks.Marks.{Marks}
use Rattle.lava_journal.specs.Bodies.{Pieces}
use Rattle.lava_journal.specs.Sheets.{An_object, A_symbol, Piece, Plain, TraceNames, count_of, is_shown, known_symbol, number_of}
use Rattle.lava_trace.specs.declared.left.TheConstants.{MAX_ID}
use Rattle.lava_trace_laws.specs.Spelled.{HasMarks, HasName, HaveMarks, HaveNames, Listed, entry, mark_text, marks_shown, named_then, piece_names, piece_text, shown_then, spelled}
use Rattle.lava_trace_laws.proofs.Line_laws.{names_behind}
use Rattle.lava_view.proofs.Piece_laws.{renamed, renamed_pieces}
use Rattle.lava_told.specs.Told.{HasOwner, renumbered, renumbered_marks, renumbered_symbol}
use Rattle.lava_told.proofs.Counted_laws.{Counted, Grows, piece_counted, symbol_after}
use Rattle.lava_told.proofs.Mark_laws.{Finds, FindsPiece, marks_from, next_grows, piece_marks}
use Rattle.lava_told.proofs.Naming_laws.{IsTold, Tells, name_told, next_is_named, shown_alike, shown_in_step, symbol_told}
use Rattle.lava_told.proofs.Renaming_laws.{IsNamed}

entry_other : (named : TraceNames) (r : Ref) (o : Option Marks) → entry (renumbered named r) o ≡ map (renumbered_marks named) (entry r o)
entry_other named r None = refl
entry_other named r (Some m) = refl

marked_by : (b : Bool) (all listed : Listed) (r s : Ref) → marks_shown b all s ≡ marks_shown b listed r → (b || is_some (lookup (same_ref r) listed)) ≡ true → (b || is_some (lookup (same_ref s) all)) ≡ true
marked_by true all listed r s e h = h
marked_by false all listed r s e h = ap is_some e ∙ h

module _ (named : TraceNames) (c : Counted named) where
  abbrev pub other : Piece Ref MadeSymbol → Piece Ref MadeSymbol
  other x = renamed (renumbered named) (renumbered_symbol named) x

  abbrev pub others : Pieces Ref MadeSymbol → Pieces Ref MadeSymbol
  others ps = renamed_pieces (renumbered named) (renumbered_symbol named) ps

  -- an id holds the number of each name
  abbrev pub AreIds : Type 0
  AreIds = (p : ℕ) → count_of named p ≤ MAX_ID + 1

  -- ONE PIECE

  pub record PieceTold (names told : TraceNames) (listed all : Listed) (x : Piece Ref MadeSymbol) : Type 0 where
    pub step : Tells named (piece_names names x) (piece_names told (other x))
    pub text : piece_text told all (other x) ≡ piece_text names listed x
    pub marks : piece_marks told all (other x) ≡ map (renumbered_marks named) (piece_marks names listed x)
    pub number : AreIds → HasOwner x → HasName told (other x)
    pub marked : HasMarks names listed x → HasMarks told all (other x)

  object_id : (r : Ref) → IsNamed named r → (told : TraceNames) → IsTold told (renumbered named r) → AreIds → HasOwner (An_object r) → HasName told (An_object (renumbered named r))
  object_id (Common a) x told number ids owner = owner
  object_id (Own p i) x told number ids owner = (number, owner, omega (arith, c.below p i x.0 x.1, ids p.0, ap (number_of named p.0) x.1))

  symbol_id : (s : MadeSymbol) (k : ℕ) → known_symbol named s ≡ Some k → AreIds → number_of named s.party.0 (known_symbol named s) ≤ MAX_ID
  symbol_id s k h ids = omega (arith, c.below_symbol s k h, ids s.party.0, ap (number_of named s.party.0) h)

  piece_told : (x : Piece Ref MadeSymbol) (names told : TraceNames) (listed all : Listed) → Counted told → Tells named names told → Grows (piece_names names x) named
      → FindsPiece named c listed all names x → PieceTold names told listed all x
  piece_told (Plain bytes) names told listed all d t g f = record { step = t; text = refl; marks = refl; number = λ ids owner. tt; marked = λ h. tt }
  piece_told (A_symbol s) names told listed all d t g f =
      let u = symbol_told named names told c d t s g in
      let k = number_of names s.party.0 (known_symbol names s) in
      record {
        step = u.step;
        text = u.text;
        marks = refl;
        number = λ ids owner. (u.number, owner, symbol_id s k (g.symbol s k (symbol_after names s)) ids);
        marked = λ h. tt;
      }
  piece_told (An_object r) names told listed all d t g f =
      let u = name_told named names told c d t r g in
      let s = renumbered named r in
      let x = next_is_named named names r g in
      let alike : is_shown told s ≡ is_shown names r = shown_alike named names told c d t r x in
      let found : marks_shown (is_shown told s) all s ≡ marks_shown (is_shown names r) listed r = ap (λ b. marks_shown b all s) alike ∙ f in
      record {
        step = subst (λ b. Tells named (piece_names names (An_object r)) (shown_then b (named_then told s) s)) (sym alike)
            (shown_in_step named (named_then names r) (named_then told s) c u.step (is_shown names r) r x);
        text = λ k. u.text k ++ mark_text (found k);
        marks = ap (entry s) found ∙ entry_other named r (marks_shown (is_shown names r) listed r);
        number = λ ids owner. object_id r x told u.number ids owner;
        marked = λ h. ap (λ b. b || is_some (lookup (same_ref s) all)) alike ∙ marked_by (is_shown names r) all listed r s f h;
      }

  -- ALL PIECES

  pub record AllTold (names told : TraceNames) (listed all : Listed) (ps : Pieces Ref MadeSymbol) : Type 0 where
    pub step : Tells named (names_behind names ps) (names_behind told (others ps))
    pub text : spelled told all (others ps) ≡ spelled names listed ps
    pub marks : marks_from told all (others ps) ≡ map (renumbered_marks named) (marks_from names listed ps)
    pub number : AreIds → AllByRecursion HasOwner ps → HaveNames told (others ps)
    pub marked : HaveMarks names listed ps → HaveMarks told all (others ps)

  pub all_told : (ps : Pieces Ref MadeSymbol) (names told : TraceNames) (listed all : Listed) → Counted told → Tells named names told → Grows (names_behind names ps) named
      → Finds named c listed all names ps → AllTold names told listed all ps
  all_told [] names told listed all d t g f = record { step = t; text = refl; marks = refl; number = λ ids owner. tt; marked = λ h. tt }
  all_told (x ∷ ps) names told listed all d t g f =
      let one = piece_told x names told listed all d t (next_grows named c listed names x ps g) f.0 in
      let now = piece_names told (other x) in
      let rest = all_told ps (piece_names names x) now listed all (piece_counted told (other x) d) one.step g f.1 in
      record {
        step = rest.step;
        text = λ k. one.text k ++ rest.text k;
        marks = (λ k. one.marks k ++ rest.marks k) ∙ sym (map-append (renumbered_marks named) (piece_marks names listed x) (marks_from (piece_names names x) listed ps));
        number = λ ids owner. (one.number ids owner.0, rest.number ids owner.1);
        marked = λ h. (one.marked h.0, rest.marked h.1);
      }
