-- Pieces that are written on a view, one after the other.
use Rattle.std.proofs.Common.{◌≡◌, ℕ, Bool, true, false, List, [], ◌∷◌, ◌++◌, refl, ap, sym, ◌∙◌}
use Rattle.std.proofs.lemmas.List.{append-nil, append_assoc}
use Rattle.lava_base.specs.declared.ids.MadeSymbol.{MadeSymbol}
use Rattle.lava_base.specs.declared.ids.Ref.{Ref}
use Rattle.js_text.specs.Identities.{Identity, Of_object, Of_symbol}
use Rattle.lava_journal.specs.Pages.{with_each}
use Rattle.lava_journal.specs.Sheets.{An_object, A_symbol, Piece, Plain}
use Rattle.lava_view.specs.Sides.{ViewSheet, with_marks_by, with_side, with_viewed}
use Rattle.lava_view.specs.Views.{Mine, Of_all, Side, Theirs, ViewNames, is_shown, marks_then, name_in, named_then, object_side, piece_names, piece_text, shown_then, symbol_side, viewed_names, viewed_text}

-- what is named changes nothing of what is shown
pub shown_stays : (names : ViewNames) (side : Side) (a : Identity Ref MadeSymbol) → (named_then names side a).shown ≡ names.shown
shown_stays names (Of_all c) a = refl
shown_stays names Mine a = refl
shown_stays names Theirs a = refl

abbrev pub sheet_of : ViewSheet → List ℕ → ViewNames → ViewSheet
sheet_of s text names = record { party = s.party; text = text; names = names; marks = s.marks }

marked : (b : Bool) (s : ViewSheet) (side : Side) (r : Ref)
    → with_marks_by b (with_side s side (Of_object r)) r ≡ sheet_of s (s.text ++ (name_in s.names side (Of_object r) ++ marks_then b s.marks r)) (shown_then b (named_then s.names side (Of_object r)) r)
marked true s side r = ap (λ l. sheet_of s (s.text ++ l) (named_then s.names side (Of_object r))) (sym (append-nil (name_in s.names side (Of_object r))))
marked false s side r =
    ap (λ l. sheet_of s l (shown_then false (named_then s.names side (Of_object r)) r)) (append_assoc s.text (name_in s.names side (Of_object r)) (marks_then false s.marks r))

one_piece : (s : ViewSheet) (x : Piece Ref MadeSymbol) → with_viewed s x ≡ sheet_of s (s.text ++ piece_text s.party s.names s.marks x) (piece_names s.party s.names x)
one_piece s (Plain bytes) = refl
one_piece s (An_object r) = marked (is_shown s.names r) s (object_side s.party r) r
one_piece s (A_symbol m) =
    ap (λ l. sheet_of s l (named_then s.names (symbol_side s.party m) (Of_symbol m))) (append_assoc s.text (64 ∷ []) (name_in s.names (symbol_side s.party m) (Of_symbol m)))

-- a view that is written is the text of its pieces
pub all_pieces : (ps : List (Piece Ref MadeSymbol)) (s : ViewSheet)
    → with_each with_viewed s ps ≡ sheet_of s (s.text ++ viewed_text s.party s.names s.marks ps) (viewed_names s.party s.names ps)
unfolding with_each
all_pieces [] s = ap (λ l. sheet_of s l s.names) (sym (append-nil s.text))
all_pieces (x ∷ ps) s =
    all_pieces ps (with_viewed s x)
    ∙ ap (λ t. sheet_of t (t.text ++ viewed_text t.party t.names t.marks ps) (viewed_names t.party t.names ps)) (one_piece s x)
    ∙ ap (λ l. sheet_of s l (viewed_names s.party s.names (x ∷ ps))) (append_assoc s.text (piece_text s.party s.names s.marks x) (viewed_text s.party (piece_names s.party s.names x) s.marks ps))
