-- A body of a view that is being written, piece by piece.
use Rattle.std.specs.Prelude.{ℕ, Bool, true, false, List, [], ◌∷◌, ◌++◌}
use Rattle.lava_base.specs.declared.ids.MadeSymbol.{MadeSymbol}
use Rattle.lava_base.specs.declared.ids.Ref.{Ref}
use Rattle.lava_base.specs.declared.marks.Marks.{Marks}
use Rattle.js_text.specs.Identities.{Identity, Of_object, Of_symbol}
use Rattle.lava_journal.specs.Sheets.{An_object, A_symbol, Piece, Plain}
use Rattle.lava_view.specs.Views.{Side, ViewNames, is_shown, marks_then, name_in, named_then, object_side, shown_then, symbol_side}

-- whose view it is, what is written, what the view has named, and the marks that the trace has given
pub record ViewSheet : Type 0 where
  pub party : ℕ
  pub text : List ℕ
  pub names : ViewNames
  pub marks : List (Ref × Marks)

-- nothing is written
abbrev pub blank_view : ℕ → ViewNames → ViewSheet
blank_view p names = record { party = p; text = []; names = names; marks = [] }

-- with the name of an object or of a made symbol of a side
abbrev pub with_side : ViewSheet → Side → Identity Ref MadeSymbol → ViewSheet
with_side s side a = record { party = s.party; text = s.text ++ name_in s.names side a; names = named_then s.names side a; marks = s.marks }

-- with the marks of a reference, unless it has stood in the view
abbrev pub with_marks_by : Bool → ViewSheet → Ref → ViewSheet
with_marks_by true s r = s
with_marks_by false s r = record { party = s.party; text = s.text ++ marks_then false s.marks r; names = shown_then false s.names r; marks = s.marks }

-- with one piece more
abbrev pub with_viewed : ViewSheet → Piece Ref MadeSymbol → ViewSheet
with_viewed s (Plain bytes) = record { party = s.party; text = s.text ++ bytes; names = s.names; marks = s.marks }
with_viewed s (An_object r) = with_marks_by (is_shown s.names r) (with_side s (object_side s.party r) (Of_object r)) r
with_viewed s (A_symbol m) =
    with_side (record { party = s.party; text = s.text ++ 64 ∷ []; names = s.names; marks = s.marks }) (symbol_side s.party m) (Of_symbol m)
