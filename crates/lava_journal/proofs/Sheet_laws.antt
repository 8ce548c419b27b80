-- A line rests on the marks that are found for each reference alone.
use Rattle.std.proofs.Common.{◌≡◌, refl, Bool, true, false, List, [], ◌∷◌, ◌++◌, ap, subst, sym}
use Rattle.std.specs.Option.{option_map, unwrap_or}
use Rattle.lava_base.specs.declared.ids.MadeSymbol.{MadeSymbol}
use Rattle.lava_base.specs.declared.ids.Ref.{Ref}
use Rattle.lava_base.specs.declared.ids.Ref.TheVariants.{Common, Own}
use Rattle.lava_journal.specs.Alike.{AreAlike}
use Rattle.lava_journal.specs.Pages.{with_each}
use Rattle.lava_journal.specs.Quotes.{marks_text}
use Rattle.lava_journal.specs.Sheets.{An_object, A_symbol, Piece, Plain, Sheet, is_shown, with_marks_of, with_name, with_piece, with_pieces}

alike_name : (s t : Sheet) (r : Ref) → AreAlike s t → AreAlike (with_name s r) (with_name t r)
alike_name s t (Common c) a = record { text = λ k. (with_name (record { text = a.text k; names = a.names k; marks = s.marks }) (Common c)).text; names = a.names; marks = a.marks }
alike_name s t (Own p i) a = record {
  text = λ k. (with_name (record { text = a.text k; names = a.names k; marks = s.marks }) (Own p i)).text;
  names = λ k. (with_name (record { text = a.text k; names = a.names k; marks = s.marks }) (Own p i)).names;
  marks = a.marks;
}

alike_marks : (b : Bool) (s t : Sheet) (r : Ref) → AreAlike s t → AreAlike (with_marks_of b s r) (with_marks_of b t r)
alike_marks true s t r a = a
alike_marks false s t r a = record {
  text = λ k. a.text k ++ unwrap_or (option_map marks_text (a.marks r k)) [];
  names = λ k. (with_marks_of false (record { text = a.text k; names = a.names k; marks = s.marks }) r).names;
  marks = a.marks;
}

-- one piece
alike_piece : (s t : Sheet) (p : Piece Ref MadeSymbol) → AreAlike s t → AreAlike (with_piece s p) (with_piece t p)
alike_piece s t (Plain bytes) a = record { text = ap (λ x. x ++ bytes) a.text; names = a.names; marks = a.marks }
alike_piece s t (An_object r) a =
    subst (λ b. AreAlike (with_marks_of b (with_name s r) r) (with_piece t (An_object r))) (ap (λ n. is_shown n r) (sym a.names))
    (alike_marks (is_shown t.names r) (with_name s r) (with_name t r) r (alike_name s t r a))
alike_piece s t (A_symbol m) a = record {
  text = λ k. (with_piece (record { text = a.text k; names = a.names k; marks = s.marks }) (A_symbol m)).text;
  names = λ k. (with_piece (record { text = a.text k; names = a.names k; marks = s.marks }) (A_symbol m)).names;
  marks = a.marks;
}

pub alike_pieces : (ps : List (Piece Ref MadeSymbol)) (s t : Sheet) → AreAlike s t → AreAlike (with_pieces s ps) (with_pieces t ps)
unfolding with_pieces
alike_pieces [] s t a = a
alike_pieces (p ∷ ps) s t a = alike_pieces ps (with_piece s p) (with_piece t p) (alike_piece s t p a)

-- a sheet is a page
pub on_a_sheet : (ps : List (Piece Ref MadeSymbol)) (s : Sheet) → with_each with_piece s ps ≡ with_pieces s ps
unfolding with_each with_pieces
on_a_sheet [] s = refl
on_a_sheet (p ∷ ps) s = on_a_sheet ps (with_piece s p)
