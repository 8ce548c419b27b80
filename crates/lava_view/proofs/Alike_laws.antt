-- A view rests on the marks that are found for each reference alone.
use Rattle.std.proofs.Common.{◌≡◌, ℕ, ◌==◌, Bool, true, false, cond, if◌then◌else◌, List, [], ◌∷◌, ◌++◌, Option, Some, None, refl, ap, sym, ◌∙◌}
use Rattle.std.specs.Map.{lookup}
use Rattle.std.specs.Option.{option_map, option_or, unwrap_or}
use Rattle.lava_base.specs.Ids.{same_ref}
use Rattle.lava_base.specs.SameRefs.{same_ref_decides}
use Rattle.lava_base.specs.declared.ids.MadeSymbol.{MadeSymbol}
use Rattle.lava_base.specs.declared.ids.Ref.{Ref}
use Rattle.lava_base.specs.declared.marks.Marks.{Marks}
use Rattle.js_text.specs.Identities.{Of_object}
use Rattle.indexmap.specs.IndexMap.{insert_entry}
use Rattle.lava_journal.specs.Alike.{FindsAlike}
use Rattle.lava_journal.specs.Bodies.{Pieces, body_pieces}
use Rattle.lava_journal.specs.Quotes.{marks_text}
use Rattle.lava_journal.specs.Sheets.{An_object, A_symbol, Piece, Plain}
use Rattle.lava_trace.specs.declared.line.TraceLine.{TraceLine}
use Rattle.lava_view.specs.Views.{Seen, ViewNames, is_shown, marks_then, name_in, object_side, piece_names, piece_text, seen_by, takes_part, view_lines, viewed_names, viewed_text}
use Rattle.lava_view.specs.declared.view_line.ViewLine.{ViewLine}

-- FINDING

in_turn : {X : Type 0} (b : Bool) (x : X) (o p : Option X) → cond b (Some x) (option_or o p) ≡ option_or (cond b (Some x) o) p
in_turn true x o p = refl
in_turn false x o p = refl

found_in : {K X : Type 0} (test : K → Bool) (a c : List (K × X)) → lookup test (a ++ c) ≡ option_or (lookup test a) (lookup test c)
found_in test [] c = refl
found_in test (e ∷ a) c = ap (cond (test e.0) (Some e.1)) (found_in test a c) ∙ in_turn (test e.0) e.1 (lookup test a) (lookup test c)

pub with_more : (a b c : List (Ref × Marks)) → FindsAlike a b → FindsAlike (a ++ c) (b ++ c)
with_more a b c h r = found_in (same_ref r) a c ∙ ap (λ o. option_or o (lookup (same_ref r) c)) (h r) ∙ sym (found_in (same_ref r) b c)

pub one_then_others : (a b c d : List (Ref × Marks)) (x : Ref × Marks) → FindsAlike a (b ++ x ∷ []) → FindsAlike (b ++ x ∷ c) d → FindsAlike (a ++ c) d
one_then_others a b c d x h k r =
    with_more a (b ++ x ∷ []) c h r
    ∙ found_in (same_ref r) (b ++ x ∷ []) c
    ∙ ap (λ o. option_or o (lookup (same_ref r) c)) (found_in (same_ref r) b (x ∷ []))
    ∙ regrouped (lookup (same_ref r) b) (same_ref r x.0) x.1 (lookup (same_ref r) c)
    ∙ sym (found_in (same_ref r) b (x ∷ c)) ∙ k r
  where
    regrouped : (o : Option Marks) (t : Bool) (m : Marks) (p : Option Marks) → option_or (option_or o (cond t (Some m) None)) p ≡ option_or o (cond t (Some m) p)
    regrouped (Some v) t m p = refl
    regrouped None true m p = refl
    regrouped None false m p = refl

nothing_more : (o : Option Marks) → o ≡ option_or o None
nothing_more None = refl
nothing_more (Some m) = refl

-- a reference that has marks gets no others
pub stays_marked : (a : List (Ref × Marks)) (r : Ref) (m n : Marks) → lookup (same_ref r) a ≡ Some n → FindsAlike a (a ++ (r, m) ∷ [])
stays_marked a r m n h q = whether (same_ref q r) refl ∙ sym (found_in (same_ref q) a ((r, m) ∷ []))
  where
    whether : (b : Bool) → same_ref q r ≡ b → lookup (same_ref q) a ≡ option_or (lookup (same_ref q) a) (cond (same_ref q r) (Some m) None)
    whether true e =
        let found : lookup (same_ref q) a ≡ Some n = ap (λ x. lookup (same_ref x) a) ((same_ref_decides q r).0 e) ∙ h in
        found ∙ sym (ap (λ o. option_or o (cond (same_ref q r) (Some m) None)) found)
    whether false e = nothing_more (lookup (same_ref q) a) ∙ ap (λ b. option_or (lookup (same_ref q) a) (cond b (Some m) None)) (sym e)

not_found : {V : Type 0} (b : Bool) (v : V) (rest : Option V) → cond b (Some v) rest ≡ None → (b ≡ false) × (rest ≡ None)
not_found true v rest h = absurd cc
not_found false v rest h = (refl, h)

-- one that has none goes last
pub goes_last : (a : List (Ref × Marks)) (r : Ref) (m : Marks) → lookup (same_ref r) a ≡ None → insert_entry same_ref a r m ≡ a ++ (r, m) ∷ []
goes_last [] r m h = refl
goes_last (e ∷ a) r m h =
    let none = not_found (same_ref r e.0) e.1 (lookup (same_ref r) a) h in
    ap (λ b. cond b ((e.0, m) ∷ a) (e ∷ insert_entry same_ref a r m)) none.0 ∙ ap (λ l. e ∷ l) (goes_last a r m none.1)

-- VIEWS

alike_marks : (b : Bool) (s t : List (Ref × Marks)) (r : Ref) → FindsAlike s t → marks_then b s r ≡ marks_then b t r
alike_marks true s t r h = refl
alike_marks false s t r h = ap (λ m. unwrap_or (option_map marks_text m) []) (h r)

alike_piece : (p : ℕ) (names : ViewNames) (s t : List (Ref × Marks)) (x : Piece Ref MadeSymbol) → FindsAlike s t → piece_text p names s x ≡ piece_text p names t x
alike_piece p names s t (Plain bytes) h = refl
alike_piece p names s t (An_object r) h = ap (λ l. name_in names (object_side p r) (Of_object r) ++ l) (alike_marks (is_shown names r) s t r h)
alike_piece p names s t (A_symbol m) h = refl

pub alike_text : (p : ℕ) (names : ViewNames) (s t : List (Ref × Marks)) (ps : Pieces Ref MadeSymbol) → FindsAlike s t → viewed_text p names s ps ≡ viewed_text p names t ps
alike_text p names s t [] h = refl
alike_text p names s t (x ∷ ps) h = λ k. alike_piece p names s t x h k ++ alike_text p (piece_names p names x) s t ps h k

either_way : (b : Bool) (p : ℕ) (names : ViewNames) (x y : Seen) (xs ys : List Seen) → view_lines p names (x ∷ xs) ≡ view_lines p names (y ∷ ys) → view_lines p names xs ≡ view_lines p names ys
    → view_lines p names (if b then x ∷ xs else xs) ≡ view_lines p names (if b then y ∷ ys else ys)
either_way true p names x y xs ys h k = h
either_way false p names x y xs ys h k = k

abbrev seen_at : ℕ → TraceLine → List (Ref × Marks) → Seen
seen_at p l listed = record { sent = l.crossing.from.0 == p; body = l.crossing.body; marks = listed ++ l.marks }

pub alike_lines : (p : ℕ) (names : ViewNames) (s t : List (Ref × Marks)) (ls : List TraceLine) → FindsAlike s t → view_lines p names (seen_by p s ls) ≡ view_lines p names (seen_by p t ls)
alike_lines p names s t [] h = refl
alike_lines p names s t (l ∷ ls) h =
    let more : FindsAlike (s ++ l.marks) (t ++ l.marks) = with_more s t l.marks h in
    let ps = body_pieces l.crossing.body in
    let first : List ℕ → ViewLine = λ body. record { sent = l.crossing.from.0 == p; steps = None; body = body } in
    either_way (takes_part p l) p names (seen_at p l s) (seen_at p l t) (seen_by p (s ++ l.marks) ls) (seen_by p (t ++ l.marks) ls)
    (λ k. first (alike_text p names (s ++ l.marks) (t ++ l.marks) ps more k) ∷ alike_lines p (viewed_names p names ps) (s ++ l.marks) (t ++ l.marks) ls more k)
    (alike_lines p names (s ++ l.marks) (t ++ l.marks) ls more)
