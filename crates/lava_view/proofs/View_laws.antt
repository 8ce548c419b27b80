-- A view stays the same under other names.
use Rattle.std.proofs.Common.{◌≡◌, ℕ, ◌+◌, ◌≤◌, ◌==◌, Bool, true, false, ◌||◌, cond, List, [], ◌∷◌, ◌++◌, codes, decimal, map, None, refl, ap, ◌∙◌, sym, arith}
use Rattle.std.proofs.lemmas.Bool.{cond-false, ne_eqb}
use Rattle.std.proofs.lemmas.List.{map-append}
use Rattle.std.specs.List.{list_any}
use Rattle.std.specs.Map.{lookup}
use Rattle.std.specs.Option.{option_map, unwrap_or}
use Rattle.lava_base.specs.Ids.{same_ref}
use Rattle.lava_base.specs.declared.ids.MadeSymbol.{MadeSymbol}
use Rattle.lava_base.specs.declared.ids.Ref.{Ref}
use Rattle.lava_base.specs.declared.marks.Marks.{Marks}
use Rattle.js_text.specs.Identities.{Identity, Of_object, Of_symbol, map_identity}
use Rattle.lava_journal.specs.Bodies.{Pieces, all_spaced, body_pieces, spaced}
use Rattle.lava_journal.specs.Quotes.{marks_text}
use Rattle.lava_journal.specs.Sheets.{An_object, A_symbol, Piece, Plain}
use Rattle.lava_trace.specs.declared.line.Trace.{Trace}
use Rattle.lava_view.specs.Calls.{calls_back}
use Rattle.lava_view.specs.Laws.{AreSeenAs, IsRenaming, renamed_names}
use Rattle.lava_view.specs.Views.{Mine, Of_all, Seen, Side, Theirs, ViewNames, is_shown, left_at_start, marks_then, name_in, named_then, object_side, piece_names, piece_text, place_in, same_identity, seen_by, shown_then, symbol_side, view_lines, view_of, viewed_names, viewed_text, with_all, with_one}
use Rattle.lava_view.proofs.Piece_laws.{body_renamed, renamed, renamed_pieces}

module _ (p q : ℕ) (f : Ref → Ref) (g : MadeSymbol → MadeSymbol) (o : IsRenaming p q f g) where
  abbrev other : Identity Ref MadeSymbol → Identity Ref MadeSymbol
  other a = map_identity f g a

  same_other : (a b : Identity Ref MadeSymbol) → same_identity (other a) (other b) ≡ same_identity a b
  same_other (Of_object r) (Of_object s) = o.same r s
  same_other (Of_symbol r) (Of_symbol s) = o.same_symbol r s
  same_other (Of_object r) (Of_symbol s) = refl
  same_other (Of_symbol r) (Of_object s) = refl

  place_other : (a : Identity Ref MadeSymbol) (xs : List (Identity Ref MadeSymbol)) → place_in (other a) (map other xs) ≡ place_in a xs
  place_other a [] = refl
  place_other a (x ∷ xs) = (λ k. cond (same_other a x k) 0 (1 + place_other a xs k))

  any_other : (a : Identity Ref MadeSymbol) (xs : List (Identity Ref MadeSymbol)) → list_any (same_identity (other a)) (map other xs) ≡ list_any (same_identity a) xs
  any_other a [] = refl
  any_other a (x ∷ xs) = (λ k. same_other a x k || any_other a xs k)

  push_other : (b : Bool) (xs : List (Identity Ref MadeSymbol)) (a : Identity Ref MadeSymbol) → cond b (map other xs) (map other xs ++ other a ∷ []) ≡ map other (cond b xs (xs ++ a ∷ []))
  push_other true xs a = refl
  push_other false xs a = sym (map-append other xs (a ∷ []))

  one_other : (xs : List (Identity Ref MadeSymbol)) (a : Identity Ref MadeSymbol) → with_one (map other xs) (other a) ≡ map other (with_one xs a)
  one_other xs a = ap (λ b. cond b (map other xs) (map other xs ++ other a ∷ [])) (any_other a xs) ∙ push_other (list_any (same_identity a) xs) xs a

  abbrev others : ViewNames → ViewNames
  others names = renamed_names f g names

  name_other : (names : ViewNames) (s : Side) (a : Identity Ref MadeSymbol) → name_in (others names) s (other a) ≡ name_in names s a
  name_other names (Of_all c) a = refl
  name_other names Mine a = ap (λ (n : ℕ). codes "mine." ++ decimal n) (place_other a names.mine)
  name_other names Theirs a = ap (λ (n : ℕ). codes "their." ++ decimal n) (place_other a names.theirs)

  named_other : (names : ViewNames) (s : Side) (a : Identity Ref MadeSymbol) → named_then (others names) s (other a) ≡ others (named_then names s a)
  named_other names (Of_all c) a = refl
  named_other names Mine a = ap (λ l. record (others names) { mine = l }) (one_other names.mine a)
  named_other names Theirs a = ap (λ l. record (others names) { theirs = l }) (one_other names.theirs a)

  any_shown : (r : Ref) (xs : List Ref) → list_any (same_ref (f r)) (map f xs) ≡ list_any (same_ref r) xs
  any_shown r [] = refl
  any_shown r (x ∷ xs) = (λ k. o.same r x k || any_shown r xs k)

  shown_other : (b : Bool) (names : ViewNames) (r : Ref) → shown_then b (others names) (f r) ≡ others (shown_then b names r)
  shown_other true names r = refl
  shown_other false names r = ap (λ l. record (others names) { shown = l }) (sym (map-append f names.shown (r ∷ [])))

  marks_other : (b : Bool) (listed listed' : List (Ref × Marks)) (r : Ref) → lookup (same_ref (f r)) listed' ≡ lookup (same_ref r) listed → marks_then b listed' (f r) ≡ marks_then b listed r
  marks_other true listed listed' r h = refl
  marks_other false listed listed' r h = ap (λ m. unwrap_or (option_map marks_text m) []) h

  abbrev LooksAlike : List (Ref × Marks) → List (Ref × Marks) → Type 0
  LooksAlike listed listed' = (r : Ref) → lookup (same_ref (f r)) listed' ≡ lookup (same_ref r) listed

  -- PIECES

  text_other : (names : ViewNames) (listed listed' : List (Ref × Marks)) (x : Piece Ref MadeSymbol) → LooksAlike listed listed' → piece_text q (others names) listed' (renamed f g x) ≡ piece_text p names listed x
  text_other names listed listed' (Plain bytes) h = refl
  text_other names listed listed' (An_object r) h =
      (λ k. name_in (others names) (o.side r k) (Of_object (f r)) ++ marks_then (any_shown r names.shown k) listed' (f r))
      ∙ (λ k. name_other names (object_side p r) (Of_object r) k ++ marks_other (is_shown names r) listed listed' r (h r) k)
  text_other names listed listed' (A_symbol s) h =
      (λ k. 64 ∷ name_in (others names) (o.symbol s k) (Of_symbol (g s))) ∙ ap (λ l. 64 ∷ l) (name_other names (symbol_side p s) (Of_symbol s))

  names_other : (names : ViewNames) (x : Piece Ref MadeSymbol) → piece_names q (others names) (renamed f g x) ≡ others (piece_names p names x)
  names_other names (Plain bytes) = refl
  names_other names (An_object r) =
      (λ k. shown_then (any_shown r names.shown k) (named_then (others names) (o.side r k) (Of_object (f r))) (f r))
      ∙ ap (λ n. shown_then (is_shown names r) n (f r)) (named_other names (object_side p r) (Of_object r))
      ∙ shown_other (is_shown names r) (named_then names (object_side p r) (Of_object r)) r
  names_other names (A_symbol s) = (λ k. named_then (others names) (o.symbol s k) (Of_symbol (g s))) ∙ named_other names (symbol_side p s) (Of_symbol s)

  all_text : (names : ViewNames) (listed listed' : List (Ref × Marks)) (ps : Pieces Ref MadeSymbol) → LooksAlike listed listed' → viewed_text q (others names) listed' (renamed_pieces f g ps) ≡ viewed_text p names listed ps
  all_text names listed listed' [] h = refl
  all_text names listed listed' (x ∷ ps) h =
      (λ k. text_other names listed listed' x h k ++ viewed_text q (names_other names x k) listed' (renamed_pieces f g ps))
      ∙ ap (λ l. piece_text p names listed x ++ l) (all_text (piece_names p names x) listed listed' ps h)

  all_names : (names : ViewNames) (ps : Pieces Ref MadeSymbol) → viewed_names q (others names) (renamed_pieces f g ps) ≡ others (viewed_names p names ps)
  all_names names [] = refl
  all_names names (x ∷ ps) = ap (λ n. viewed_names q n (renamed_pieces f g ps)) (names_other names x) ∙ all_names (piece_names p names x) ps

  -- LINES

  lines_other : (names : ViewNames) (ss ts : List Seen) → AreSeenAs f g ss ts → view_lines q (others names) ts ≡ view_lines p names ss
  lines_other names [] [] h = refl
  lines_other names [] (t ∷ ts) h = absurd h
  lines_other names (s ∷ ss) [] h = absurd h
  lines_other names (s ∷ ss) (t ∷ ts) h =
      let first = h.0 in
      let ps = body_pieces s.body in
      let is : body_pieces t.body ≡ renamed_pieces f g ps = ap body_pieces first.body ∙ body_renamed f g s.body in
      (λ k. (record { sent = first.sent k; steps = None; body = viewed_text q (others names) t.marks (is k) }) ∷ view_lines q (viewed_names q (others names) (is k)) ts)
      ∙ (λ k. (record { sent = s.sent; steps = None; body = all_text names s.marks t.marks ps first.marks k }) ∷ view_lines q (all_names names ps k) ts)
      ∙ ap (λ l. (record { sent = s.sent; steps = None; body = viewed_text p names s.marks ps }) ∷ l) (lines_other (viewed_names p names ps) ss ts h.1)

  all_other : (known : List (Identity Ref MadeSymbol)) (rs : List Ref) → with_all (map other known) (map f rs) ≡ map other (with_all known rs)
  all_other known [] = refl
  all_other known (r ∷ rs) = ap (λ l. with_all l (map f rs)) (one_other known (Of_object r)) ∙ all_other (with_one known (Of_object r)) rs

pub one_view : (p q : ℕ) (f : Ref → Ref) (g : MadeSymbol → MadeSymbol) → IsRenaming p q f g → (names : ViewNames) (ss ts : List Seen) → AreSeenAs f g ss ts
    → view_lines q (renamed_names f g names) ts ≡ view_lines p names ss
one_view p q f g o names ss ts h = lines_other p q f g o names ss ts h

-- nothing of a package has left at the start
none_left : (p : ℕ) → 2 ≤ p → left_at_start p ≡ []
none_left p h = cond-false (p == 0) _ _ (ne_eqb p 0 (λ e. omega (arith, h, e))) ∙ cond-false (p == 1) _ _ (ne_eqb p 1 (λ e. omega (arith, h, e)))

pub one_view_of_packages : (p q : ℕ) → 2 ≤ p → 2 ≤ q → (f : Ref → Ref) (g : MadeSymbol → MadeSymbol) → IsRenaming p q f g
    → (t u : Trace) (start : List Ref) → AreSeenAs f g (seen_by p [] t.lines) (seen_by q [] u.lines)
    → view_of u (map f start) q ≡ view_of t start p
one_view_of_packages p q h k f g o t u start s =
    (λ i. view_lines q (record { mine = none_left q k i; theirs = all_other p q f g o [] start i; shown = map f start }) (seen_by q [] u.lines))
    ∙ one_view p q f g o (record { mine = []; theirs = with_all [] start; shown = start }) (seen_by p [] t.lines) (seen_by q [] u.lines) s
    ∙ (λ i. view_lines p (record { mine = sym (none_left p h) i; theirs = with_all [] start; shown = start }) (seen_by p [] t.lines))

pub one_view_beside_another : view_of (calls_back 2 1) [] 2 ≡ view_of (calls_back 3 4) [] 3
unfolding all_spaced spaced
one_view_beside_another = refl
