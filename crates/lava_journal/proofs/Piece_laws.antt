-- Pieces are written one after the other.
use Rattle.std.proofs.Common.{◌≡◌, ℕ, ◌+◌, ◌-◌, ◌<◌, ◌≤◌, ◌==◌, length, drop, take, get_or, map, Bool, true, false, ◌||◌, is_some, codes, List, [], ◌∷◌, ◌++◌, Option, Some, None, refl, ap, sym, true≢false, ◌∙◌, arith}
use Rattle.std.proofs.Math.ListN.{drop_of_length-le}
use Rattle.std.proofs.lemmas.List.{append-nil, append_assoc, drop_more, take_all}
use Rattle.std.proofs.lemmas.Grind.{flat_map-append}
use Rattle.std.specs.List.{flat_map}
use Rattle.lava_base.specs.declared.ids.MadeSymbol.{MadeSymbol}
use Rattle.lava_base.specs.declared.ids.Ref.{Ref}
use Rattle.lava_journal.specs.Bodies.{all_spaced, field, function_fields, name_pieces, object_or_undefined, parted, plain, spaced}
use Rattle.lava_journal.specs.Pages.{with_each}
use Rattle.lava_journal.specs.Sheets.{Piece, Plain}

-- on whatever they are written
module _ {S : Type 0} (w : S → Piece Ref MadeSymbol → S) where
  -- some pieces, and then others
  pub some_pieces : (s : S) (a b : List (Piece Ref MadeSymbol)) → with_each w s (a ++ b) ≡ with_each w (with_each w s a) b
  unfolding with_each
  some_pieces s [] b = refl
  some_pieces s (p ∷ a) b = some_pieces (w s p) a b

  -- one piece, and then others
  pub first_piece : (s : S) (p : Piece Ref MadeSymbol) (b : List (Piece Ref MadeSymbol)) → with_each w s (p ∷ b) ≡ with_each w (with_each w s (p ∷ [])) b
  unfolding with_each
  first_piece s p b = refl

  -- none at all
  pub no_pieces : (s : S) → with_each w s [] ≡ s
  unfolding with_each
  no_pieces s = refl

  -- a field, and the fields behind it
  pub parted_field : {X : Type 0} (s : S) (any : Bool) (name : List ℕ) (pieces : X → List (Piece Ref MadeSymbol)) (x : Option X) (rest : List (List (Piece Ref MadeSymbol)))
      → with_each w s (parted any (field name pieces x ++ rest)) ≡ with_each w (with_each w s (parted any (field name pieces x))) (parted (any || is_some x) rest)
  unfolding spaced all_spaced
  parted_field s true name pieces None rest = some_pieces s [] (parted true rest)
  parted_field s false name pieces None rest = some_pieces s [] (parted false rest)
  parted_field s true name pieces (Some x) rest =
      some_pieces s (spaced (Plain name ∷ pieces x)) (all_spaced rest) ∙ ap (λ a. with_each w (with_each w s a) (all_spaced rest)) (sym (append-nil (spaced (Plain name ∷ pieces x))))
  parted_field s false name pieces (Some x) rest =
      some_pieces s (Plain name ∷ pieces x) (all_spaced rest) ∙ ap (λ a. with_each w (with_each w s a) (all_spaced rest)) (sym (append-nil (Plain name ∷ pieces x)))

  -- a field, whose name is written first
  pub one_field : {X : Type 0} (s : S) (any : Bool) (name : List ℕ) (pieces : X → List (Piece Ref MadeSymbol)) (x : X)
      → with_each w s (parted any (field name pieces (Some x))) ≡ with_each w (with_each w s (name_pieces any name)) (pieces x)
  unfolding spaced all_spaced
  one_field s true name pieces x =
      ap (with_each w s) (append-nil (spaced (Plain name ∷ pieces x))) ∙ some_pieces s (name_pieces true name) (pieces x)
  one_field s false name pieces x = ap (with_each w s) (append-nil (Plain name ∷ pieces x)) ∙ some_pieces s (name_pieces false name) (pieces x)

  -- a space, and what stands behind it
  pub behind_space : (s : S) (p : List (Piece Ref MadeSymbol)) → with_each w s (spaced p) ≡ with_each w (with_each w s (plain (codes " "))) p
  unfolding spaced
  behind_space s p = first_piece s (Plain (codes " ")) p

  -- no thing at all
  pub nothing_spaced : (s : S) → with_each w s (all_spaced []) ≡ s
  unfolding all_spaced
  nothing_spaced s = no_pieces s

  -- a thing behind a space, and the things behind it
  pub one_spaced : (s : S) (p : List (Piece Ref MadeSymbol)) (ps : List (List (Piece Ref MadeSymbol)))
      → with_each w s (all_spaced (p ∷ ps)) ≡ with_each w (with_each w s (spaced p)) (all_spaced ps)
  unfolding all_spaced
  one_spaced s p ps = some_pieces s (spaced p) (all_spaced ps)

  -- the functions of an accessor, and the fields behind them
  pub parted_functions : (s : S) (any : Bool) (get set : Option (Option Ref)) (rest : List (List (Piece Ref MadeSymbol)))
      → with_each w s (parted any (function_fields get set ++ rest)) ≡ with_each w (with_each w s (parted any (function_fields get set))) (parted ((any || is_some get) || is_some set) rest)
  parted_functions s any get set rest =
      let getter : List (List (Piece Ref MadeSymbol)) = field (codes "get=") object_or_undefined get in
      let setter : List (List (Piece Ref MadeSymbol)) = field (codes "set=") object_or_undefined set in
      ap (λ l. with_each w s (parted any l)) (append_assoc getter setter rest)
      ∙ parted_field s any (codes "get=") object_or_undefined get (setter ++ rest)
      ∙ parted_field (with_each w s (parted any getter)) (any || is_some get) (codes "set=") object_or_undefined set rest
      ∙ ap (λ t. with_each w t (parted ((any || is_some get) || is_some set) rest)) (sym (parted_field s any (codes "get=") object_or_undefined get setter))

  -- what stands between a first piece and a last one
  pub between : (s s1 s2 : S) (first last : Piece Ref MadeSymbol) (inside : List (Piece Ref MadeSymbol)) → s1 ≡ with_each w s (first ∷ []) → s2 ≡ with_each w s1 inside
      → with_each w s2 (last ∷ []) ≡ with_each w s (first ∷ (inside ++ last ∷ []))
  between s s1 s2 first last inside one two =
      ap (λ t. with_each w t (last ∷ [])) (two ∙ ap (λ t. with_each w t inside) one)
      ∙ sym (some_pieces (with_each w s (first ∷ [])) inside (last ∷ [])) ∙ sym (first_piece s first (inside ++ last ∷ []))

  -- what is left of some things at a place: the thing there behind a space, and what is left behind it
  pub left_spaced : {X : Type 0} (s : S) (pieces : X → List (Piece Ref MadeSymbol)) (xs : List X) (n : ℕ) (d : X) → n < length xs
      → with_each w s (all_spaced (map pieces (drop n xs))) ≡ with_each w (with_each w s (spaced (pieces (get_or xs n d)))) (all_spaced (map pieces (drop (n + 1) xs)))
  left_spaced s pieces xs n d h =
      ap (λ l. with_each w s (all_spaced (map pieces l))) (drop_more xs n d h) ∙ one_spaced s (pieces (get_or xs n d)) (map pieces (drop (n + 1) xs))

  -- where nothing is left
  pub none_spaced : {X : Type 0} (s : S) (pieces : X → List (Piece Ref MadeSymbol)) (xs : List X) (n : ℕ) → length xs ≤ n → with_each w s (all_spaced (map pieces (drop n xs))) ≡ s
  unfolding all_spaced
  none_spaced s pieces xs n h = ap (λ l. with_each w s (all_spaced (map pieces l))) (drop_of_length-le xs h) ∙ nothing_spaced s

  -- the same of things of which each has two pieces
  pub left_pairs : {X : Type 0} (s : S) (first second : X → List (Piece Ref MadeSymbol)) (xs : List X) (n : ℕ) (d : X) → n < length xs
      → with_each w s (all_spaced (flat_map (λ x. first x ∷ second x ∷ []) (drop n xs)))
      ≡ with_each w (with_each w (with_each w s (spaced (first (get_or xs n d)))) (spaced (second (get_or xs n d)))) (all_spaced (flat_map (λ x. first x ∷ second x ∷ []) (drop (n + 1) xs)))
  unfolding all_spaced
  left_pairs s first second xs n d h =
      let x = get_or xs n d in
      let rest = all_spaced (flat_map (λ y. first y ∷ second y ∷ []) (drop (n + 1) xs)) in
      ap (λ l. with_each w s (all_spaced (flat_map (λ y. first y ∷ second y ∷ []) l))) (drop_more xs n d h)
      ∙ some_pieces s (spaced (first x)) (spaced (second x) ++ rest) ∙ some_pieces (with_each w s (spaced (first x))) (spaced (second x)) rest

  pub none_in_pairs : {X : Type 0} (s : S) (first second : X → List (Piece Ref MadeSymbol)) (xs : List X) (n : ℕ) → length xs ≤ n
      → with_each w s (all_spaced (flat_map (λ x. first x ∷ second x ∷ []) (drop n xs))) ≡ s
  unfolding all_spaced
  none_in_pairs s first second xs n h = ap (λ l. with_each w s (all_spaced (flat_map (λ x. first x ∷ second x ∷ []) l))) (drop_of_length-le xs h) ∙ no_pieces s

  -- some things, each behind a space, and then others
  pub spaced_append : (s : S) (ps qs : List (List (Piece Ref MadeSymbol))) → with_each w s (all_spaced (ps ++ qs)) ≡ with_each w (with_each w s (all_spaced ps)) (all_spaced qs)
  unfolding all_spaced
  spaced_append s ps qs = ap (with_each w s) (flat_map-append spaced ps qs) ∙ some_pieces s (all_spaced ps) (all_spaced qs)

  -- the first of some things, and then those behind it
  pub first_parted : {X : Type 0} (s : S) (pieces : X → List (Piece Ref MadeSymbol)) (xs : List X) (d : X) → false ≡ (length xs == 0)
      → with_each w (with_each w s (pieces (get_or xs 0 d))) (all_spaced (map pieces (take (length xs - 1) (drop 1 xs)))) ≡ with_each w s (parted false (map pieces xs))
  first_parted s pieces [] d h = absurd (true≢false (sym h))
  first_parted s pieces (x ∷ xs) d h =
      ap (λ l. with_each w (with_each w s (pieces x)) (all_spaced (map pieces l))) (take_all (length (x ∷ xs) - 1) xs (omega arith)) ∙ sym (some_pieces s (pieces x) (all_spaced (map pieces xs)))

  -- no thing at all, parted by spaces
  pub none_parted : {X : Type 0} (s : S) (pieces : X → List (Piece Ref MadeSymbol)) (xs : List X) → true ≡ (length xs == 0) → s ≡ with_each w s (parted false (map pieces xs))
  none_parted s pieces [] h = sym (no_pieces s)
  none_parted s pieces (x ∷ xs) h = absurd (grind (arith, h))

  -- a field that is not there
  pub absent_field : {X : Type 0} (s : S) (any : Bool) (name : List ℕ) (pieces : X → List (Piece Ref MadeSymbol)) (x : Option X) → x ≡ None
      → s ≡ with_each w s (parted any (field name pieces x))
  absent_field s true name pieces x h = sym (nothing_spaced s) ∙ ap (λ o. with_each w s (parted true (field name pieces o))) (sym h)
  absent_field s false name pieces x h = sym (no_pieces s) ∙ ap (λ o. with_each w s (parted false (field name pieces o))) (sym h)

  -- a field that is there
  pub present_field : {X : Type 0} (s s1 s2 : S) (any : Bool) (name : List ℕ) (pieces : X → List (Piece Ref MadeSymbol)) (o : Option X) (x : X) → o ≡ Some x
      → s1 ≡ with_each w s (name_pieces any name) → s2 ≡ with_each w s1 (pieces x) → s2 ≡ with_each w s (parted any (field name pieces o))
  present_field s s1 s2 any name pieces o x is one two =
      two ∙ ap (λ t. with_each w t (pieces x)) one ∙ sym (one_field s any name pieces x) ∙ ap (λ f. with_each w s (parted any (field name pieces f))) (sym is)

-- things behind spaces, one after the other
pub ruleset spacing = (one_spaced, nothing_spaced, behind_space, spaced_append)

-- pieces, one after the other
pub ruleset sequence = (first_piece, some_pieces)
