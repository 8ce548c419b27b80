-- A view tells what a party meets, and neither its number nor those of its neighbours.
use Rattle.std.specs.Prelude.{◌≡◌, ℕ, ◌≤◌, List, [], ◌∷◌, map, ⊤}
use Rattle.std.specs.Map.{lookup}
use Rattle.lava_base.specs.Ids.{same_made_symbol, same_ref}
use Rattle.lava_base.specs.declared.ids.MadeSymbol.{MadeSymbol}
use Rattle.lava_base.specs.declared.ids.Ref.{Ref}
use Rattle.js_text.specs.Identities.{map_identity}
use Rattle.js_text.specs.Maps.{map_symbol}
use Rattle.js_desc.specs.Maps.{map_body}
use Rattle.lava_trace.specs.declared.line.Trace.{Trace}
use Rattle.lava_view.specs.Calls.{calls_back}
use Rattle.lava_view.specs.Views.{Seen, ViewNames, object_side, seen_by, symbol_side, view_lines, view_of}

-- other references and made symbols in their place, party q in that of party p: what is the same stays so, what is common stays as it is, and each side stays the same
pub record IsRenaming (p q : ℕ) (f : Ref → Ref) (g : MadeSymbol → MadeSymbol) : Type 0 where
  pub same : (r s : Ref) → same_ref (f r) (f s) ≡ same_ref r s
  pub side : (r : Ref) → object_side q (f r) ≡ object_side p r
  pub same_symbol : (a b : MadeSymbol) → same_made_symbol (g a) (g b) ≡ same_made_symbol a b
  pub symbol : (s : MadeSymbol) → symbol_side q (g s) ≡ symbol_side p s

abbrev pub renamed_names : (Ref → Ref) → (MadeSymbol → MadeSymbol) → ViewNames → ViewNames
renamed_names f g names = record { mine = map (map_identity f g) names.mine; theirs = map (map_identity f g) names.theirs; shown = map f names.shown }

-- the same is seen, under other names: sent or not, what crossed, and the marks of each reference
pub record IsSeenAs (f : Ref → Ref) (g : MadeSymbol → MadeSymbol) (s t : Seen) : Type 0 where
  pub sent : t.sent ≡ s.sent
  pub body : t.body ≡ map_body f (map_symbol g) s.body
  pub marks : (r : Ref) → lookup (same_ref (f r)) t.marks ≡ lookup (same_ref r) s.marks

abbrev pub AreSeenAs : (Ref → Ref) → (MadeSymbol → MadeSymbol) → List Seen → List Seen → Type 0
AreSeenAs f g [] [] = ⊤
AreSeenAs f g (s ∷ ss) (t ∷ ts) = IsSeenAs f g s t × AreSeenAs f g ss ts
AreSeenAs f g _ _ = ⊥

-- two parties that see the same under other names have one view
abbrev pub One_view : Type 0
One_view =
    (p q : ℕ) (f : Ref → Ref) (g : MadeSymbol → MadeSymbol) → IsRenaming p q f g
    → (names : ViewNames) (ss ts : List Seen) → AreSeenAs f g ss ts
    → view_lines q (renamed_names f g names) ts ≡ view_lines p names ss

-- so two packages, each in a trace of its own and under its own number, that have the same from the start and see the same under other names have one view
abbrev pub One_view_of_packages : Type 0
One_view_of_packages =
    (p q : ℕ) → 2 ≤ p → 2 ≤ q → (f : Ref → Ref) (g : MadeSymbol → MadeSymbol) → IsRenaming p q f g
    → (t u : Trace) (start : List Ref) → AreSeenAs f g (seen_by p [] t.lines) (seen_by q [] u.lines)
    → view_of u (map f start) q ≡ view_of t start p

-- a package that is called with a function and calls it, as party 2 beside the application's own package alone, and as party 3 beside another package
abbrev pub One_view_beside_another : Type 0
One_view_beside_another = view_of (calls_back 2 1) [] 2 ≡ view_of (calls_back 3 4) [] 3
