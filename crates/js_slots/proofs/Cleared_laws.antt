-- All places are made dead.
use Rattle.std.proofs.Common.{◌≡◌, ℕ, zero, suc, ◌+◌, ◌<◌, ◌≤◌, List, [], ◌∷◌, ◌++◌, length, take, drop, refl, ap, ◌∙◌, arith}
use Rattle.std.specs.Prelude.{slice_set}
use Rattle.js_slots.specs.Tables.{dead_entry, map_clear}
use Rattle.js_slots.specs.declared.entry.TableEntry.{TableEntry}

module _ {R S : Type 0} where
  more_cleared : (at : ℕ) (es : List (TableEntry R S)) → at < length es
      → slice_set (map_clear (take at es) ++ drop at es) at dead_entry ≡ map_clear (take (suc at) es) ++ drop (suc at) es
  more_cleared at [] l = absurd (omega arith)
  more_cleared zero (e ∷ es) l = refl
  more_cleared (suc at) (e ∷ es) l = ap (λ t. dead_entry ∷ t) (more_cleared at es (omega arith))

  pub cleared_more : (at : ℕ) (es : List (TableEntry R S)) → at < length es
      → slice_set (map_clear (take at es) ++ drop at es) at dead_entry ≡ map_clear (take (at + 1) es) ++ drop (at + 1) es
  cleared_more at es l = let e : suc at ≡ at + 1 = omega arith in more_cleared at es l ∙ ap (λ n. map_clear (take n es) ++ drop n es) e

  pub cleared_all : (at : ℕ) (es : List (TableEntry R S)) → length es ≤ at → map_clear (take at es) ++ drop at es ≡ map_clear es
  cleared_all zero [] l = refl
  cleared_all (suc at) [] l = refl
  cleared_all zero (e ∷ es) l = absurd (omega arith)
  cleared_all (suc at) (e ∷ es) l = ap (λ t. dead_entry ∷ t) (cleared_all at es (omega arith))

  pub length-map_clear : (es : List (TableEntry R S)) → length (map_clear es) ≡ length es
  length-map_clear [] = refl
  length-map_clear (e ∷ es) = ap suc (length-map_clear es)

  -- the loop's list has as many places
  pub length-cleared : (at : ℕ) (es : List (TableEntry R S)) → length (map_clear (take at es) ++ drop at es) ≡ length es
  length-cleared zero [] = refl
  length-cleared (suc at) [] = refl
  length-cleared zero (e ∷ es) = refl
  length-cleared (suc at) (e ∷ es) = ap suc (length-cleared at es)
