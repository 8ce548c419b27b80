-- Lists of numbers in a table.
use Rattle.std.proofs.Common.{◌≡◌, ℕ, suc, ◌<◌, ◌≤◌, List, ◌∷◌, length, get_or, take, drop, sym, ap, ◌∙◌, arith, length-take, length-drop}
use Rattle.std.proofs.Math.Seq.{drop-cons}
use Rattle.js_code.specs.Tables.{part_of}

-- of so many numbers there are no more
pub part_most : (ns : List ℕ) (s c : ℕ) → length (part_of s c ns) ≤ c
part_most ns s c = omega (arith, length-take c (drop s ns))

pub part_first : (ns : List ℕ) (s c s' c' : ℕ) → c ≡ suc c' → s' ≡ suc s → s < length ns → part_of s c ns ≡ get_or ns s 0 ∷ part_of s' c' ns
part_first ns s c s' c' e d l = ap (λ k. take k (drop s ns)) e ∙ ap (take (suc c')) (drop-cons ns s 0 l) ∙ ap (λ k. get_or ns s 0 ∷ take c' (drop k ns)) (sym d)

pub part_within : (ns : List ℕ) (s c : ℕ) → 1 ≤ length (part_of s c ns) → s < length ns
part_within ns s c l = omega (arith, l, length-take c (drop s ns), length-drop s ns)
