-- The code's table has the paths, and they rise.
use Rattle.std.proofs.Common.{◌≡◌, ℕ, ◌<◌, List, true, length, slice_get, Some, map, refl, subst, sym, arith}
use Rattle.std.proofs.lemmas.Option.{slice_get_within}
use Rattle.js_text.specs.CommonPaths.{common_paths, all_rise}
use Rattle.js_text.specs.declared.common.TheConstants.{COMMON_PATHS}

-- the texts of the code's table
abbrev pub texts : List (List ℕ)
texts = map {A = record { now : List ℕ }} (λ t. t.now) COMMON_PATHS

pub table : texts ≡ common_paths
unfolding common_paths
table = refl

pub paths_rise : all_rise common_paths ≡ true
unfolding common_paths all_rise
paths_rise = refl

pub table_rises : all_rise (texts) ≡ true
table_rises = subst (λ ts. all_rise ts ≡ true) (sym table) paths_rise

how_many : length common_paths ≡ 222
unfolding common_paths
how_many = refl

-- each place fits 32 bits
pub place_fits : (place : ℕ) (path : List ℕ) → slice_get common_paths place ≡ Some path → place < 4294967296
place_fits place path e = let within : place < length common_paths = slice_get_within common_paths place path e in omega (arith, how_many)

pub of_table : (place : ℕ) (path : List ℕ) → slice_get (texts) place ≡ Some path → slice_get common_paths place ≡ Some path
of_table place path e = subst (λ ts. slice_get ts place ≡ Some path) table e

pub in_table : (place : ℕ) (path : List ℕ) → slice_get common_paths place ≡ Some path → slice_get (texts) place ≡ Some path
in_table place path e = subst (λ ts. slice_get ts place ≡ Some path) (sym table) e
