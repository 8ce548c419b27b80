-- How many common objects there are.
use Rattle.std.proofs.Common.{◌≡◌, ℕ, ◌<◌, List, length, refl, ap, ◌≤◌, arith}
use Rattle.std.proofs.lemmas.List.FromFn.{length-map-range_with_len}
use Rattle.std.proofs.lemmas.Option.{slice_get_within}
use Rattle.js_text.specs.CommonPaths.{common_paths, IsPathOf}
use Rattle.js_store.specs.Frozen.{CommonObject}
use Rattle.ses_lockdown.specs.Intrinsics.{initial_object, initial_objects, copied, copied_object}
use Rattle.ses_lockdown.specs.Lockdown.{Obj, locked, locked_object}
use Rattle.ses_lockdown.specs.Permits.{count}

-- one at each path
pub as_many : length common_paths ≡ count
unfolding common_paths count
as_many = refl

pub path_within : (path : List ℕ) (place : ℕ) → IsPathOf path place → place < count
path_within path place e = let within : place < length common_paths = slice_get_within common_paths place path e in omega (arith, as_many)

pub so_many_initial : length initial_objects ≡ count
unfolding initial_objects
so_many_initial = length-map-range_with_len initial_object 0 count

pub so_many_copied : (common : List CommonObject) → length (copied common) ≡ count
unfolding copied
so_many_copied common = length-map-range_with_len (copied_object common) 0 count

pub so_many_locked : (objects : List Obj) → length (locked objects) ≡ count
unfolding locked
so_many_locked objects = length-map-range_with_len (locked_object objects) 0 count

pub enough : (xs ys : List Obj) → xs ≡ ys → length ys ≡ count → count ≤ length xs
enough xs ys e n = let m : length xs ≡ length ys = ap length e in omega (arith, n, m)
