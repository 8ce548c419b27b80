-- What the steps along the paths make of a global.
use Rattle.std.proofs.Common.{◌≡◌, ℕ, zero, suc, ◌+◌, ◌<◌, List, [], ◌∷◌, length, drop, Some, Result, Ok, Err, OnOk, refl, sym, ap, ◌∙◌, add-one, arith}
use Rattle.std.specs.Prelude.{slice_get}
use Rattle.js_text.specs.CommonPaths.{common_paths}
use Rattle.js_text.specs.Naming.{naming_of}
use Rattle.js_store.specs.Frozen.{common_ref}
use Rattle.js_store.specs.Objects.{at_place, fresh}
use Rattle.js_store.specs.declared.slot.Slot.TheVariants as slot
use Rattle.js_world.specs.js_run.Globals.{global_marks}
use Rattle.js_world.specs.js_run.Starts.{package_global}
use Rattle.js_world.specs.js_run.declared.intrinsics.TheConstants.{OBJECT_PROTOTYPE}
use Rattle.lava_start.specs.Making.{Thing, with_found, with_intrinsics, with_paths}
use Rattle.lava_start.proofs.Made_laws.{at_same, at_twice}

-- two changes, of which the second may have failed
pub put_twice : {E : Type 0} → (r : Result Unit E) (os a b : List Thing) (i : ℕ) (f g : Thing → Thing) → i < length os → a ≡ at_place os i f → OnOk r (b ≡ at_place a i g) → OnOk r (b ≡ at_place os i (λ o. g (f o)))
put_twice (Ok x) os a b i f g lt p q = q ∙ ap (λ t. at_place t i g) p ∙ at_twice os i f g lt
put_twice (Err e) os a b i f g lt p q = q

one_path : (p m i : ℕ) (paths : List (List ℕ)) (o : Thing) → i < length paths → with_paths p m (drop i paths) o ≡ with_paths p (suc m) (drop (suc i) paths) (with_found p m (slice_get paths i) o)
one_path p m i [] o lt = absurd (omega arith)
one_path p m zero (path ∷ paths) o lt = refl
one_path p m (suc i) (path ∷ paths) o lt = one_path p m i paths o (omega arith)

how_many : length common_paths ≡ 222
unfolding common_paths
how_many = refl

-- one place more
pub next_place : (p n i : ℕ) (old new goal : List Thing) → n < 222 → i < length old → new ≡ at_place old i (with_found p n (slice_get common_paths n)) → at_place old i (with_paths p n (drop n common_paths)) ≡ goal → at_place new i (with_paths p (n + 1) (drop (n + 1) common_paths)) ≡ goal
next_place p n i old new goal lt there e h =
    let here : n < length common_paths = omega (arith, how_many) in
    ap (λ xs. at_place xs i (with_paths p (n + 1) (drop (n + 1) common_paths))) e
    ∙ at_twice old i (with_found p n (slice_get common_paths n)) (with_paths p (n + 1) (drop (n + 1) common_paths)) there
    ∙ ap (λ k. at_place old i (λ o. with_paths p k (drop k common_paths) (with_found p n (slice_get common_paths n) o))) (add-one n)
    ∙ sym (λ j. at_place old i (λ o. one_path p n n common_paths o here j))
    ∙ h

none_left : drop 222 common_paths ≡ []
unfolding common_paths
none_left = refl

pub last_place : (p n i : ℕ) (xs goal : List Thing) → n ≡ 222 → at_place xs i (with_paths p n (drop n common_paths)) ≡ goal → xs ≡ goal
last_place p n i xs goal e h =
    sym (at_same xs i)
    ∙ ap (λ paths. at_place xs i (with_paths p 222 paths)) (sym none_left)
    ∙ ap (λ k. at_place xs i (with_paths p k (drop k common_paths))) (sym e)
    ∙ h

abbrev pub bare_global : Thing
bare_global = fresh (Some (common_ref OBJECT_PROTOTYPE)) global_marks slot.Plain

-- all steps make the global of a package that is given nothing
pub bare : (p : ℕ) → with_intrinsics p bare_global ≡ package_global (naming_of p) []
unfolding common_paths
bare p = refl
