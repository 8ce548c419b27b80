-- The place of a path in a list of paths.
use Rattle.std.proofs.Common.{◌≡◌, ℕ, zero, suc, Bool, true, false, cond, List, [], ◌∷◌, Option, Some, None, slice_get, refl, sym, ap, subst}
use Rattle.std.proofs.lemmas.Bool.{true≢false}
use Rattle.std.specs.Option.{option_map}
use Rattle.js_text.specs.CommonPaths.{common_paths, IsPathOf}
use Rattle.js_text.specs.SameKeys.{same_units_decides}
use Rattle.js_text.specs.Texts.{same_units}
use Rattle.lava_base.specs.declared.ids.CommonId.{CommonId}
use Rattle.ses_prelude.specs.Paths.{place_in, place_of}

sound_by : (path p : List ℕ) (ps : List (List ℕ)) (b : Bool) (o : Option ℕ) (n : ℕ) → same_units p path ≡ b
    → ((m : ℕ) → o ≡ Some m → slice_get ps m ≡ Some path) → cond b (Some 0) (option_map suc o) ≡ Some n → slice_get (p ∷ ps) n ≡ Some path
sound_by path p ps true o zero same rest e = ap Some ((same_units_decides p path).0 same)
sound_by path p ps true o (suc n) same rest e = cc
sound_by path p ps false None n same rest e = cc
sound_by path p ps false (Some m) n same rest e = subst (λ k. slice_get (p ∷ ps) k ≡ Some path) (let z : suc m ≡ n = cc in z) (rest m refl)

-- the path stands at its place
pub place_sound : (path : List ℕ) (ps : List (List ℕ)) (n : ℕ) → place_in path ps ≡ Some n → slice_get ps n ≡ Some path
place_sound path [] n e = cc
place_sound path (p ∷ ps) n e = sound_by path p ps (same_units p path) (place_in path ps) n refl (place_sound path ps) e

complete_by : (b : Bool) (o : Option ℕ) → (o ≡ None → ⊥) → cond b (Some 0) (option_map suc o) ≡ None → ⊥
complete_by true o rest e = cc
complete_by false None rest e = rest refl
complete_by false (Some m) rest e = cc

here_by : (b : Bool) (o : Option ℕ) → b ≡ true → cond b (Some 0) (option_map suc o) ≡ None → ⊥
here_by true o s e = cc
here_by false o s e = true≢false (sym s)

-- a path that stands there has a place
pub place_complete : (path : List ℕ) (ps : List (List ℕ)) (n : ℕ) → slice_get ps n ≡ Some path → place_in path ps ≡ None → ⊥
place_complete path [] n e = cc
place_complete path (p ∷ ps) zero e = here_by (same_units p path) (place_in path ps) ((same_units_decides p path).1 (let z : p ≡ path = cc in z))
place_complete path (p ∷ ps) (suc n) e = complete_by (same_units p path) (place_in path ps) (place_complete path ps n e)

-- what js_text answers of a path is its place
pub no_place : (path : List ℕ) (r : Option CommonId) → r ≡ None → ((place : ℕ) → IsPathOf path place → r ≡ Some (record { 0 = place })) → place_of path ≡ None
unfolding place_of
no_place path r none each = by (place_in path common_paths) refl
  where
    by : (o : Option ℕ) → place_in path common_paths ≡ o → o ≡ None
    by None e = refl
    by (Some n) e = absurd (let z : r ≡ Some (record { 0 = n }) = each n (place_sound path common_paths n e) in cc)

pub one_place : (path : List ℕ) (id : CommonId) → IsPathOf path id.0 → ((place : ℕ) → IsPathOf path place → Some id ≡ Some (record { 0 = place })) → Some id.0 ≡ place_of path
unfolding place_of
one_place path id there each = by (place_in path common_paths) refl
  where
    by : (o : Option ℕ) → place_in path common_paths ≡ o → Some id.0 ≡ o
    by None e = absurd (place_complete path common_paths id.0 there e)
    by (Some n) e =
        let z : Some id ≡ Some (record { 0 = n }) = each n (place_sound path common_paths n e) in
        let s : id ≡ record { 0 = n } = cc in ap (λ (i : CommonId). Some i.0) s
