-- An object that is made step by step.
use Rattle.std.proofs.Common.{◌≡◌, ℕ, Bool, Option, suc, ◌+◌, ◌<◌, List, [], ◌∷◌, ◌++◌, length, drop, arith, None, zero, refl, sym, ap, ◌∙◌, add-one}
use Rattle.std.proofs.Math.ListN.{set}
use Rattle.std.proofs.Math.Seq.{drop-cons, drop-length, get_or-append_seam}
use Rattle.std.proofs.lemmas.List.{get_or-set_same, set-get_or, length-set}
use Rattle.js_store.specs.Objects.{object_at, at_place, fresh, plain_marks}
use Rattle.js_store.specs.declared.slot.Slot.TheVariants as slot
use Rattle.ses_lockdown.specs.Lockdown.{Obj, Property, more, one_more}
use Rattle.ses_lockdown.specs.Permits.{Permit, permits, permit_at, permit_count, no_permit}

set_twice : (xs : List Obj) (i : ℕ) (a b : Obj) → set (set xs i a) i b ≡ set xs i b
set_twice [] i a b = refl
set_twice (x ∷ xs) zero a b = refl
set_twice (x ∷ xs) (suc i) a b = ap (λ t. x ∷ t) (set_twice xs i a b)

-- two changes of one object are one
pub at_twice : (xs : List Obj) (id : ℕ) (f g : Obj → Obj) → id < length xs → at_place (at_place xs id f) id g ≡ at_place xs id (λ o. g (f o))
at_twice xs id f g lt = ap (λ m. set (set xs id (f (object_at xs id))) id (g m)) (get_or-set_same xs id (f (object_at xs id)) (fresh None plain_marks slot.Plain) lt) ∙ set_twice xs id (f (object_at xs id)) (g (f (object_at xs id)))

-- no change
pub at_same : (xs : List Obj) (id : ℕ) → at_place xs id (λ o. o) ≡ xs
at_same xs id = set-get_or xs id (fresh None plain_marks slot.Plain)

set_seam : (xs : List Obj) (x y : Obj) → set (xs ++ x ∷ []) (length xs) y ≡ xs ++ y ∷ []
set_seam [] x y = refl
set_seam (z ∷ xs) x y = ap (λ t. z ∷ t) (set_seam xs x y)

-- a change of the last object
pub at_seam : (xs : List Obj) (x : Obj) (f : Obj → Obj) → at_place (xs ++ x ∷ []) (length xs) f ≡ xs ++ f x ∷ []
at_seam xs x f = set_seam xs x (f (object_at (xs ++ x ∷ []) (length xs))) ∙ ap (λ o. xs ++ f o ∷ []) (get_or-append_seam xs x [] (fresh None plain_marks slot.Plain))

pub length_at : (xs : List Obj) (id : ℕ) (f : Obj → Obj) → length (at_place xs id f) ≡ length xs
length_at xs id f = length-set xs id (f (object_at xs id))

pub how_many : length permits ≡ permit_count
unfolding permits permit_count
how_many = refl

-- one permit more
pub step : (f : Permit → Option Property) (place : ℕ) (callable : Bool) (at id : ℕ) (old new goal : List Obj) → at < permit_count → id < length old → new ≡ at_place old id (one_more f place callable (permit_at at)) → at_place old id (more f place callable (drop at permits)) ≡ goal → at_place new id (more f place callable (drop (at + 1) permits)) ≡ goal
step f place callable at id old new goal lt in' e h =
    ap (λ xs. at_place xs id (more f place callable (drop (at + 1) permits))) e
    ∙ at_twice old id (one_more f place callable (permit_at at)) (more f place callable (drop (at + 1) permits)) in'
    ∙ ap (λ n. at_place old id (more f place callable (permit_at at ∷ drop n permits))) (add-one at)
    ∙ ap (λ rs. at_place old id (more f place callable rs)) (sym (drop-cons permits at no_permit (omega (arith, how_many))))
    ∙ h

pub last_step : (f : Permit → Option Property) (place : ℕ) (callable : Bool) (id : ℕ) (xs goal : List Obj) (at : ℕ) → at ≡ permit_count → at_place xs id (more f place callable (drop at permits)) ≡ goal → xs ≡ goal
last_step f place callable id xs goal at e h =
    sym (at_same xs id)
    ∙ ap (λ rs. at_place xs id (more f place callable rs)) (sym (drop-length permits))
    ∙ ap (λ n. at_place xs id (more f place callable (drop n permits))) (how_many ∙ sym e)
    ∙ h
