-- An object that is made step by step.
use Rattle.std.proofs.Common.{◌≡◌, ℕ, zero, suc, ◌+◌, ◌<◌, List, [], ◌∷◌, ◌++◌, length, None, refl, ap, ◌∙◌, arith}
use Rattle.std.proofs.Math.ListN.{set}
use Rattle.std.proofs.Math.Seq.{get_or-append_seam}
use Rattle.std.proofs.lemmas.List.{get_or-set_same, length-set, length_push, set-get_or}
use Rattle.js_store.specs.Objects.{at_place, fresh, object_at, plain_marks}
use Rattle.js_store.specs.declared.slot.Slot.TheVariants as slot
use Rattle.lava_start.specs.Making.{Thing}

set_twice : (xs : List Thing) (i : ℕ) (a b : Thing) → set (set xs i a) i b ≡ set xs i b
set_twice [] i a b = refl
set_twice (x ∷ xs) zero a b = refl
set_twice (x ∷ xs) (suc i) a b = ap (λ t. x ∷ t) (set_twice xs i a b)

-- two changes of one object are one
pub at_twice : (xs : List Thing) (i : ℕ) (f g : Thing → Thing) → i < length xs → at_place (at_place xs i f) i g ≡ at_place xs i (λ o. g (f o))
at_twice xs i f g lt = ap (λ m. set (set xs i (f (object_at xs i))) i (g m)) (get_or-set_same xs i (f (object_at xs i)) (fresh None plain_marks slot.Plain) lt) ∙ set_twice xs i (f (object_at xs i)) (g (f (object_at xs i)))

-- no change
pub at_same : (xs : List Thing) (i : ℕ) → at_place xs i (λ o. o) ≡ xs
at_same xs i = set-get_or xs i (fresh None plain_marks slot.Plain)

set_seam : (xs : List Thing) (x y : Thing) → set (xs ++ x ∷ []) (length xs) y ≡ xs ++ y ∷ []
set_seam [] x y = refl
set_seam (z ∷ xs) x y = ap (λ t. z ∷ t) (set_seam xs x y)

at_seam : (xs : List Thing) (x : Thing) (f : Thing → Thing) → at_place (xs ++ x ∷ []) (length xs) f ≡ xs ++ f x ∷ []
at_seam xs x f = set_seam xs x (f (object_at (xs ++ x ∷ []) (length xs))) ∙ ap (λ o. xs ++ f o ∷ []) (get_or-append_seam xs x [] (fresh None plain_marks slot.Plain))

pub length_at : (xs : List Thing) (i : ℕ) (f : Thing → Thing) → length (at_place xs i f) ≡ length xs
length_at xs i f = length-set xs i (f (object_at xs i))

-- the objects are those before with one more, which stands at this place
pub record Last (old : List Thing) (o : Thing) (i : ℕ) (new : List Thing) : Type 0 where
  pub is : new ≡ old ++ o ∷ []
  pub at : i ≡ length old

-- it is there
pub inside : (old : List Thing) (o : Thing) (i : ℕ) (new : List Thing) → Last old o i new → i < length new
inside old o i new l = let n : length new ≡ length old + 1 = ap length l.is ∙ length_push old o in let k : i ≡ length old = l.at in omega (arith, n, k)

-- and changes
pub changed : (old : List Thing) (o : Thing) (i : ℕ) (new newer : List Thing) (f : Thing → Thing) → Last old o i new → newer ≡ at_place new i f → Last old (f o) i newer
changed old o i new newer f l e =
    record {
      is = e ∙ ap (λ xs. at_place xs i f) l.is ∙ ap (λ k. at_place (old ++ o ∷ []) k f) l.at ∙ at_seam old o f;
      at = l.at;
    }
