-- Changes of one object after another, and of the last one.
use Rattle.std.proofs.Common.{◌≡◌, ℕ, zero, suc, ◌+◌, ◌<◌, ◌≤◌, List, [], ◌∷◌, ◌++◌, length, take, get_or, refl, ap, sym, ◌∙◌, arith}
use Rattle.std.specs.Prelude.{Bool, Result, Ok, Err, OnOk}
use Rattle.lava_base.specs.Ids.{same_made_symbol}
use Rattle.lava_base.specs.declared.ids.MadeSymbol.{MadeSymbol}
use Rattle.lava_base.specs.declared.ids.Ref.{Ref}
use Rattle.js_text.specs.declared.value.Key.TheVariants as key
use Rattle.js_text.specs.declared.value.Value.{Value}
use Rattle.js_store.specs.Objects.{Object, at_place}
use Rattle.js_conversions.specs.js_operations.MadeObjects.{with_data, with_elements}

-- two changes of one object are one
pub at_twice : (os : List (Object Ref MadeSymbol)) (id : ℕ) (f g : Object Ref MadeSymbol → Object Ref MadeSymbol) → id < length os
    → at_place (at_place os id f) id g ≡ at_place os id (λ o. g (f o))
at_twice [] id f g l = absurd (omega arith)
at_twice (o ∷ os) zero f g l = refl
at_twice (o ∷ os) (suc id) f g l = ap (λ t. o ∷ t) (at_twice os id f g (omega arith))

-- one change after another, where both are made
pub put_twice : {A E : Type 0} (r : Result A E) (os a b : List (Object Ref MadeSymbol)) (id : ℕ) (f g : Object Ref MadeSymbol → Object Ref MadeSymbol) → id < length os
    → a ≡ at_place os id f → OnOk r (b ≡ at_place a id g) → OnOk r (b ≡ at_place os id (λ o. g (f o)))
put_twice (Ok x) os a b id f g l p q = q ∙ ap (λ t. at_place t id g) p ∙ at_twice os id f g l
put_twice (Err e) os a b id f g l p q = tt

pub length-at_place : (os : List (Object Ref MadeSymbol)) (id : ℕ) (f : Object Ref MadeSymbol → Object Ref MadeSymbol) → length (at_place os id f) ≡ length os
length-at_place [] id f = refl
length-at_place (o ∷ os) zero f = refl
length-at_place (o ∷ os) (suc id) f = ap suc (length-at_place os id f)

-- nothing is changed
pub at_unchanged : (os : List (Object Ref MadeSymbol)) (id : ℕ) → id < length os → at_place os id (λ o. o) ≡ os
at_unchanged [] id l = absurd (omega arith)
at_unchanged (o ∷ os) zero l = refl
at_unchanged (o ∷ os) (suc id) l = ap (λ t. o ∷ t) (at_unchanged os id (omega arith))

-- it is still there
pub within_after : (os : List (Object Ref MadeSymbol)) (id k : ℕ) (f : Object Ref MadeSymbol → Object Ref MadeSymbol) → k < length os → k < length (at_place os id f)
within_after os id k f l = let e = length-at_place os id f in omega arith

-- the objects before it are as they were
pub before_after : (os : List (Object Ref MadeSymbol)) (id : ℕ) (f : Object Ref MadeSymbol → Object Ref MadeSymbol) → take id (at_place os id f) ≡ take id os
before_after [] zero f = refl
before_after [] (suc id) f = refl
before_after (o ∷ os) zero f = refl
before_after (o ∷ os) (suc id) f = ap (λ t. o ∷ t) (before_after os id f)

-- the last object is changed
pub at_end : (os : List (Object Ref MadeSymbol)) (o : Object Ref MadeSymbol) (id : ℕ) (f : Object Ref MadeSymbol → Object Ref MadeSymbol) → id ≡ length os
    → at_place (os ++ o ∷ []) id f ≡ os ++ f o ∷ []
at_end os o id f e = ap (λ n. at_place (os ++ o ∷ []) n f) e ∙ last os o f where
  last : (os : List (Object Ref MadeSymbol)) (o : Object Ref MadeSymbol) (f : Object Ref MadeSymbol → Object Ref MadeSymbol) → at_place (os ++ o ∷ []) (length os) f ≡ os ++ f o ∷ []
  last [] o f = refl
  last (p ∷ os) o f = ap (λ t. p ∷ t) (last os o f)

-- a new object is changed
pub made_and_put : (os a b : List (Object Ref MadeSymbol)) (o : Object Ref MadeSymbol) (id : ℕ) (f : Object Ref MadeSymbol → Object Ref MadeSymbol) → id ≡ length os
    → a ≡ os ++ o ∷ [] → b ≡ at_place a id f → b ≡ os ++ f o ∷ []
made_and_put os a b o id f e p q = q ∙ ap (λ t. at_place t id f) p ∙ at_end os o id f e

-- the first ones of a list with more
pub first_of_more : (os more : List (Object Ref MadeSymbol)) (n : ℕ) → n ≡ length os → take n (os ++ more) ≡ os
first_of_more [] more n e = ap (λ m. take m more) e
first_of_more (o ∷ os) more n e = ap (λ m. take m (o ∷ (os ++ more))) e ∙ ap (λ t. o ∷ t) (first_of_more os more (length os) refl)
