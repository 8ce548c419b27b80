-- The newest frame.
use Rattle.std.proofs.Common.{◌≡◌, ℕ, ◌<◌, ◌-◌, List, [], ◌∷◌, drop, get_or, length, reverse, Some, None, refl, sym, ap, ◌∙◌, arith}
use Rattle.std.proofs.lemmas.List.{get_or-reverse, length-reverse}
use Rattle.lava_base.specs.declared.ids.MadeSymbol.{MadeSymbol}
use Rattle.lava_base.specs.declared.ids.Ref.{Ref}
use Rattle.js_text.specs.declared.value.Value.{Value}
use Rattle.js_machine.specs.Views.{newest, top}
use Rattle.js_machine.specs.declared.frame.Frame.{Frame}

pub first_back : (f : Frame) (fs : List Frame) → newest fs ≡ Some f → fs ≡ f ∷ drop 1 fs
first_back f [] e = cc
first_back f (g ∷ fs) e = let same : g ≡ f = cc in ap (λ x. x ∷ fs) same

first_is : (f : Frame) (fs : List Frame) → 0 < length fs → f ≡ get_or fs 0 f → Some f ≡ newest fs
first_is f [] l e = absurd (omega (arith, l))
first_is f (g ∷ fs) l e = ap Some e

-- the last one that was pushed
pub newest_is : (f : Frame) (fs : List Frame) → (length fs ≡ 0 → ⊥) → f ≡ get_or fs (length fs - 1) f → Some f ≡ newest (reverse fs)
newest_is f fs n e =
    let some : 0 < length fs = omega (arith, n) in
    let at : length fs - 1 - 0 ≡ length fs - 1 = omega arith in
    first_is f (reverse fs) (omega (arith, some, length-reverse fs)) (e ∙ ap (λ i. get_or fs i f) (sym at) ∙ sym (get_or-reverse fs 0 f some))

none_is : (fs : List Frame) → length fs ≡ 0 → None ≡ newest fs
none_is [] e = refl
none_is (f ∷ fs) e = absurd (omega (arith, e))

pub no_newest : (fs : List Frame) → length fs ≡ 0 → None ≡ newest (reverse fs)
no_newest fs e = none_is (reverse fs) (length-reverse fs ∙ e)

-- the newest value
first_value : (d : Value Ref MadeSymbol) (vs : List (Value Ref MadeSymbol)) → 0 < length vs → top vs ≡ get_or vs 0 d
first_value d [] l = absurd (omega (arith, l))
first_value d (v ∷ vs) l = refl

pub top_is : (v : Value Ref MadeSymbol) (vs : List (Value Ref MadeSymbol)) (n : ℕ) → n ≡ length vs → (n ≡ 0 → ⊥) → v ≡ get_or vs (n - 1) v → top (reverse vs) ≡ v
top_is v vs n c z e =
    let some : 0 < length vs = omega (arith, c, z) in
    let at : length vs - 1 - 0 ≡ n - 1 = omega (arith, c) in
    first_value v (reverse vs) (omega (arith, some, length-reverse vs)) ∙ get_or-reverse vs 0 v some ∙ ap (λ i. get_or vs i v) at ∙ sym e
