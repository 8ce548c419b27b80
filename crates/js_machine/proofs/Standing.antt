-- Where bodies stand.
use Rattle.std.proofs.Common.{◌≡◌, ℕ, ◌<◌, ◌-◌, true, List, [], ◌∷◌, length, get_or, reverse, Some, None, refl, sym, ap, ◌∙◌, arith}
use Rattle.std.proofs.lemmas.Bool.{eqb-true}
use Rattle.std.proofs.lemmas.List.{get_or-reverse, length-reverse}
use Rattle.js_operation.specs.js_run.Parties.{first_body}
use Rattle.js_machine.specs.Bodies.{bodies_of, is_grounded, running_of, scope_of, stood_in}
use Rattle.js_machine.specs.declared.body.Body.{Body}

pub standing : (s : ℕ) (bs : List Body) → is_grounded s bs ≡ true → s ≡ scope_of (bodies_of s bs)
standing s [] g = eqb-true s 0 g
standing s (b ∷ bs) g = refl

pub moved : (s t : ℕ) (bs : List Body) → bodies_of t bs ≡ stood_in t (bodies_of s bs)
moved s t [] = refl
moved s t (b ∷ bs) = refl

unmoved_by : (s t : ℕ) (bs : List Body) → length bs ≡ 0 → bodies_of s bs ≡ stood_in t (bodies_of s bs)
unmoved_by s t [] e = refl
unmoved_by s t (b ∷ bs) e = absurd (omega (arith, e))

grounded_by : (s t : ℕ) (bs : List Body) → (length bs ≡ 0 → ⊥) → is_grounded s bs ≡ true → is_grounded t bs ≡ true
grounded_by s t [] n g = absurd (n refl)
grounded_by s t (b ∷ bs) n g = g

pub unmoved : (s t : ℕ) (xs : List Body) → length xs ≡ 0 → bodies_of s (reverse xs) ≡ stood_in t (bodies_of s (reverse xs))
unmoved s t xs e = unmoved_by s t (reverse xs) (length-reverse xs ∙ e)

pub still_grounded : (s t : ℕ) (xs : List Body) → (length xs ≡ 0 → ⊥) → is_grounded s (reverse xs) ≡ true → is_grounded t (reverse xs) ≡ true
still_grounded s t xs n g = grounded_by s t (reverse xs) (λ e. n (sym (length-reverse xs) ∙ e)) g

first_is : (s : ℕ) (b : Body) (ys : List Body) → 0 < length ys → b ≡ get_or ys 0 b → first_body (bodies_of s ys) ≡ running_of (scope_of (bodies_of s ys)) (Some b)
first_is s b [] l e = absurd (omega (arith, l))
first_is s b (y ∷ ys) l e = ap (λ x. running_of s (Some x)) (sym e)

none_first : (s : ℕ) (ys : List Body) → length ys ≡ 0 → first_body (bodies_of s ys) ≡ running_of (scope_of (bodies_of s ys)) None
none_first s [] e = refl
none_first s (y ∷ ys) e = absurd (omega (arith, e))

-- the newest body is the one that runs
pub newest : (s : ℕ) (b : Body) (xs : List Body) → (length xs ≡ 0 → ⊥) → b ≡ get_or xs (length xs - 1) b → first_body (bodies_of s (reverse xs)) ≡ running_of (scope_of (bodies_of s (reverse xs))) (Some b)
newest s b xs n e =
    let some : 0 < length xs = omega (arith, n) in
    let at : length xs - 1 - 0 ≡ length xs - 1 = omega arith in
    first_is s b (reverse xs) (omega (arith, length-reverse xs)) (e ∙ ap (λ i. get_or xs i b) (sym at) ∙ sym (get_or-reverse xs 0 b some))

pub no_newest : (s : ℕ) (xs : List Body) → length xs ≡ 0 → first_body (bodies_of s (reverse xs)) ≡ running_of (scope_of (bodies_of s (reverse xs))) None
no_newest s xs e = none_first s (reverse xs) (length-reverse xs ∙ e)
