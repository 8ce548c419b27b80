-- The front of bytes up to the first one that passes.
use Rattle.std.proofs.Common.{◌≡◌, ℕ, suc, ◌+◌, ◌≤◌, Bool, true, false, not, cond, nat_lt, List, [], ◌∷◌, ◌++◌, length, take, get_or, Some, None, position, refl, ap, ◌∙◌, sym, arith, ltb-false}
use Rattle.std.proofs.lemmas.Bool.{and_parts}
use Rattle.std.proofs.lemmas.List.{take_at}
use Rattle.std.specs.List.{list_all, position_or_len, prefix_len}
use Rattle.std.specs.Option.{unwrap_or}

-- none of some bytes passes
abbrev pub none_pass : (ℕ → Bool) → List ℕ → Bool
none_pass f xs = list_all (λ x. not (f x)) xs

chosen : (t : Bool) (k n : ℕ) → nat_lt k n ≡ t → k ≤ n → unwrap_or (cond t (Some k) None) n ≡ k
chosen true k n h l = refl
chosen false k n h l = omega (arith, ltb-false k n h, l)

step_le : (t : Bool) (k n : ℕ) → k ≤ n → cond t (1 + k) 0 ≤ suc n
step_le true k n l = omega (arith, l)
step_le false k n l = omega arith

front_le : (f : ℕ → Bool) (xs : List ℕ) → prefix_len f xs ≤ length xs
front_le f [] = omega arith
front_le f (x ∷ xs) = step_le (f x) (prefix_len f xs) (length xs) (front_le f xs)

stops : (f : ℕ → Bool) (rest : List ℕ) → f (get_or rest 0 0) ≡ true → position_or_len f rest ≡ 0
stops f [] h = refl
stops f (b ∷ bs) h = ap (λ t. cond (not t) (1 + position_or_len f bs) 0) h

goes_on : (f : ℕ → Bool) (xs rest : List ℕ) → none_pass f xs ≡ true → position_or_len f rest ≡ 0 → position_or_len f (xs ++ rest) ≡ length xs
goes_on f [] rest h e = e
goes_on f (x ∷ xs) rest h e =
    let parts = and_parts (not (f x)) (none_pass f xs) h in
    let more = goes_on f xs rest parts.1 e in
    ap (λ t. cond t (1 + position_or_len f (xs ++ rest)) 0) parts.0 ∙ omega (arith, more)

-- the front up to the first that passes
pub front_is : (f : ℕ → Bool) (xs rest : List ℕ) → none_pass f xs ≡ true → f (get_or rest 0 0) ≡ true
    → take (unwrap_or (position f (xs ++ rest)) (length (xs ++ rest))) (xs ++ rest) ≡ xs
front_is f xs rest h e =
    ap (λ (n : ℕ). take n (xs ++ rest))
    (chosen (nat_lt (position_or_len f (xs ++ rest)) (length (xs ++ rest))) (position_or_len f (xs ++ rest)) (length (xs ++ rest)) refl (front_le (λ x. not (f x)) (xs ++ rest)))
    ∙ take_at xs rest (position_or_len f (xs ++ rest)) (sym (goes_on f xs rest h (stops f rest e)))
