-- The order of two texts goes by their pieces.
use Rattle.std.proofs.Common.{◌≡◌, ℕ, ◌+◌, ◌≤◌, List, [], ◌∷◌, ◌++◌, length, take, drop, refl, ap, sym, ◌∙◌, take-append-drop, arith, nat_cmp}
use Rattle.std.proofs.Math.Logic.{◌⊎◌, ⊎_elim}
use Rattle.std.proofs.lemmas.List.{length-drop, drop-drop, drop_all}
use Rattle.std.specs.Cmp.{nat_cmp_is}
use Rattle.std.specs.Ordering.{ordering_then}
use Rattle.std.specs.declared.cmp.Ordering.{Ordering}
use Rattle.std.specs.declared.cmp.Ordering.TheVariants.{Less, Equal, Greater}
use Rattle.js_text.specs.Search.{order_of_units}

then_again : (a b c : Ordering) → ordering_then a (ordering_then b c) ≡ ordering_then (ordering_then a b) c
then_again Less b c = refl
then_again Equal b c = refl
then_again Greater b c = refl

then_first : (a b : Ordering) → (a ≡ Equal → ⊥) → a ≡ ordering_then a b
then_first Less b apart = refl
then_first Equal b apart = absurd (apart refl)
then_first Greater b apart = refl

order-append : (x y a b : List ℕ) → length x ≡ length y → order_of_units (x ++ a) (y ++ b) ≡ ordering_then (order_of_units x y) (order_of_units a b)
order-append [] [] a b e = refl
order-append [] (y ∷ ys) a b e = absurd (omega arith)
order-append (x ∷ xs) [] a b e = absurd (omega arith)
order-append (x ∷ xs) (y ∷ ys) a b e = ap (ordering_then (nat_cmp x y)) (order-append xs ys a b (omega arith)) ∙ then_again (nat_cmp x y) (order_of_units xs ys) (order_of_units a b)

module _ (xs ys u v : List ℕ) (at : ℕ) (first : u ≡ take (length u) (drop at xs)) (second : v ≡ take (length u) (drop at ys)) (even : length v ≡ length u) where
  -- two pieces decide, and where they are the same, what follows them does
  by_pieces : order_of_units (drop at xs) (drop at ys) ≡ ordering_then (order_of_units u v) (order_of_units (drop (at + length u) xs) (drop (at + length u) ys))
  by_pieces =
      let n = length u in
      let front : drop at xs ≡ u ++ drop (at + n) xs = sym (take-append-drop n (drop at xs)) ∙ (λ k. sym first k ++ drop-drop n at xs k) in
      let back : drop at ys ≡ v ++ drop (at + n) ys = sym (take-append-drop n (drop at ys)) ∙ (λ k. sym second k ++ drop-drop n at ys k) in
      (λ k. order_of_units (front k) (back k)) ∙ order-append u v (drop (at + n) xs) (drop (at + n) ys) (sym even)

  pub same_pieces : Equal ≡ order_of_units u v → order_of_units (drop at xs) (drop at ys) ≡ order_of_units (drop (at + length u) xs) (drop (at + length u) ys)
  same_pieces same = by_pieces ∙ ap (λ o. ordering_then o (order_of_units (drop (at + length u) xs) (drop (at + length u) ys))) (sym same)

  pub pieces_differ : (r : Ordering) → r ≡ order_of_units u v → (r ≡ Equal → ⊥) → r ≡ order_of_units (drop at xs) (drop at ys)
  pieces_differ r is apart =
      let rest = order_of_units (drop (at + length u) xs) (drop (at + length u) ys) in
      then_first r rest apart ∙ ap (λ o. ordering_then o rest) is ∙ sym by_pieces

first_ends : (b : List ℕ) (m n : ℕ) → m + length b ≡ n → order_of_units [] b ≡ nat_cmp m n
first_ends [] m n e = nat_cmp_is m n Equal (omega arith)
first_ends (y ∷ ys) m n e = nat_cmp_is m n Less (omega arith)

second_ends : (a : List ℕ) (m n : ℕ) → n + length a ≡ m → order_of_units a [] ≡ nat_cmp m n
second_ends [] m n e = nat_cmp_is m n Equal (omega arith)
second_ends (x ∷ xs) m n e = nat_cmp_is m n Greater (omega arith)

-- where one text ends, the lengths decide
pub lengths_decide : (xs ys : List ℕ) (at : ℕ) → at ≤ length xs → at ≤ length ys → (length xs ≤ at) ⊎ (length ys ≤ at) → order_of_units (drop at xs) (drop at ys) ≡ nat_cmp (length xs) (length ys)
lengths_decide xs ys at p q ends = ⊎_elim
    (λ l. ap (λ a. order_of_units a (drop at ys)) (drop_all at xs l) ∙ first_ends (drop at ys) (length xs) (length ys) (omega (arith, length-drop at ys)))
    (λ l. ap (λ b. order_of_units (drop at xs) b) (drop_all at ys l) ∙ second_ends (drop at xs) (length xs) (length ys) (omega (arith, length-drop at xs)))
    ends
