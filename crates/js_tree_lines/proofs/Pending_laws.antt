-- Nodes that are put before the others.
use Rattle.std.proofs.Common.{◌≡◌, ℕ, ◌+◌, ◌-◌, ◌<◌, ◌≤◌, List, [], ◌∷◌, ◌++◌, map, length, drop, get_or, refl, ap, sym, ◌∙◌, arith}
use Rattle.std.proofs.lemmas.List.{reverse-append, drop_more}
use Rattle.js_names.specs.Lists.{flat}
use Rattle.js_tree_lines.specs.Lines.{LineNode}
use Rattle.js_tree_lines.specs.Pending_lines.{at_depth, line_of, pending}
use Rattle.js_tree_lines.specs.declared.node.PendingLine.{PendingLine}

pub pending_push : (l : List PendingLine) (p : PendingLine) → pending (l ++ p ∷ []) ≡ line_of p ∷ pending l
pending_push l p = ap (λ r. map line_of r) (reverse-append l (p ∷ []))

-- the items of a list from a place on, before others
pub before_of : {A : Type 0} (f : A → LineNode) (d : ℕ) (xs : List A) (n : ℕ) (x : A) (s : List (ℕ × LineNode)) → 0 < n → n ≤ length xs → x ≡ get_or xs (n - 1) x
    → map (at_depth d) (map f (drop (n - 1) xs)) ++ s ≡ at_depth d (f x) ∷ (map (at_depth d) (map f (drop n xs)) ++ s)
before_of f d xs n x s some within is =
    let next : n - 1 + 1 ≡ n = omega (arith, some) in
    ap (λ l. map (at_depth d) (map f l) ++ s) (drop_more xs (n - 1) x (omega (arith, some, within)))
    ∙ ap (λ y. at_depth d (f y) ∷ (map (at_depth d) (map f (drop (n - 1 + 1) xs)) ++ s)) (sym is)
    ∙ ap (λ k. at_depth d (f x) ∷ (map (at_depth d) (map f (drop k xs)) ++ s)) next

-- what is left of a list at a place: the item there, and what is left behind it
pub left_of : {A B : Type 0} (f : A → List B) (xs : List A) (n : ℕ) (d : A) → n < length xs → flat f (drop n xs) ≡ f (get_or xs n d) ++ flat f (drop (n + 1) xs)
left_of f xs n d h = ap (λ l. flat f l) (drop_more xs n d h)
