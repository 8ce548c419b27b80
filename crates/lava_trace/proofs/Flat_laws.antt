-- What is left of a list that is written item by item.
use Rattle.std.proofs.Common.{◌≡◌, ℕ, ◌+◌, ◌<◌, List, ◌++◌, length, drop, get_or, ap}
use Rattle.std.proofs.lemmas.List.{drop_more}
use Rattle.std.specs.List.{flat_map}

-- what is left of a list at a place: the item there, and what is left behind it
pub left_of : {A B : Type 0} (f : A → List B) (xs : List A) (n : ℕ) (d : A) → n < length xs → flat_map f (drop n xs) ≡ f (get_or xs n d) ++ flat_map f (drop (n + 1) xs)
left_of f xs n d h = ap (λ l. flat_map f l) (drop_more xs n d h)
