-- What holds of each item so far, with one item more.
use Rattle.std.proofs.Common.{ℕ, ◌+◌, ◌<◌, List, length, get_or, take}
use Rattle.std.proofs.lemmas.List.Elements.{All-from_recursion, All-more, recursion_from_All}
use Rattle.std.specs.List.{AllByRecursion}

pub one_more : {X : Type 0} (P : X → Type 0) (xs : List X) (i : ℕ) (d : X) → i < length xs → AllByRecursion P (take i xs) → P (get_or xs i d) → AllByRecursion P (take (i + 1) xs)
one_more P xs i d l all here = recursion_from_All P (take (i + 1) xs) (All-more P xs i d l (All-from_recursion P (take i xs) all) here)
