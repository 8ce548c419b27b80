-- A path that is normalised goes down alone.
use Rattle.std.proofs.Common.{◌≡◌, ℕ, ◌-◌, ◌==◌, ◌||◌, List, [], ◌∷◌, ◌++◌, length, take, Bool, true, false, cond, Option, Some, None, codes, bytes_eq, fold, refl, zero, suc}
use Rattle.std.specs.Cmp.{first_so, second_so}
use Rattle.std.specs.List.{list_all}
use Rattle.lava_host.specs.Laws.{has_no_slash, is_plain, are_plain, Paths_stay_inside}
use Rattle.lava_host.specs.Paths.{with_byte, parts, above, entered, is_absolute}

all_of_two : {X : Type 0} (p : X → Bool) (xs : List X) (y : X) → list_all p xs ≡ true → p y ≡ true → list_all p (xs ++ y ∷ []) ≡ true
all_of_two p [] y h here = rw here refl
all_of_two p (x ∷ xs) y h here = rw (first_so (p x) (list_all p xs) h) (all_of_two p xs y (second_so (p x) (list_all p xs) h) here)

all_of_front : {X : Type 0} (p : X → Bool) (n : ℕ) (xs : List X) → list_all p xs ≡ true → list_all p (take n xs) ≡ true
all_of_front p zero xs h = refl
all_of_front p (suc n) [] h = refl
all_of_front p (suc n) (x ∷ xs) h = rw (first_so (p x) (list_all p xs) h) (all_of_front p n xs (second_so (p x) (list_all p xs) h))

up_is_plain : (names : List (List ℕ)) (b : Bool) → list_all is_plain names ≡ true → are_plain (cond b None (Some (take (length names - 1) names))) ≡ true
up_is_plain names true h = refl
up_is_plain names false h = all_of_front is_plain (length names - 1) names h

by_tests : (names : List (List ℕ)) (part : List ℕ) (empty here up : Bool) → bytes_eq part [] ≡ empty → bytes_eq part (codes ".") ≡ here → bytes_eq part (codes "..") ≡ up → list_all is_plain names ≡ true → has_no_slash part ≡ true → are_plain (cond (empty || here) (Some names) (cond up (above names) (Some (names ++ part ∷ [])))) ≡ true
by_tests names part true here up a b c h whole = h
by_tests names part false true up a b c h whole = h
by_tests names part false false true a b c h whole = up_is_plain names (length names == 0) h
by_tests names part false false false a b c h whole = all_of_two is_plain names part h (rw (a, b, c) whole)

step_is_plain : (o : Option (List (List ℕ))) (part : List ℕ) → are_plain o ≡ true → has_no_slash part ≡ true → are_plain (entered o part) ≡ true
step_is_plain None part h whole = refl
step_is_plain (Some names) part h whole =
    by_tests names part (bytes_eq part []) (bytes_eq part (codes ".")) (bytes_eq part (codes "..")) refl refl refl h whole

steps_are_plain : (o : Option (List (List ℕ))) (ps : List (List ℕ)) → are_plain o ≡ true → list_all has_no_slash ps ≡ true → are_plain (fold entered o ps) ≡ true
steps_are_plain o [] h whole = h
steps_are_plain o (p ∷ ps) h whole =
    steps_are_plain (entered o p) ps (step_is_plain o p h (first_so (has_no_slash p) (list_all has_no_slash ps) whole)) (second_so (has_no_slash p) (list_all has_no_slash ps) whole)

byte_more : (b : ℕ) (ps : List (List ℕ)) → (b == 47) ≡ false → list_all has_no_slash ps ≡ true → list_all has_no_slash (with_byte b ps) ≡ true
byte_more b [] other h = rw other refl
byte_more b (p ∷ ps) other h = rw other h

parts_by_test : (b : ℕ) (bs : List ℕ) (t : Bool) → (b == 47) ≡ t → list_all has_no_slash (parts bs) ≡ true → list_all has_no_slash (cond t ([] ∷ parts bs) (with_byte b (parts bs))) ≡ true
parts_by_test b bs true here h = h
parts_by_test b bs false here h = byte_more b (parts bs) here h

parts_are_whole : (bs : List ℕ) → list_all has_no_slash (parts bs) ≡ true
parts_are_whole [] = refl
parts_are_whole (b ∷ bs) = parts_by_test b bs (b == 47) refl (parts_are_whole bs)

path_by_test : (path : List ℕ) (absolute : Bool) → are_plain (cond absolute None (fold entered (Some []) (parts path))) ≡ true
path_by_test path true = refl
path_by_test path false = steps_are_plain (Some []) (parts path) refl (parts_are_whole path)

pub paths_stay_inside : Paths_stay_inside
paths_stay_inside path = path_by_test path (is_absolute path)
