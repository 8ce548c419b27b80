-- Laws of the units at the front of a text that pass a test.
use Rattle.std.proofs.Common.{inl, inr, ◌≡◌, ℕ, ◌+◌, ◌<◌, Bool, true, false, List, [], ◌∷◌, ◌++◌, length, take, drop, refl, sym, arith, suc}
use Rattle.std.specs.Prelude.{⊤}
use Rattle.std.proofs.Math.Seq.{drop-append_seam, take-append_seam}
use Rattle.std.proofs.lemmas.List.{take-append-drop}
use Rattle.std.proofs.lemmas.Bool.{cases_Bool}
use Rattle.std.proofs.lemmas.Str.Parse.{digit_from_value}
use Rattle.std.specs.Char.{digit_value, is_ascii_digit}
use Rattle.std.specs.List.{prefix_len}
use Rattle.std.specs.Str.Parse.{AllDigits}
use Rattle.js_num.specs.Reading.{front_digits, after_digits}

-- each unit passes
abbrev pub Each : (ℕ → Bool) → List ℕ → Type 0
Each p [] = ⊤
Each p (c ∷ cs) = (p c ≡ true) × Each p cs

-- the first unit, if there is one, does not
abbrev pub Stops : (ℕ → Bool) → List ℕ → Type 0
Stops p [] = ⊤
Stops p (c ∷ cs) = p c ≡ false

pub prefix_of : (p : ℕ → Bool) (xs rest : List ℕ) → Each p xs → Stops p rest → prefix_len p (xs ++ rest) ≡ length xs
prefix_of p [] [] each stops = refl
prefix_of p [] (c ∷ cs) each stops = rw stops refl
prefix_of p (c ∷ cs) rest each stops = rw (each.0, prefix_of p cs rest each.1 stops) (omega arith)

pub each_in_front : (p : ℕ → Bool) (xs : List ℕ) → Each p (take (prefix_len p xs) xs)
each_in_front p [] = tt
each_in_front p (c ∷ cs) =
    let more : 1 + prefix_len p cs ≡ suc (prefix_len p cs) = omega arith in
    elim (cases_Bool (p c)) [ inl t ↦ rw (t, more) (t, each_in_front p cs) | inr f ↦ rw f tt ]

pub stops_after : (p : ℕ → Bool) (xs : List ℕ) → Stops p (drop (prefix_len p xs) xs)
stops_after p [] = tt
stops_after p (c ∷ cs) =
    let more : 1 + prefix_len p cs ≡ suc (prefix_len p cs) = omega arith in
    elim (cases_Bool (p c)) [ inl t ↦ rw (t, more) (stops_after p cs) | inr f ↦ rw f f ]

pub digit_yes : (c : ℕ) → digit_value c < 10 → is_ascii_digit c ≡ true
digit_yes c h = let range = digit_from_value c h in grind (arith, range.0, range.1)

pub digit_is : (c : ℕ) → is_ascii_digit c ≡ true → digit_value c < 10
digit_is c h = grind arith

pub each_digit : (ds : List ℕ) → AllDigits 10 ds → Each is_ascii_digit ds
each_digit [] h = tt
each_digit (c ∷ cs) h = (digit_yes c h.0, each_digit cs h.1)

pub all_digits : (ds : List ℕ) → Each is_ascii_digit ds → AllDigits 10 ds
all_digits [] h = tt
all_digits (c ∷ cs) h = (digit_is c h.0, all_digits cs h.1)

pub front_digits_of : (ds rest : List ℕ) → AllDigits 10 ds → Stops is_ascii_digit rest → front_digits (ds ++ rest) ≡ ds
front_digits_of ds rest digits stops = rw (prefix_of is_ascii_digit ds rest (each_digit ds digits) stops) (take-append_seam ds rest)

pub after_digits_of : (ds rest : List ℕ) → AllDigits 10 ds → Stops is_ascii_digit rest → after_digits (ds ++ rest) ≡ rest
after_digits_of ds rest digits stops = rw (prefix_of is_ascii_digit ds rest (each_digit ds digits) stops) (drop-append_seam ds rest)

pub front_digits_are : (text : List ℕ) → AllDigits 10 (front_digits text)
front_digits_are text = all_digits (front_digits text) (each_in_front is_ascii_digit text)

pub split_again : (text : List ℕ) → text ≡ front_digits text ++ after_digits text
split_again text = sym (take-append-drop (prefix_len is_ascii_digit text) text)
