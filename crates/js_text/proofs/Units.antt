-- The characters that a text's units spell, from a place on.
use Rattle.std.proofs.Common.{◌≡◌, ℕ, ◌+◌, ◌<◌, ◌≤◌, true, false, ◌&&◌, List, [], ◌∷◌, length, drop, get_or, Result, Ok, Err, ap, sym, ◌∙◌, arith}
use Rattle.std.proofs.lemmas.Bool.{ltb-true, leb-true, true≢false}
use Rattle.std.proofs.lemmas.Bool.Decides.{nat_tests}
use Rattle.std.proofs.Math.ListN.{get_or-eq_default}
use Rattle.std.proofs.str.Laws.{both}
use Rattle.std.proofs.str.Utf16.{IsPair, utf16_chars-drop_lone, utf16_chars-drop_pair, utf16_chars-drop_all}
use Rattle.std.specs.Char.Utf16.{is_high_surrogate, is_low_surrogate, surrogate_pair_char, lone_unit_char, utf16_lossy_chars}
use Rattle.std.specs.Prelude.{map}
use Rattle.std.specs.Option.{unwrap_or}
use Rattle.std.specs.Result.{OnErr}

-- the test of a pair says what it tests
pair_of : (u v : ℕ) → (is_high_surrogate u && is_low_surrogate v) ≡ true → IsPair u v
pair_of u v is =
    let parts = both _ _ is in
    let high = both _ _ parts.0 in
    let low = both _ _ parts.1 in
    (leb-true _ _ high.0, ltb-true _ _ high.1, leb-true _ _ low.0, ltb-true _ _ low.1)

pair_is : (u v : ℕ) → IsPair u v → (is_high_surrogate u && is_low_surrogate v) ≡ true
pair_is u v pair = grind (arith, nat_tests)

module _ (units : List ℕ) (at : ℕ) where
  -- a pair is one character
  pub lossy-drop_pair : at + 1 < length units → (is_high_surrogate (get_or units at 0) && is_low_surrogate (get_or units (at + 1) 0)) ≡ true
      → utf16_lossy_chars (drop at units) ≡ surrogate_pair_char (get_or units at 0) (get_or units (at + 1) 0) ∷ utf16_lossy_chars (drop (at + 2) units)
  lossy-drop_pair within pair = ap (map (λ o. unwrap_or o 0xFFFD)) (utf16_chars-drop_pair units at within (pair_of _ _ pair))

  -- a unit that is in no pair is one character
  pub lossy-drop_lone : at < length units → (IsPair (get_or units at 0) (get_or units (at + 1) 0) → ⊥)
      → utf16_lossy_chars (drop at units) ≡ unwrap_or (lone_unit_char (get_or units at 0)) 0xFFFD ∷ utf16_lossy_chars (drop (at + 1) units)
  lossy-drop_lone within apart = ap (map (λ o. unwrap_or o 0xFFFD)) (utf16_chars-drop_lone units at within apart)

  -- past the end there is none
  pub lossy-drop_all : length units ≤ at → utf16_lossy_chars (drop at units) ≡ []
  lossy-drop_all past = ap (map (λ o. unwrap_or o 0xFFFD)) (utf16_chars-drop_all units at past)

  -- what shows that no pair begins here
  pub apart_by_lead : is_high_surrogate (get_or units at 0) ≡ false → IsPair (get_or units at 0) (get_or units (at + 1) 0) → ⊥
  apart_by_lead test pair = true≢false (sym (both _ _ (pair_is _ _ pair)).0 ∙ test)

  pub apart_by_trail : is_low_surrogate (get_or units (at + 1) 0) ≡ false → IsPair (get_or units at 0) (get_or units (at + 1) 0) → ⊥
  apart_by_trail test pair = true≢false (sym (both _ _ (pair_is _ _ pair)).1 ∙ test)

  pub apart_by_end : length units ≤ at + 1 → IsPair (get_or units at 0) (get_or units (at + 1) 0) → ⊥
  apart_by_end past pair = omega (arith, get_or-eq_default units 0 {n = at + 1} past, pair.2)

-- what holds anyway holds after an error
pub on_err : {T E P : Type 0} (r : Result T E) → P → OnErr r P
on_err (Ok x) p = tt
on_err (Err e) p = p
