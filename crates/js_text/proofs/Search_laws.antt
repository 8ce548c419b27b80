-- A search that moves on by what the part's fronts say skips no place where the part stands.
use Rattle.std.proofs.Common.{◌≡◌, ℕ, ◌+◌, ◌-◌, ◌<◌, ◌≤◌, List, length, get_or, take, drop, ap, sym, subst, ◌∙◌, arith, length-drop}
use Rattle.std.proofs.lemmas.Grind.{same_number_lists}
use Rattle.std.proofs.lemmas.List.{get_or-take, get_or-drop, length-take-le}
use Rattle.js_text.proofs.Places.{part_at, none_before_next}
use Rattle.js_text.specs.Fronts.{StandsUpTo, HasPeriod, IsAdvance}
use Rattle.js_text.specs.Search.{StandsAt}
use Rattle.js_text.specs.declared.fronts.Advance.{Advance}

-- a front that stands has its period
pub period_stands : (part : List ℕ) (period matched : ℕ) → StandsUpTo part part period matched → HasPeriod part (period + matched) period
period_stands part period matched stands i l =
    let place : period + i ≡ i + period = omega arith in
    stands i (omega arith) ∙ ap (λ k. get_or part k 0) place

-- the same of equal lists
module _ (a b units part : List ℕ) (at n : ℕ) (e : a ≡ units) (f : b ≡ part) where
  pub stands_in : StandsUpTo a b at n → StandsUpTo units part at n
  stands_in h i l = ap (λ p. get_or p i 0) (sym f) ∙ h i l ∙ ap (λ u. get_or u (at + i) 0) e

  pub ends_in : (at + n < length a → n < length b → get_or b n 0 ≡ get_or a (at + n) 0 → ⊥) → at + n < length units → n < length part → get_or part n 0 ≡ get_or units (at + n) 0 → ⊥
  ends_in h = subst (λ u. at + n < length u → n < length part → get_or part n 0 ≡ get_or u (at + n) 0 → ⊥) e
      (subst (λ p. at + n < length a → n < length p → get_or p n 0 ≡ get_or a (at + n) 0 → ⊥) f h)

module _ (units part : List ℕ) where
  -- where the part stands, each of its units does
  unit_stands : (at i : ℕ) → StandsAt units part at → i < length part → get_or units (at + i) 0 ≡ get_or part i 0
  unit_stands at i stands l =
      sym (get_or-drop at units i 0)
      ∙ sym (get_or-take (length part) (drop at units) i 0 l)
      ∙ ap (λ xs. get_or xs i 0) (sym (part_at units part at) ∙ stands.1)

  -- and where each of them does, the part stands
  pub stands_by_units : (at : ℕ) → at + length part ≤ length units → StandsUpTo units part at (length part) → StandsAt units part at
  stands_by_units at fits stands =
      let count : length (take (length part) (drop at units)) ≡ length part = length-take-le (length part) (drop at units) (omega (arith, length-drop at units)) in (
        fits,
        part_at units part at
            ∙ same_number_lists (take (length part) (drop at units)) part count
            (λ k l.
            let within : k < length part = omega arith in
            get_or-take (length part) (drop at units) k 0 within ∙ get_or-drop at units k 0 ∙ sym (stands k within)),
      )

  -- a unit that differs shows that the part does not stand
  pub apart_by_unit : (at n : ℕ) → n < length part → (get_or part n 0 ≡ get_or units (at + n) 0 → ⊥) → ¬ (StandsAt units part at)
  apart_by_unit at n within differs stands = differs (sym (unit_stands at n stands within))

  module _ (at matched : ℕ) (next : Advance) (stands : StandsUpTo units part at matched) (goes : IsAdvance part matched next) where
    -- what is kept stands where the part moves on to
    pub stands_on : StandsUpTo units part (at + next.places) next.kept
    stands_on i l =
        let place : at + (i + next.places) ≡ at + next.places + i = omega arith in
        goes.same i l ∙ stands (i + next.places) (omega (arith, goes.within)) ∙ ap (λ k. get_or units k 0) place

    -- and in between the part does not stand
    pub none_passed : (from : ℕ) → matched < length part → ((k : ℕ) → from ≤ k → k < at → ¬ (StandsAt units part k)) → (get_or part matched 0 ≡ get_or units (at + matched) 0 → ⊥)
        → (k : ℕ) → from ≤ k → k < at + next.places → ¬ (StandsAt units part k)
    none_passed from within before differs = none_before_next units part from at (at + next.places) before (apart_by_unit at matched within differs)
        (λ k above below here.
        let d = k - at in
        goes.apart d (omega arith) (omega arith)
        (λ i l.
        let place : at + (i + d) ≡ k + i = omega arith in
        sym (unit_stands k i here (omega arith)) ∙ ap (λ p. get_or units p 0) (sym place) ∙ sym (stands (i + d) l)))
