-- How many places are live.
use Rattle.std.proofs.Common.{◌≡◌, ℕ, zero, suc, ◌+◌, ◌<◌, ◌≤◌, Bool, true, false, cond, List, [], ◌∷◌, length, get_or, take, map, sym, refl, ap, ◌∙◌, arith}
use Rattle.js_store.specs.declared.slot.Entry.{Entry}
use Rattle.js_store.specs.Tables.{table_entry}
use Rattle.js_slots.specs.Tables.{map_size}

pub one_at_most : (b : Bool) → cond b 1 0 ≤ 1
one_at_most true = omega arith
one_at_most false = omega arith

module _ {R S : Type 0} where
  -- how many of the first places are live
  abbrev pub live_of : ℕ → List (Entry R S) → ℕ
  live_of at es = map_size (map table_entry (take at es))

  more : (at : ℕ) (es : List (Entry R S)) (d : Entry R S) → at < length es → live_of (suc at) es ≡ live_of at es + cond (get_or es at d).live 1 0
  more at [] d l = absurd (omega arith)
  more zero (e ∷ es) d l = omega arith
  more (suc at) (e ∷ es) d l = let h = more at es d (omega arith) in omega arith

  pub one_counted : (at n m : ℕ) (es : List (Entry R S)) (d : Entry R S) → at < length es → n ≡ live_of at es → m ≡ cond (get_or es at d).live 1 0 → n + m ≡ live_of (at + 1) es
  one_counted at n m es d l e h =
      let one : at + 1 ≡ suc at = omega arith in
      ap (λ k. k + m) e ∙ ap (λ k. live_of at es + k) h ∙ sym (more at es d l) ∙ ap (λ k. live_of k es) (sym one)

  pub all_counted : (at : ℕ) (es : List (Entry R S)) → length es ≤ at → live_of at es ≡ map_size (map table_entry es)
  all_counted zero [] l = refl
  all_counted (suc at) [] l = refl
  all_counted zero (e ∷ es) l = absurd (omega arith)
  all_counted (suc at) (e ∷ es) l = ap (λ n. cond e.live 1 0 + n) (all_counted at es (omega arith))

  pub few_live : (at : ℕ) (es : List (Entry R S)) → live_of at es ≤ at
  few_live zero es = omega arith
  few_live (suc at) [] = omega arith
  few_live (suc at) (e ∷ es) = few_by e.live (live_of at es) at (few_live at es) where
    few_by : (b : Bool) (m n : ℕ) → m ≤ n → cond b 1 0 + m ≤ suc n
    few_by true m n h = omega arith
    few_by false m n h = omega arith
