-- Units that are compared four at a time.
use Rattle.std.proofs.Common.{◌≡◌, ℕ, ◌+◌, ◌<◌, ◌≤◌, Fits, w16, List, [], ◌∷◌, ◌++◌, length, get_or, take, ap, sym, ◌∙◌, arith}
use Rattle.std.proofs.lemmas.List.{take_more}
use Rattle.js_text.specs.Fingerprints.{word_of}

-- a number of four units tells them
told_by_word : (a b c d e f g h : ℕ) → Fits w16 a → Fits w16 b → Fits w16 c → Fits w16 e → Fits w16 f → Fits w16 g → word_of a b c d ≡ word_of e f g h → (a ≡ e) × (b ≡ f) × (c ≡ g) × (d ≡ h)
told_by_word a b c d e f g h a_fits b_fits c_fits e_fits f_fits g_fits same = (omega arith, omega arith, omega arith, omega arith)

-- one unit more is the same
same_next : (xs ys : List ℕ) (at next : ℕ) → at + 1 ≡ next → at < length xs → length ys ≡ length xs → take at xs ≡ take at ys → get_or xs at 0 ≡ get_or ys at 0 → take next xs ≡ take next ys
same_next xs ys at next is inside even before here =
    ap (λ n. take n xs) (sym is)
    ∙ take_more xs at 0 inside
    ∙ ap (λ l. l ++ get_or xs at 0 ∷ []) before
    ∙ ap (λ u. take at ys ++ u ∷ []) here
    ∙ sym (take_more ys at 0 (omega arith))
    ∙ ap (λ n. take n ys) is

module _ (xs ys : List ℕ) (at : ℕ) (xs_fit : (i : ℕ) → Fits w16 (get_or xs i 0)) (ys_fit : (i : ℕ) → Fits w16 (get_or ys i 0)) where
  -- four units more are the same, where their numbers are
  pub same_by_word : at + 4 ≤ length xs → length ys ≡ length xs
      → word_of (get_or xs at 0) (get_or xs (at + 1) 0) (get_or xs (at + 2) 0) (get_or xs (at + 3) 0) ≡ word_of (get_or ys at 0) (get_or ys (at + 1) 0) (get_or ys (at + 2) 0) (get_or ys (at + 3) 0)
      → take at xs ≡ take at ys → take (at + 4) xs ≡ take (at + 4) ys
  same_by_word inside even same before =
      let told = told_by_word (get_or xs at 0) (get_or xs (at + 1) 0) (get_or xs (at + 2) 0) (get_or xs (at + 3) 0) (get_or ys at 0) (get_or ys (at + 1) 0) (get_or ys (at + 2) 0) (get_or ys (at + 3) 0) (xs_fit at) (xs_fit (at + 1)) (xs_fit (at + 2)) (ys_fit at) (ys_fit (at + 1)) (ys_fit (at + 2)) same in
      let one = same_next xs ys at (at + 1) (omega arith) (omega arith) even before told.0 in
      let two = same_next xs ys (at + 1) (at + 2) (omega arith) (omega arith) even one told.1 in
      let three = same_next xs ys (at + 2) (at + 3) (omega arith) (omega arith) even two told.2 in
      same_next xs ys (at + 3) (at + 4) (omega arith) (omega arith) even three told.3
