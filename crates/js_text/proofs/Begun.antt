-- How far bytes go on as UTF-8, where no character stands whole.
use Rattle.std.proofs.Common.{◌≡◌, ℕ, ◌+◌, ◌-◌, ◌*◌, ◌<◌, ◌≤◌, List, [], ◌∷◌, ◌++◌, length, take, drop, get_or, refl, ap, sym, subst, ◌∙◌, append-nil, take-append-drop, arith}
use Rattle.std.proofs.Math.Logic.{◌⊎◌, inl, inr, ⊎_elim}
use Rattle.std.proofs.Math.ListN.{get_or-append}
use Rattle.std.proofs.Math.Seq.{take-add, take-append_seam, drop-append_seam, take-length}
use Rattle.std.proofs.lemmas.List.{append_assoc, length-append, length-drop, length-take, get_or-take}
use Rattle.std.proofs.lemmas.Str.{IsUtf8-append, IsUtf8-encode}
use Rattle.std.proofs.Math.Utf8.{encode, scalar_cases}
use Rattle.std.proofs.iter.FirstChar.{none, no_text, after_text}
use Rattle.std.proofs.str.Faults.{Ranged, no_char, not_text}
use Rattle.std.proofs.str.Laws.{Follows, order, shape, not_empty}
use Rattle.std.proofs.str.Valid.{of_one, of_two, of_three, of_four, longer}
use Rattle.std.specs.Str.{IsUtf8, IsValidUpTo, StartsWithNoChar}
use Rattle.js_text.specs.Utf8.{BeginsUtf8, GoesTo, IsFault, MayFollow}

-- ---- fronts that a text goes on from

three_is : (x y z : ℕ) → 224 ≤ x → x < 240 → MayFollow x y → Follows z → (let c = (x - 224) * 4096 + (y - 128) * 64 + (z - 128) in (2048 ≤ c) × ((c < 55296) ⊎ (57344 ≤ c)))
three_is x y z low high may follows = (
  ⊎_elim (λ l. let e : x ≡ 224 = omega arith in omega (arith, may.after_e0 e, may.most, follows.0)) (λ l. omega (arith, may.least, follows.0)) (order x 225),
  ⊎_elim (λ l. inl (omega (arith, may.most, may.least, follows.1, follows.0)))
      (λ l. ⊎_elim (λ k. let e : x ≡ 237 = omega arith in inl (omega (arith, may.after_ed e, may.least, follows.1, follows.0))) (λ k. inr (omega (arith, may.least, follows.0))) (order x 238))
      (order x 237),
)

four_is : (x y : ℕ) → 240 ≤ x → x ≤ 244 → MayFollow x y → (let high = (x - 240) * 64 + (y - 128) in (16 ≤ high) × (high < 272))
four_is x y low high may = (
  ⊎_elim (λ l. let e : x ≡ 240 = omega arith in omega (arith, may.after_f0 e)) (λ l. omega (arith, may.least)) (order x 241),
  ⊎_elim (λ l. omega (arith, may.most)) (λ l. let e : x ≡ 244 = omega arith in omega (arith, may.after_f4 e)) (order x 244),
)

begun_three : (x y z : ℕ) → 240 ≤ x → x ≤ 244 → MayFollow x y → Follows z → BeginsUtf8 (x ∷ y ∷ z ∷ [])
begun_three x y z low high may follows =
    (128 ∷ [], of_four (x ∷ y ∷ z ∷ 128 ∷ []) 0 (omega arith) low (may.least, omega (arith, may.most)) follows (omega arith, omega arith) (four_is x y low high may))

begun_two : (x y : ℕ) → 224 ≤ x → x ≤ 244 → MayFollow x y → BeginsUtf8 (x ∷ y ∷ [])
begun_two x y low high may = ⊎_elim
    (λ l. let is = three_is x y 128 low l may (omega arith, omega arith) in
    (128 ∷ [], of_three (x ∷ y ∷ 128 ∷ []) 0 (omega arith) (low, l) (may.least, omega (arith, may.most)) (omega arith, omega arith) is.0 is.1))
    (λ l. let more = begun_three x y 128 l high may (omega arith, omega arith) in (128 ∷ more.0, more.1))
    (order x 240)

-- a byte that may follow
second : (x : ℕ) → (y : ℕ) × MayFollow x y
second x = ⊎_elim
    (λ l. (160, record { least = omega arith; most = omega arith; after_e0 = λ e. omega arith; after_ed = λ e. absurd (omega arith); after_f0 = λ e. omega arith; after_f4 = λ e. absurd (omega arith) }))
    (λ l. ⊎_elim
    (λ k. (144, record { least = omega arith; most = omega arith; after_e0 = λ e. absurd (omega arith); after_ed = λ e. omega arith; after_f0 = λ e. omega arith; after_f4 = λ e. absurd (omega arith) }))
    (λ k. (128, record { least = omega arith; most = omega arith; after_e0 = λ e. absurd (omega arith); after_ed = λ e. omega arith; after_f0 = λ e. absurd (omega arith); after_f4 = λ e. omega arith }))
    (order x 241))
    (order x 225)

begun_one : (x : ℕ) → 194 ≤ x → x ≤ 244 → BeginsUtf8 (x ∷ [])
begun_one x low high = ⊎_elim
    (λ l. (128 ∷ [], of_two (x ∷ 128 ∷ []) 0 (omega arith) (low, l) (omega arith, omega arith)))
    (λ l. let s = second x in let more = begun_two x s.0 l high s.1 in (s.0 ∷ more.0, more.1))
    (order x 224)

-- ---- the first bytes

take_one : (bs : List ℕ) → 0 < length bs → take 1 bs ≡ get_or bs 0 0 ∷ []
take_one [] h = absurd (omega arith)
take_one (x ∷ xs) h = refl

take_two : (bs : List ℕ) → 1 < length bs → take 2 bs ≡ get_or bs 0 0 ∷ get_or bs 1 0 ∷ []
take_two [] h = absurd (omega arith)
take_two (x ∷ []) h = absurd (omega arith)
take_two (x ∷ y ∷ xs) h = refl

take_three : (bs : List ℕ) → 2 < length bs → take 3 bs ≡ get_or bs 0 0 ∷ get_or bs 1 0 ∷ get_or bs 2 0 ∷ []
take_three [] h = absurd (omega arith)
take_three (x ∷ []) h = absurd (omega arith)
take_three (x ∷ y ∷ []) h = absurd (omega arith)
take_three (x ∷ y ∷ z ∷ xs) h = refl

-- a text begins with bytes in the ranges of a character
cannot : (l : List ℕ) → IsUtf8 l → 0 < length l → (Ranged (length l - 0) (get_or l 0 0) (get_or l 1 0) (get_or l 2 0) (get_or l 3 0) → ⊥) → ⊥
cannot l text some fails = no_text l [] (subst StartsWithNoChar (sym (append-nil l)) (no_char l 0 fails)) text some

may_by_range : (n x y z w : ℕ) → 194 ≤ x → x ≤ 244 → Ranged n x y z w → MayFollow x y
may_by_range n x y z w low high r = record {
  least = (r.second (omega arith)).2.0;
  most = omega (arith, (r.second (omega arith)).2.1);
  after_e0 = λ e. omega (arith, (r.in_three (omega arith) (omega arith)).0);
  after_ed = λ e. ⊎_elim (λ l. omega (arith, l)) (λ l. absurd (omega (arith, l, (r.second (omega arith)).2.1))) (r.in_three (omega arith) (omega arith)).1;
  after_f0 = λ e. omega (arith, (r.fourth (omega arith)).2.0);
  after_f4 = λ e. omega (arith, (r.fourth (omega arith)).2.1);
}

module _ (bs : List ℕ) (some : 0 < length bs) (none_there : StartsWithNoChar bs) where
  not_front : (k : ℕ) → 0 < k → IsUtf8 (take k bs) → ⊥
  not_front k pos text = no_text (take k bs) (drop k bs) (subst StartsWithNoChar (sym (take-append-drop k bs)) none_there) text (omega (arith, length-take k bs))

  -- the same byte
  same : (n : ℕ) (r : List ℕ) (k : ℕ) → k < n → n ≤ length bs → get_or (take n bs ++ r) k 0 ≡ get_or bs k 0
  same n r k low high = get_or-append (take n bs) r 0 k (omega (arith, length-take n bs)) ∙ get_or-take n bs k 0 low

  some_in : (n : ℕ) (r : List ℕ) → 0 < n → 0 < length (take n bs ++ r)
  some_in n r pos = omega (arith, length-append (take n bs) r, length-take n bs)

  wide : 128 ≤ get_or bs 0 0
  wide = ⊎_elim (λ l. absurd (not_front 1 (omega arith) (of_one bs 0 some l))) (λ l. l) (order (get_or bs 0 0) 128)

  pub goes_nowhere : (get_or bs 0 0 < 194) ⊎ (244 < get_or bs 0 0) → GoesTo bs 0
  goes_nowhere out = record {
    within = omega arith;
    front = ([], none);
    next = λ l b. let e = same 1 b.0 0 (omega arith) (omega arith) in cannot (take 1 bs ++ b.0) b.1 (some_in 1 b.0 (omega arith))
        (λ r. ⊎_elim
        (λ k. omega (arith, e, wide, (r.second (omega (arith, e, wide))).0))
        (λ k. omega (arith, e, (r.second (omega (arith, e, wide))).2.0, (r.fourth (omega (arith, e))).2.1))
        out);
  }

  module _ (low : 194 ≤ get_or bs 0 0) (high : get_or bs 0 0 ≤ 244) where
    pub goes_to_one : (1 < length bs → MayFollow (get_or bs 0 0) (get_or bs 1 0) → ⊥) → GoesTo bs 1
    goes_to_one fails = record {
      within = some;
      front = subst BeginsUtf8 (sym (take_one bs some)) (begun_one (get_or bs 0 0) low high);
      next = λ l b.
          let e = same 2 b.0 0 (omega arith) l in
          let f = same 2 b.0 1 (omega arith) l in
          cannot (take 2 bs ++ b.0) b.1 (some_in 2 b.0 (omega arith))
          (λ r. fails l (subst (λ x. MayFollow x (get_or bs 1 0)) e (subst (MayFollow (get_or (take 2 bs ++ b.0) 0 0)) f (may_by_range _ _ _ _ _ (omega (arith, e)) (omega (arith, e)) r))));
    }

    module _ (two : 1 < length bs) (may : MayFollow (get_or bs 0 0) (get_or bs 1 0)) where
      past_two : 224 ≤ get_or bs 0 0
      past_two = ⊎_elim (λ l. absurd (not_front 2 (omega arith) (of_two bs 0 two (low, l) (may.least, omega (arith, may.most))))) (λ l. l) (order (get_or bs 0 0) 224)

      pub goes_to_two : (2 < length bs → Follows (get_or bs 2 0) → ⊥) → GoesTo bs 2
      goes_to_two fails = record {
        within = two;
        front = subst BeginsUtf8 (sym (take_two bs two)) (begun_two (get_or bs 0 0) (get_or bs 1 0) past_two high may);
        next = λ l b.
            let e = same 3 b.0 0 (omega arith) l in
            let f = same 3 b.0 2 (omega arith) l in
            cannot (take 3 bs ++ b.0) b.1 (some_in 3 b.0 (omega arith)) (λ r. fails l (subst Follows f (r.third (omega (arith, e, past_two))).1));
      }

      module _ (three : 2 < length bs) (follows : Follows (get_or bs 2 0)) where
        past_three : 240 ≤ get_or bs 0 0
        past_three = ⊎_elim
            (λ l. let is = three_is (get_or bs 0 0) (get_or bs 1 0) (get_or bs 2 0) past_two l may follows in
            absurd (not_front 3 (omega arith) (of_three bs 0 three (past_two, l) (may.least, omega (arith, may.most)) follows is.0 is.1)))
            (λ l. l) (order (get_or bs 0 0) 240)

        pub goes_to_three : GoesTo bs 3
        goes_to_three = record {
          within = three;
          front = subst BeginsUtf8 (sym (take_three bs three)) (begun_three (get_or bs 0 0) (get_or bs 1 0) (get_or bs 2 0) past_three high may follows);
          next = λ l b.
              let e = same 4 b.0 0 (omega arith) l in
              let f = same 4 b.0 3 (omega arith) l in
              cannot (take 4 bs ++ b.0) b.1 (some_in 4 b.0 (omega arith))
              (λ r. not_front 4 (omega arith) (of_four bs 0 l past_three (may.least, omega (arith, may.most)) follows (subst Follows f (r.fourth (omega (arith, e, past_three))).1) (four_is (get_or bs 0 0) (get_or bs 1 0) past_three high may)));
        }

-- ---- after a front that is a text

module _ (bs : List ℕ) (v : ℕ) where
  split : (n : ℕ) (r : List ℕ) → take (v + n) bs ++ r ≡ take v bs ++ (take n (drop v bs) ++ r)
  split n r = ap (λ l. l ++ r) (take-add v n bs) ∙ append_assoc (take v bs) (take n (drop v bs)) r

  pub goes_past : v ≤ length bs → IsUtf8 (take v bs) → (n : ℕ) → GoesTo (drop v bs) n → GoesTo bs (v + n)
  goes_past fits front n goes = record {
    within = omega (arith, goes.within, length-drop v bs);
    front = (goes.front.0, subst IsUtf8 (sym (split n goes.front.0)) (IsUtf8-append (take v bs) (take n (drop v bs) ++ goes.front.0) front goes.front.1));
    next = λ l b.
        let e : v + n + 1 ≡ v + (n + 1) = omega arith in
        let rest = take (n + 1) (drop v bs) ++ b.0 in
        let text : IsUtf8 (take v bs ++ rest) = subst IsUtf8 (ap (λ k. take k bs ++ b.0) e ∙ split (n + 1) b.0) b.1 in
        let after = after_text (take v bs ++ rest) (length (take v bs)) text (subst IsUtf8 (sym (take-append_seam (take v bs) rest)) front) in
        goes.next (omega (arith, length-drop v bs)) (b.0, subst IsUtf8 (drop-append_seam (take v bs) rest) after);
  }

  tail_is : take (length bs - v) (drop v bs) ≡ drop v bs
  tail_is = ap (λ n. take n (drop v bs)) (sym (length-drop v bs)) ∙ take-length (drop v bs)

  pub no_char_after : IsValidUpTo bs v → StartsWithNoChar (take (length bs - v) (drop v bs))
  no_char_after valid c r scalar e =
      let at : drop v bs ≡ encode c ++ r = sym tail_is ∙ e in
      let some : 0 < length (encode c ++ []) = not_empty c (shape c (scalar_cases c scalar)) [] in
      let char : IsUtf8 (take (length (encode c)) (drop v bs)) = subst IsUtf8 (sym (ap (take (length (encode c))) at ∙ take-append_seam (encode c) r)) (IsUtf8-encode c scalar) in
      valid.longest (v + length (encode c)) (omega (arith, some, ap length (append-nil (encode c)))) (longer bs v (length (encode c)) valid.front char)

  pub fault_after : IsValidUpTo bs v → (n : ℕ) → GoesTo (take (length bs - v) (drop v bs)) n → IsFault bs (v + n)
  fault_after valid n goes = (not_text bs v valid, goes_past (omega (arith, valid.short)) valid.front n (subst (λ l. GoesTo l n) tail_is goes))

-- ---- there is one place

shorter : (bs : List ℕ) (m n : ℕ) → m ≤ n → n ≤ length bs → BeginsUtf8 (take n bs) → BeginsUtf8 (take m bs)
shorter bs m n le fits b =
    let e : m + (n - m) ≡ n = omega arith in
    (take (n - m) (drop m bs) ++ b.0, subst IsUtf8 (ap (λ k. take k bs ++ b.0) (sym e) ∙ split bs m (n - m) b.0) b.1)

not_before : (bs : List ℕ) (m n : ℕ) → GoesTo bs m → GoesTo bs n → m < n → ⊥
not_before bs m n first second l = first.next (omega (arith, second.within)) (shorter bs (m + 1) n (omega arith) second.within second.front)

pub one_place : (bs : List ℕ) (m n : ℕ) → GoesTo bs m → GoesTo bs n → m ≡ n
one_place bs m n first second =
    ⊎_elim (λ l. absurd (not_before bs m n first second l)) (λ l. ⊎_elim (λ k. absurd (not_before bs n m second first k)) (λ k. omega arith) (order n m)) (order m n)
