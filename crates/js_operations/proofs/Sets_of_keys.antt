-- Lists of keys, one key after another from the end.
use Rattle.std.proofs.Common.{◌≡◌, ℕ, zero, suc, ◌+◌, ◌-◌, ◌<◌, ◌≤◌, Bool, true, false, cond, ◌&&◌, ◌||◌, List, [], ◌∷◌, length, drop, get_or, refl, ap, sym, ◌∙◌, arith}
use Rattle.std.specs.Prelude.{not}
use Rattle.lava_base.specs.Ids.{same_made_symbol}
use Rattle.lava_base.specs.SameSymbols.{same_made_symbol_decides}
use Rattle.lava_base.specs.declared.ids.MadeSymbol.{MadeSymbol}
use Rattle.js_text.specs.SameKeys.{same_key_equiv}
use Rattle.js_text.specs.Values.{same_key}
use Rattle.js_text.specs.declared.value.Key.{Key}
use Rattle.js_operations.specs.KeyLists.{are_among, has_repeat, is_among}

known_by : {S : Type 0} (made : S → S → Bool) (i : ℕ) (ks : List (Key S)) (d q : Key S) → i < length ks
    → is_among made (drop i ks) q ≡ (same_key made q (get_or ks i d) || is_among made (drop (suc i) ks) q)
known_by made i [] d q l = absurd (omega arith)
known_by made zero (k ∷ ks) d q l = refl
known_by made (suc i) (k ∷ ks) d q l = known_by made i ks d q (omega arith)

or_by : (a b c : Bool) → a ≡ b → (b || c) ≡ cond a true c
or_by true b c h = ap (λ x. x || c) (sym h)
or_by false b c h = ap (λ x. x || c) (sym h)

-- one more key is known
pub one_more_known : (i n : ℕ) (ks : List (Key MadeSymbol)) (d q : Key MadeSymbol) → i < length ks → i + 1 ≡ n
    → is_among same_made_symbol (drop i ks) q ≡ cond (same_key same_made_symbol (get_or ks i d) q) true (is_among same_made_symbol (drop n ks) q)
one_more_known i n ks d q l e =
    let p : suc i ≡ n = omega (arith, e) in
    known_by same_made_symbol i ks d q l
    ∙ ap (λ m. same_key same_made_symbol q (get_or ks i d) || is_among same_made_symbol (drop m ks) q) p
    ∙ or_by (same_key same_made_symbol (get_or ks i d) q) (same_key same_made_symbol q (get_or ks i d)) (is_among same_made_symbol (drop n ks) q)
    ((same_key_equiv same_made_symbol_decides).symm (get_or ks i d) q)

repeat_by : {S : Type 0} (made : S → S → Bool) (i : ℕ) (ks : List (Key S)) (d : Key S) → i < length ks
    → has_repeat made (drop i ks) ≡ (is_among made (drop (suc i) ks) (get_or ks i d) || has_repeat made (drop (suc i) ks))
repeat_by made i [] d l = absurd (omega arith)
repeat_by made zero (k ∷ ks) d l = refl
repeat_by made (suc i) (k ∷ ks) d l = repeat_by made i ks d (omega arith)

-- a key stands twice among what is left where it stands there again, or one behind it does
pub repeat_next : (i n : ℕ) (ks : List (Key MadeSymbol)) (d : Key MadeSymbol) → i < length ks → i + 1 ≡ n
    → has_repeat same_made_symbol (drop i ks) ≡ (is_among same_made_symbol (drop n ks) (get_or ks i d) || has_repeat same_made_symbol (drop n ks))
repeat_next i n ks d l e =
    let p : suc i ≡ n = omega (arith, e) in
    repeat_by same_made_symbol i ks d l ∙ ap (λ m. is_among same_made_symbol (drop m ks) (get_or ks i d) || has_repeat same_made_symbol (drop m ks)) p

or_true : (a b : Bool) → b ≡ true → (a || b) ≡ true
or_true true b h = refl
or_true false b h = h

-- what stands twice at the end stands twice
pub repeat_behind : (i : ℕ) (ks : List (Key MadeSymbol)) → has_repeat same_made_symbol (drop i ks) ≡ true → has_repeat same_made_symbol ks ≡ true
repeat_behind zero ks h = h
repeat_behind (suc i) [] h = h
repeat_behind (suc i) (k ∷ ks) h = or_true (is_among same_made_symbol ks k) (has_repeat same_made_symbol ks) (repeat_behind i ks h)

among_by : {S : Type 0} (made : S → S → Bool) (i : ℕ) (ks others : List (Key S)) (d : Key S) → i < length ks
    → are_among made (drop i ks) others ≡ (is_among made others (get_or ks i d) && are_among made (drop (suc i) ks) others)
among_by made i [] others d l = absurd (omega arith)
among_by made zero (k ∷ ks) others d l = refl
among_by made (suc i) (k ∷ ks) others d l = among_by made i ks others d (omega arith)

-- the rest are among others where the next one is, and what is behind it
pub among_next : (i : ℕ) (ks others : List (Key MadeSymbol)) (d : Key MadeSymbol) → i < length ks
    → are_among same_made_symbol (drop i ks) others ≡ (is_among same_made_symbol others (get_or ks i d) && are_among same_made_symbol (drop (i + 1) ks) others)
among_next i ks others d l =
    let e : suc i ≡ i + 1 = omega arith in
    among_by same_made_symbol i ks others d l ∙ ap (λ n. is_among same_made_symbol others (get_or ks i d) && are_among same_made_symbol (drop n ks) others) e

pub among_end : (i : ℕ) (ks others : List (Key MadeSymbol)) → length ks ≤ i → are_among same_made_symbol (drop i ks) others ≡ true
among_end zero [] others l = refl
among_end (suc i) [] others l = refl
among_end zero (k ∷ ks) others l = absurd (omega arith)
among_end (suc i) (k ∷ ks) others l = among_end i ks others (omega arith)

-- A KEY IS PUT INTO A SET, FROM THE END OF THE LIST

module _ (at : ℕ) (ks : List (Key MadeSymbol)) (x : Key MadeSymbol) (l : 0 < at) (w : at ≤ length ks) (e : x ≡ get_or ks (at - 1) x) where
  -- the set knows what it knew, and the key
  pub known_after : (old new : Key MadeSymbol → Bool) → ((k : Key MadeSymbol) → new k ≡ cond (same_key same_made_symbol x k) true (old k))
      → ((k : Key MadeSymbol) → old k ≡ is_among same_made_symbol (drop at ks) k) → (k : Key MadeSymbol) → new k ≡ is_among same_made_symbol (drop (at - 1) ks) k
  known_after old new u h k =
      u k ∙ ap (λ b. cond (same_key same_made_symbol x k) true b) (h k)
      ∙ ap (λ y. cond (same_key same_made_symbol y k) true (is_among same_made_symbol (drop at ks) k)) e
      ∙ sym (one_more_known (at - 1) at ks x k (omega (arith, l, w)) (omega (arith, l)))

  next_repeat : has_repeat same_made_symbol (drop (at - 1) ks) ≡ (is_among same_made_symbol (drop at ks) x || has_repeat same_made_symbol (drop at ks))
  next_repeat = repeat_next (at - 1) at ks x (omega (arith, l, w)) (omega (arith, l)) ∙ ap (λ y. is_among same_made_symbol (drop at ks) y || has_repeat same_made_symbol (drop at ks)) (sym e)

  among_of : (old : Key MadeSymbol → Bool) (added : Bool) → ((k : Key MadeSymbol) → old k ≡ is_among same_made_symbol (drop at ks) k) → added ≡ not (old x)
      → is_among same_made_symbol (drop at ks) x ≡ not added
  among_of old added h a = sym (h x) ∙ sym (twice (old x)) ∙ ap not (sym a) where
    twice : (c : Bool) → not (not c) ≡ c
    twice true = refl
    twice false = refl

  -- a key that was in the set stands twice
  pub repeat_found : (old : Key MadeSymbol → Bool) (added : Bool) → ((k : Key MadeSymbol) → old k ≡ is_among same_made_symbol (drop at ks) k) → added ≡ not (old x) → added ≡ false
      → true ≡ has_repeat same_made_symbol ks
  repeat_found old added h a n = sym (repeat_behind (at - 1) ks (next_repeat ∙ ap (λ b. b || has_repeat same_made_symbol (drop at ks)) (among_of old added h a ∙ ap not n)))

  -- one that was not stands once so far
  pub once_more : (old : Key MadeSymbol → Bool) (added : Bool) → ((k : Key MadeSymbol) → old k ≡ is_among same_made_symbol (drop at ks) k) → added ≡ not (old x) → added ≡ true
      → has_repeat same_made_symbol (drop at ks) ≡ false → has_repeat same_made_symbol (drop (at - 1) ks) ≡ false
  once_more old added h a n o = next_repeat ∙ ap (λ b. b || has_repeat same_made_symbol (drop at ks)) (among_of old added h a ∙ ap not n) ∙ o
