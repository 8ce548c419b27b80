-- What tests on characters tell, and answers.
use Rattle.std.proofs.Common.{◌≡◌, ℕ, Bool, true, false, cond, ◌&&◌, ◌||◌, not, ◌==◌, List, [], ◌∷◌, map, Option, Some, None, Result, Ok, Err, refl, sym, subst, arith}
use Rattle.std.proofs.lemmas.Bool.Decides.{nat_tests}

pub equal : (c n : ℕ) → (c == n) ≡ true → c ≡ n
equal c n h = grind (arith, nat_tests)

pub differ : (b : Bool) → b ≡ false → b ≡ true → ⊥
differ b h k = cc

pub not_true : (b : Bool) → (b ≡ true → ⊥) → b ≡ false
not_true true h = absurd (h refl)
not_true false h = refl

pub not_false : (b : Bool) → not b ≡ true → b ≡ false
not_false true h = cc
not_false false h = refl

-- a character of a class is none that is not of it
pub apart : (p : ℕ → Bool) (c n : ℕ) → p c ≡ true → p n ≡ false → (c == n) ≡ false
apart p c n h k = not_true (c == n) (λ e. differ (p c) (subst (λ z. p z ≡ false) (sym (equal c n e)) k) h)

pub both : (a b : Bool) → (a && b) ≡ true → (a ≡ true) × (b ≡ true)
both true b h = (refl, h)
both false b h = absurd (cc)

pub both_true : (a b : Bool) → a ≡ true → b ≡ true → (a && b) ≡ true
both_true a b h k = rw (h, k) refl

pub and_false : (a : Bool) → (a && false) ≡ false
and_false true = refl
and_false false = refl

pub and_true : (a : Bool) → (a && true) ≡ a
and_true true = refl
and_true false = refl

pub or_left : (a b : Bool) → a ≡ true → (a || b) ≡ true
or_left a b h = rw h refl

pub or_right : (a b : Bool) → b ≡ true → (a || b) ≡ true
or_right true b h = refl
or_right false b h = h

-- what two tables say, they say at each of their characters
abbrev pub is_one_of : List ℕ → ℕ → Bool
is_one_of [] c = false
is_one_of (n ∷ ns) c = c == n || is_one_of ns c

pub entry : {A : Type 0} (f g : ℕ → A) (ns : List ℕ) (c : ℕ) → map f ns ≡ map g ns → is_one_of ns c ≡ true → f c ≡ g c
entry f g [] c e h = absurd (cc)
entry f g (n ∷ ns) c e h = by_head (c == n) refl h (entry f g ns c (cc))
  where
    by_head : (b : Bool) → (c == n) ≡ b → (b || is_one_of ns c) ≡ true → (is_one_of ns c ≡ true → f c ≡ g c) → f c ≡ g c
    by_head true i k again = subst (λ z. f z ≡ g z) (sym (equal c n i)) (cc)
    by_head false i k again = again k

-- a character that is none of these is not this one of them
pub other_than : (ns : List ℕ) (c a : ℕ) → is_one_of ns c ≡ false → is_one_of ns a ≡ true → (c == a) ≡ false
other_than ns c a h k = not_true (c == a) (λ e. differ (is_one_of ns c) h (subst (λ z. is_one_of ns z ≡ true) (sym (equal c a e)) k))

-- by the two cases of a test
pub by_test : {A : Type 0} (P : A → Type 0) (b : Bool) (x y : A) → (b ≡ true → P x) → (b ≡ false → P y) → P (cond b x y)
by_test P true x y f g = f refl
by_test P false x y f g = g refl

-- an option and a result are one thing

pub same_some : {A : Type 0} (o : Option A) (a b : A) → o ≡ Some a → o ≡ Some b → a ≡ b
same_some o a b h k = cc

pub no_some : {A : Type 0} (o : Option A) (a : A) → o ≡ None → o ≡ Some a → ⊥
no_some o a h k = cc

pub same_ok : {A E : Type 0} (r : Result A E) (a b : A) → r ≡ Ok a → r ≡ Ok b → a ≡ b
same_ok r a b h k = cc

pub not_ok : {A E : Type 0} (r : Result A E) (a : A) (e : E) → r ≡ Err e → r ≡ Ok a → ⊥
not_ok r a e h k = cc

pub same_err : {A E : Type 0} (r : Result A E) (d e : E) → r ≡ Err d → r ≡ Err e → d ≡ e
same_err r d e h k = cc
