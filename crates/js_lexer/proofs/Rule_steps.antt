-- What a character leaves of a rule says what a machine's step means, and whether the rule may be empty what its end means.
use Rattle.std.proofs.Common.{◌≡◌, ◌↔◌, ℕ, Bool, true, false, cond, ◌||◌, ◌==◌, List, [], ◌∷◌, ◌++◌, map, Some, None, Result, Ok, Err, refl, ap, arith}
use Rattle.std.proofs.lemmas.Bool.Decides.{nat_tests}
use Rattle.std.specs.Int.{is_in_range}
use Rattle.js_lexer.specs.declared.machine.Step.{Step}
use Rattle.js_lexer.specs.declared.machine.Step.TheVariants.{Go, With, Before, Bad}
use Rattle.js_lexer.specs.declared.machine.Stop.{Stop}
use Rattle.js_lexer.specs.Characters.{is_digit}
use Rattle.js_lexer.specs.Rules.{Rule, Never, Nothing, Leads}
use Rattle.js_lexer.proofs.Derivatives.{may_be_empty, behind, goes, ends, ends_before, stuck, ends_there, stuck_there}
use Rattle.js_lexer.proofs.Machine_laws.{Follows, Stops}
use Rattle.js_lexer.proofs.Tests.{is_one_of, entry}

-- before the character if the outcome is of the kind
before : (b : Bool) (r : Rule) (c : ℕ) (cs ys : List ℕ) → may_be_empty r (Some c) ≡ b → behind r c ≡ Never → Leads r (c ∷ cs) ys ↔ ((b ≡ true) × (ys ≡ c ∷ cs))
before true r c cs ys e d =
    let i : Leads r (c ∷ cs) ys ↔ (ys ≡ c ∷ cs) = ends_before r c cs ys e d in (λ h. (refl, i.0 h), λ h. i.1 h.1)
before false r c cs ys e d = (λ h. absurd (stuck r c cs ys e d h), λ h. absurd (cc))

with : (b : Bool) (r : Rule) (c : ℕ) (cs ys : List ℕ) → may_be_empty r (Some c) ≡ false → behind r c ≡ cond b Nothing Never → Leads r (c ∷ cs) ys ↔ ((b ≡ true) × (ys ≡ cs))
with true r c cs ys e d =
    let i : Leads r (c ∷ cs) ys ↔ (ys ≡ cs) = ends r c cs ys e d in (λ h. (refl, i.0 h), λ h. i.1 h.1)
with false r c cs ys e d = (λ h. absurd (stuck r c cs ys e d h), λ h. absurd (cc))

there : (b : Bool) (r : Rule) (ys : List ℕ) → may_be_empty r None ≡ b → Leads r [] ys ↔ ((b ≡ true) × (ys ≡ []))
there true r ys e =
    let i : Leads r [] ys ↔ (ys ≡ []) = ends_there r ys e in (λ h. (refl, i.0 h), λ h. i.1 h.1)
there false r ys e = (λ h. absurd (stuck_there r ys e h), λ h. absurd (cc))

module _ {S O K : Type 0} (step : S → ℕ → Step S O) (stop : S → Result O Stop) (rest : S → K → Rule) (gives : O → K → Bool) where
  -- what a step leaves of the rule, and whether the rule may be empty before the character
  abbrev pub left_by : Step S O → K → Rule
  left_by (Go t) k = rest t k
  left_by (With o) k = cond (gives o k) Nothing Never
  left_by _ k = Never

  abbrev pub empty_by : Step S O → K → Bool
  empty_by (Before o) k = gives o k
  empty_by _ k = false

  -- what the character leaves of the rule is as the step says
  abbrev pub Leaves : S → K → ℕ → Step S O → Type 0
  Leaves s k c x = (may_be_empty (rest s k) (Some c) ≡ empty_by x k) × (behind (rest s k) c ≡ left_by x k)

  -- the rule may be empty at the end of the text where that is a whole token of the kind
  abbrev pub empty_there : Result O Stop → K → Bool
  empty_there (Ok o) k = gives o k
  empty_there (Err e) k = false

  pub follows_leaves : (s : S) (c : ℕ) (x : Step S O) → ((k : K) → Leaves s k c x) → Follows step stop rest gives s c x
  follows_leaves s c (Go t) h = λ k cs ys. goes (rest s k) (rest t k) c cs ys (h k).0 (h k).1
  follows_leaves s c (With o) h = λ k cs ys. with (gives o k) (rest s k) c cs ys (h k).0 (h k).1
  follows_leaves s c (Before o) h = λ k cs ys. before (gives o k) (rest s k) c cs ys (h k).0 (h k).1
  follows_leaves s c Bad h = λ k cs ys. stuck (rest s k) c cs ys (h k).0 (h k).1

  pub stops_leaves : (s : S) (r : Result O Stop) → ((k : K) → may_be_empty (rest s k) None ≡ empty_there r k) → Stops step stop rest gives s r
  stops_leaves s (Ok o) h = λ k ys. there (gives o k) (rest s k) ys (h k)
  stops_leaves s (Err e) h = λ k ys. stuck_there (rest s k) ys (h k)

  -- both sides of that as tables: what the grammar has for some kinds at a character, and what the machine does there
  abbrev pub grammar_at : List K → S → ℕ → List (Bool × Rule)
  grammar_at ks s c = map (λ k. (may_be_empty (rest s k) (Some c), behind (rest s k) c)) ks

  abbrev pub machine_at : List K → S → ℕ → List (Bool × Rule)
  machine_at ks s c = map (λ k. (empty_by (step s c) k, left_by (step s c) k)) ks

  abbrev pub Agrees : List K → S → ℕ → Type 0
  Agrees ks s c = grammar_at ks s c ≡ machine_at ks s c

  -- at each of these characters, and at the end of the text
  abbrev pub AgreesAt : List ℕ → List K → S → Type 0
  AgreesAt ns ks s =
      (map (grammar_at ks s) ns ≡ map (machine_at ks s) ns)
      × (map (λ k. may_be_empty (rest s k) None) ks ≡ map (λ k. empty_there (stop s) k) ks)

  -- so at every character, if the others agree too
  pub agrees : (ns : List ℕ) (ks : List K) (s : S) → AgreesAt ns ks s → ((c : ℕ) → is_one_of ns c ≡ false → Agrees ks s c) → (c : ℕ) → Agrees ks s c
  agrees ns ks s table others c = by_table (is_one_of ns c) refl
    where
      by_table : (b : Bool) → is_one_of ns c ≡ b → Agrees ks s c
      by_table true h = entry (grammar_at ks s) (machine_at ks s) ns c table.0 h
      by_table false h = others c h

-- what equal entries have

pub parts : {A B : Type 0} (p q : A × B) → p ≡ q → (p.0 ≡ q.0) × (p.1 ≡ q.1)
parts p q e = (ap (λ z. z.0) e, ap (λ z. z.1) e)

pub one : {A : Type 0} (a x : A) → a ∷ [] ≡ x ∷ [] → a ≡ x
one a x e = cc

pub two : {A : Type 0} (a b x y : A) → a ∷ b ∷ [] ≡ x ∷ y ∷ [] → (a ≡ x) × (b ≡ y)
two a b x y e = (cc, cc)

pub three : {A : Type 0} (a b c x y z : A) → a ∷ b ∷ c ∷ [] ≡ x ∷ y ∷ z ∷ [] → (a ≡ x) × (b ≡ y) × (c ≡ z)
three a b c x y z e = (cc, cc, cc)

-- the digits of any radix, and what is none of them

abbrev pub hex_digits : List ℕ
hex_digits = 48 ∷ 49 ∷ 50 ∷ 51 ∷ 52 ∷ 53 ∷ 54 ∷ 55 ∷ 56 ∷ 57 ∷ 65 ∷ 66 ∷ 67 ∷ 68 ∷ 69 ∷ 70 ∷ 97 ∷ 98 ∷ 99 ∷ 100 ∷ 101 ∷ 102 ∷ []

-- a character behind these digits in a list, that is none of the list, is none of the digits
pub no_hex_digit : (ns : List ℕ) (c : ℕ) → is_one_of (hex_digits ++ ns) c ≡ false → is_one_of hex_digits c ≡ false
no_hex_digit ns c o = front hex_digits o
  where
    front : (ms : List ℕ) → is_one_of (ms ++ ns) c ≡ false → is_one_of ms c ≡ false
    front [] h = refl
    front (m ∷ ms) h = neither (c == m) (is_one_of (ms ++ ns) c) h (front ms)
      where
        neither : (a b : Bool) → (a || b) ≡ false → (b ≡ false → is_one_of ms c ≡ false) → (a || is_one_of ms c) ≡ false
        neither true b h again = absurd (cc)
        neither false b h again = again h

pub no_digit : (c : ℕ) → is_one_of hex_digits c ≡ false → is_digit c ≡ false
no_digit c o = grind (arith, nat_tests)

pub no_capital : (c : ℕ) → is_one_of hex_digits c ≡ false → is_in_range 65 70 c ≡ false
no_capital c o = grind (arith, nat_tests)

pub no_small : (c : ℕ) → is_one_of hex_digits c ≡ false → is_in_range 97 102 c ≡ false
no_small c o = grind (arith, nat_tests)
