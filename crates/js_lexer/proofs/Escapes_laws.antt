-- The machine of `u` escapes reads exactly UnicodeEscapeSequence.
use Rattle.std.proofs.Common.{◌≡◌, ◌≤◌, ◌<◌, ◌↔◌, ℕ, ◌+◌, ◌*◌, ◌==◌, ◌&&◌, Bool, true, false, cond, nat_le, nat_lt, List, [], ◌∷◌, ◌++◌, Option, None, refl, sym, subst, arith}
use Rattle.std.proofs.lemmas.Bool.Decides.{nat_tests}
use Rattle.std.specs.Int.{is_in_range}
use Rattle.js_lexer.specs.declared.machine.Step.{Step}
use Rattle.js_lexer.specs.declared.machine.Step.TheVariants.{Go, With, Bad}
use Rattle.js_lexer.specs.declared.escapes.Escape.{Escape}
use Rattle.js_lexer.specs.declared.escapes.Escape.TheVariants as escapes
use Rattle.js_lexer.specs.Characters.{is_digit, is_hex_digit, hex_value}
use Rattle.js_lexer.specs.Rules.{Rule, Nothing, Then, Leads}
use Rattle.js_lexer.specs.Grammar.{char, hex_digit, hex_from, code_point, code_point_after, after_u, unicode_escape}
use Rattle.js_lexer.specs.Machines.{run}
use Rattle.js_lexer.specs.Escapes.{escape_step, escape_stop, digits_step}
use Rattle.js_lexer.proofs.Derivatives.{behind, may_be_empty, goes, ends, stuck, stuck_there}
use Rattle.js_lexer.proofs.Machine_laws.{Follows, Reads, exact}
use Rattle.js_lexer.proofs.Rule_steps.{Agrees, AgreesAt, agrees, follows_leaves, parts, one, hex_digits, no_hex_digit, no_digit, no_capital, no_small}
use Rattle.js_lexer.proofs.Tests.{and_false, both, by_test, differ, is_one_of, other_than}

-- the digits that write v; past the greatest code point no state has such a v
abbrev after_digits : ℕ → Rule
after_digits v = cond (nat_le v 0x10FFFF) (code_point_after v) Nothing

-- what is left of an escape
abbrev pub escape_rest : Escape → Rule
escape_rest escapes.Backslash = unicode_escape
escape_rest escapes.Unicode = after_u
escape_rest escapes.ThreeDigits = Then hex_digit (Then hex_digit hex_digit)
escape_rest escapes.TwoDigits = Then hex_digit hex_digit
escape_rest escapes.OneDigit = hex_digit
escape_rest escapes.Brace = Then code_point (char 125)
escape_rest (escapes.CodePoint v) = Then (after_digits v) (char 125)

abbrev pub kinds_rest : Escape → Unit {0} → Rule
kinds_rest s k = escape_rest s

abbrev pub always : Unit {0} → Unit {0} → Bool
always o k = true

abbrev Steps_to : Escape → ℕ → Step Escape (Unit {0}) → Type 0
Steps_to s c x = Follows escape_step escape_stop kinds_rest always s c x

-- but for the digits of a code point, a table of hexadecimal digits, `u`, `{` and `}`, and a rule for all others

abbrev kinds : List (Unit {0})
kinds = tt ∷ []

abbrev characters : List ℕ
characters = hex_digits ++ 117 ∷ 123 ∷ 125 ∷ []

Other : ℕ → Type 0
Other c = is_one_of characters c ≡ false

not_this : (c a : ℕ) → Other c → is_one_of characters a ≡ true → (c == a) ≡ false
unfolding Other
not_this c a o h = other_than characters c a o h

other_hex : (c : ℕ) → Other c → is_one_of hex_digits c ≡ false
unfolding Other
other_hex c o = no_hex_digit (117 ∷ 123 ∷ 125 ∷ []) c o

other_digit : (c : ℕ) → Other c → is_digit c ≡ false
other_digit c o = no_digit c (other_hex c o)

other_capital : (c : ℕ) → Other c → is_in_range 65 70 c ≡ false
other_capital c o = no_capital c (other_hex c o)

other_small : (c : ℕ) → Other c → is_in_range 97 102 c ≡ false
other_small c o = no_small c (other_hex c o)

ruleset others = (not_this, other_digit, other_capital, other_small)

by_table : (s : Escape) → AgreesAt escape_step escape_stop kinds_rest always characters kinds s → ((c : ℕ) → Other c → Agrees escape_step escape_stop kinds_rest always kinds s c) →
    (c : ℕ) → Steps_to s c (escape_step s c)
unfolding Other
by_table s table o c = follows_leaves escape_step escape_stop kinds_rest always s c (escape_step s c) (λ k. parts _ _ (one _ _ (agrees escape_step escape_stop kinds_rest always characters kinds s table o c)))

-- the digits of a code point

if_known : {A : Type 0} (P : A → Type 0) (b : Bool) (x y : A) → b ≡ true → P x → P (cond b x y)
if_known P true x y h p = p
if_known P false x y h p = absurd (cc)

never_ends : (b : Bool) → ((true && b) && false) ≡ false
never_ends b = and_false (true && b)

closes : (v c : ℕ) → (c == 125) ≡ true → Steps_to (escapes.CodePoint v) c (With tt)
closes v c h k cs ys =
    let i : Leads (escape_rest (escapes.CodePoint v)) (c ∷ cs) ys ↔ (ys ≡ cs) = by_test (λ a. Leads (Then a (char 125)) (c ∷ cs) ys ↔ (ys ≡ cs)) (nat_le v 0x10FFFF) (code_point_after v) Nothing
    (λ k. ends (Then (code_point_after v) (char 125)) c cs ys (never_ends (nat_le v 0x10FFFF)) (rw (brace_no_digit c h, k, h) refl))
    (λ k. ends (Then Nothing (char 125)) c cs ys refl (rw h refl)) in
    (λ l. (refl, i.0 l), λ l. i.1 l.1)
  where
    brace_no_digit : (c : ℕ) → (c == 125) ≡ true → is_hex_digit c ≡ false
    brace_no_digit c h = grind (arith, nat_tests)

goes_to : (v c : ℕ) → (c == 125) ≡ false → nat_lt v 0x11000 ≡ true → is_hex_digit c ≡ true → Steps_to (escapes.CodePoint v) c (Go (escapes.CodePoint (v * 16 + hex_value c)))
goes_to v c h k d _ cs ys =
    if_known (λ a. Leads (Then a (char 125)) (c ∷ cs) ys ↔ Leads (escape_rest (escapes.CodePoint (v * 16 + hex_value c))) cs ys) (nat_le v 0x10FFFF) (code_point_after v) Nothing (now_within v k)
    (if_known (λ a. Leads (Then (code_point_after v) (char 125)) (c ∷ cs) ys ↔ Leads (Then a (char 125)) cs ys) (nat_le (v * 16 + hex_value c) 0x10FFFF) (code_point_after (v * 16 + hex_value c)) Nothing (later_within v (hex_value c) k (hex_below c d))
    (goes (Then (code_point_after v) (char 125)) (Then (code_point_after (v * 16 + hex_value c)) (char 125)) c cs ys (never_ends (nat_le v 0x10FFFF)) (left (nat_le v 0x10FFFF) refl)))
  where
    hex_below : (c : ℕ) → is_hex_digit c ≡ true → hex_value c < 16
    hex_below c h = grind (arith, nat_tests)

    now_within : (v : ℕ) → nat_lt v 0x11000 ≡ true → nat_le v 0x10FFFF ≡ true
    now_within v k = grind (arith, nat_tests)

    later_within : (v d : ℕ) → nat_lt v 0x11000 ≡ true → d < 16 → nat_le (v * 16 + d) 0x10FFFF ≡ true
    later_within v d k below = grind (arith, nat_tests)

    left : (b : Bool) → nat_le v 0x10FFFF ≡ b → behind (Then (code_point_after v) (char 125)) c ≡ Then (code_point_after (v * 16 + hex_value c)) (char 125)
    left true e = rw (d, e, h) refl
    left false e = rw (d, e) refl

-- digits only make the number larger
grows : (v : ℕ) (w : List ℕ) → v ≤ hex_from v w
grows v [] = omega arith
grows v (c ∷ w) = omega (arith, grows (v * 16 + hex_value c) w)

-- no digit follows a number that is too large for one
past : (v c : ℕ) → (c == 125) ≡ false → nat_lt v 0x11000 ≡ false → (cs ys : List ℕ) → Leads (Then (code_point_after v) (char 125)) (c ∷ cs) ys → ⊥
past v c h large cs ys (ms, (w, e, t, lead), k) = by_front w ms e t k
  where
    at_once : (ms : List ℕ) → c ∷ cs ≡ ms → Leads (char 125) ms ys → ⊥
    at_once [] e k = absurd k
    at_once (x ∷ xs) e k = let f : c ≡ x = cc in differ (c == 125) h (subst (λ z. (z == 125) ≡ true) (sym f) k.0)

    too_far : (v d n : ℕ) → nat_lt v 0x11000 ≡ false → v * 16 + d ≤ n → nat_le n 0x10FFFF ≡ true → ⊥
    too_far v d n large g t = grind (arith, nat_tests)

    by_front : (w ms : List ℕ) → c ∷ cs ≡ w ++ ms → nat_le (hex_from v w) 0x10FFFF ≡ true → Leads (char 125) ms ys → ⊥
    by_front [] ms e t k = at_once ms e k
    by_front (x ∷ w) ms e t k = too_far v (hex_value x) (hex_from (v * 16 + hex_value x) w) large (grows (v * 16 + hex_value x) w) t

too_large : (v c : ℕ) → (c == 125) ≡ false → (nat_lt v 0x11000 && is_hex_digit c) ≡ false → Steps_to (escapes.CodePoint v) c Bad
too_large v c h k _ cs ys =
    by_test (λ a. Leads (Then a (char 125)) (c ∷ cs) ys → ⊥) (nat_le v 0x10FFFF) (code_point_after v) Nothing
    (λ within. by_digit within (is_hex_digit c) refl)
    (λ beyond lead. stuck (Then Nothing (char 125)) c cs ys refl (rw h refl) lead)
  where
    not_small : (a b : Bool) → (a && b) ≡ false → b ≡ true → a ≡ false
    not_small true b h k = absurd (cc)
    not_small false b h k = refl

    by_digit : nat_le v 0x10FFFF ≡ true → (b : Bool) → is_hex_digit c ≡ b → Leads (Then (code_point_after v) (char 125)) (c ∷ cs) ys → ⊥
    by_digit within true d lead = past v c h (not_small (nat_lt v 0x11000) (is_hex_digit c) k d) cs ys lead
    by_digit within false d lead = stuck (Then (code_point_after v) (char 125)) c cs ys (never_ends (nat_le v 0x10FFFF)) (rw (d, within, h) refl) lead

code_point_right : (v c : ℕ) → Steps_to (escapes.CodePoint v) c (digits_step v c)
code_point_right v c =
    by_test (Steps_to (escapes.CodePoint v) c) (c == 125) _ _ (closes v c)
    (λ h. by_test (Steps_to (escapes.CodePoint v) c) (nat_lt v 0x11000 && is_hex_digit c) _ _
    (λ k. let p : (nat_lt v 0x11000 ≡ true) × (is_hex_digit c ≡ true) = both (nat_lt v 0x11000) (is_hex_digit c) k in goes_to v c h p.0 p.1)
    (too_large v c h))

-- each step follows what is left of the escape
pub follows : (s : Escape) (c : ℕ) → Steps_to s c (escape_step s c)
follows escapes.Backslash c = by_table escapes.Backslash (refl, refl) (λ c o. simp others) c
follows escapes.Unicode c = by_table escapes.Unicode (refl, refl) (λ c o. simp others) c
follows escapes.ThreeDigits c = by_table escapes.ThreeDigits (refl, refl) (λ c o. simp others) c
follows escapes.TwoDigits c = by_table escapes.TwoDigits (refl, refl) (λ c o. simp others) c
follows escapes.OneDigit c = by_table escapes.OneDigit (refl, refl) (λ c o. simp others) c
follows escapes.Brace c = by_table escapes.Brace (refl, refl) (λ c o. simp others) c
follows (escapes.CodePoint v) c = code_point_right v c

pub never_empty : (s : Escape) (n : Option ℕ) → may_be_empty (escape_rest s) n ≡ false
never_empty (escapes.CodePoint v) n = and_false (may_be_empty (after_digits v) n)
never_empty _ n = refl

-- the machine reads exactly what is an escape
pub escape_exact : (s : Escape) (xs ys : List ℕ) → Leads (escape_rest s) xs ys ↔ Reads escape_step escape_stop kinds_rest always (run escape_step escape_stop s xs) tt ys
escape_exact s xs ys = exact escape_step escape_stop kinds_rest always follows (λ s k ys. stuck_there (escape_rest s) ys (never_empty s None)) s tt xs ys
