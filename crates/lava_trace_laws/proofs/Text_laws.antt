-- Texts between quotes are read back, unit by unit.
use Rattle.std.proofs.Common.{◌≡◌, ℕ, zero, suc, ◌+◌, ◌*◌, ◌/◌, ◌%◌, ◌<◌, ◌≤◌, ◌==◌, Bool, true, false, not, ◌&&◌, cond, List, [], ◌∷◌, ◌++◌, length, get_or, nat_le, nat_lt, refl, ap, ◌∙◌, sym, arith, le-leb, length-append}
use Rattle.std.proofs.lemmas.Bool.{and_from, and_right, cond-true, eqb-true}
use Rattle.std.proofs.lemmas.Bool.Decides.{nat_tests}
use Rattle.std.proofs.lemmas.List.{append_assoc}
use Rattle.std.specs.List.{flat_map}
use Rattle.js_text.specs.declared.text.TheConstants.{MAX_UNITS}
use Rattle.lava_journal.specs.Quotes.{hex_digit, hex_unit, quoted, quoted_unit}
use Rattle.lava_trace.specs.Items.{fitting, goes_on, hex_at, hex_value, text_at, unit_at, units_at}
use Rattle.lava_trace.specs.Left.{Got, Left, skipped}
use Rattle.lava_trace.specs.Many.{many}
use Rattle.lava_trace_laws.specs.Sound.{AreUnits, IsText}
use Rattle.lava_trace_laws.specs.Spelled.{Listed}
use Rattle.lava_trace_laws.proofs.Name_laws.{left}

-- MANY THINGS

abbrev pub run : {X C : Type 0} → (C → X → C) → C → List X → C
run next c [] = c
run next c (x ∷ xs) = run next (next c x) xs

-- one thing more begins, is read, and leaves the rest
pub record OneRead {X C : Type 0} (begins : Left → Bool) (thing : Left → Got X) (st : C → List X → Left) (next : C → X → C) (ok : C → List X → Type 0) (c : C) (x : X) (xs : List X) : Type 0 where
  pub begun : begins (st c (x ∷ xs)) ≡ true
  pub is_read : thing (st c (x ∷ xs)) ≡ (x, st (next c x) xs)
  pub others : ok (next c x) xs

pub many_reads : {X C : Type 0} (begins : Left → Bool) (thing : Left → Got X) (st : C → List X → Left) (next : C → X → C) (ok : C → List X → Type 0)
    → ((c : C) (x : X) (xs : List X) → ok c (x ∷ xs) → OneRead begins thing st next ok c x xs)
    → ((c : C) → ok c [] → begins (st c []) ≡ false)
    → (n : ℕ) (c : C) (xs : List X) → length xs ≤ n → ok c xs → many begins thing n (st c xs) ≡ (xs, st (run next c xs) [])
unfolding many
many_reads begins thing st next ok one none zero c [] h o = refl
many_reads begins thing st next ok one none zero c (x ∷ xs) h o = absurd (omega (arith, h))
many_reads begins thing st next ok one none (suc n) c [] h o =
    ap (λ t. cond t ((thing (st c [])).0 ∷ (many begins thing n (thing (st c [])).1).0, (many begins thing n (thing (st c [])).1).1) ([], st c [])) (none c o)
many_reads {X = X} begins thing st next ok one none (suc n) c (x ∷ xs) h o =
    let first = one c x xs o in
    let l = st c (x ∷ xs) in
    ap (λ t. cond t ((thing l).0 ∷ (many begins thing n (thing l).1).0, (many begins thing n (thing l).1).1) ([], l)) first.begun
    ∙ ap (λ (g : Got X). (g.0 ∷ (many begins thing n g.1).0, (many begins thing n g.1).1)) first.is_read
    ∙ ap (λ (g : Got (List X)). (x ∷ g.0, g.1)) (many_reads begins thing st next ok one none n (next c x) xs (omega (arith, h)) first.others)

-- UNITS

digit_value_is : (n : ℕ) → n < 16 → hex_value (hex_digit n) ≡ n
digit_value_is n h = grind (arith, nat_tests)

hex_is : (u : ℕ) → u < 65536 → u / 4096 % 16 * 4096 + u / 256 % 16 * 256 + u / 16 % 16 * 16 + u % 16 ≡ u
hex_is u h = omega arith

hex_read : (u : ℕ) (rest : List ℕ) (m d : Listed) → u < 65536 → unit_at (left (hex_unit u ++ rest) m d) ≡ (u, left rest m d)
unfolding unit_at hex_at
hex_read u rest m d h =
    ap (λ (v : ℕ). (v, left rest m d))
    ((λ k. digit_value_is (u / 4096 % 16) (omega arith) k * 4096 + digit_value_is (u / 256 % 16) (omega arith) k * 256 + digit_value_is (u / 16 % 16) (omega arith) k * 16 + digit_value_is (u % 16) (omega arith) k)
    ∙ hex_is u h)

-- a unit, by which of the four forms it has
abbrev unit_choice : (quote slash plain : Bool) → ℕ → List ℕ
unit_choice quote slash plain u = cond quote (92 ∷ 34 ∷ []) (cond slash (92 ∷ 92 ∷ []) (cond plain (u ∷ []) (hex_unit u)))

unit_read_in : (u : ℕ) (rest : List ℕ) (m d : Listed) (a b e : Bool) → (u == 34) ≡ a → (u == 92) ≡ b → (nat_le 32 u && nat_lt u 127) ≡ e → u < 65536
    → unit_at (left (unit_choice a b e u ++ rest) m d) ≡ (u, left rest m d)
unfolding unit_at
unit_read_in u rest m d true b e p q r h = ap (λ (v : ℕ). (v, left rest m d)) (sym (eqb-true u 34 p))
unit_read_in u rest m d false true e p q r h = ap (λ (v : ℕ). (v, left rest m d)) (sym (eqb-true u 92 q))
unit_read_in u rest m d false false true p q r h = ap (λ t. cond t (cond (get_or rest 0 0 == 117) (hex_at (left (u ∷ rest) m d) 2, skipped 6 (left (u ∷ rest) m d)) (get_or rest 0 0, skipped 2 (left (u ∷ rest) m d))) (u, left rest m d)) q
unit_read_in u rest m d false false false p q r h = hex_read u rest m d h

unit_read : (u : ℕ) (rest : List ℕ) (m d : Listed) → u < 65536 → unit_at (left (quoted_unit u ++ rest) m d) ≡ (u, left rest m d)
unit_read u rest m d h = unit_read_in u rest m d (u == 34) (u == 92) (nat_le 32 u && nat_lt u 127) refl refl refl h

pub some : (n : ℕ) → not (suc n == 0) ≡ true
some n = grind (arith, nat_tests)

unit_goes_in : (u : ℕ) (rest : List ℕ) (m d : Listed) (a b e : Bool) → (u == 34) ≡ a → goes_on (left (unit_choice a b e u ++ rest) m d) ≡ true
unit_goes_in u rest m d true b e p = and_from _ _ (some (suc (length rest))) refl
unit_goes_in u rest m d false true e p = and_from _ _ (some (suc (length rest))) refl
unit_goes_in u rest m d false false true p = and_from _ _ (some (length rest)) (ap not p)
unit_goes_in u rest m d false false false p = and_from _ _ (some (suc (suc (suc (suc (suc (length rest))))))) refl

unit_goes : (u : ℕ) (rest : List ℕ) (m d : Listed) → goes_on (left (quoted_unit u ++ rest) m d) ≡ true
unit_goes u rest m d = unit_goes_in u rest m d (u == 34) (u == 92) (nat_le 32 u && nat_lt u 127) refl

unit_long_in : (u : ℕ) (a b e : Bool) → 1 ≤ length (unit_choice a b e u)
unit_long_in u true b e = omega arith
unit_long_in u false true e = omega arith
unit_long_in u false false true = omega arith
unit_long_in u false false false = omega arith

units_long : (t : List ℕ) → length t ≤ length (flat_map quoted_unit t)
units_long [] = omega arith
units_long (u ∷ t) = omega (arith, length-append (quoted_unit u) (flat_map quoted_unit t), unit_long_in u (u == 34) (u == 92) (nat_le 32 u && nat_lt u 127), units_long t)

run_same : {X C : Type 0} (c : C) (xs : List X) → run (λ a x. a) c xs ≡ c
run_same c [] = refl
run_same c (x ∷ xs) = run_same c xs

-- units up to a quote
pub units_read : (t rest : List ℕ) (m d : Listed) → AreUnits t → units_at (left (flat_map quoted_unit t ++ 34 ∷ rest) m d) ≡ (t, left (34 ∷ rest) m d)
unfolding units_at
units_read t rest m d h =
    many_reads goes_on unit_at (λ (c : List ℕ) ts. left (flat_map quoted_unit ts ++ 34 ∷ c) m d) (λ c u. c) (λ c ts. AreUnits ts)
    (λ c u ts o.
    let tail = flat_map quoted_unit ts ++ 34 ∷ c in
    let joined = append_assoc (quoted_unit u) (flat_map quoted_unit ts) (34 ∷ c) in
    record {
      begun = ap (λ bs. goes_on (left bs m d)) joined ∙ unit_goes u tail m d;
      is_read = ap (λ bs. unit_at (left bs m d)) joined ∙ unit_read u tail m d o.0;
      others = o.1;
    })
    (λ c o. and_right (not (length (34 ∷ c) == 0)) false refl)
    (length (flat_map quoted_unit t ++ 34 ∷ rest)) rest t (omega (arith, length-append (flat_map quoted_unit t) (34 ∷ rest), units_long t)) h
    ∙ ap (λ (c : List ℕ). (t, left (34 ∷ c) m d)) (run_same rest t)

pub text_read : (t rest : List ℕ) (m d : Listed) → IsText t → text_at (left (quoted t ++ rest) m d) ≡ (t, left rest m d)
unfolding text_at
text_read t rest m d h =
    ap (λ bs. text_at (left (34 ∷ bs) m d)) (append_assoc (flat_map quoted_unit t) (34 ∷ []) rest)
    ∙ ap (λ (g : Got (List ℕ)). (fitting g.0, skipped 1 g.1)) (units_read t rest m d h.units)
    ∙ ap (λ (u : List ℕ). (u, left rest m d)) (cond-true (nat_le (length t) MAX_UNITS) t [] (le-leb (length t) MAX_UNITS h.short))
