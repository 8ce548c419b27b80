-- What the program knows of levels says how deep what stands and what is open is.
use Rattle.std.proofs.Common.{◌≡◌, ℕ, ◌+◌, ◌-◌, ◌≤◌, max, Bool, true, false, cond, nat_le, [], ◌∷◌, refl, sym, ap, subst, ◌∙◌, arith}
use Rattle.std.proofs.lemmas.Bool.Decides.{nat_tests}
use Rattle.std.proofs.Math.Nat.{le-max_left, le-max_right, max-le}
use Rattle.js_grammar.specs.declared.nesting.TheConstants.{MAX_LEVELS}
use Rattle.js_grammar.specs.declared.summary.Summary.{Summary}
use Rattle.js_grammar.specs.declared.symbols.Production.{Production}
use Rattle.js_grammar.specs.declared.symbols.Production.TheVariants as production
use Rattle.js_grammar.specs.Grammar.{Leaf, Node, Absent, Row, Nil, Then}
use Rattle.js_grammar.specs.Machine.{State}
use Rattle.js_grammar.specs.Table.{levels_of, lead_levels_of}
use Rattle.js_grammar.specs.Levels.{Lows, Shallow, level, cost_of, step_of}
use Rattle.js_grammar.specs.Nesting.{bounded, height_of, step_by}
use Rattle.js_grammar.specs.Fits.{summary_of}
use Rattle.js_grammar.specs.Flat.{nesting_on, laid_open}

no_more : (n : ℕ) → n ≤ n
no_more n = omega arith

-- the first part stands no deeper than the others
lead_less : (f : Production) → lead_levels_of f ≤ levels_of f
unfolding lead_levels_of
lead_less production.IfElseStatement = omega arith
lead_less production.NewWithArguments = omega arith
lead_less _ = no_more _

within : (x n : ℕ) → nat_le x n ≡ true → x ≤ n
within x n h = grind (arith, nat_tests)

not_within : (x n : ℕ) → nat_le x n ≡ false → n + 1 ≤ x
not_within x n h = grind (arith, nat_tests)

is_within : (x n : ℕ) → x ≤ n → nat_le x n ≡ true
is_within x n h = grind (arith, nat_tests)

-- what is bounded is as deep, as far as it may be
cut : (b : Bool) (a x n : ℕ) → nat_le x n ≡ b → a + x ≤ n → a + cond b x (n + 1) ≤ n
cut true a x n e h = h
cut false a x n e h = let k : n + 1 ≤ x = not_within x n e in absurd (omega arith)

bounded_up : (a x : ℕ) → a + x ≤ MAX_LEVELS → a + bounded x ≤ MAX_LEVELS
bounded_up a x h = cut (nat_le x MAX_LEVELS) a x MAX_LEVELS refl h

uncut : (b : Bool) (a x n : ℕ) → a + cond b x (n + 1) ≤ n → a + x ≤ n
uncut true a x n h = h
uncut false a x n h = absurd (omega arith)

bounded_down : (a x : ℕ) → a + bounded x ≤ MAX_LEVELS → a + x ≤ MAX_LEVELS
bounded_down a x h = uncut (nat_le x MAX_LEVELS) a x MAX_LEVELS h

bounded_is : (x : ℕ) → x ≤ MAX_LEVELS → bounded x ≡ x
bounded_is x h = ap (λ b. cond b x (MAX_LEVELS + 1)) (is_within x MAX_LEVELS h)

plus_max : (b x y n : ℕ) → b + x ≤ n → b + y ≤ n → b + max x y ≤ n
plus_max b x y n h k =
    let hx : x ≤ n - b = omega arith in
    let hy : y ≤ n - b = omega arith in
    let z : max x y ≤ n - b = max-le hx hy in
    omega arith

plus_left : (b x y n : ℕ) → b + max x y ≤ n → b + x ≤ n
plus_left b x y n h = let z : x ≤ max x y = le-max_left x y in omega arith

plus_right : (b x y n : ℕ) → b + max x y ≤ n → b + y ≤ n
plus_right b x y n h = let z : y ≤ max x y = le-max_right x y in omega arith

-- a tree is as high as its parts make it
abbrev Fits_in : Production → ℕ → Summary → Type 0
Fits_in f a m = (a + (levels_of f + m.height) ≤ MAX_LEVELS) × (a + (lead_levels_of f + m.first_height) ≤ MAX_LEVELS)

tree_up : (f : Production) (a : ℕ) (m : Summary) → Fits_in f a m → a + height_of f m ≤ MAX_LEVELS
tree_up f a m h = bounded_up a (max (levels_of f + m.height) (lead_levels_of f + m.first_height)) (plus_max a (levels_of f + m.height) (lead_levels_of f + m.first_height) MAX_LEVELS h.0 h.1)

tree_down : (f : Production) (a : ℕ) (m : Summary) → a + height_of f m ≤ MAX_LEVELS → Fits_in f a m
tree_down f a m h =
    let k = bounded_down a (max (levels_of f + m.height) (lead_levels_of f + m.first_height)) h in
    (plus_left a (levels_of f + m.height) (lead_levels_of f + m.first_height) MAX_LEVELS k, plus_right a (levels_of f + m.height) (lead_levels_of f + m.first_height) MAX_LEVELS k)

step_is : (f : Production) (r : Row) → step_of f r ≡ step_by f (summary_of r)
step_is f Nil = refl
step_is f (Then r (Leaf t)) = step_is f r
step_is f (Then r (Node h q)) = refl
step_is f (Then r Absent) = step_is f r

-- where no part stands the first one has no height
no_height : (r : Row) → (summary_of r).has_part ≡ false → (summary_of r).first_height ≡ 0
no_height Nil e = refl
no_height (Then r (Leaf t)) e = no_height r e
no_height (Then r (Node h q)) e = cc
no_height (Then r Absent) e = no_height r e

join_up : (b : Bool) (a l k y z x n : ℕ) → a + (l + y) ≤ n → a + (k + z) ≤ n → (a + cond b l k) + x ≤ n → (a + (l + cond b (max y x) y) ≤ n) × (a + (k + cond b z x) ≤ n)
join_up true a l k y z x n g h e =
    let u : (a + l) + y ≤ n = omega arith in
    let w : (a + l) + max y x ≤ n = plus_max (a + l) y x n u e in
    let v : a + (l + max y x) ≤ n = omega arith in
    (v, h)
join_up false a l k y z x n g h e = (g, omega arith)

join_down : (b : Bool) (a l k y z x n : ℕ) → (b ≡ false → z ≡ 0) → k ≤ l → a + (l + cond b (max y x) y) ≤ n → a + (k + cond b z x) ≤ n → (a + (l + y) ≤ n) × (a + (k + z) ≤ n) × ((a + cond b l k) + x ≤ n)
join_down true a l k y z x n e i g h =
    let w : (a + l) + max y x ≤ n = omega arith in
    let u : (a + l) + y ≤ n = plus_left (a + l) y x n w in
    let v : (a + l) + x ≤ n = plus_right (a + l) y x n w in
    (omega arith, h, v)
join_down false a l k y z x n e i g h =
    let o : z ≡ 0 = e refl in
    (g, omega arith, omega arith)

rows_up : (r : Row) (f : Production) (a : ℕ) → a + levels_of f ≤ MAX_LEVELS → Lows cost_of step_of f a MAX_LEVELS r → Fits_in f a (summary_of r)
rows_up Nil f a c l = let i : lead_levels_of f ≤ levels_of f = lead_less f in (omega arith, omega arith)
rows_up (Then r (Leaf t)) f a c l = rows_up r f a c l.0
rows_up (Then r Absent) f a c l = rows_up r f a c l.0
rows_up (Then r (Node h q)) f a c l =
    let i = rows_up r f a c l.0 in
    let j = rows_up q h (a + step_of f r) l.1.0 l.1.1 in
    let k = tree_up h (a + step_of f r) (summary_of q) j in
    let P : ℕ → Type 0 = λ s. (a + s) + height_of h (summary_of q) ≤ MAX_LEVELS in
    join_up (summary_of r).has_part a (levels_of f) (lead_levels_of f) (summary_of r).height (summary_of r).first_height (height_of h (summary_of q)) MAX_LEVELS i.0 i.1 (subst P (step_is f r) k)

less_levels : (a x y n : ℕ) → a + (x + y) ≤ n → a + x ≤ n
less_levels a x y n h = omega arith

rows_down : (r : Row) (f : Production) (a : ℕ) → Fits_in f a (summary_of r) → Lows cost_of step_of f a MAX_LEVELS r
rows_down Nil f a h = tt
rows_down (Then r (Leaf t)) f a h = (rows_down r f a h, tt)
rows_down (Then r Absent) f a h = (rows_down r f a h, tt)
rows_down (Then r (Node m q)) f a h =
    let i = join_down (summary_of r).has_part a (levels_of f) (lead_levels_of f) (summary_of r).height (summary_of r).first_height (height_of m (summary_of q)) MAX_LEVELS (no_height r) (lead_less f) h.0 h.1 in
    let P : ℕ → Type 0 = λ s. (a + s) + height_of m (summary_of q) ≤ MAX_LEVELS in
    let k = tree_down m (a + step_of f r) (summary_of q) (subst P (sym (step_is f r)) i.2) in
    (rows_down r f a (i.0, i.1), (less_levels (a + step_of f r) (levels_of m) (summary_of q).height MAX_LEVELS k.0, rows_down q m (a + step_of f r) k))

-- what is open
pub step_less : (f : Production) (r : Row) → step_of f r ≤ levels_of f
step_less f Nil = lead_less f
step_less f (Then r (Leaf t)) = step_less f r
step_less f (Then r (Node h q)) = no_more (levels_of f)
step_less f (Then r Absent) = step_less f r

reached : (x y n : ℕ) → x ≤ n → cond (nat_le x n) y (n + 1) ≡ y
reached x y n h = ap (λ b. cond b y (n + 1)) (is_within x n h)

not_passed : (b : Bool) (x y n : ℕ) → nat_le x n ≡ b → cond b y (n + 1) ≤ n → x ≤ n
not_passed true x y n e h = within x n e
not_passed false x y n e h = absurd (omega arith)

pub open_up : (s : State) → Shallow cost_of step_of MAX_LEVELS s → (nesting_on (laid_open s)).level ≡ level cost_of step_of s
open_up [] h = refl
open_up (i ∷ s) h =
    let e : (nesting_on (laid_open s)).level ≡ level cost_of step_of s = open_up s h.2 in
    let j = tree_up i.production (level cost_of step_of s) (summary_of i.done) (rows_up i.done i.production (level cost_of step_of s) h.0 h.1) in
    let P : ℕ → Type 0 = λ a. a + height_of i.production (summary_of i.done) ≤ MAX_LEVELS in
    let low : (nesting_on (laid_open s)).level + height_of i.production (summary_of i.done) ≤ MAX_LEVELS = subst P (sym e) j in
    let less : step_of i.production i.done ≤ levels_of i.production = step_less i.production i.done in
    let next : level cost_of step_of s + step_of i.production i.done ≤ MAX_LEVELS = sum_less (level cost_of step_of s) (step_of i.production i.done) (levels_of i.production) MAX_LEVELS less h.0 in
    reached ((nesting_on (laid_open s)).level + height_of i.production (summary_of i.done)) (bounded ((nesting_on (laid_open s)).level + step_by i.production (summary_of i.done))) MAX_LEVELS low
    ∙ ap (λ a. bounded (a + step_by i.production (summary_of i.done))) e
    ∙ ap (λ a. bounded (level cost_of step_of s + a)) (sym (step_is i.production i.done))
    ∙ bounded_is (level cost_of step_of s + step_of i.production i.done) next
  where
    sum_less : (a x y n : ℕ) → x ≤ y → a + y ≤ n → a + x ≤ n
    sum_less a x y n h k = omega arith

pub open_down : (s : State) → (nesting_on (laid_open s)).level ≤ MAX_LEVELS → Shallow cost_of step_of MAX_LEVELS s
open_down [] h = tt
open_down (i ∷ s) h =
    let j : (nesting_on (laid_open s)).level + height_of i.production (summary_of i.done) ≤ MAX_LEVELS = not_passed (nat_le ((nesting_on (laid_open s)).level + height_of i.production (summary_of i.done)) MAX_LEVELS) ((nesting_on (laid_open s)).level + height_of i.production (summary_of i.done)) (bounded ((nesting_on (laid_open s)).level + step_by i.production (summary_of i.done))) MAX_LEVELS refl h in
    let k = open_down s (left_less (nesting_on (laid_open s)).level (height_of i.production (summary_of i.done)) MAX_LEVELS j) in
    let e : (nesting_on (laid_open s)).level ≡ level cost_of step_of s = open_up s k in
    let P : ℕ → Type 0 = λ a. a + height_of i.production (summary_of i.done) ≤ MAX_LEVELS in
    let m = tree_down i.production (level cost_of step_of s) (summary_of i.done) (subst P e j) in
    (less_levels (level cost_of step_of s) (levels_of i.production) (summary_of i.done).height MAX_LEVELS m.0, rows_down i.done i.production (level cost_of step_of s) m, k)
  where
    left_less : (a x n : ℕ) → a + x ≤ n → a ≤ n
    left_less a x n h = omega arith
