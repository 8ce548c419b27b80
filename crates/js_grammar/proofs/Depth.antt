-- What stands is at most n levels deep exactly where the tokens have a partial tree that is.
use Rattle.std.proofs.Common.{◌≡◌, ℕ, ◌+◌, ◌≤◌, ◌&&◌, List, [], ◌∷◌, ◌++◌, Option, Some, None, refl, sym, subst, ◌∙◌, arith}
use Rattle.js_grammar.specs.declared.lexeme.Lexeme.{Lexeme}
use Rattle.js_grammar.specs.declared.symbols.Nonterminal.TheVariants as nonterminal
use Rattle.js_grammar.specs.declared.symbols.Production.{Production}
use Rattle.js_grammar.specs.declared.symbols.Production.TheVariants as production
use Rattle.js_grammar.specs.declared.constituents.Constituent.{Constituent}
use Rattle.js_grammar.specs.Grammar.{Tree, Leaf, Node, Absent, Row, Nil, Then, is, led, left, over, spells, Partial, Open, Within, begins, IsPart, Stands, IsPartial}
use Rattle.js_grammar.specs.Levels.{LowPartial, level, Shallow, cost_of, step_of}
use Rattle.js_grammar.specs.Machine.{State}
use Rattle.js_grammar.specs.Table
use Rattle.js_grammar.specs.Fits.{fits_of, grammar, table}
use Rattle.js_grammar.specs.Laws.{from, Reads, HasWithin, HasLow, IsShallow}
use Rattle.js_grammar.proofs.Lowered.{lower, lower_partial}
use Rattle.js_grammar.proofs.Sound.{and_true, after_is, Fine, held, zip, feeds_comes, holds_partial}
use Rattle.js_grammar.proofs.Entries.{start_opens, wrap_may, fits_leads}
use Rattle.js_grammar.proofs.Exact.{exact_low, only_source, source_may, source_free, module_may, module_led, from_fine, source_left, stood, only_stands, is_over}

no_level : (c n : ℕ) → c ≡ 0 → 0 + c ≤ n
no_level c n e = omega arith

not_less : (c : ℕ) → 0 ≤ 0 + c
not_less c = omega arith

no_step : (c : ℕ) → c ≡ 0 → 0 + c ≡ 0
no_step c e = omega arith

module _ (cost step : Production → Row → ℕ) (grows : (f : Production) (r : Row) (x : Tree) → cost f r ≤ cost f (Then r x)) (source_cost : cost production.Source Nil ≡ 0) (source_step : step production.Source Nil ≡ 0) (module_cost : cost production.Module Nil ≡ 0) where
  abbrev Deep : ℕ → ℕ → Partial → Type 0
  Deep a n p = LowPartial cost step a n p

  zip_low : (s : State) (p : Partial) (n : ℕ) → Shallow cost step n s → Deep (level cost step s) n p → Deep 0 n (zip table production.Source start_opens wrap_may s p)
  zip_low [] p n h l = l
  zip_low (i ∷ s) p n h l = zip_low s (Within i.production i.done p) n h.2 (h.0, h.1, l)

  empty_low : (n : ℕ) → Deep 0 n (Open production.Module Nil)
  empty_low n = (no_level _ n module_cost, tt)

  empty_is : IsPartial grammar (Open production.Module Nil) nonterminal.Module
  empty_is = (module_may, refl, tt)

  empty : (n : ℕ) → HasWithin cost step n []
  empty n = ((Open production.Module Nil, empty_is, refl), empty_low n)

  row_low : (m : Production) (z : Row) (n : ℕ) → Deep 0 n (Open production.Source (Then Nil (Node m z))) → Deep 0 n (Open m z)
  row_low m z n l = lower cost step (Node m z) (0 + step production.Source Nil) 0 n (not_less _) l.1.1

  part_low : (p : Partial) (n : ℕ) → Deep 0 n (Within production.Source Nil p) → Deep 0 n p
  part_low p n l = lower_partial cost step p (0 + step production.Source Nil) 0 n (not_less _) l.2

  strip_row : (r : Row) (n : ℕ) → Stands grammar (left grammar production.Source r) → Deep 0 n (Open production.Source r) → HasWithin cost step n (spells r)
  unfolding Table.rule_of
  strip_row Nil n h l = empty n
  strip_row (Then Nil (Leaf u)) n h l = elim h [ ]
  strip_row (Then Nil Absent) n h l = elim h [ ]
  strip_row (Then Nil (Node m z)) n h l =
      let k = only_stands (is grammar (Node m z) nonterminal.Module) _ h in
      let a = and_true (fits_of nonterminal.Module m z && led grammar nonterminal.Module (spells z)) (over grammar (left grammar m z)) k in
      let f = (and_true (fits_of nonterminal.Module m z) (led grammar nonterminal.Module (spells z)) a.0).0 in
      let s : left grammar m z ≡ Some [] = is_over (left grammar m z) a.1 in
      ((Open m z, (fits_leads nonterminal.Module m z f, module_led (spells z), rw s tt), refl), row_low m z n l)
  strip_row (Then (Then r x) y) n h l =
      let a = stood (left grammar production.Source (Then (Then r x) y)) h in
      let m = after_is (left grammar production.Source (Then r x)) _ a.0 a.1 in
      let e = source_left r x m.0 m.1 in
      let k = rw e at m.2 in
      absurd cc

  strip_part : (r : Row) (p : Partial) (n : ℕ) → IsPart grammar (IsPartial grammar p) (left grammar production.Source r) → Deep 0 n (Within production.Source r p) → HasWithin cost step n (spells r ++ begins p)
  unfolding Table.rule_of
  strip_part Nil p n h l = ((p, h, refl), part_low p n l)
  strip_part (Then r x) p n h l = go (left grammar production.Source (Then r x)) refl h
    where
      go : (o : Option (List Constituent)) → left grammar production.Source (Then r x) ≡ o → IsPart grammar (IsPartial grammar p) o → HasWithin cost step n (spells (Then r x) ++ begins p)
      go None e k = elim k [ ]
      go (Some ps) e k = absurd (rw (source_left r x ps e) at k)

  strip : (p : Partial) (n : ℕ) → IsPartial grammar p nonterminal.Source → Deep 0 n p → HasWithin cost step n (begins p)
  strip (Open f r) n h l =
      let e = only_source f h.0 in
      strip_row r n (rw e at h.2) (rw e at l)
  strip (Within f r p) n h l =
      let e = only_source f h.0 in
      strip_part r p n (rw e at h.2) (rw e at l)

  held_low : (q : State) (ts : List Lexeme) (n : ℕ) → Fine table production.Source q [] × (held q ≡ ts) → Shallow cost step n q → HasWithin cost step n ts
  unfolding holds_partial
  held_low [] ts n v l = let P : List Lexeme → Type 0 = λ x. HasWithin cost step n x in subst P v.1 (empty n)
  held_low (k ∷ s) ts n v l =
      let m = holds_partial table production.Source start_opens wrap_may nonterminal.Source k s source_may source_free v.0 in
      let low = zip_low s (Open k.production k.done) n l.2 (l.0, l.1) in
      let P : List Lexeme → Type 0 = λ x. HasWithin cost step n x in
      subst P (m.2 ∙ v.1) (strip m.0 n m.1 low)

  pub within_enough : (ts : List Lexeme) (q : State) (n : ℕ) → Reads ts q → Shallow cost step n q → HasWithin cost step n ts
  within_enough ts q n h l = held_low q ts n (feeds_comes table production.Source start_opens wrap_may ts from q from_fine h) l

  from_shallow : (n : ℕ) → Shallow cost step n from
  from_shallow n = (no_level _ n source_cost, tt, tt)

  from_level : (p : Partial) (n : ℕ) → Deep 0 n p → Deep (level cost step from) n p
  from_level p n l = let P : ℕ → Type 0 = λ a. Deep a n p in subst P (sym (no_step _ source_step)) l

  pub within : (ts : List Lexeme) (q : State) (n : ℕ) → Reads ts q → HasWithin cost step n ts → Shallow cost step n q
  within ts q n h l =
      let m = exact_low cost step grows ts l.0 in
      let same : m.0 ≡ q = some_state m.0 q (sym m.1 ∙ h) in
      let P : State → Type 0 = λ x. Shallow cost step n x in
      subst P same (m.2 n (from_shallow n) (from_level l.0.0 n l.1))
    where
      some_state : (a b : State) → Some a ≡ Some b → a ≡ b
      some_state a b e = cc

pub levels_grow : (f : Production) (r : Row) (x : Tree) → cost_of f r ≤ cost_of f (Then r x)
levels_grow f r x = omega arith

pub source_levels : cost_of production.Source Nil ≡ 0
unfolding Table.levels_of
source_levels = refl

pub source_steps : step_of production.Source Nil ≡ 0
unfolding Table.levels_of Table.lead_levels_of
source_steps = refl

module_levels : cost_of production.Module Nil ≡ 0
unfolding Table.levels_of
module_levels = refl

pub low_enough : (ts : List Lexeme) (q : State) (n : ℕ) → Reads ts q → IsShallow n q → HasLow n ts
low_enough ts q n h l = within_enough cost_of step_of levels_grow source_levels source_steps module_levels ts q n h l

pub low : (ts : List Lexeme) (q : State) (n : ℕ) → Reads ts q → HasLow n ts → IsShallow n q
low ts q n h l = within cost_of step_of levels_grow source_levels source_steps module_levels ts q n h l
