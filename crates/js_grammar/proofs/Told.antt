-- What the program tells of levels and of forms that are left out is so of each partial tree.
use Rattle.std.proofs.Common.{◌≡◌, ℕ, ◌+◌, ◌≤◌, Bool, true, false, not, nat_eq, nat_le, [], ◌∷◌, Option, Some, None, refl, sym, ap, subst, ◌∙◌, arith}
use Rattle.std.proofs.lemmas.Bool.Decides.{nat_tests}
use denote.Enum.Declared.{tag_of}
use Rattle.js_grammar.specs.contracts.left_out.LeftOut.{the_type as the_forms}
use Rattle.js_grammar.specs.declared.left_out.LeftOut.{LeftOut}
use Rattle.js_grammar.specs.declared.nesting.TheConstants.{MAX_LEVELS}
use Rattle.js_grammar.specs.declared.symbols.Production.TheVariants as production
use Rattle.js_grammar.specs.Grammar.{Nil}
use Rattle.js_grammar.specs.Machine.{State}
use Rattle.js_grammar.specs.Table
use Rattle.js_grammar.specs.Nesting
use Rattle.js_grammar.specs.Levels.{level, cost_of, step_of}
use Rattle.js_grammar.specs.Flat.{Flat, nesting_on}
use Rattle.js_grammar.specs.Laws.{IsShallow}
use Rattle.js_grammar.specs.Profile.{is_too_deep, Tells_deep, counts, no_step, any_form, is_form, left_out, Tells_form}
use Rattle.js_grammar.proofs.Depth.{low, low_enough, within, within_enough}
use Rattle.js_grammar.proofs.Heights.{open_up, open_down, step_less}
use Rattle.js_grammar.proofs.Forms.{counts_grow, open_none, open_some}

pub is_less : (a n : ℕ) → a ≤ n → nat_le a n ≡ true
is_less a n h = grind (arith, nat_tests)

pub less_is : (a n : ℕ) → nat_le a n ≡ true → a ≤ n
less_is a n h = grind (arith, nat_tests)

pub reached : (s : State) (n : ℕ) → IsShallow n s → level cost_of step_of s ≤ n
reached [] n h = omega arith
reached (i ∷ s) n h = sum_less (level cost_of step_of s) _ _ n (step_less i.production i.done) h.0
  where
    sum_less : (a x y n : ℕ) → x ≤ y → a + y ≤ n → a + x ≤ n
    sum_less a x y n h k = omega arith

pub was_not : (b : Bool) → true ≡ not b → b ≡ true → ⊥
was_not true e h = cc
was_not false e h = cc

pub was : (b : Bool) → false ≡ not b → b ≡ true
was true e = refl
was false e = cc

pub tells_deep : (x : Flat) (b : Bool) → b ≡ is_too_deep x → Tells_deep x b
tells_deep x true e = λ ts h l.
    let s = low ts h.0 MAX_LEVELS h.1 l in
    let k : (nesting_on x.items).level ≡ level cost_of step_of h.0 = ap (λ y. (nesting_on y.items).level) h.2 ∙ open_up h.0 s in
    let P : ℕ → Type 0 = λ a. a ≤ MAX_LEVELS in
    was_not (nat_le (nesting_on x.items).level MAX_LEVELS) e (is_less (nesting_on x.items).level MAX_LEVELS (subst P (sym k) (reached h.0 MAX_LEVELS s)))
tells_deep x false e = λ ts h.
    let k = less_is (nesting_on x.items).level MAX_LEVELS (was (nat_le (nesting_on x.items).level MAX_LEVELS) e) in
    let P : Flat → Type 0 = λ y. (nesting_on y.items).level ≤ MAX_LEVELS in
    low_enough ts h.0 MAX_LEVELS h.1 (open_down h.0 (subst P h.2 k))

pub source_count : (P : LeftOut → Bool) → counts P production.Source Nil ≡ 0
unfolding Table.form_of Nesting.is_update Nesting.is_undecided Nesting.takes_pattern Nesting.takes_parameters
source_count P = refl

module_count : (P : LeftOut → Bool) → counts P production.Module Nil ≡ 0
unfolding Table.form_of Nesting.is_update Nesting.is_undecided Nesting.takes_pattern Nesting.takes_parameters
module_count P = refl

pub itself : (n : ℕ) → nat_eq n n ≡ true
itself n = grind (arith, nat_tests)

pub tells_form : (x : Flat) (o : Option LeftOut) → o ≡ left_out x → Tells_form x o
tells_form x None e = λ ts h.
    within_enough (counts any_form) no_step (counts_grow any_form) (source_count any_form) refl (module_count any_form) ts h.0 0 h.1 (open_none any_form h.0 (sym (e ∙ ap left_out h.2)))
tells_form x (Some f) e = λ ts h l.
    open_some (is_form f) f (itself (tag_of the_forms f)) h.0 (sym (e ∙ ap left_out h.2)) (within (counts (is_form f)) no_step (counts_grow (is_form f)) (source_count (is_form f)) refl (module_count (is_form f)) ts h.0 0 h.1 l)
