-- A text that writes an index has one to ten digits and no leading zero, and the index is their value.
use Rattle.std.proofs.Common.{arith, sym, subst, ◌∙◌, length}
use Rattle.std.proofs.lemmas.Bool.{true≢false}
use Rattle.std.proofs.Math.Logic.{⊎_elim}
use Rattle.std.proofs.str.Laws.{order}
use Rattle.js_text.specs.Indices.{WritesIndex}
use Rattle.js_text.proofs.Decimals.{IsShort, no_index, index_of_short, value_of_index}
use Rattle.js_text.proofs.index.index_of_text.Goals as goal
use Rattle.js_text.proofs.index.index_of_text.Goals.{then-len-eq0-via-then-len-eq0, then-len-eq0-via-else-len-eq0+then-len-gt-MAX_DIGITS, then-len-eq0-via-else-len-eq0+else-len-gt-MAX_DIGITS+then-has_leading_zero}

pub returns-then-len-eq0-clause-none : goal.returns-then-len-eq0-clause-none
returns-then-len-eq0-clause-none c =
    no_index c.args.text.now (λ short. elim c.then-len-eq0.branch as (λ _. ⊥) [
      | then-len-eq0-via-then-len-eq0 w ↦ absurd (omega (arith, short.some, w.if-len-eq0.true, c.len.ensures.len))
      | then-len-eq0-via-else-len-eq0+then-len-gt-MAX_DIGITS w ↦ absurd (omega (arith, short.few, w.if-len-gt-MAX_DIGITS.true, w.len-else-len-eq0.ensures.len))
      | then-len-eq0-via-else-len-eq0+else-len-gt-MAX_DIGITS+then-has_leading_zero w ↦
          let leads = w.has_leading_zero.ensures.0 w.if-has_leading_zero.true in
          absurd (omega (arith, short.lead leads.1, leads.0))
    ])

pub returns-in-Some-clause-index : goal.returns-in-Some-clause-index
returns-in-Some-clause-index c =
    let units = c.args.text.now in
    let value = c.in-Some.ensures.1 in
    let short : IsShort units = record { some = omega arith; few = omega arith; lead = λ e. ⊎_elim (λ l. absurd (true≢false (sym (c.has_leading_zero.ensures.1 (l, e)) ∙ c.if-has_leading_zero.false))) (λ l. omega arith) (order 1 (length units)); digits = c.in-Some.ensures.0 } in
    subst (WritesIndex units) (sym value) (index_of_short units short (omega (arith, value, c.if-value.true)))

pub returns-in_default-clause-none : goal.returns-in_default-clause-none
returns-in_default-clause-none c = λ n writes. absurd (omega (arith, writes.0, c.in-Some.ensures.1, value_of_index c.args.text.now n writes))

pub returns-in_default-2-clause-none : goal.returns-in_default-2-clause-none
returns-in_default-2-clause-none c = no_index c.args.text.now (λ short. c.in_default.ensures short.digits)
