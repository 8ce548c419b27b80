-- Each test that fails says which byte ends the front.
use Rattle.std.proofs.Common.{arith, sym, ◌∙◌}
use Rattle.std.proofs.Math.Logic.{inl, inr}
use Rattle.std.proofs.lemmas.Bool.{true≢false}
use Rattle.js_text.proofs.Begun.{goes_nowhere, goes_to_one, goes_to_two, goes_to_three}
use Rattle.js_text.proofs.utf8.begun_len.Goals as goal
use Rattle.js_text.proofs.utf8.begun_len.Goals.{then-first-lt194-via-then-first-lt194, then-first-lt194-via-else-first-lt194+then-first-gt244, then-bytes-lt2-via-then-bytes-lt2, then-bytes-lt2-via-else-bytes-lt2+then-not-may_follow, then-bytes-lt3-via-then-bytes-lt3, then-bytes-lt3-via-else-bytes-lt3+then-bytes-lt128, then-bytes-lt3-via-else-bytes-lt3+else-bytes-lt128+then-bytes-gt191}

pub returns-then-first-lt194 : goal.returns-then-first-lt194
returns-then-first-lt194 c = goes_nowhere c.args.bytes.now c.requires.some c.requires.no_char (elim c.then-first-lt194.branch [
  | then-first-lt194-via-then-first-lt194 w ↦ inl (omega (arith, w.if-first-lt194.true))
  | then-first-lt194-via-else-first-lt194+then-first-gt244 w ↦ inr (omega (arith, w.if-first-gt244.true))
])

pub returns-then-bytes-lt2 : goal.returns-then-bytes-lt2
returns-then-bytes-lt2 c = goes_to_one c.args.bytes.now c.requires.some c.requires.no_char (omega arith) (omega arith) (λ l may. elim c.then-bytes-lt2.branch as (λ _. ⊥) [
  | then-bytes-lt2-via-then-bytes-lt2 w ↦ absurd (omega (arith, w.if-bytes-lt2.true))
  | then-bytes-lt2-via-else-bytes-lt2+then-not-may_follow w ↦ true≢false (sym (w.may_follow.ensures.1 may) ∙ w.if-not-may_follow.true)
])

pub returns-then-bytes-lt3 : goal.returns-then-bytes-lt3
returns-then-bytes-lt3 c = goes_to_two c.args.bytes.now c.requires.some c.requires.no_char (omega arith) (omega arith) (omega arith) (c.may_follow.ensures.0 c.if-not-may_follow.false) (λ l follows. elim c.then-bytes-lt3.branch as (λ _. ⊥) [
  | then-bytes-lt3-via-then-bytes-lt3 w ↦ absurd (omega (arith, w.if-bytes-lt3.true))
  | then-bytes-lt3-via-else-bytes-lt3+then-bytes-lt128 w ↦ absurd (omega (arith, follows.0, w.if-bytes-lt128.true))
  | then-bytes-lt3-via-else-bytes-lt3+else-bytes-lt128+then-bytes-gt191 w ↦ absurd (omega (arith, follows.1, w.if-bytes-gt191.true))
])

pub returns : goal.returns
returns c = goes_to_three c.args.bytes.now c.requires.some c.requires.no_char (omega arith) (omega arith) (omega arith) (c.may_follow.ensures.0 c.if-not-may_follow.false) (omega arith) (omega arith, omega arith)
