use Rattle.std.proofs.Common.{rules, ◌≡◌, ◌<◌, ◌^◌, ◌%◌, ◌&&◌, ◌==◌, pos, ◌<ℤ◌, FitsSigned, w64, unsigned_abs, ap, sym, subst, ◌∙◌, arith}
use Rattle.std.specs.Int.{is_negative}
use Rattle.std.proofs.lemmas.Int.{ints, to_z-of_z}
use Rattle.js_num.specs.Arithmetic.{IsPower}
use Rattle.js_num.specs.Numerals.{signed}
use Rattle.js_num.specs.SafeRange.{max_safe}
use Rattle.js_num.proofs.Powers.{no_reciprocal, no_large_power, power_is}
use Rattle.js_num.proofs.Results.{on_err}
use Rattle.js_num.proofs.power.power.Goals as goal
use Rattle.js_num.proofs.power.power.Goals.{else-exponent-lt0-via-then-exponent-lt0+else-magnitude-ne1, else-exponent-lt0-via-else-exponent-lt0}

pub returns-then-magnitude-ne1-clause-err : goal.returns-then-magnitude-ne1-clause-err
returns-then-magnitude-ne1-clause-err c =
    let below : c.args.exponent <ℤ pos 0 = grind (arith, ints) in
    let size = c.unsigned_abs-magnitude.ensures.value ∙ ap unsigned_abs (to_z-of_z w64 c.args.base c.ranges.base) in
    λ v safe p. no_reciprocal c.args.base c.args.exponent v below (λ e. c.if-magnitude-ne1.true (size ∙ e)) p

pub returns-in_err-power-clause-err : goal.returns-in_err-power-clause-err
returns-in_err-power-clause-err c =
    let size = c.unsigned_abs-magnitude.ensures.value ∙ ap unsigned_abs (to_z-of_z w64 c.args.base c.ranges.base) in
    let times = c.unsigned_abs-times.ensures.value ∙ ap unsigned_abs (to_z-of_z w64 c.args.exponent c.ranges.exponent) in
    let large : max_safe < unsigned_abs c.args.base ^ unsigned_abs c.args.exponent = subst (λ n. max_safe < n) (λ i. size i ^ times i) c.in_err-power.ensures.err in
    on_err c.from_residual.result (λ v safe p. no_large_power c.args.base c.args.exponent v large safe p)

pub returns-clause-ok : goal.returns-clause-ok
returns-clause-ok c =
    let size = c.unsigned_abs-magnitude.ensures.value ∙ ap unsigned_abs (to_z-of_z w64 c.args.base c.ranges.base) in
    let times = c.unsigned_abs-times.ensures.value ∙ ap unsigned_abs (to_z-of_z w64 c.args.exponent c.ranges.exponent) in
    let negative = c.is_negative_power.ensures ∙ (λ i. is_negative (to_z-of_z w64 c.args.base c.ranges.base i) && (times i % 2 == 1)) in
    let power = c.in_ok-power.ensures.ok.0 ∙ (λ i. size i ^ times i) in
    let fits : FitsSigned w64 c.signed_integer.result = search rules in
    let unit : c.args.exponent <ℤ pos 0 → unsigned_abs c.args.base ≡ 1 =
    elim c.else-exponent-lt0.branch [
      | else-exponent-lt0-via-then-exponent-lt0+else-magnitude-ne1 w ↦ λ below. sym size ∙ w.if-magnitude-ne1.false
      | else-exponent-lt0-via-else-exponent-lt0 w ↦ λ below. absurd (grind (arith, ints))
    ] in
    subst (IsPower c.args.base c.args.exponent)
    (sym (to_z-of_z w64 c.signed_integer.result fits ∙ c.signed_integer.ensures.integer ∙ (λ i. signed (negative i) (power i))))
    (power_is c.args.base c.args.exponent unit)
