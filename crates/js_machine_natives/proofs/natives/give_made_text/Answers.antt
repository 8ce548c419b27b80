use Rattle.std.proofs.Common.{◌≡◌, ◌≤◌, ◌-◌, ◌/◌, ◌∙◌, suc, length, ap, arith}
use Rattle.js_text.specs.declared.text.TheConstants.{MAX_UNITS}
use Rattle.js_native.specs.declared.costs.TheConstants.{UNITS_A_STEP}
use Rattle.js_machine_natives.proofs.Paid_laws.{text_free, text_paid}
use Rattle.js_machine_natives.proofs.natives.give_made_text.Goals as goal

pub returns-then-steps-eq0 : goal.returns-then-steps-eq0
returns-then-steps-eq0 g c =
    let short : length c.args.text ≤ MAX_UNITS = omega (arith, c.len.ensures.len, c.len.ensures.within) in
    text_free c.give.result c.args.text c.unit_steps-steps.result c.args.machine.now c.give.new.self short
    (c.unit_steps-steps.ensures ∙ ap (λ k. k / UNITS_A_STEP) (c.from.ensures ∙ c.len.ensures.len)) c.if-steps-eq0.true c.give.ensures.leads

pub returns : goal.returns
returns g c =
    let short : length c.args.text ≤ MAX_UNITS = omega (arith, c.len.ensures.len, c.len.ensures.within) in
    let more : c.unit_steps-steps.result ≡ suc (c.unit_steps-steps.result - 1) = omega (arith, c.if-steps-eq0.false) in
    text_paid c.pay.result c.args.text c.unit_steps-steps.result (c.unit_steps-steps.result - 1) c.args.machine.now c.push.new.self c.pay.new.self short
    (c.unit_steps-steps.ensures ∙ ap (λ k. k / UNITS_A_STEP) (c.from.ensures ∙ c.len.ensures.len)) more c.in_ok-push.ensures c.pay.ensures
