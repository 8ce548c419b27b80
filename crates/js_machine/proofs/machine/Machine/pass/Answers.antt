use Rattle.std.proofs.Common.{◌≡◌, ◌∷◌, ◌∙◌, ap, drop, sym}
use Rattle.js_machine.specs.Views.{below, owned}
use Rattle.js_machine.proofs.Passes.{passes_with_value, passes_without}
use Rattle.js_machine.proofs.machine.Machine.pass.Goals as goal

pub returns-in_ok-push : goal.returns-in_ok-push
returns-in_ok-push g c =
    let old = c.args.self.now in
    let cut : c.discard.new.self ≡ record old { values = drop (owned c.args.frame) (below old.values) } =
    c.discard.ensures ∙ (λ i. record (c.take-value.ensures.rest i) { values = drop (c.owned.ensures i) (c.take-value.ensures.rest i).values }) in
    passes_with_value c.args.frame c.args.mode old c.push.new.self c.requires.takes c.requires.abrupt (sym c.has_value.ensures ∙ c.if-has_value.true)
    (c.in_ok-push.ensures ∙ (λ i. record (cut i) { values = c.take-value.ensures.value i ∷ (cut i).values }))

pub returns-else-has_value : goal.returns-else-has_value
returns-else-has_value g c =
    let old = c.args.self.now in
    passes_without c.args.frame c.args.mode old c.discard-else-has_value.new.self c.requires.takes c.requires.abrupt (sym c.has_value.ensures ∙ c.if-has_value.false)
    (c.discard-else-has_value.ensures ∙ ap (λ n. record old { values = drop n old.values }) c.owned-else-has_value.ensures)
