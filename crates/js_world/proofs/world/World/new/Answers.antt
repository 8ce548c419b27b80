use Rattle.std.proofs.Common.{◌≡◌, zero, ◌∙◌, ap, length, replicate, reverse, None, false}
use Rattle.js_world.proofs.First_laws.{rests_first}
use Rattle.js_world.proofs.world.World.new.Goals as goal

pub returns-clause-rests : goal.returns-clause-rests
returns-clause-rests g c =
    let steps : c.in_ok-steps.steps.items ≡ replicate (length c.args.others.items) zero = c.in_ok-steps.ensures ∙ ap (λ n. replicate n zero) c.count_of.ensures in
    rests_first c.args.machine c.args.others.items c.args.leads.items c.args.budget _ (λ j. record { machine = c.args.machine; others = c.args.others.items; leads = c.args.leads.items; steps = steps j; spent = zero; budget = c.args.budget; stack = reverse (c.new.ensures.items j); last = None; tracing = false; newest = None; short = false })
