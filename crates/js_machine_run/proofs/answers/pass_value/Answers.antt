use Rattle.std.proofs.Common.{◌∙◌, ap, drop}
use Rattle.js_machine_run.proofs.Replied.{value_passes}
use Rattle.js_machine_run.proofs.answers.pass_value.Goals as goal

pub returns : goal.returns
returns g c =
    value_passes c.give.result c.args.frame c.args.value c.args.machine.now c.discard.new.self c.give.new.self c.requires
    (c.discard.ensures ∙ ap (λ n. record c.args.machine.now { values = drop n c.args.machine.now.values }) c.owned.ensures) c.give.ensures.leads
