use Rattle.std.proofs.Common.{◌∙◌, ap, drop}
use Rattle.js_machine_run.proofs.Replied.{answer_passes}
use Rattle.js_machine_run.proofs.answers.pass_answer.Goals as goal

pub returns : goal.returns
returns g c =
    answer_passes c.args.frame c.args.machine.now c.discard.new.self c.requires.takes c.requires.none
    (c.discard.ensures ∙ ap (λ n. record c.args.machine.now { values = drop n c.args.machine.now.values }) c.owned.ensures)
