use Rattle.std.proofs.Common.{sym, ◌∙◌}
use Rattle.js_machine_run.proofs.Woken_laws.{passed_by_jump, taken_by_jump}
use Rattle.js_machine_run.proofs.wakes.wake_by.Goals as goal

pub returns-then-passes_jumps : goal.returns-then-passes_jumps
returns-then-passes_jumps g c = passed_by_jump c.args.wait c.args.mode c.args.machine.now c.requires (sym c.passes_jumps.ensures ∙ c.if-passes_jumps.true)

pub returns : goal.returns
returns g c =
    taken_by_jump c.wake.result c.args.wait c.args.mode c.passes_jumps.result c.args.machine.now c.drop_value.new.self c.wake.new.machine c.requires c.passes_jumps.ensures c.if-passes_jumps.false c.drop_value.ensures c.wake.ensures
