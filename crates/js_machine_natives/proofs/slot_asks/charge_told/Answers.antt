use Rattle.std.proofs.Common.{ℕ, drop, ap, ◌∙◌}
use Rattle.js_machine_natives.proofs.Slot_asked.{told_charged}
use Rattle.js_machine_natives.proofs.slot_asks.charge_told.Goals as goal

pub returns : goal.returns
returns g c = told_charged c.pay.result c.args.which c.args.count c.in_ok-cost.cost c.args.truth c.args.machine.now c.discard.new.self c.push.new.self c.pay.new.self c.in_ok-cost.ensures (c.discard.ensures ∙ ap (λ (n : ℕ). record c.args.machine.now { values = drop n c.args.machine.now.values }) c.from.ensures) c.in_ok-push.ensures c.pay.ensures
