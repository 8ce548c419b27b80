use Rattle.std.proofs.Common.{ℕ, drop, ap, ◌∙◌}
use Rattle.js_machine_natives.proofs.Slot_asked.{none_begun, slot_begun}
use Rattle.js_machine_natives.proofs.slot_asks.run_slot_native.Goals as goal

pub returns-in-Some : goal.returns-in-Some
returns-in-Some g c = slot_begun c.take_step.result c.args.which c.in_ok-step.field-0 c.in-Some.step c.args.count c.args.machine.now c.take_step.new.machine c.requires c.in_ok-step.ensures c.in-Some.is c.take_step.ensures

pub returns-in-None : goal.returns-in-None
returns-in-None g c = none_begun c.fault.result c.args.which c.in_ok-step.field-0 c.args.count c.args.machine.now c.discard.new.self c.fault.new.self c.requires c.in_ok-step.ensures c.in-None.is (c.discard.ensures ∙ ap (λ (n : ℕ). record c.args.machine.now { values = drop n c.args.machine.now.values }) c.from.ensures) c.fault.ensures
