use Rattle.std.proofs.Common.{None, Some}
use Rattle.js_machine.proofs.Chosen.{target_given}
use Rattle.js_machine_calls.proofs.calls.run_template.Goals as goal

pub returns-in-None : goal.returns-in-None
returns-in-None g c =
    target_given c.call_by_kind.result c.args.at c.args.outer c.args.count c.args.function c.args.home c.args.lexical c.args.this c.args.target None c.args.machine.now c.call_by_kind.new.machine c.in-None.is c.call_by_kind.ensures

pub returns-in-Some : goal.returns-in-Some
returns-in-Some g c =
    target_given c.construct_by_kind.result c.args.at c.args.outer c.args.count c.args.function c.args.home c.args.lexical c.args.this c.args.target (Some c.in-Some.target) c.args.machine.now c.construct_by_kind.new.machine c.in-Some.is c.construct_by_kind.ensures
