use Rattle.std.proofs.Common.{arith}
use Rattle.js_machine.proofs.Rested.{rest_made, rest_named}
use Rattle.js_machine.proofs.machine.Machine.make_rest.Goals as goal

pub returns-clause-name : goal.returns-clause-name
returns-clause-name g c =
    rest_named c.make_array.result c.args.count c.in_ok-args.args c.args.self.now c.take_arguments.new.self c.push_arguments.new.self c.in_ok-args.ensures.list c.in_ok-args.ensures.rest c.in_ok-push_arguments.ensures c.make_array.ensures.name

pub returns-clause-made : goal.returns-clause-made
returns-clause-made g c =
    rest_made c.make_array.result c.args.at c.args.count c.saturating_sub-fixed.result c.template-row.result c.in_ok-args.args c.behind-rest.result c.args.self.now c.take_arguments.new.self c.push_arguments.new.self c.make_array.new.self
    c.template-row.ensures (omega arith) c.in_ok-args.ensures.list c.in_ok-args.ensures.rest c.in_ok-push_arguments.ensures c.behind-rest.ensures c.make_array.ensures.made
