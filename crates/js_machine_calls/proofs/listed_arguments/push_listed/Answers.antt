use Rattle.std.proofs.Common.{◌++◌, ap, length, reverse}
use Rattle.js_machine_calls.proofs.Spread_out.{of_other, object_count, object_pushed}
use Rattle.js_machine_calls.proofs.listed_arguments.push_listed.Goals as goal

pub returns-in-None-clause-count : goal.returns-in-None-clause-count
returns-in-None-clause-count g c = ap length (of_other c.args.machine.now c.args.list.now c.object_of_value.result c.object_of_value.ensures c.in-None.is)

pub returns-in-None-clause-pushed : goal.returns-in-None-clause-pushed
returns-in-None-clause-pushed g c =
    ap (λ xs. record c.args.machine.now { values = reverse xs ++ c.args.machine.now.values }) (of_other c.args.machine.now c.args.list.now c.object_of_value.result c.object_of_value.ensures c.in-None.is)

pub returns-in-Some-clause-count : goal.returns-in-Some-clause-count
returns-in-Some-clause-count g c = object_count c.push_items_of.result c.args.machine.now c.args.list.now c.in-Some.object c.object_of_value.result c.object_of_value.ensures c.in-Some.is c.push_items_of.ensures.count

pub returns-in-Some-clause-pushed : goal.returns-in-Some-clause-pushed
returns-in-Some-clause-pushed g c = object_pushed c.push_items_of.result c.args.machine.now c.push_items_of.new.machine c.args.list.now c.in-Some.object c.object_of_value.result c.object_of_value.ensures c.in-Some.is c.push_items_of.ensures.pushed
