use Rattle.std.proofs.Common.{◌++◌, ap, length, reverse}
use Rattle.js_machine_calls.proofs.Spread_out.{none_seen, seen_count, seen_pushed}
use Rattle.js_machine_calls.proofs.listed_arguments.push_items_of.Goals as goal

pub returns-in-None-clause-count : goal.returns-in-None-clause-count
returns-in-None-clause-count g c = ap length (none_seen c.args.machine.now c.args.object c.item_target.result c.item_target.ensures.found c.in-None.is)

pub returns-in-None-clause-pushed : goal.returns-in-None-clause-pushed
returns-in-None-clause-pushed g c =
    ap (λ xs. record c.args.machine.now { values = reverse xs ++ c.args.machine.now.values }) (none_seen c.args.machine.now c.args.object c.item_target.result c.item_target.ensures.found c.in-None.is)

pub returns-in-Some-clause-count : goal.returns-in-Some-clause-count
returns-in-Some-clause-count g c = seen_count c.push_all_items.result c.args.machine.now c.args.object c.item_target.result c.in-Some.target c.item_target.ensures.found c.in-Some.is c.push_all_items.ensures.count

pub returns-in-Some-clause-pushed : goal.returns-in-Some-clause-pushed
returns-in-Some-clause-pushed g c = seen_pushed c.push_all_items.result c.args.machine.now c.push_all_items.new.machine c.args.object c.item_target.result c.in-Some.target c.item_target.ensures.found c.in-Some.is c.push_all_items.ensures.pushed
