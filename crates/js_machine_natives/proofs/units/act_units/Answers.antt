use Rattle.js_machine_natives.proofs.Unit_laws.{on_list, on_others}
use Rattle.js_machine_natives.proofs.units.act_units.Goals as goal

pub returns-then-given-eq1 : goal.returns-then-given-eq1
returns-then-given-eq1 g c =
    on_list c.act_on_list.result c.len-given.result c.args.count c.in_ok-args.args c.item.result.now c.args.machine.now c.take_arguments.new.self c.act_on_list.new.machine
    c.in_ok-args.ensures.list c.in_ok-args.ensures.rest c.len-given.ensures c.if-given-eq1.true c.item.ensures c.act_on_list.ensures

pub returns : goal.returns
returns g c =
    on_others c.fault.result c.len-given.result c.args.count c.in_ok-args.args c.args.machine.now c.take_arguments.new.self c.fault.new.self
    c.in_ok-args.ensures.list c.in_ok-args.ensures.rest c.len-given.ensures c.if-given-eq1.false c.fault.ensures
