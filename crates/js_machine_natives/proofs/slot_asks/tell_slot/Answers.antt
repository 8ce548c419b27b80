use Rattle.js_machine.specs.js_native_steps.Steps.{waits_as}
use Rattle.js_machine_natives.specs.Telling.{wait_of}
use Rattle.js_machine_natives.proofs.Slot_asked.{told_by_none, told_by_proxy, told_by_table}
use Rattle.js_machine_natives.proofs.slot_asks.tell_slot.Goals as goal

pub returns-in-Proxy : goal.returns-in-Proxy
returns-in-Proxy g c = told_by_proxy c.ask_proxy.result c.args.which (waits_as (wait_of c.args.which c.args.kind)) c.args.object c.way.result c.args.machine.now c.ask_proxy.new.machine c.way.ensures c.in-Proxy.is c.ask_proxy.ensures

pub returns-in-Collection : goal.returns-in-Collection
returns-in-Collection g c = told_by_table c.decide_collection.result c.args.which (waits_as (wait_of c.args.which c.args.kind)) c.args.object c.way.result c.args.machine.now c.close_one.new.self c.decide_collection.new.machine c.way.ensures c.in-Collection.is c.close_one.ensures c.decide_collection.ensures

pub returns-in_default : goal.returns-in_default
returns-in_default g c = told_by_none c.tell_wrong_kind.result c.args.which (waits_as (wait_of c.args.which c.args.kind)) c.args.object c.way.result c.args.machine.now c.tell_wrong_kind.new.machine c.way.ensures c.in_default.not-Proxy c.in_default.not-Collection c.tell_wrong_kind.ensures
