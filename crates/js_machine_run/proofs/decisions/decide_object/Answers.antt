use Rattle.js_machine.proofs.Ways_laws.{as_object}
use Rattle.js_machine_modules.proofs.Required.{as_mapped, as_module}
use Rattle.js_machine_modules.proofs.Outside_laws.{as_host}
use Rattle.js_machine_natives.proofs.Proxied_laws.{as_proxy}
use Rattle.js_machine_natives.proofs.Collected.{as_collection}
use Rattle.js_machine_run.proofs.decisions.decide_object.Goals as goal

pub returns-in-Object : goal.returns-in-Object
returns-in-Object g c = as_object c.decide_as_object.result c.args.me c.way.result c.args.machine.now c.decide_as_object.new.machine c.way.ensures c.in-Object.is c.decide_as_object.ensures

pub returns-in-Module : goal.returns-in-Module
returns-in-Module g c = as_module c.call_require.result c.args.me c.way.result c.args.machine.now c.call_require.new.machine c.way.ensures c.in-Module.is c.call_require.ensures

pub returns-in-Mapped : goal.returns-in-Mapped
returns-in-Mapped g c = as_mapped c.call_mapped.result c.args.me c.way.result c.args.machine.now c.call_mapped.new.machine c.way.ensures c.in-Mapped.is c.call_mapped.ensures

pub returns-in-Host : goal.returns-in-Host
returns-in-Host g c = as_host c.call_host.result c.args.me c.way.result c.args.machine.now c.call_host.new.machine c.way.ensures c.in-Host.is c.call_host.ensures

pub returns-in-Proxy : goal.returns-in-Proxy
returns-in-Proxy g c = as_proxy c.decide_proxy.result c.args.me c.way.result c.args.machine.now c.decide_proxy.new.machine c.way.ensures c.in-Proxy.is c.decide_proxy.ensures

pub returns-in-Collection : goal.returns-in-Collection
returns-in-Collection g c = as_collection c.decide_collection.result c.args.me c.way.result c.args.machine.now c.decide_collection.new.machine c.way.ensures c.in-Collection.is c.decide_collection.ensures
