use Rattle.js_machine_natives.proofs.Proxied_laws.{asks_nowhere, asks_target}
use Rattle.js_machine_natives.proofs.proxies.follow_proxy_ask.Goals as goal

pub returns-in-Some : goal.returns-in-Some
returns-in-Some g c = asks_target c.wait_for.result c.args.target c.in-Some.target c.args.ask c.args.next c.args.machine.now c.wait_for.new.self c.in-Some.is c.wait_for.ensures

pub returns-in-None : goal.returns-in-None
returns-in-None g c = asks_nowhere c.fault.result c.args.target c.args.ask c.args.next c.args.machine.now c.fault.new.self c.in-None.is c.fault.ensures
