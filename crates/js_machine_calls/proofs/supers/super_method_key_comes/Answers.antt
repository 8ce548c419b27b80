use Rattle.js_machine.proofs.Above.{method_home_asked, no_method_home}
use Rattle.js_machine_calls.proofs.supers.super_method_key_comes.Goals as goal

pub returns-in-None : goal.returns-in-None
returns-in-None g c = no_method_home c.args.arguments c.fault.result c.home.result c.args.key c.args.machine.now c.fault.new.self c.home.ensures c.in-None.is c.fault.ensures

pub returns-in_ok-push-in-Some : goal.returns-in_ok-push-in-Some
returns-in_ok-push-in-Some g c = method_home_asked c.args.arguments c.ask.result c.home.result c.in-Some.home c.args.key c.args.machine.now c.push.new.self c.ask.new.self c.home.ensures c.in-Some.is c.in_ok-push-in-Some.ensures c.ask.ensures
