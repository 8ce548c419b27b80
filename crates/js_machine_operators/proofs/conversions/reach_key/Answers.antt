use Rattle.js_machine.proofs.Converted.{key_reached, no_key}
use Rattle.js_machine_operators.proofs.conversions.reach_key.Goals as goal

pub returns-in-Some : goal.returns-in-Some
returns-in-Some g c = key_reached c.key_comes.result c.args.goal c.in_ok-key.field-0 c.in-Some.key c.args.value c.args.machine.now c.key_comes.new.machine c.in_ok-key.ensures c.in-Some.is c.key_comes.ensures

pub returns : goal.returns
returns g c = no_key c.fault.result c.args.goal c.in_ok-key.field-0 c.args.value c.held.result c.args.machine.now c.discard.new.self c.fault.new.self c.in_ok-key.ensures c.in-None.is c.held.ensures c.discard.ensures c.fault.ensures
