use Rattle.js_machine_natives.proofs.Wanted_numbers.{number_computed}
use Rattle.js_machine_run.proofs.to_number.number_comes.Goals as goal

pub returns-in-Ok : goal.returns-in-Ok
returns-in-Ok g c = number_computed c.go_computed.result c.args.wanted c.args.value.now c.in-Ok.number c.args.machine.now c.go_computed.new.machine c.in-Ok.ensures c.go_computed.ensures
