use Rattle.js_machine_natives.proofs.Unit_laws.{after_object}
use Rattle.js_machine_natives.proofs.units.go_after.Goals as goal

pub returns-in-Object : goal.returns-in-Object
returns-in-Object g c =
    after_object c.ask_number_method.result c.args.items c.args.units c.args.reading c.in-Object.object c.in-Object.next c.args.machine.now c.ask_number_method.new.machine c.in-Object.is c.ask_number_method.ensures
