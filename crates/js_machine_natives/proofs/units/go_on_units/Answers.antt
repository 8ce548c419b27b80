use Rattle.js_machine_natives.proofs.Unit_laws.{goes_on}
use Rattle.js_machine_natives.proofs.units.go_on_units.Goals as goal

pub returns : goal.returns
returns g c =
    goes_on c.go_after.result c.as_slice.result.now c.args.items c.args.from c.args.units c.read_units.new.units c.in_ok-reading.reading c.args.machine.now c.go_after.new.machine c.as_slice.ensures c.in_ok-reading.ensures c.go_after.ensures
