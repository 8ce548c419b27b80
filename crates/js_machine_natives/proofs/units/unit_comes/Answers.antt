use Rattle.std.proofs.Common.{w64}
use Rattle.std.proofs.lemmas.Int.{to_z-of_z}
use Rattle.js_machine_natives.proofs.Unit_laws.{came}
use Rattle.js_machine_natives.proofs.units.unit_comes.Goals as goal

pub returns : goal.returns
returns g c =
    came c.go_on_units.result c.args.items c.args.units c.push.new.self c.args.next c.args.number c.unit_of_number.result c.args.machine.now c.go_on_units.new.machine (to_z-of_z w64 c.args.number c.ranges.number) c.unit_of_number.ensures c.in_ok-push.ensures.ok c.go_on_units.ensures
