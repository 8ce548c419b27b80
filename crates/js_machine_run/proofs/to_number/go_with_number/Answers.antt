use Rattle.std.proofs.Common.{w64}
use Rattle.std.proofs.lemmas.Int.{to_z-of_z}
use Rattle.js_machine.specs.Wanting.{goes_with}
use Rattle.js_machine.specs.declared.asked.NumberFor.TheVariants as number_for
use Rattle.js_machine_natives.proofs.Wanted_numbers.{goes_by}
use Rattle.js_machine_run.proofs.to_number.go_with_number.Goals as goal

pub returns-in-Object : goal.returns-in-Object
unfolding goes_with
returns-in-Object g c = goes_by c.resume_object.result c.args.wanted (number_for.Object c.in-Object.me c.in-Object.next) c.args.number c.args.machine.now c.resume_object.new.machine (to_z-of_z w64 c.args.number c.ranges.number) c.in-Object.is c.resume_object.ensures

pub returns-in-Proxy : goal.returns-in-Proxy
unfolding goes_with
returns-in-Proxy g c = goes_by c.proxy_has_number.result c.args.wanted (number_for.Proxy c.in-Proxy.next) c.args.number c.args.machine.now c.proxy_has_number.new.machine (to_z-of_z w64 c.args.number c.ranges.number) c.in-Proxy.is c.proxy_has_number.ensures

pub returns-in-Units : goal.returns-in-Units
unfolding goes_with
returns-in-Units g c =
    goes_by c.unit_comes.result c.args.wanted (number_for.Units c.in-Units.units c.in-Units.items c.in-Units.next) c.args.number c.args.machine.now c.unit_comes.new.machine (to_z-of_z w64 c.args.number c.ranges.number) c.in-Units.is c.unit_comes.ensures
