use Rattle.std.proofs.Common.{rules, w64}
use Rattle.std.proofs.lemmas.Int.{to_z-of_z}
use Rattle.js_machine_natives.proofs.Wanted_numbers.{computed_is}
use Rattle.js_machine_run.proofs.to_number.go_computed.Goals as goal

pub returns-in-Is : goal.returns-in-Is
returns-in-Is g c =
    computed_is c.go_with_number.result c.args.wanted c.args.number c.in-Is.number c.args.machine.now c.go_with_number.new.machine (to_z-of_z w64 c.in-Is.number (search rules)) c.in-Is.is c.go_with_number.ensures
