use Rattle.std.proofs.Common.{ap, refl}
use Rattle.js_direct.specs.declared.plain.Plain.TheVariants as plain
use Rattle.js_in_place.specs.Places.{at_copy}
use Rattle.js_in_place.proofs.Parts.{copy_entered}
use Rattle.js_in_place.proofs.Placed.{gives_at, went_given}
use Rattle.js_in_place.proofs.here.fresh.Goals as goal

pub returns-in-Ok : goal.returns-in-Ok
returns-in-Ok g c =
    let from = at_copy c.args.machine.now in
    went_given c.args.left c.args.left c.args.machine.now c.enter_copy.new.machine from c.given.new.seat c.given.result
    (gives_at c.args.left c.args.left plain.Undefined c.args.machine.now c.enter_copy.new.machine c.enter_copy.new.machine from c.given.new.seat refl (ap (λ s. s.value) c.given.ensures.value)
    (copy_entered c.args.left c.args.machine.now c.enter_copy.new.machine c.in-Ok.ensures))
    c.given.ensures.went
