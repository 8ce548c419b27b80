use Rattle.std.proofs.Common.{arith, refl}
use Rattle.js_machine_run.proofs.Gone_on.{nothing_paid, taken_in_place}
use Rattle.js_machine_run.proofs.run.go_in_place.Goals as goal

pub returns-then-most-eq0-clause-goes : goal.returns-then-most-eq0-clause-goes
returns-then-most-eq0-clause-goes g c =
    nothing_paid c.args.meter c.args.spent c.args.limit _ c.args.machine.now

pub returns-clause-goes : goal.returns-clause-goes
returns-clause-goes g c =
    taken_in_place c.args.meter c.args.spent c.args.limit c.args.at c.affordable-most.result _ c.in_ok-stand.stand c.args.machine.now c.begin_in_place.new.machine c.resumed.new.machine c.in_ok-mode.mode (c.affordable-most.ensures.paid (omega (arith, c.if-most-eq0.false)))
    c.in_ok-stand.ensures refl c.in_ok-mode.ensures
