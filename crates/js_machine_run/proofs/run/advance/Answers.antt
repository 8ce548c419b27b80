use Rattle.std.proofs.Common.{subst, sym}
use Rattle.js_machine.specs.declared.frame.Mode.{Mode}
use Rattle.js_machine_run.specs.Going.{GoesOnTo}
use Rattle.js_machine_run.proofs.Gone_on.{settled_first, settled_last}
use Rattle.js_machine_run.proofs.run.advance.Goals as goal

pub returns-clause-goes : goal.returns-clause-goes
returns-clause-goes g c =
    settled_first c.args.meter c.args.spent c.args.limit c.in_ok-went.went.used c.args.mode c.in_ok-mode.mode c.in_ok-mode-2.mode c.args.machine.now c.settle.new.machine c.settle-2.new.machine c.in_ok-mode.ensures.stays
    (settled_last c.args.meter c.args.spent c.args.limit c.in_ok-went.went.used c.in_ok-mode.mode c.in_ok-went.went.mode c.in_ok-mode-2.mode c.settle.new.machine c.go_in_place.new.machine c.settle-2.new.machine
    (subst (λ (m : Mode). GoesOnTo c.args.meter c.args.spent c.args.limit c.in_ok-went.went.used m c.settle.new.machine c.go_in_place.new.machine c.in_ok-went.went.mode) (sym c.in-Eval.is) c.in_ok-went.ensures.goes) c.in_ok-mode-2.ensures.stays)
