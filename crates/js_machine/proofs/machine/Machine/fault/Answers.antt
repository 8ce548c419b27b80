use Rattle.js_machine.proofs.Faulted.{faulted_ok, fits}
use Rattle.js_machine.proofs.machine.Machine.fault.Goals as goal

pub returns-in-Ok : goal.returns-in-Ok
returns-in-Ok g c =
    faulted_ok c.throw_error.result c.args.fault c.in-Ok.message c.args.self.now c.throw_error.new.self c.in-Ok.ensures.text (fits _ _ c.in-Ok.ensures.too_long) c.error.ensures c.throw_error.ensures.thrown c.throw_error.ensures.mode
