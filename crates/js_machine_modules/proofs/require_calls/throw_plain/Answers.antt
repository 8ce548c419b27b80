use Rattle.js_machine.proofs.Faulted.{fits}
use Rattle.js_machine_modules.proofs.Required.{plain_thrown}
use Rattle.js_machine_modules.proofs.require_calls.throw_plain.Goals as goal

pub returns-in-Ok : goal.returns-in-Ok
returns-in-Ok g c =
    plain_thrown c.throw_plain_text.result c.args.message.now c.in-Ok.text c.args.machine.now c.throw_plain_text.new.machine c.in-Ok.ensures.units (fits _ _ c.in-Ok.ensures.too_long) c.throw_plain_text.ensures.thrown c.throw_plain_text.ensures.mode
