use Rattle.js_machine_modules.proofs.Outside_laws.{called_out}
use Rattle.js_machine_modules.proofs.outside.call_host.Goals as goal

pub returns : goal.returns
returns g c =
    called_out c.args.me c.host_number-function.result c.in_ok-arguments.arguments c.args.machine.now c.add_call.new.machine c.host_number-function.ensures c.in_ok-arguments.ensures c.in_ok-add_call.ensures
