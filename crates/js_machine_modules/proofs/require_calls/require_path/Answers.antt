use Rattle.js_machine_modules.proofs.Required.{path_required}
use Rattle.js_machine_modules.proofs.require_calls.require_path.Goals as goal

pub returns : goal.returns
returns g c =
    path_required c.require_there.result c.args.number c.args.request.now c.in_ok-path.path c.as_slice.result.now c.in_ok-dir.dir c.in_ok-there.there c.args.machine.now c.require_there.new.machine c.in_ok-path.ensures c.as_slice.ensures c.in_ok-dir.ensures c.in_ok-there.ensures c.require_there.ensures
