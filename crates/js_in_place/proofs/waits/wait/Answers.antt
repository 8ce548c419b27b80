use Rattle.js_in_place.proofs.Led.{waited_in}
use Rattle.js_in_place.proofs.waits.wait.Goals as goal

pub returns : goal.returns
returns g c =
    waited_in c.args.frame c.args.at c.args.left c.args.machine.now c.push_frame.new.self c.at_form.result c.in_ok-push_frame.ensures c.at_form.ensures
