use Rattle.js_in_place.proofs.Led.{body_ends}
use Rattle.js_in_place.proofs.deliver.end_body.Goals as goal

pub returns : goal.returns
returns g c = body_ends c.args.left c.args.value c.args.machine.now c.close_body.new.self c.at_value.result c.close_body.ensures c.at_value.ensures
