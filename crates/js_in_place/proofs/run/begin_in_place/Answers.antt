use Rattle.js_in_place.specs.declared.spot.Spot.TheVariants as spot
use Rattle.js_in_place.proofs.Gone.{still}
use Rattle.js_in_place.proofs.run.begin_in_place.Goals as goal

pub returns-in_default : goal.returns-in_default
returns-in_default g c = still (spot.Form c.args.at) c.args.left c.args.machine.now c.stopped_at.result c.stopped_at.ensures.spot c.stopped_at.ensures.left
