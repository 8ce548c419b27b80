use Rattle.js_in_place.specs.declared.spot.Spot.TheVariants as spot
use Rattle.js_in_place.proofs.Returning.{run_of}
use Rattle.js_in_place.proofs.run.begin.Goals as goal

pub returns : goal.returns
returns g c = run_of c.stand_of.result (spot.Form c.args.at) c.args.left c.args.machine.now c.do_form-step.new.machine c.do_form-step.new.seat c.do_form-step.result c.stand_of.ensures c.do_form-step.ensures.went
