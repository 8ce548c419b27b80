use Rattle.std.proofs.Common.{sym, ◌∙◌}
use Rattle.js_in_place.specs.declared.spot.Spot.TheVariants as spot
use Rattle.js_in_place.proofs.resume.resume.Goals as goal

pub returns : goal.returns
returns g c = c.stood.ensures (spot.Given c.args.seat.now.value) c.args.left c.args.machine.now c.deliver_within.new.machine (c.in-Ok.ensures (sym c.newest_frame.ensures ∙ c.in-Some.is))
