use Rattle.std.proofs.Common.{subst}
use Rattle.js_in_place.specs.Places.{IsWent, at_value}
use Rattle.js_in_place.proofs.returns.close.Goals as goal

pub returns : goal.returns
returns g c = subst (λ w. IsWent (at_value c.args.value w) c.args.left w c.pass.new.machine c.pass.new.seat c.pass.result) c.close_body.ensures c.pass.ensures
