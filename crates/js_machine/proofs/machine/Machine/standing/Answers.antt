use Rattle.std.proofs.Common.{◌∙◌, ap}
use Rattle.js_machine.specs.Bodies.{scope_of}
use Rattle.js_machine.specs.Views.{View}
use Rattle.js_machine.proofs.Standing.{standing}
use Rattle.js_machine.proofs.machine.Machine.standing.Goals as goal

pub returns : goal.returns
returns g c = standing _ _ c.self.invariant.0 ∙ ap (λ (w : View). scope_of w.bodies) c.self.view_is
