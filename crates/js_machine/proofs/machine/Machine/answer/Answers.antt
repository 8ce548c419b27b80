use Rattle.std.proofs.Common.{ap}
use Rattle.js_machine.specs.Views.{View}
use Rattle.js_machine.proofs.Queries.{answers}
use Rattle.js_machine.proofs.machine.Machine.answer.Goals as goal

pub returns : goal.returns
returns g c = answers c.args.answer c.args.self.now _ (ap (λ (w : View). record w { answer = c.args.answer }) c.self.view_is)
