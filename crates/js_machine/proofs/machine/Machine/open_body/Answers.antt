use Rattle.std.proofs.Common.{◌<◌, ◌≤◌, ap, Some, arith}
use Rattle.js_code.specs.Decoded.{term_at}
use Rattle.js_operation.specs.js_run.declared.TheConstants.{MAX_DEPTH}
use Rattle.js_machine.specs.Bodies.{running_of}
use Rattle.js_machine.specs.Views.{View}
use Rattle.js_machine.proofs.Ran.{opens, too_deep}
use Rattle.js_machine.proofs.machine.Machine.open_body.Goals as goal

pub returns-then-self-ge-MAX_DEPTH : goal.returns-then-self-ge-MAX_DEPTH
returns-then-self-ge-MAX_DEPTH g c =
    let deep : MAX_DEPTH ≤ c.args.self.now.depth = omega (arith, ap (λ (w : View). w.depth) c.self.view_is) in
    too_deep c.end_run.result (term_at c.args.self.now.code c.args.at) (running_of c.args.scope (Some c.args.body)) c.args.frame c.args.self.now c.end_run.new.self deep c.end_run.ensures

pub returns : goal.returns
returns g c =
    let less : c.args.self.now.depth < MAX_DEPTH = omega (arith, ap (λ (w : View). w.depth) c.self.view_is) in
    opens c.wait.result c.args.at c.args.scope c.args.body c.args.frame c.args.self.now c.push_body.new.self c.wait.new.self less c.in_ok-push_body.ensures c.wait.ensures.leads
