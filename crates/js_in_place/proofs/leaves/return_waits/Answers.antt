use Rattle.std.proofs.Common.{ap}
use Rattle.js_code.specs.declared.node.Node.TheVariants as node
use Rattle.js_machine.specs.declared.frame.Frame.TheVariants as frame
use Rattle.js_in_place.proofs.Returning.{return_holds, waits_next}
use Rattle.js_in_place.proofs.leaves.return_waits.Goals as goal

pub returns : goal.returns
returns g c = λ at e.
    waits_next (node.ReturnValue c.args.value) frame.Return at c.args.value c.args.left c.args.machine.now c.push_frame.new.self c.next.new.seat c.next.result (return_holds c.args.value) c.requires c.in-Ok.ensures (ap (λ s. s.at) c.next.ensures.form) c.next.ensures.went e
