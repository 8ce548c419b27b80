use Rattle.std.proofs.Common.{ap}
use Rattle.js_in_place.specs.Places.{at_form}
use Rattle.js_in_place.proofs.Calling.{called}
use Rattle.js_in_place.proofs.Placed.{stands_at, still, went_stopped}
use Rattle.js_in_place.proofs.calls.call_with.Goals as goal

pub returns-in-All : goal.returns-in-All
returns-in-All g c = λ callee arguments e i h has keeps.
    called c.args.at callee arguments c.args.start c.args.count c.args.id.0 c.in-All.there c.args.left c.in-All.rest c.args.body c.args.closure c.args.machine.now c.list.new.machine c.enter_body.new.machine c.enter_body.new.seat c.enter_body.result
    e c.requires i h c.in-All.ensures has keeps c.enter_body.ensures

pub returns-in-Nothing : goal.returns-in-Nothing
returns-in-Nothing g c = λ callee arguments e i h has keeps.
    (let from = at_form c.args.at c.args.machine.now in
    let s = c.stopped.new.seat in
    went_stopped c.args.left c.args.left c.args.machine.now c.list.new.machine from s c.stopped.result
    (stands_at c.args.left c.args.left c.args.at c.args.machine.now c.args.machine.now c.list.new.machine from s c.in-Nothing.ensures (ap (λ x. x.at) c.stopped.ensures.form) (still c.args.left c.args.machine.now from))
    c.stopped.ensures.went)
