use Rattle.std.proofs.Common.{ap}
use Rattle.js_in_place.specs.Places.{at_test}
use Rattle.js_in_place.proofs.Parts.{test_waits}
use Rattle.js_in_place.proofs.Placed.{stands_at, went_stopped}
use Rattle.js_in_place.proofs.here.starts_loop.Goals as goal

pub returns-clause-went : goal.returns-clause-went
returns-clause-went g c =
    let from = at_test c.args.turns c.args.machine.now in
    went_stopped c.args.left c.args.left c.args.machine.now c.push_frame.new.self from c.stopped.new.seat c.stopped.result
    (stands_at c.args.left c.args.left c.turn_row-row.result.test c.args.machine.now _ c.push_frame.new.self from c.stopped.new.seat c.in-Ok.ensures (ap (λ s. s.at) c.stopped.ensures.form)
    (test_waits c.args.turns c.args.left c.turn_row-row.result c.args.machine.now c.turn_row-row.ensures))
    c.stopped.ensures.went
