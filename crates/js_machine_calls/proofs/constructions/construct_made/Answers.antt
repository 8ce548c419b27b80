use Rattle.js_machine_calls.proofs.Constructed.{construct_runs}
use Rattle.js_machine_calls.proofs.constructions.construct_made.Goals as goal

pub returns : goal.returns
returns g c =
    construct_runs c.args.construction c.args.args.now c.args.machine.now c.run_body.result c.args.prototype c.prototype_given.result c.own-this.result c.in_ok-id.id.0 c.len-count.result c.constructing_body-body.result c.make_instance.new.machine c.push_arguments.new.self c.run_body.new.self
    c.prototype_given.ensures c.in_ok-id.ensures.id c.in_ok-id.ensures.made c.len-count.ensures c.in_ok-push_arguments.ensures c.own-this.ensures c.constructing_body-body.ensures c.run_body.ensures
