use Rattle.std.proofs.Common.{◌∙◌, ap}
use Rattle.js_machine.specs.Decisions.{object_of_value}
use Rattle.js_machine.specs.Views.{View}
use Rattle.js_machine.proofs.Followed.{object_decides, value_decides}
use Rattle.js_machine_run.proofs.decisions.decide.Goals as goal

pub returns-in-Some : goal.returns-in-Some
returns-in-Some g c =
    object_decides c.decide_object.result c.object_of_value.result c.in-Some.me c.args.machine.now c.decide_object.new.machine
    (c.object_of_value.ensures ∙ ap (λ (w : View). object_of_value w.asked.target) c.machine.view_is) c.in-Some.is c.decide_object.ensures

pub returns-in_ok-decision-in-None : goal.returns-in_ok-decision-in-None
returns-in_ok-decision-in-None g c =
    value_decides c.follow_primitive.result c.object_of_value.result c.in_ok-decision-in-None.decision c.args.machine.now c.follow_primitive.new.machine
    (c.object_of_value.ensures ∙ ap (λ (w : View). object_of_value w.asked.target) c.machine.view_is) c.in-None.is c.in_ok-decision-in-None.ensures c.follow_primitive.ensures
