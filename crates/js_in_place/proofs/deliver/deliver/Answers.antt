use Rattle.std.proofs.Common.{sym, ◌∙◌}
use Rattle.js_machine.specs.declared.frame.Frame.TheVariants as frame
use Rattle.js_in_place.specs.declared.spot.Spot.TheVariants as spot
use Rattle.js_in_place.proofs.Gone.{comes_in, comes_to, still}
use Rattle.js_in_place.proofs.deliver.deliver.Goals as goal

pub returns-in-Seq : goal.returns-in-Seq
returns-in-Seq g c =
    comes_in c.in_order.result c.newest_frame.result c.in-Some.frame (frame.Seq c.in-Seq.start c.in-Seq.count) c.args.value c.args.left c.args.machine.now c.take_off.new.machine c.in_order.new.machine c.newest_frame.ensures c.in-Some.is c.in-Seq.is c.take_off.ensures c.in_order.ensures

pub returns-in-ScopeExit : goal.returns-in-ScopeExit
returns-in-ScopeExit g c =
    comes_to c.newest_frame.result c.in-Some.frame (frame.ScopeExit c.in-ScopeExit.scope) c.args.value c.args.left c.args.machine.now c.take_off-in-ScopeExit.new.machine c.leave_scope.new.machine c.leave_scope.result c.newest_frame.ensures c.in-Some.is c.in-ScopeExit.is c.take_off-in-ScopeExit.ensures c.leave_scope.ensures

pub returns-in-Tested : goal.returns-in-Tested
returns-in-Tested g c =
    comes_in c.tested.result c.newest_frame.result c.in-Some.frame (frame.Tested c.in-Tested.turns) c.args.value c.args.left c.args.machine.now c.take_off-in-Tested.new.machine c.tested.new.machine c.newest_frame.ensures c.in-Some.is c.in-Tested.is c.take_off-in-Tested.ensures c.tested.ensures

pub returns-in-Turned : goal.returns-in-Turned
returns-in-Turned g c =
    comes_in c.next_turn.result c.newest_frame.result c.in-Some.frame (frame.Turned c.in-Turned.turns) c.args.value c.args.left c.args.machine.now c.take_off-in-Turned.new.machine c.next_turn.new.machine c.newest_frame.ensures c.in-Some.is c.in-Turned.is c.take_off-in-Turned.ensures c.next_turn.ensures

pub returns-in-Updated : goal.returns-in-Updated
returns-in-Updated g c =
    comes_in c.test.result c.newest_frame.result c.in-Some.frame (frame.Updated c.in-Updated.turns) c.args.value c.args.left c.args.machine.now c.take_off-in-Updated.new.machine c.test.new.machine c.newest_frame.ensures c.in-Some.is c.in-Updated.is c.take_off-in-Updated.ensures c.test.ensures

pub returns-in-If : goal.returns-in-If
returns-in-If g c =
    comes_to c.newest_frame.result c.in-Some.frame (frame.If c.in-If.consequent) c.args.value c.args.left c.args.machine.now c.take_off-in-If.new.machine c.take_off-in-If.new.machine c.choose.result c.newest_frame.ensures c.in-Some.is c.in-If.is c.take_off-in-If.ensures c.choose.ensures

pub returns-in-IfElse : goal.returns-in-IfElse
returns-in-IfElse g c =
    comes_to c.newest_frame.result c.in-Some.frame (frame.IfElse c.in-IfElse.consequent c.in-IfElse.alternate) c.args.value c.args.left c.args.machine.now c.take_off-in-IfElse.new.machine c.take_off-in-IfElse.new.machine c.choose-in-IfElse.result c.newest_frame.ensures c.in-Some.is c.in-IfElse.is c.take_off-in-IfElse.ensures c.choose-in-IfElse.ensures

pub returns-in_default-frame : goal.returns-in_default-frame
returns-in_default-frame g c = c.deliver_within.ensures (sym c.newest_frame.ensures ∙ c.in-Some.is)

pub returns-in_default : goal.returns-in_default
returns-in_default g c =
    still (spot.Given c.args.value) c.args.left c.args.machine.now c.stopped_at.result c.stopped_at.ensures.spot c.stopped_at.ensures.left
