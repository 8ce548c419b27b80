use Rattle.std.proofs.Common.{Some, ap, ◌∙◌}
use Rattle.js_in_place.proofs.Returning.{list_left, scope_left, turn_left}
use Rattle.js_in_place.proofs.returns.passes.Goals as goal

pub returns-in-Seq-clause-over : goal.returns-in-Seq-clause-over
returns-in-Seq-clause-over g c = λ e t v left. list_left _ _ left v c.args.machine.now c.take_off.new.machine (e ∙ ap Some c.in-Seq.is) c.take_off.ensures

pub returns-in-Turned-clause-over : goal.returns-in-Turned-clause-over
returns-in-Turned-clause-over g c = λ e t v left. turn_left _ left v c.args.machine.now c.take_off-in-Turned.new.machine (e ∙ ap Some c.in-Turned.is) c.take_off-in-Turned.ensures

pub returns-in-ScopeExit-clause-over : goal.returns-in-ScopeExit-clause-over
returns-in-ScopeExit-clause-over g c = λ e t v left. scope_left c.in-ScopeExit.scope left v c.args.machine.now c.take_off-in-ScopeExit.new.machine c.stand_in.new.machine (e ∙ ap Some c.in-ScopeExit.is) c.take_off-in-ScopeExit.ensures c.stand_in.ensures
