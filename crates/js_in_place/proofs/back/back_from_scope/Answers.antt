use Rattle.std.proofs.Common.{Some, sym, ap, ◌∙◌}
use Rattle.js_in_place.specs.Places.{at_value}
use Rattle.js_in_place.proofs.Parts.{scope_left}
use Rattle.js_in_place.proofs.Placed.{went_given}
use Rattle.js_in_place.proofs.back.back_from_scope.Goals as goal

pub returns-in-Some-ScopeExit : goal.returns-in-Some-ScopeExit
returns-in-Some-ScopeExit g c = λ s.
    (let is = sym c.newest_frame.ensures ∙ c.in-Some-ScopeExit.is ∙ ap Some c.in-Some-ScopeExit.field-0-is in
    went_given c.args.left c.args.left c.args.machine.now c.stand_in.new.machine (at_value s.value c.args.machine.now) s c.came.result
    (scope_left c.in-Some-ScopeExit.scope c.args.left s.value c.args.machine.now c.take_off.new.machine c.stand_in.new.machine is c.take_off.ensures c.stand_in.ensures) c.came.ensures)
