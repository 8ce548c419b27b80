use Rattle.std.proofs.Common.{Some, sym, ap, ◌∙◌}
use Rattle.js_in_place.specs.Places.{at_test, at_value}
use Rattle.js_in_place.proofs.Parts.{scope_left}
use Rattle.js_in_place.proofs.Placed.{then_part}
use Rattle.js_in_place.proofs.turns.back_from_inside.Goals as goal

pub returns-in-Some-ScopeExit : goal.returns-in-Some-ScopeExit
returns-in-Some-ScopeExit g c = λ s.
    (let is = sym c.newest_frame.ensures ∙ c.in-Some-ScopeExit.is ∙ ap Some c.in-Some-ScopeExit.field-0-is in
    let there = c.back_from_update.new.machine in
    then_part c.args.left c.args.left c.args.machine.now c.stand_in.new.machine there (at_value s.value c.args.machine.now) (at_value s.value c.stand_in.new.machine) (at_test c.args.turns there) s c.back_from_update.result
    (scope_left c.in-Some-ScopeExit.scope c.args.left s.value c.args.machine.now c.take_off.new.machine c.stand_in.new.machine is c.take_off.ensures c.stand_in.ensures) (c.back_from_update.ensures s))
