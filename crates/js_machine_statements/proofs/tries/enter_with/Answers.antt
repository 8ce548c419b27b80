use Rattle.std.proofs.Common.{◌∙◌}
use Rattle.js_machine_statements.proofs.Tried.{entered_with}
use Rattle.js_machine_statements.proofs.tries.enter_with.Goals as goal

pub returns : goal.returns
returns g c =
    c.stand_in.ensures
    ∙ entered_with c.args.value c.standing-outer.result c.in_ok-scope.scope _ c.args.machine.now c.open_empty.new.self c.write.new.self c.machine.view_is c.standing-outer.ensures c.in_ok-scope.ensures.ok c.in_ok-scope.ensures.number c.write.ensures
