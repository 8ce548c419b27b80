use Rattle.js_machine_modules.proofs.Evaluates.{module_evaluated}
use Rattle.js_machine_modules.proofs.modules.evaluate_module.Goals as goal

pub returns : goal.returns
returns g c =
    module_evaluated c.args.number c.args.machine.now c.open_body.result c.in_ok-source.source.0 c.in_ok-path.path c.in_ok-source.source.1 c.in_ok-scope.scope c.in_ok-objects.objects c.template-row.result c.module_body-body.result c.own.result
    c.make_module_objects.new.machine c.open_module_scope.new.machine c.set_module.new.machine c.push.new.self c.open_body.new.self
    c.in_ok-source.ensures.path c.in_ok-source.ensures.template c.in_ok-path.ensures c.in_ok-objects.ensures.numbers c.in_ok-objects.ensures.made c.in_ok-scope.ensures.number c.in_ok-scope.ensures.opened c.in_ok-set_module.ensures c.in_ok-push.ensures
    c.template-row.ensures c.module_body-body.ensures c.own.ensures c.open_body.ensures
