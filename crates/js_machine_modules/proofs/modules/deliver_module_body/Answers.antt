use Rattle.std.proofs.Common.{◌∙◌, sym}
use Rattle.js_machine_modules.proofs.Evaluates.{body_over, body_threw_ok}
use Rattle.js_machine_modules.proofs.modules.deliver_module_body.Goals as goal

pub returns-then-is_throw : goal.returns-then-is_throw
returns-then-is_throw g c =
    body_threw_ok c.module_throws.result c.args.number c.args.template c.args.object c.args.mode c.args.machine.now c.module_throws.new.machine (sym c.is_throw.ensures ∙ c.if-is_throw.true) c.module_throws.ensures.state c.module_throws.ensures.mode

pub returns : goal.returns
returns g c =
    body_over c.get_exports.result c.args.number c.args.template c.args.object c.args.mode c.args.machine.now c.drop_value.new.self c.get_exports.new.machine c.requires (sym c.is_throw.ensures ∙ c.if-is_throw.false) c.drop_value.ensures c.get_exports.ensures
