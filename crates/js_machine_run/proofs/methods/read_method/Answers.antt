use Rattle.std.proofs.Common.{sym, ◌∙◌}
use Rattle.js_machine.proofs.Keyed.{method_known}
use Rattle.js_machine_run.proofs.methods.read_method.Goals as goal

pub returns-in-Some : goal.returns-in-Some
returns-in-Some g c =
    method_known c.args.arguments c.args.object c.args.key c.args.machine.now (sym c.is_nullish.ensures ∙ c.if-is_nullish.false) c.ask_method_of.result c.in_ok-key.field-0 c.in-Some.key c.ask_method_of.new.self c.in_ok-key.ensures c.in-Some.is c.ask_method_of.ensures
