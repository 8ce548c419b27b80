use Rattle.std.proofs.Common.{sym, ◌∙◌}
use Rattle.js_machine.proofs.Referenced.{deleted}
use Rattle.js_machine_operators.proofs.properties.delete_property.Goals as goal

pub returns-in-Some : goal.returns-in-Some
returns-in-Some g c =
    deleted c.args.object c.args.key c.args.machine.now (sym c.is_nullish.ensures ∙ c.if-is_nullish.false) c.ask_value.result c.in_ok-key.field-0 c.in-Some.key c.ask_value.new.self c.in_ok-key.ensures c.in-Some.is c.ask_value.ensures
