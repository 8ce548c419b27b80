use Rattle.std.proofs.Common.{sym, ◌∙◌}
use Rattle.js_machine.proofs.Referenced.{got}
use Rattle.js_machine_operators.proofs.properties.get_key.Goals as goal

pub returns-in-Some : goal.returns-in-Some
returns-in-Some g c =
    got c.args.object c.args.key c.args.machine.now (sym c.is_nullish.ensures ∙ c.if-is_nullish.false) c.get_named.result c.in_ok-key.field-0 c.in-Some.key c.get_named.new.machine c.in_ok-key.ensures c.in-Some.is c.get_named.ensures
