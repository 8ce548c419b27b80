use Rattle.std.proofs.Common.{sym, ◌∙◌}
use Rattle.js_machine.proofs.Referenced.{put}
use Rattle.js_machine_operators.proofs.properties.put_property.Goals as goal

pub returns-in-Some : goal.returns-in-Some
returns-in-Some g c =
    put c.args.object c.args.key c.args.value c.args.machine.now (sym c.is_nullish.ensures ∙ c.if-is_nullish.false) c.ask_to_set.result c.in_ok-key.field-0 c.in-Some.key c.ask_to_set.new.machine c.in_ok-key.ensures c.in-Some.is c.ask_to_set.ensures
