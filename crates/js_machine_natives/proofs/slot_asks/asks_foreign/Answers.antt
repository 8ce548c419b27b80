use Rattle.std.proofs.Common.{sym, ap, ◌∙◌}
use Rattle.std.specs.Prelude.{is_some}
use Rattle.js_text.specs.Naming.{naming_of}
use Rattle.js_machine.specs.SlotAsks.{first_object}
use Rattle.js_machine.specs.Views.{args_on}
use Rattle.js_machine_natives.proofs.Slot_asked.{foreign_first, none_first}
use Rattle.js_machine_natives.proofs.slot_asks.asks_foreign.Goals as goal

pub returns-in-Some : goal.returns-in-Some
returns-in-Some g c =
    foreign_first (naming_of c.args.machine.now.me) c.in-Some.object (first_object (args_on c.args.count c.args.machine.now.values)) c.first_object.result c.is_some.result
    (sym (c.first_object.ensures ∙ ap first_object c.last_values.ensures)) c.in-Some.is (c.is_some.ensures ∙ ap is_some c.foreign_of.ensures)

pub returns-in-None : goal.returns-in-None
returns-in-None g c =
    none_first (naming_of c.args.machine.now.me) (first_object (args_on c.args.count c.args.machine.now.values)) c.first_object.result
    (sym (c.first_object.ensures ∙ ap first_object c.last_values.ensures)) c.in-None.is
