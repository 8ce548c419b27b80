use Rattle.std.proofs.Common.{refl, ◌∙◌, ap}
use Rattle.js_machine.specs.Views.{View}
use Rattle.js_machine.specs.declared.frame.Mode.TheVariants as mode
use Rattle.js_machine.proofs.Queries.{asked_value}
use Rattle.js_machine.proofs.machine.Machine.ask_value.Goals as goal

pub returns : goal.returns
returns g c =
    asked_value c.args.frame c.args.target c.args.ask c.args.self.now c.set_asked.new.self mode.Ask
    (c.set_asked.ensures ∙ ap (λ (w : View). record w { asked = record { target = c.args.target; ask = c.args.ask } }) c.in_ok-push_frame.ensures) refl
