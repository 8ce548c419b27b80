use Rattle.std.proofs.Common.{◌≡◌, ◌∙◌, ap, true, arith}
use Rattle.lava_base.specs.declared.ids.MadeSymbol.{MadeSymbol}
use Rattle.lava_base.specs.declared.ids.Ref.{Ref}
use Rattle.js_text.specs.declared.value.Value.{Value}
use Rattle.js_machine.specs.Views.{with_local}
use Rattle.js_machine_statements.proofs.Slotted.{set_changed}
use Rattle.js_machine_statements.proofs.slots.set_slot.Goals as goal

pub returns : goal.returns
returns g c =
    let there : c.has_local.result ≡ true = grind (arith, c.if-not-has_local.false) in
    set_changed c.give.result c.args.constant c.args.hops c.args.slot c.args.value c.args.machine.now c.write_local.new.machine c.give.new.self c.has_local.result c.has_local.ensures there c.if-constant.false
    (c.write_local.ensures ∙ ap (λ (x : Value Ref MadeSymbol). record c.args.machine.now { scopes = with_local c.args.machine.now c.args.hops c.args.slot x }) c.in_ok-copy_value.ensures)
    c.give.ensures.leads
