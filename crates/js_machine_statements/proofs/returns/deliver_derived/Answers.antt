use Rattle.std.proofs.Common.{◌∙◌, sym}
use Rattle.js_machine.proofs.Came_back.{derived_back, derived_threw}
use Rattle.js_machine_statements.proofs.returns.deliver_derived.Goals as goal

pub returns-then-is_throw : goal.returns-then-is_throw
returns-then-is_throw g c = derived_threw c.args.mode c.args.machine.now c.close_body.new.self (sym c.is_throw.ensures ∙ c.if-is_throw.true) c.close_body.ensures

pub returns : goal.returns
returns g c =
    derived_back c.derived_constructed.result c.args.mode c.in_ok-this.this c.returned-value.result c.args.machine.now c.close_body.new.self c.returned-value.new.machine c.derived_constructed.new.machine c.requires (sym c.is_throw.ensures ∙ c.if-is_throw.false)
    c.in_ok-this.ensures c.close_body.ensures c.returned-value.ensures.value c.returned-value.ensures.rest c.derived_constructed.ensures
