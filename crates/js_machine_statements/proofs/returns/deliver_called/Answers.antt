use Rattle.std.proofs.Common.{◌∙◌, sym}
use Rattle.js_machine.proofs.Came_back.{called_back, call_threw}
use Rattle.js_machine_statements.proofs.returns.deliver_called.Goals as goal

pub returns-then-is_throw : goal.returns-then-is_throw
returns-then-is_throw g c = call_threw c.args.mode c.args.machine.now c.close_body.new.self (sym c.is_throw.ensures ∙ c.if-is_throw.true) c.close_body.ensures

pub returns : goal.returns
returns g c =
    called_back c.give.result c.args.mode c.returned-value.result c.args.machine.now c.close_body.new.self c.returned-value.new.machine c.give.new.self c.requires (sym c.is_throw.ensures ∙ c.if-is_throw.false)
    c.close_body.ensures c.returned-value.ensures.value c.returned-value.ensures.rest c.give.ensures.leads
