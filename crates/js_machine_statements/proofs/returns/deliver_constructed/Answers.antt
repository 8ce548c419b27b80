use Rattle.std.proofs.Common.{◌∙◌, sym}
use Rattle.js_machine.proofs.Came_back.{constructed_back, construct_threw}
use Rattle.js_machine_statements.proofs.returns.deliver_constructed.Goals as goal

pub returns-then-is_throw : goal.returns-then-is_throw
returns-then-is_throw g c = construct_threw c.args.object c.args.mode c.args.machine.now c.close_body.new.self (sym c.is_throw.ensures ∙ c.if-is_throw.true) c.close_body.ensures

pub returns : goal.returns
returns g c =
    constructed_back c.constructed.result c.args.object c.args.mode c.returned-value.result c.args.machine.now c.close_body.new.self c.returned-value.new.machine c.constructed.new.machine c.requires (sym c.is_throw.ensures ∙ c.if-is_throw.false)
    c.close_body.ensures c.returned-value.ensures.value c.returned-value.ensures.rest c.constructed.ensures
