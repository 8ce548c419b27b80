use Rattle.std.proofs.Common.{◌∙◌, sym}
use Rattle.js_machine.proofs.Came_back.{built_back, build_threw}
use Rattle.js_machine_statements.proofs.returns.deliver_built.Goals as goal

pub returns-then-is_throw : goal.returns-then-is_throw
returns-then-is_throw g c = build_threw c.args.mode c.args.machine.now c.close_body.new.self (sym c.is_throw.ensures ∙ c.if-is_throw.true) c.close_body.ensures

pub returns : goal.returns
returns g c =
    built_back c.built.result c.args.mode c.returned-value.result c.args.machine.now c.close_body.new.self c.returned-value.new.machine c.built.new.machine c.requires (sym c.is_throw.ensures ∙ c.if-is_throw.false)
    c.close_body.ensures c.returned-value.ensures.value c.returned-value.ensures.rest c.built.ensures
