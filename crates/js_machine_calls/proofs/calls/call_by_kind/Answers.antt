use Rattle.std.proofs.Common.{◌∙◌, sym, ap}
use Rattle.js_code.specs.declared.node.TemplateRow.{TemplateRow}
use Rattle.js_machine.specs.Made.{row_of}
use Rattle.js_machine_calls.proofs.Numbered.{calls_so, refuses}
use Rattle.js_machine_calls.proofs.calls.call_by_kind.Goals as goal

pub returns-then-needs_new : goal.returns-then-needs_new
returns-then-needs_new g c =
    refuses c.args.at c.args.outer c.args.count c.args.function c.args.home c.args.lexical c.args.this c.args.machine.now c.fault.result (row_of c.args.machine.now c.args.at).kind c.template-kind.result.kind c.drop_arguments.new.self c.fault.new.self
    (ap (λ (x : TemplateRow). x.kind) c.template-kind.ensures) (sym c.needs_new.ensures ∙ c.if-needs_new.true) c.drop_arguments.ensures c.fault.ensures

pub returns : goal.returns
returns g c =
    calls_so c.args.at c.args.outer c.args.count c.args.function c.args.home c.args.lexical c.args.this c.args.machine.now c.run_body.result c.template-kind.result.kind c.called_body-body.result c.run_body.new.self
    (ap (λ (x : TemplateRow). x.kind) c.template-kind.ensures) (sym c.needs_new.ensures ∙ c.if-needs_new.false) c.called_body-body.ensures c.run_body.ensures
