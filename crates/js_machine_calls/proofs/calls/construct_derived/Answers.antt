use Rattle.std.proofs.Common.{None, ap}
use Rattle.js_code.specs.declared.node.TemplateRow.{TemplateRow}
use Rattle.js_machine.specs.Made.{row_of}
use Rattle.js_machine.specs.declared.frame.Frame.TheVariants as frame
use Rattle.js_machine_calls.proofs.Constructing.{constructs_by_row}
use Rattle.js_machine_calls.proofs.calls.construct_derived.Goals as goal

pub returns : goal.returns
returns g c =
    constructs_by_row c.run_body.result frame.Derived c.args.at c.args.outer c.args.count None c.args.function c.args.target c.args.home c.args.machine.now c.run_body.new.self c.template.result.kind
    (row_of c.args.machine.now c.args.at).kind (ap (λ (x : TemplateRow). x.kind) c.template.ensures) c.run_body.ensures
