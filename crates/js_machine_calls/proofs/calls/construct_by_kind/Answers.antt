use Rattle.js_term.specs.declared.term.TemplateKind.TheVariants as kind
use Rattle.js_machine_calls.proofs.Numbered.{constructs_so}
use Rattle.js_machine_calls.proofs.calls.construct_by_kind.Goals as goal

pub returns-in-Derived : goal.returns-in-Derived
returns-in-Derived g c = constructs_so c.construct_derived.result c.args.at c.args.outer c.args.count c.args.function c.args.home c.args.target c.template.result kind.Derived c.args.machine.now c.construct_derived.new.machine c.template.ensures c.in-Derived.is c.construct_derived.ensures

pub returns-in-Built : goal.returns-in-Built
returns-in-Built g c = constructs_so c.construct_built.result c.args.at c.args.outer c.args.count c.args.function c.args.home c.args.target c.template.result kind.Built c.args.machine.now c.construct_built.new.machine c.template.ensures c.in-Built.is c.construct_built.ensures
