use Rattle.js_machine.proofs.Defaulted.{extended_twice}
use Rattle.js_machine.proofs.new.add_templates.Goals as goal

pub returns-clause-extends : goal.returns-clause-extends
returns-clause-extends c = extended_twice c.args.code.now c.add_defaults.new.code c.add_empty.new.code c.in_ok-default_templates.ensures.extends c.add_empty.ensures.extends
