use Rattle.js_machine.proofs.Defaulted.{added_default}
use Rattle.js_machine.proofs.defaults.add_default.Goals as goal

pub returns-clause-place : goal.returns-clause-place
returns-clause-place c = added_default c.add_template.result c.in_ok-name.name c.is_some.result c.in_ok-template.template c.add_template.new.self c.in_ok-template.ensures c.add_template.ensures.template c.add_template.ensures.within
