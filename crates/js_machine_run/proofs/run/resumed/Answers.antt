use Rattle.js_machine_run.proofs.Gone_on.{form_next, other_next, value_next}
use Rattle.js_machine_run.proofs.run.resumed.Goals as goal

pub returns-in-Form : goal.returns-in-Form
returns-in-Form g c =
    form_next c.args.spot c.in-Form.at c.args.machine.now c.in-Form.is

pub returns-in-Given : goal.returns-in-Given
returns-in-Given g c =
    value_next c.give.result c.args.spot c.in-Given.value c.as_value.result c.args.machine.now c.give.new.self c.in-Given.is c.as_value.ensures c.give.ensures.mode c.give.ensures.value

pub returns-in-Other : goal.returns-in-Other
returns-in-Other g c = other_next c.args.spot c.in-Other.mode c.args.machine.now c.in-Other.is
