use Rattle.js_in_place.proofs.Led.{first_chosen, none_chosen, second_chosen}
use Rattle.js_in_place.proofs.deliver.choose.Goals as goal

pub returns-then-is_true : goal.returns-then-is_true
returns-then-is_true g c =
    first_chosen c.args.value c.is_true.result c.args.consequent c.args.alternate c.args.left c.args.machine.now c.at_form.result c.is_true.ensures c.if-is_true.true c.at_form.ensures

pub returns-in-Some : goal.returns-in-Some
returns-in-Some g c =
    second_chosen c.args.value c.is_true.result c.args.consequent c.in-Some.at c.args.alternate c.args.left c.args.machine.now c.at_form-in-Some.result c.is_true.ensures c.if-is_true.false c.in-Some.is c.at_form-in-Some.ensures

pub returns-in-None : goal.returns-in-None
returns-in-None g c =
    none_chosen c.args.value c.is_true.result c.args.consequent c.args.alternate c.args.left c.args.machine.now c.at_value.result c.is_true.ensures c.if-is_true.false c.in-None.is c.at_value.ensures
