use Rattle.js_machine_classes.proofs.Classed.{class_led}
use Rattle.js_machine_classes.proofs.classes.define_class.Goals as goal

pub returns : goal.returns
returns g c =
    class_led c.args.row c.args.derived c.args.above c.args.over c.next_part.result c.in_ok-template.template c.in_ok-holding.holding c.args.machine.now c.make_class.new.machine c.next_part.new.machine c.in_ok-template.ensures c.in_ok-holding.ensures.objects
    c.in_ok-holding.ensures.made c.next_part.ensures
