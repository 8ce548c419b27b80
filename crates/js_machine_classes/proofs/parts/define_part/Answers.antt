use Rattle.js_machine_classes.proofs.Parted.{part_defined, part_refused}
use Rattle.js_machine_classes.proofs.parts.define_part.Goals as goal

pub returns-then-branch : goal.returns-then-branch
returns-then-branch g c =
    part_defined c.part_behind.result c.args.holding c.args.at c.args.left c.args.object c.args.key c.args.fields c.in_ok-define_in.field-0 c.args.machine.now c.define_in.new.machine c.part_behind.new.machine c.in_ok-define_in.ensures.rest c.in_ok-define_in.ensures.defined
    c.if-branch.true c.part_behind.ensures

pub returns : goal.returns
returns g c =
    part_refused c.fault.result c.args.holding c.args.at c.args.left c.args.object c.args.key c.args.fields c.in_ok-define_in.field-0 c.args.machine.now c.define_in.new.machine c.fault.new.self c.in_ok-define_in.ensures.rest c.in_ok-define_in.ensures.defined
    c.if-branch.false (c.in_ok-define_in.ensures.refused c.if-branch.false) c.fault.ensures
