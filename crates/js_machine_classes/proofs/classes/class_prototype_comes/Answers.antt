use Rattle.js_machine_classes.proofs.Classed.{above_frame}
use Rattle.js_machine_classes.proofs.classes.class_prototype_comes.Goals as goal

pub returns : goal.returns
returns g c = above_frame c.class_above.result c.args.class c.reference_in-parent.result c.take.result c.args.value c.args.machine.now c.take.new.self c.class_above.new.machine c.take.ensures.value c.reference_in-parent.ensures c.take.ensures.rest c.class_above.ensures
