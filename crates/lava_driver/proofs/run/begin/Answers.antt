use Rattle.lava_driver.proofs.Underway.{begun}
use Rattle.lava_driver.proofs.run.begin.Goals as goal

pub returns : goal.returns
returns c = begun c.begin.result c.args.world.now c.begin.new.self c.begin.ensures.begins
