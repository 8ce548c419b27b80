use Rattle.js_world.proofs.Crossed.{asks_outside}
use Rattle.js_world.proofs.world.World.follow.Goals as goal

pub returns-in-Outside : goal.returns-in-Outside
returns-in-Outside g c = asks_outside c.args.stop c.in-Outside.pause c.args.self.now c.in-Outside.is
