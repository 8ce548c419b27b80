use Rattle.js_world.proofs.Crossed.{crossed_so}
use Rattle.js_world.proofs.world.World.cross_on.Goals as goal

pub returns : goal.returns
returns g c = crossed_so c.follow.result c.args.mode c.in_ok-stop.stop c.args.self.now c.run_party.new.self c.follow.new.self c.in_ok-stop.ensures c.follow.ensures
