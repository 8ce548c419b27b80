use Rattle.js_world.proofs.Turned_laws.{resumed_so_ok}
use Rattle.js_world.proofs.world.World.resume.Goals as goal

pub returns : goal.returns
returns g c =
    resumed_so_ok c.go_on.result c.args.self.now c.turn_to.new.self c.go_on.new.self c.args.waiting c.args.reply c.in_ok-turn_to.ensures.from c.in_ok-turn_to.ensures.to c.in_ok-turn_to.ensures.turned c.go_on.ensures.goes c.go_on.ensures.rest
