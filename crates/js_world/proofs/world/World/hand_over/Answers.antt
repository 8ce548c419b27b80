use Rattle.js_world.proofs.Turned_laws.{taken_so_ok}
use Rattle.js_world.proofs.world.World.hand_over.Goals as goal

pub returns : goal.returns
returns g c =
    taken_so_ok c.serve.result c.args.self.now c.turn_to.new.self c.serve.new.self c.owner_of.result c.args.target c.args.ask c.owner_of.ensures c.in_ok-turn_to.ensures.from c.in_ok-turn_to.ensures.to c.in_ok-turn_to.ensures.turned c.serve.ensures.served c.serve.ensures.rest
