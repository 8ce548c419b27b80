use Rattle.js_world.proofs.Turned_laws.{imported_so}
use Rattle.js_world.proofs.world.World.hand_import.Goals as goal

pub returns : goal.returns
returns g c =
    imported_so c.import.result c.args.self.now c.turn_to.new.self c.import.new.self c.args.party c.args.imported.now.link c.args.imported.now.path c.in_ok-turn_to.ensures.from c.in_ok-turn_to.ensures.to c.in_ok-turn_to.ensures.turned c.import.ensures.imported c.import.ensures.rest
