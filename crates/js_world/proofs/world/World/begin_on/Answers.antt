use Rattle.js_world.proofs.First_laws.{begun_so}
use Rattle.js_world.proofs.world.World.begin_on.Goals as goal

pub returns : goal.returns
returns g c = begun_so c.hand_import.result c.in_ok-imported.imported c.args.self.now c.keep_import.new.self c.hand_import.new.self c.in_ok-imported.ensures c.in_ok-keep_import.ensures c.hand_import.ensures
