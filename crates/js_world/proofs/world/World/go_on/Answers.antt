use Rattle.std.proofs.Common.{ap}
use Rattle.js_world.specs.Worlds.{WorldView}
use Rattle.js_world.proofs.Turned_laws.{replied}
use Rattle.js_world.proofs.world.World.go_on.Goals as goal

pub returns-clause-goes : goal.returns-clause-goes
returns-clause-goes g c =
    replied c.reply.result c.args.left c.args.reply c.args.self.now.machine c.self.inside.machine c.take_up.new.self c.reply.new.self c.reply.ensures c.take_up.ensures (ap (λ (v : WorldView). v.machine) c.self.view_is)
