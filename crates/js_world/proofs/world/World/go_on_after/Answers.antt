use Rattle.std.proofs.Common.{ap}
use Rattle.js_world.specs.Worlds.{WorldView}
use Rattle.js_world.proofs.Outside_laws.{gone_on}
use Rattle.js_world.proofs.world.World.go_on_after.Goals as goal

pub returns-clause-goes : goal.returns-clause-goes
returns-clause-goes g c =
    gone_on c.run_on.result c.args.pause c.args.answer c.in_ok-mode.mode c.answer_outside.new.machine c.self.inside.machine c.args.self.now.machine c.run_on.new.machine c.in_ok-mode.ensures c.run_on.ensures (ap (λ (v : WorldView). v.machine) c.self.view_is)
