use Rattle.lava_driver.proofs.Underway.{came_by}
use Rattle.lava_driver.proofs.run.answer.Goals as goal

pub returns : goal.returns
returns g c =
    λ first start earlier h. came_by c.args.emit c.args.dir.now first c.args.world.now c.answer.new.self start _ _ c.args.pause c.in_ok-answered.answered.answer c.in_ok-turn.turn earlier c.in_ok-answered.answered.failed c.args.crossings c.in_ok-crossings.crossings h
    c.in_ok-answered.ensures c.in_ok-turn.ensures.answers c.in_ok-crossings.ensures
