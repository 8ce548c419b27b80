use Rattle.lava_driver.proofs.Underway.{ran_on}
use Rattle.lava_driver.proofs.run.go_on.Goals as goal

pub returns-clause-underway : goal.returns-clause-underway
returns-clause-underway c = λ first talks u. ran_on first talks c.args.world.now c.cross.new.self c.args.mode c.in_ok-turn.turn c.args.stage.crossings c.in_ok-crossings.crossings c.in_ok-crossings.ensures c.in_ok-turn.ensures.crosses u
