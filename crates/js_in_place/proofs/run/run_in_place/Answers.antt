use Rattle.js_in_place.proofs.Gone.{runs_on}
use Rattle.js_in_place.proofs.run.run_in_place.Goals as goal

pub loop-i-preserved : goal.loop-i-preserved
loop-i-preserved g c =
    runs_on c.args.stand.spot c.args.stand.left c.args.machine.now c.loop-i.machine c.follow.new.machine c.loop-i.stand c.in_ok-stand.stand c.loop-i.invariant c.in_ok-stand.ensures

pub returns-then-not-stand : goal.returns-then-not-stand
returns-then-not-stand g c =
    runs_on c.args.stand.spot c.args.stand.left c.args.machine.now c.loop-i.machine c.follow.new.machine c.loop-i.stand c.in_ok-stand.stand c.loop-i.invariant c.in_ok-stand.ensures
