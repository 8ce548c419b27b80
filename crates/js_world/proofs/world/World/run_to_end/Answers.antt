use Rattle.std.proofs.Common.{refl}
use Rattle.js_world.proofs.Ended.{goes, over}
use Rattle.js_world.proofs.world.World.run_to_end.Goals as goal

pub returns-in-Over-clause-ends : goal.returns-in-Over-clause-ends
returns-in-Over-clause-ends g c = over c.args.self.now c.args.mode c.loop-i._i c.loop-i.self c.loop-i.mode c.cross.new.self c.in_ok-next.field-0 _ c.loop-i.invariant c.in_ok-next.ensures.crosses c.in-Over.is

pub returns-in-Asks-clause-ends : goal.returns-in-Asks-clause-ends
returns-in-Asks-clause-ends g c = over c.args.self.now c.args.mode c.loop-i._i c.loop-i.self c.loop-i.mode c.cross.new.self c.in_ok-next.field-0 _ c.loop-i.invariant c.in_ok-next.ensures.crosses c.in-Asks.is

pub loop-i-preserved : goal.loop-i-preserved
loop-i-preserved g c = goes c.args.self.now c.args.mode c.loop-i._i _ c.loop-i.self c.loop-i.mode c.cross.new.self c.in_ok-next.field-0 c.in-Runs.next c.loop-i.invariant c.in_ok-next.ensures.crosses c.in-Runs.is refl
