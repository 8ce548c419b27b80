-- One thing more, and at the end all of them.
use Rattle.std.proofs.Common.{◌-◌, length, subst, sym}
use Rattle.lava_trace.specs.Items.{goes_on, unit_at, units_at}
use Rattle.lava_trace.specs.Many.{many}
use Rattle.lava_trace.proofs.Many_laws.{Continues, all_left, all_made, one_more}
use Rattle.lava_trace.proofs.left.LineReader.units.Goals as goal

pub loop-self-preserved : goal.loop-self-preserved
loop-self-preserved c =
    subst (λ u. Continues goes_on unit_at u (c.loop-self.most - 1) c.unit-unit.new.self (many goes_on unit_at (length c.args.self.now.bytes) c.args.self.now)) (sym c.in_ok-push.ensures.ok)
    (one_more goes_on unit_at c.loop-self.units c.loop-self.most c.loop-self.self (many goes_on unit_at (length c.args.self.now.bytes) c.args.self.now) c.unit-unit.result c.unit-unit.new.self
    c.loop-self.invariant (sym c.loop-self-test.ensures) c.unit-unit.ensures.value c.unit-unit.ensures.left)

pub returns-clause-value : goal.returns-clause-value
unfolding units_at
returns-clause-value c = all_made goes_on unit_at c.loop-self.units c.loop-self.most c.loop-self.self (many goes_on unit_at (length c.args.self.now.bytes) c.args.self.now) c.loop-self.invariant (sym c.loop-self-test.ensures)

pub returns-clause-left : goal.returns-clause-left
unfolding units_at
returns-clause-left c = all_left goes_on unit_at c.loop-self.units c.loop-self.most c.loop-self.self (many goes_on unit_at (length c.args.self.now.bytes) c.args.self.now) c.loop-self.invariant (sym c.loop-self-test.ensures)
