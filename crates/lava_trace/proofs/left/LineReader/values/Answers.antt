-- One thing more, and at the end all of them.
use Rattle.std.proofs.Common.{◌-◌, length, subst, sym}
use Rattle.lava_trace.specs.Items.{is_left, spaced_value_at, values_at}
use Rattle.lava_trace.specs.Many.{many}
use Rattle.lava_trace.proofs.Many_laws.{Continues, all_left, all_made, one_more}
use Rattle.lava_trace.proofs.left.LineReader.values.Goals as goal

pub loop-self-preserved : goal.loop-self-preserved
loop-self-preserved c =
    subst (λ u. Continues is_left spaced_value_at u (c.loop-self.most - 1) c.spaced_value.new.self (many is_left spaced_value_at (length c.args.self.now.bytes) c.args.self.now)) (sym c.in_ok-push.ensures.ok)
    (one_more is_left spaced_value_at c.loop-self.values c.loop-self.most c.loop-self.self (many is_left spaced_value_at (length c.args.self.now.bytes) c.args.self.now) c.in_ok-value.value c.spaced_value.new.self
    c.loop-self.invariant (sym c.loop-self-test.ensures) c.in_ok-value.ensures.value c.in_ok-value.ensures.left)

pub returns-clause-value : goal.returns-clause-value
unfolding values_at
returns-clause-value c = all_made is_left spaced_value_at c.loop-self.values c.loop-self.most c.loop-self.self (many is_left spaced_value_at (length c.args.self.now.bytes) c.args.self.now) c.loop-self.invariant (sym c.loop-self-test.ensures)

pub returns-clause-left : goal.returns-clause-left
unfolding values_at
returns-clause-left c = all_left is_left spaced_value_at c.loop-self.values c.loop-self.most c.loop-self.self (many is_left spaced_value_at (length c.args.self.now.bytes) c.args.self.now) c.loop-self.invariant (sym c.loop-self-test.ensures)
