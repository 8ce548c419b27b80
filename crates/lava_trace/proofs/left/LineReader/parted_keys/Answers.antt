-- One thing more, and at the end all of them.
use Rattle.std.proofs.Common.{◌-◌, subst, sym}
use Rattle.lava_trace.specs.Items.{key_begins, parted_key_at, parted_keys_at}
use Rattle.lava_trace.specs.Many.{many}
use Rattle.lava_trace.proofs.Many_laws.{Continues, all_left, all_made, one_more}
use Rattle.lava_trace.proofs.left.LineReader.parted_keys.Goals as goal

pub loop-self-preserved : goal.loop-self-preserved
loop-self-preserved c =
    subst (λ u. Continues key_begins parted_key_at u (c.loop-self.most - 1) c.parted_key.new.self (many key_begins parted_key_at c.args.most c.args.self.now)) (sym c.in_ok-push.ensures.ok)
    (one_more key_begins parted_key_at c.loop-self.keys c.loop-self.most c.loop-self.self (many key_begins parted_key_at c.args.most c.args.self.now) c.in_ok-key.key c.parted_key.new.self
    c.loop-self.invariant (sym c.loop-self-test.ensures) c.in_ok-key.ensures.value c.in_ok-key.ensures.left)

pub returns-clause-value : goal.returns-clause-value
unfolding parted_keys_at
returns-clause-value c = all_made key_begins parted_key_at c.loop-self.keys c.loop-self.most c.loop-self.self (many key_begins parted_key_at c.args.most c.args.self.now) c.loop-self.invariant (sym c.loop-self-test.ensures)

pub returns-clause-left : goal.returns-clause-left
unfolding parted_keys_at
returns-clause-left c = all_left key_begins parted_key_at c.loop-self.keys c.loop-self.most c.loop-self.self (many key_begins parted_key_at c.args.most c.args.self.now) c.loop-self.invariant (sym c.loop-self-test.ensures)
