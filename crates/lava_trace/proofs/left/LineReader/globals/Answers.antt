-- One thing more, and at the end all of them.
use Rattle.std.proofs.Common.{◌-◌, ap, subst, sym, ◌∙◌}
use Rattle.lava_trace.specs.Left.{number_at}
use Rattle.lava_trace.specs.Items.{is_left, global_at, globals_at}
use Rattle.lava_trace.specs.Many.{many}
use Rattle.lava_trace.proofs.Many_laws.{Continues, all_left, all_made, one_more}
use Rattle.lava_trace.proofs.left.LineReader.globals.Goals as goal

pub loop-self-preserved : goal.loop-self-preserved
loop-self-preserved c =
    subst (λ u. Continues is_left global_at u (c.loop-self.most - 1) c.global.new.self (many is_left global_at c.number-most.result c.number-most.new.self)) (sym c.in_ok-push.ensures.ok)
    (one_more is_left global_at c.loop-self.globals c.loop-self.most c.loop-self.self (many is_left global_at c.number-most.result c.number-most.new.self) c.in_ok-global.global c.global.new.self
    c.loop-self.invariant (sym c.loop-self-test.ensures) c.in_ok-global.ensures.value c.in_ok-global.ensures.left)

pub returns-clause-value : goal.returns-clause-value
unfolding globals_at
returns-clause-value c = all_made is_left global_at c.loop-self.globals c.loop-self.most c.loop-self.self (many is_left global_at c.number-most.result c.number-most.new.self) c.loop-self.invariant (sym c.loop-self-test.ensures) ∙ (λ k. (many is_left global_at ((c.number-most.ensures.value ∙ ap (λ s. (number_at s).0) c.skip.ensures) k) ((c.number-most.ensures.left ∙ ap (λ s. (number_at s).1) c.skip.ensures) k)).0)

pub returns-clause-left : goal.returns-clause-left
unfolding globals_at
returns-clause-left c = all_left is_left global_at c.loop-self.globals c.loop-self.most c.loop-self.self (many is_left global_at c.number-most.result c.number-most.new.self) c.loop-self.invariant (sym c.loop-self-test.ensures) ∙ (λ k. (many is_left global_at ((c.number-most.ensures.value ∙ ap (λ s. (number_at s).0) c.skip.ensures) k) ((c.number-most.ensures.left ∙ ap (λ s. (number_at s).1) c.skip.ensures) k)).1)
