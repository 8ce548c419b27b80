-- One thing more, and at the end all of them.
use Rattle.std.proofs.Common.{◌-◌, ap, subst, sym, ◌∙◌}
use Rattle.lava_trace.specs.Left.{number_at}
use Rattle.lava_trace.specs.Items.{is_left, module_at, modules_at}
use Rattle.lava_trace.specs.Many.{many}
use Rattle.lava_trace.proofs.Many_laws.{Continues, all_left, all_made, one_more}
use Rattle.lava_trace.proofs.left.LineReader.modules.Goals as goal

pub loop-self-preserved : goal.loop-self-preserved
loop-self-preserved c =
    subst (λ u. Continues is_left module_at u (c.loop-self.most - 1) c.module.new.self (many is_left module_at c.number-most.result c.number-most.new.self)) (sym c.in_ok-push.ensures.ok)
    (one_more is_left module_at c.loop-self.modules c.loop-self.most c.loop-self.self (many is_left module_at c.number-most.result c.number-most.new.self) c.in_ok-module.module c.module.new.self
    c.loop-self.invariant (sym c.loop-self-test.ensures) c.in_ok-module.ensures.value c.in_ok-module.ensures.left)

pub returns-clause-value : goal.returns-clause-value
unfolding modules_at
returns-clause-value c = all_made is_left module_at c.loop-self.modules c.loop-self.most c.loop-self.self (many is_left module_at c.number-most.result c.number-most.new.self) c.loop-self.invariant (sym c.loop-self-test.ensures) ∙ (λ k. (many is_left module_at ((c.number-most.ensures.value ∙ ap (λ s. (number_at s).0) c.skip.ensures) k) ((c.number-most.ensures.left ∙ ap (λ s. (number_at s).1) c.skip.ensures) k)).0)

pub returns-clause-left : goal.returns-clause-left
unfolding modules_at
returns-clause-left c = all_left is_left module_at c.loop-self.modules c.loop-self.most c.loop-self.self (many is_left module_at c.number-most.result c.number-most.new.self) c.loop-self.invariant (sym c.loop-self-test.ensures) ∙ (λ k. (many is_left module_at ((c.number-most.ensures.value ∙ ap (λ s. (number_at s).0) c.skip.ensures) k) ((c.number-most.ensures.left ∙ ap (λ s. (number_at s).1) c.skip.ensures) k)).1)
