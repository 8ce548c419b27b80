use Rattle.std.proofs.Common.{◌+◌, ◌-◌, ◌∙◌, sym, subst, arith}
use Rattle.js_machine.specs.Definitions.{GoesOnAs}
use Rattle.js_machine_classes.proofs.Parted.{one_hole, others_twice}
use Rattle.js_machine_classes.proofs.parts.add_holes.Goals as goal

pub loop-i-preserved : goal.loop-i-preserved
loop-i-preserved g c = (
  one_hole c.args.holding c.args.start c.args.count c.loop-i.i c.part.result c.operand_of.result c.args.machine.now c.loop-i.machine c.add_hole_to.new.machine c.loop-i.invariant.1 c.loop-i.invariant.0 c.requires.there c.loop-i-test.true c.part.ensures
      c.operand_of.ensures (sym c.is_some.ensures ∙ c.if-is_some.false) c.in_ok-add_hole_to.ensures.hole,
  others_twice c.args.machine.now c.loop-i.machine c.add_hole_to.new.machine c.loop-i.invariant.1 c.in_ok-add_hole_to.ensures.rest,
)

pub returns-clause-goes : goal.returns-clause-goes
returns-clause-goes g c =
    subst (λ n. GoesOnAs c.args.holding c.args.start c.args.count (c.args.start + n) (c.args.count - n) c.args.machine.now c.loop-i.machine) (omega (arith, c.loop-i-test.false, c.loop-i.auto.i-end)) c.loop-i.invariant.0
