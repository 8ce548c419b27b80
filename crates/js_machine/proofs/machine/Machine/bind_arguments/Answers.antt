use Rattle.std.proofs.Common.{◌≡◌, ◌∙◌, ◌-◌, suc, arith}
use Rattle.js_machine.proofs.Filled.{one_less, still}
use Rattle.js_machine.proofs.machine.Machine.bind_arguments.Goals as goal

pub loop-left-preserved : goal.loop-left-preserved
loop-left-preserved g c =
    let left = c.loop-left.left in
    let less : left ≡ suc (left - 1) = omega arith in
    record {
      state = still c.given-given.result left (left - 1) c.args.scope c.args.self.now c.loop-left.self c.take_argument-value.new.self c.write_slot.new.self c.take_argument-value.result c.given-given.ensures.there less c.loop-left.invariant.state c.take_argument-value.ensures.value c.take_argument-value.ensures.rest c.write_slot.ensures;
      slots = one_less c.given-given.result left (left - 1) c.args.scope c.args.self.now c.loop-left.self c.take_argument-value.new.self c.write_slot.new.self c.take_argument-value.result c.given-given.ensures.there less c.loop-left.invariant.state c.take_argument-value.ensures.value c.take_argument-value.ensures.rest c.write_slot.ensures ∙ c.loop-left.invariant.slots;
    }
