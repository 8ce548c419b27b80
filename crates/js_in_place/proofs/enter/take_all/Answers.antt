use Rattle.std.proofs.Common.{◌≡◌, ◌∙◌, ◌-◌, suc, arith}
use Rattle.js_in_place.proofs.Entering.{all_taken, one_bound, one_taken}
use Rattle.js_in_place.proofs.enter.take_all.Goals as goal

pub loop-left-preserved : goal.loop-left-preserved
loop-left-preserved g c =
    let left = c.loop-left.left in
    let less : left ≡ suc (left - 1) = omega arith in
    let i = c.loop-left.invariant in
    record {
      most = omega (arith, i.most);
      state = one_taken c.args.count left (left - 1) c.args.scope c.args.machine.now c.loop-left.machine c.take-value.new.self c.write_slot.new.self c.take-value.result c.requires less i.most i.state c.take-value.ensures.value c.take-value.ensures.rest c.write_slot.ensures;
      slots = one_bound c.args.count left (left - 1) c.args.scope c.args.machine.now c.loop-left.machine c.take-value.new.self c.write_slot.new.self c.take-value.result c.requires less i.most i.state c.take-value.ensures.value c.take-value.ensures.rest c.write_slot.ensures ∙ i.slots;
    }

pub returns : goal.returns
returns g c = all_taken c.args.count c.loop-left.left c.args.scope c.args.machine.now c.loop-left.machine (omega arith) c.loop-left.invariant.state c.loop-left.invariant.slots
