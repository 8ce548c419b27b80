use Rattle.std.proofs.Common.{◌≡◌, drop, take}
use Rattle.js_machine.proofs.machine.Machine.take_arguments.Given as goal

abbrev pub invariant-loop-i : goal.invariant-loop-i
invariant-loop-i g l = record {
  state : l.self ≡ record l.fn.self { values = drop l._i l.fn.self.values };
  taken : l.args.items ≡ take l._i l.fn.self.values;
}
