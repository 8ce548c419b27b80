use Rattle.std.proofs.Common.{◌≡◌, drop}
use Rattle.js_machine.proofs.machine.Machine.discard.Given as goal

abbrev pub invariant-loop-i : goal.invariant-loop-i
invariant-loop-i g l = l.self ≡ record l.fn.self { values = drop l._i l.fn.self.values }
