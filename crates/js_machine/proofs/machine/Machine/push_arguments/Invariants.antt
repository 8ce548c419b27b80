use Rattle.std.proofs.Common.{◌≡◌, ◌++◌, reverse, take}
use Rattle.js_machine.proofs.machine.Machine.push_arguments.Given as goal

abbrev pub invariant-loop-i : goal.invariant-loop-i
invariant-loop-i g l = l.self ≡ record l.fn.self { values = reverse (take l.i l.args) ++ l.fn.self.values }
