use Rattle.std.proofs.Common.{◌≡◌, ◌-◌, length}
use Rattle.js_machine.specs.Instances.{unbound_in}
use Rattle.js_machine_operators.proofs.instances.unbound.Given as goal

abbrev pub invariant-loop-i : goal.invariant-loop-i
invariant-loop-i g l = unbound_in l.machine (length l.machine.objects) l.fn.function ≡ unbound_in l.machine (length l.machine.objects - l._i) l.found
