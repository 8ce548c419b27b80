-- Those that are printed, and those that are left to print.
use Rattle.std.proofs.Common.{◌≡◌, ◌++◌, drop, map}
use Rattle.js_machine.specs.Outsides.{printed_in}
use Rattle.js_machine_modules.proofs.outside.printed_all.Given as goal

abbrev pub invariant-loop-value : goal.invariant-loop-value
invariant-loop-value g l = l.texts ++ map (printed_in l.machine) (drop l.value-index l.values) ≡ map (printed_in l.machine) l.values
