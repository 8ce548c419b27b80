-- What is printed, and what is left to print, make the line.
use Rattle.std.proofs.Common.{◌≡◌, ◌++◌, drop}
use Rattle.lava_host.specs.Printed.{spaced_values}
use Rattle.lava_host.proofs.printed.push_line.Given as goal

abbrev pub invariant-loop-value : goal.invariant-loop-value
invariant-loop-value l = l.out ++ spaced_values (drop l.value-index l.others) ≡ l.initial.out ++ spaced_values l.others
