use Rattle.lava_system.specs.Adapters.{IsBegun}
use Rattle.lava_system.proofs.real_source.next_line.Given as goal

abbrev pub invariant-loop : goal.invariant-loop
invariant-loop g l = IsBegun l.begun
