use Rattle.std.proofs.Common.{◌≤◌, take, length}
use Rattle.std.specs.Io.KnownBytes.{Appends}
use Rattle.lava_system.proofs.real_sink.write_whole.Given as goal

abbrev pub invariant-loop : goal.invariant-loop
invariant-loop g l = record {
  within : l.done ≤ length l.piece;
  appended : Appends (g.W.Write.contents l.fn.out) (g.W.Write.contents l.out) (take l.done l.piece);
}
