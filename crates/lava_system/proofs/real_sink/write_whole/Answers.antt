use Rattle.std.proofs.Common.{arith}
use Rattle.std.proofs.KnownBytes.{Appends-kept}
use Rattle.std.proofs.lemmas.List.{length-take, length-drop}
use Rattle.lava_system.proofs.PieceLemmas.{parts_of}
use Rattle.lava_system.proofs.real_sink.write_whole.Goals as goal
use Rattle.lava_system.proofs.real_sink.write_whole.Goals.{in-Ok, in-Err+else-ne}

pub loop-preserved : goal.loop-preserved
loop-preserved g c =
    elim c.match-write.branch [
      | in-Ok w ↦ record {
        within = grind (arith, length-take, length-drop, w.done-is, w.in-Ok.ensures.bound, c.loop.invariant.within);
        appended = rw w.done-is (parts_of _ _ _ c.args.piece.now c.loop.done w.in-Ok.count c.loop.invariant.appended w.in-Ok.ensures.bytes);
      }
      | in-Err+else-ne w ↦ record {
        within = rw w.done-is c.loop.invariant.within;
        appended = rw w.done-is (Appends-kept _ _ _ _ c.loop.invariant.appended w.in-Err.ensures.bytes);
      }
    ]
