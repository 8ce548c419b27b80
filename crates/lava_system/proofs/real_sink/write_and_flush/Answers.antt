use Rattle.lava_system.proofs.PieceLemmas.{whole_of}
use Rattle.lava_system.proofs.real_sink.write_and_flush.Goals as goal

pub returns-in-Err-clause-err : goal.returns-in-Err-clause-err
returns-in-Err-clause-err g c = whole_of _ _ _ c.args.piece.now c.in_ok-write_whole.ensures.ok c.in-Err.ensures.bytes
