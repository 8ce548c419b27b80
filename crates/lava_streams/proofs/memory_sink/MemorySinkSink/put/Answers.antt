use Rattle.std.proofs.Common.{◌-◌, Some, ap}
use Rattle.lava_streams.proofs.memory_sink.MemorySinkSink.put.Goals as goal

pub returns-then-piece-free-clause-err : goal.returns-then-piece-free-clause-err
returns-then-piece-free-clause-err c =
    (c.self.inside.room - c.len.result, ap Some (rw (← c.self.view_is) c.append.ensures.appended))
