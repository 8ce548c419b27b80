use Rattle.lava_driver.proofs.Tracing.{traced_by}
use Rattle.lava_driver.proofs.trace_run.answer.Goals as goal

pub returns : goal.returns
returns g c =
    λ parties first start earlier h. traced_by parties c.args.dir.now first c.args.world.now c.answer.new.self start _ _ c.args.pause c.in_ok-answered.answered.answer c.in_ok-turn.turn earlier c.in_ok-answered.answered.failed c.args.tracer.now c.note.new.self h
    c.in_ok-answered.ensures c.in_ok-turn.ensures.answers c.in_ok-note.ensures
