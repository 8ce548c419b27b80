use Rattle.lava_streams.proofs.LineLemmas.{unwrap_or-position}
use Rattle.lava_system.proofs.real_source.line_length.Goals as goal

pub returns-clause-length : goal.returns-clause-length
returns-clause-length c = rw (← unwrap_or-position c.args.bytes.now) cc
