use Rattle.lava_system.proofs.LineLemmas as lines
use Rattle.lava_system.proofs.real_source.last_line.Goals as goal

pub returns-else-is_empty-clause-line : goal.returns-else-is_empty-clause-line
returns-else-is_empty-clause-line c = rw c.replace.ensures.value (lines.last_line c.args.begun.now c.requires cc)
