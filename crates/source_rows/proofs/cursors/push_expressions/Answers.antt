use Rattle.source_rows.proofs.cursors.push_expressions.Goals as goal

pub new-cursor-requires-clause-size : goal.new-cursor-requires-clause-size
new-cursor-requires-clause-size c = c.requires.size

pub new-cursor-requires-clause-tokens : goal.new-cursor-requires-clause-tokens
new-cursor-requires-clause-tokens c = c.requires.tokens
