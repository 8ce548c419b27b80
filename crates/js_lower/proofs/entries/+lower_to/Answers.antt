use Rattle.std.proofs.Common.{arith}
use Rattle.js_lower_table.specs.Table.{low, put_on}
use Rattle.js_lower.proofs.Deeper.{deeper}
use Rattle.js_lower.proofs.entries.+lower_to.Goals as goal

pub returns-clause-ok : goal.returns-clause-ok
returns-clause-ok t c = rw (deeper (λ n. put_on (low n) c.args.scopes.now c.args.task c.args.terms.now) c.args.depth (omega arith)) c.row.ensures.ok
