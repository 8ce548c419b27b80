use Rattle.js_grammar.proofs.Flattened.{fed_is}
use Rattle.js_grammar.proofs.Looking.{would_is}
use Rattle.js_grammar.proofs.laws.flatly.Goals as goal

pub returns-clause-same : goal.returns-clause-same
returns-clause-same c = fed_is

pub returns-clause-ahead : goal.returns-clause-ahead
returns-clause-ahead c = would_is
