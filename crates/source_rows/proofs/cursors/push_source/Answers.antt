use Rattle.std.proofs.Common.{subst, sym}
use Rattle.js_lexer.specs.Sources.{IsTokens}
use Rattle.source_rows.proofs.cursors.push_source.Goals as goal

pub push_expressions-requires-clause-tokens : goal.push_expressions-requires-clause-tokens
push_expressions-requires-clause-tokens c = subst (IsTokens c.args.source.now) (sym c.as_slice.ensures) c.in-Ok.ensures.tokens
