use Rattle.js_resolved_terms.proofs.Valid_laws.{valid_made}
use Rattle.js_resolved_terms.proofs.lowering.lower.Goals as goal

pub returns-clause-valid : goal.returns-clause-valid
returns-clause-valid c = valid_made c.program_terms_are_valid.ensures c.args.resolved.now.source c.lower.result c.lower.ensures
