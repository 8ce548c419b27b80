use Rattle.js_grammar.proofs.Plain.{kept, kept_back}
use Rattle.js_grammar.proofs.laws.prefixes.Goals as goal

pub returns-clause-kept : goal.returns-clause-kept
returns-clause-kept c = kept

pub returns-clause-back : goal.returns-clause-back
returns-clause-back c = kept_back
