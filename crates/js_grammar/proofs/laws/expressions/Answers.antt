use Rattle.js_grammar.proofs.Expressions.{begun, refused, read, whole, one, same}
use Rattle.js_grammar.proofs.laws.expressions.Goals as goal

pub returns-clause-begun : goal.returns-clause-begun
returns-clause-begun c = begun

pub returns-clause-refused : goal.returns-clause-refused
returns-clause-refused c = refused

pub returns-clause-read : goal.returns-clause-read
returns-clause-read c = read

pub returns-clause-whole : goal.returns-clause-whole
returns-clause-whole c = whole

pub returns-clause-one : goal.returns-clause-one
returns-clause-one c = one

pub returns-clause-same : goal.returns-clause-same
returns-clause-same c = same
