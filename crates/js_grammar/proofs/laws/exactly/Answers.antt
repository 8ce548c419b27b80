use Rattle.js_grammar.proofs.Exact.{good, exact}
use Rattle.js_grammar.proofs.OneTree.{read_tree, tree_read}
use Rattle.js_grammar.proofs.Ends.{ends_whole}
use Rattle.js_grammar.proofs.laws.exactly.Goals as goal

pub returns-clause-good : goal.returns-clause-good
returns-clause-good c = good

pub returns-clause-exact : goal.returns-clause-exact
returns-clause-exact c = exact

pub returns-clause-read : goal.returns-clause-read
returns-clause-read c = read_tree

pub returns-clause-whole : goal.returns-clause-whole
returns-clause-whole c = tree_read

pub returns-clause-ended : goal.returns-clause-ended
returns-clause-ended c = ends_whole
