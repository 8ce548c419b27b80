use Rattle.js_scope.proofs.Innermost.{free_names_are_nowhere, names_go_innermost}
use Rattle.js_scope.proofs.laws.names_go_innermost.Goals as goal

pub returns-clause-innermost : goal.returns-clause-innermost
returns-clause-innermost c = names_go_innermost

pub returns-clause-free : goal.returns-clause-free
returns-clause-free c = free_names_are_nowhere
