use Rattle.js_grammar.specs.declared.symbols.Nonterminal.TheVariants as nonterminal
use Rattle.js_grammar.specs.Fits.{table}
use Rattle.js_grammar.specs.Laws.{from, semi, do_semi, rule_stands}
use Rattle.js_grammar.proofs.Exact.{good, exact}
use Rattle.js_grammar.proofs.Insertion.{all_begun, all_refused, all_same}
use Rattle.js_grammar.proofs.OneTree.{inserted_read, read_inserted, one_tree}
use Rattle.js_grammar.proofs.laws.semicolons.Goals as goal

pub returns-clause-begun : goal.returns-clause-begun
returns-clause-begun c = all_begun table nonterminal.Module semi do_semi rule_stands from good exact

pub returns-clause-refused : goal.returns-clause-refused
returns-clause-refused c = all_refused table nonterminal.Module semi do_semi rule_stands from good exact

pub returns-clause-read : goal.returns-clause-read
returns-clause-read c = inserted_read

pub returns-clause-whole : goal.returns-clause-whole
returns-clause-whole c = read_inserted

pub returns-clause-one : goal.returns-clause-one
returns-clause-one c = one_tree

pub returns-clause-same : goal.returns-clause-same
returns-clause-same c = λ ts q xs h r p. all_same table nonterminal.Module semi do_semi rule_stands from good exact ts q xs h r.0 r.1 p
