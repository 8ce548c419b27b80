use Rattle.std.proofs.Common.{◌≡◌, ◌++◌, length}
use Rattle.js_phrase.specs.Lists.{flat, listed_statement, clause_of}
use Rattle.js_phrase.proofs.lists.Queue+Phrase.statements_and_clauses.Given as goal

abbrev pub invariant-loop-phrase : goal.invariant-loop-phrase
invariant-loop-phrase l = record {
  statements : l.statements ++ flat listed_statement l.self ≡ l.initial.statements ++ flat listed_statement l.initial.self;
  clauses : l.clauses ++ flat clause_of l.self ≡ l.initial.clauses ++ flat clause_of l.initial.self;
}

abbrev pub decreases-loop-phrase : goal.decreases-loop-phrase
decreases-loop-phrase l = length l.self
