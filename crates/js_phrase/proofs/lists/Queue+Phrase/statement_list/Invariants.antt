use Rattle.std.proofs.Common.{◌≡◌, ◌++◌, length}
use Rattle.js_phrase.specs.Lists.{flat, listed_statement}
use Rattle.js_phrase.proofs.lists.Queue+Phrase.statement_list.Given as goal

abbrev pub invariant-loop-phrase : goal.invariant-loop-phrase
invariant-loop-phrase l = l.statements ++ flat listed_statement l.self ≡ flat listed_statement l.initial.self

abbrev pub decreases-loop-phrase : goal.decreases-loop-phrase
decreases-loop-phrase l = length l.self
