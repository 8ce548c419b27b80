use Rattle.std.proofs.Common.{◌≡◌, ◌++◌, length}
use Rattle.js_phrase.specs.Lists.{flat, listed_element}
use Rattle.js_phrase.proofs.lists.Queue+Phrase.elements.Given as goal

abbrev pub invariant-loop-phrase : goal.invariant-loop-phrase
invariant-loop-phrase l = l.elements ++ flat listed_element l.self ≡ flat listed_element l.initial.self

abbrev pub decreases-loop-phrase : goal.decreases-loop-phrase
decreases-loop-phrase l = length l.self
