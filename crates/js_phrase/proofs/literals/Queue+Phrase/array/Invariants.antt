use Rattle.std.proofs.Common.{◌≡◌, ◌++◌, length}
use Rattle.js_phrase.specs.Lists.{flat}
use Rattle.js_phrase.specs.Literals.{later_slot}
use Rattle.js_phrase.proofs.literals.Queue+Phrase.array.Given as goal

abbrev pub invariant-loop-phrase : goal.invariant-loop-phrase
invariant-loop-phrase l = l.slots ++ flat later_slot l.self ≡ l.initial.slots ++ flat later_slot l.initial.self

abbrev pub decreases-loop-phrase : goal.decreases-loop-phrase
decreases-loop-phrase l = length l.self
