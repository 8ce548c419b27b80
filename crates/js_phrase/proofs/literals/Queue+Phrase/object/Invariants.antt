use Rattle.std.proofs.Common.{◌≡◌, ◌++◌, length}
use Rattle.js_phrase.specs.Lists.{flat, folded}
use Rattle.js_phrase.specs.Literals.{property_of, after}
use Rattle.js_phrase.proofs.literals.Queue+Phrase.object.Given as goal

abbrev pub invariant-loop-phrase : goal.invariant-loop-phrase
invariant-loop-phrase l = record {
  properties : l.properties ++ flat property_of l.self ≡ flat property_of l.initial.self;
  ending : folded after l.ending l.self ≡ folded after l.initial.ending l.initial.self;
}

abbrev pub decreases-loop-phrase : goal.decreases-loop-phrase
decreases-loop-phrase l = length l.self
