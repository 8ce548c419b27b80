use Rattle.std.proofs.Common.{◌≡◌, ◌++◌, length}
use Rattle.js_phrase.specs.Lists.{flat, folded, listed_element, with_rest}
use Rattle.js_phrase.proofs.lists.Queue+Phrase.parameter_list.Given as goal

abbrev pub invariant-loop-phrase : goal.invariant-loop-phrase
invariant-loop-phrase l = record {
  elements : l.elements ++ flat listed_element l.self ≡ flat listed_element l.initial.self;
  rest : folded with_rest l.rest l.self ≡ folded with_rest l.initial.rest l.initial.self;
}

abbrev pub decreases-loop-phrase : goal.decreases-loop-phrase
decreases-loop-phrase l = length l.self
