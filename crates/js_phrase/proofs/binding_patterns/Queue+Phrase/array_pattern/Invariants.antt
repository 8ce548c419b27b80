use Rattle.std.proofs.Common.{◌≡◌, ◌++◌, length}
use Rattle.js_phrase.specs.Lists.{flat, folded, with_rest}
use Rattle.js_phrase.specs.BindingPatterns.{later_slot}
use Rattle.js_phrase.proofs.binding_patterns.Queue+Phrase.array_pattern.Given as goal

abbrev pub invariant-loop-phrase : goal.invariant-loop-phrase
invariant-loop-phrase l = record {
  slots : l.slots ++ flat later_slot l.self ≡ l.initial.slots ++ flat later_slot l.initial.self;
  rest : folded with_rest l.rest l.self ≡ folded with_rest l.initial.rest l.initial.self;
}

abbrev pub decreases-loop-phrase : goal.decreases-loop-phrase
decreases-loop-phrase l = length l.self
