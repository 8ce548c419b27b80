use Rattle.std.proofs.Common.{◌≡◌, ◌++◌, length}
use Rattle.js_phrase.specs.Lists.{flat, folded, field_of, with_rest}
use Rattle.js_phrase.proofs.binding_patterns.Queue+Phrase.object_pattern.Given as goal

abbrev pub invariant-loop-phrase : goal.invariant-loop-phrase
invariant-loop-phrase l = record {
  fields : l.fields ++ flat field_of l.self ≡ flat field_of l.initial.self;
  rest : folded with_rest l.rest l.self ≡ folded with_rest l.initial.rest l.initial.self;
}

abbrev pub decreases-loop-phrase : goal.decreases-loop-phrase
decreases-loop-phrase l = length l.self
