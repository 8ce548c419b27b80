use Rattle.std.proofs.Common.{◌≡◌, ◌++◌, length}
use Rattle.js_phrase.specs.Lists.{flat, folded, string_of, substitution_of, later_token}
use Rattle.js_phrase.proofs.lists.Queue+Phrase.substitutions.Given as goal

abbrev pub invariant-loop-phrase : goal.invariant-loop-phrase
invariant-loop-phrase l = record {
  strings : l.strings ++ flat string_of l.self ≡ l.initial.strings ++ flat string_of l.initial.self;
  values : l.values ++ flat substitution_of l.self ≡ l.initial.values ++ flat substitution_of l.initial.self;
  last : folded later_token l.last l.self ≡ folded later_token l.initial.last l.initial.self;
}

abbrev pub decreases-loop-phrase : goal.decreases-loop-phrase
decreases-loop-phrase l = length l.self
