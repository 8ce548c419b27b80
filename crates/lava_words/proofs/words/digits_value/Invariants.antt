use Rattle.std.proofs.Common.{◌≡◌, length}
use Rattle.lava_words.specs.Words.{digits_after}
use Rattle.lava_words.proofs.words.digits_value.Given as goal

abbrev pub invariant-loop-digits : goal.invariant-loop-digits
invariant-loop-digits l = digits_after l.value l.digits ≡ digits_after 0 l.fn.digits

abbrev pub decreases-loop-digits : goal.decreases-loop-digits
decreases-loop-digits l = length l.digits
