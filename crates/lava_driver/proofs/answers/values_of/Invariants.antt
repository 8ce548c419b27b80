-- The values that were made are those of the texts that were passed.
use Rattle.std.proofs.Common.{◌≡◌, take}
use Rattle.lava_driver.specs.Talks.{text_values}
use Rattle.lava_driver.proofs.answers.values_of.Given as goal

abbrev pub invariant-loop-text : goal.invariant-loop-text
invariant-loop-text l = l.values ≡ text_values (take l.text-index l.texts)
