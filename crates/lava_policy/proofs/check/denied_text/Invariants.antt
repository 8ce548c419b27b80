-- The lines of the requests before the place.
use Rattle.std.proofs.Common.{◌≡◌, take}
use Rattle.lava_policy.specs.CheckAnswers.{denied_text}
use Rattle.lava_policy.proofs.check.denied_text.Given as goal

abbrev pub invariant-loop-item : goal.invariant-loop-item
invariant-loop-item l = l.text ≡ denied_text (take l.item-index l.items)
