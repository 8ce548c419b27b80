use Rattle.std.proofs.Common.{◌≡◌, take}
use Rattle.ses_lockdown.proofs.words.units_of.Given as goal

abbrev pub invariant-loop-unit : goal.invariant-loop-unit
invariant-loop-unit l = l.units.items ≡ take l.unit-index l.word
