-- The units in front of the place are written.
use Rattle.std.proofs.Common.{◌≡◌, map, take}
use Rattle.ses_prelude.specs.Paths.{dot}
use Rattle.ses_prelude.proofs.paths.dotted.Given as goal

abbrev pub invariant-loop-unit : goal.invariant-loop-unit
invariant-loop-unit l = l.path ≡ map dot (take l.unit-index l.name)
