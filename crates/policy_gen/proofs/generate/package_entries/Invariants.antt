-- The imports before the place are granted.
use Rattle.std.proofs.Common.{◌≡◌, take}
use Rattle.policy_gen.specs.Generated.{package_entries}
use Rattle.policy_gen.proofs.generate.package_entries.Given as goal

abbrev pub invariant-loop-e : goal.invariant-loop-e
invariant-loop-e l = l.grades ≡ package_entries l.packages (take l.e-index l.imports)
