use Rattle.std.proofs.Common.{◌≡◌, ◌++◌, length}
use Rattle.js_names.specs.Lists.{flat}
use Rattle.js_early.specs.Rules as spec
use Rattle.js_early.proofs.names.clashes.Given as goal

abbrev pub invariant-loop-scopes : goal.invariant-loop-scopes
invariant-loop-scopes l = l.out ++ flat (spec.clash l.name) l.scopes ≡ l.fn.out ++ flat (spec.clash l.name) l.fn.scopes

abbrev pub decreases-loop-scopes : goal.decreases-loop-scopes
decreases-loop-scopes l = length l.scopes
