use Rattle.std.proofs.Common.{◌≡◌, ◌+◌, ◌*◌, ◌++◌, map, length, [], ◌∷◌, Some, None}
use Rattle.js_lower_table.specs.Expressions as spec
use Rattle.js_lower_calls.proofs.functions.class_constructor.Given as goal

abbrev pub invariant-loop-list : goal.invariant-loop-list
invariant-loop-list g l = (spec.constructor_in l.list ≡ spec.constructor_in l.fn.list) × (l.terms ≡ l.fn.terms) × (l.scopes ≡ l.fn.scopes)

abbrev pub decreases-loop-list : goal.decreases-loop-list
decreases-loop-list g l = length l.list
