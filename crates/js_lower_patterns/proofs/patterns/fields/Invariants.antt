use Rattle.std.proofs.Common.{◌≡◌, ◌+◌, ◌*◌, ◌++◌, map, length, [], ◌∷◌, Some, None}
use Rattle.js_lower_table.specs.Patterns as spec
use Rattle.js_lower_table.specs.Table.{low}
use Rattle.js_term_stack.specs.Stacks.{extended, extended_parts}
use Rattle.js_lower_patterns.proofs.patterns.fields.Given as goal

abbrev pub invariant-loop-list : goal.invariant-loop-list
invariant-loop-list g l = (extended (spec.fields (low l.lowerer.depth) l.list l.fn.scopes l.assigned l.object l.keys l.n) l.terms ≡ extended (spec.fields (low l.lowerer.depth) l.fn.list l.fn.scopes l.assigned l.object l.keys 0) l.fn.terms) × (l.scopes ≡ l.fn.scopes)

abbrev pub decreases-loop-list : goal.decreases-loop-list
decreases-loop-list g l = length l.list
