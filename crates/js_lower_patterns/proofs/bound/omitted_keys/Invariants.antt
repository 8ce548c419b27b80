use Rattle.std.proofs.Common.{◌≡◌, ◌+◌, ◌*◌, ◌++◌, map, length, [], ◌∷◌, Some, None}
use Rattle.js_lower_table.specs.Patterns as spec
use Rattle.js_lower_table.specs.Table.{low}
use Rattle.js_term_stack.specs.Stacks.{extended, extended_parts}
use Rattle.js_lower_patterns.proofs.bound.omitted_keys.Given as goal

abbrev pub invariant-loop-list : goal.invariant-loop-list
invariant-loop-list l = extended_parts (spec.omitted_keys l.list l.scopes l.keys l.n) l.terms ≡ extended_parts (spec.omitted_keys l.fn.list l.scopes l.keys 0) l.fn.terms

abbrev pub decreases-loop-list : goal.decreases-loop-list
decreases-loop-list l = length l.list
