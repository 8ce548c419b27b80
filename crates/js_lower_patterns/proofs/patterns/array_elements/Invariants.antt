use Rattle.std.proofs.Common.{◌≡◌, ◌+◌, ◌*◌, ◌++◌, map, length, [], ◌∷◌, Some, None}
use Rattle.js_lower_table.specs.Patterns as spec
use Rattle.js_lower_table.specs.Table.{low}
use Rattle.js_term_stack.specs.Stacks.{extended, extended_parts}
use Rattle.js_lower_patterns.proofs.patterns.array_elements.Given as goal

abbrev pub invariant-loop-list : goal.invariant-loop-list
invariant-loop-list g l = (extended (map (spec.array_element (low l.lowerer.depth) l.fn.scopes l.assigned l.fn.iterator) l.list) l.terms ≡ extended (map (spec.array_element (low l.lowerer.depth) l.fn.scopes l.assigned l.fn.iterator) l.fn.list) l.fn.terms) × (l.scopes ≡ l.fn.scopes)

abbrev pub decreases-loop-list : goal.decreases-loop-list
decreases-loop-list g l = length l.list
