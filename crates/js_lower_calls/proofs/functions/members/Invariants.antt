use Rattle.std.proofs.Common.{◌≡◌, ◌+◌, ◌*◌, ◌++◌, map, length, [], ◌∷◌, Some, None}
use Rattle.js_lower_table.specs.Expressions as spec
use Rattle.js_lower_table.specs.Table.{low}
use Rattle.js_names.specs.Lists.{flat}
use Rattle.js_term_stack.specs.Stacks.{extended, extended_parts}
use Rattle.js_lower_calls.proofs.functions.members.Given as goal

abbrev pub invariant-loop-list : goal.invariant-loop-list
invariant-loop-list g l = (extended_parts (flat (spec.member_parts (low l.lowerer.depth) l.fn.scopes) l.list) l.terms ≡ extended_parts (flat (spec.member_parts (low l.lowerer.depth) l.fn.scopes) l.fn.list) l.fn.terms) × (l.scopes ≡ l.fn.scopes)

abbrev pub decreases-loop-list : goal.decreases-loop-list
decreases-loop-list g l = length l.list
