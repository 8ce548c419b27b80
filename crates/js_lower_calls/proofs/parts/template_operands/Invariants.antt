use Rattle.std.proofs.Common.{◌≡◌, ◌+◌, ◌*◌, ◌++◌, map, length, [], ◌∷◌, Some, None}
use Rattle.js_lower_table.specs.Expressions as spec
use Rattle.js_lower_table.specs.Table.{low}
use Rattle.js_term_stack.specs.Stacks.{extended}
use Rattle.js_lower_calls.proofs.parts.template_operands.Given as goal

abbrev pub invariant-loop-strings : goal.invariant-loop-strings
invariant-loop-strings g l = (extended (spec.template_operands (low l.lowerer.depth) l.fn.scopes l.strings l.list) l.terms ≡ extended (spec.template_operands (low l.lowerer.depth) l.fn.scopes l.fn.strings l.fn.list) l.fn.terms) × (l.scopes ≡ l.fn.scopes)

abbrev pub decreases-loop-strings : goal.decreases-loop-strings
decreases-loop-strings g l = length l.strings
