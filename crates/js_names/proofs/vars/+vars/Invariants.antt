use Rattle.std.proofs.Common.{◌≡◌, ◌+◌, ◌*◌, ◌++◌, length}
use Rattle.js_names.specs.Lists.{flat}
use Rattle.js_names.specs.Names as spec
use Rattle.js_names.proofs.vars.+vars.Given as goal

abbrev pub decreases-vars_to : goal.decreases-vars_to
decreases-vars_to c = 4 * c.depth + 0

abbrev pub decreases-vars_row : goal.decreases-vars_row
decreases-vars_row c = 4 * c.depth + 3

abbrev pub decreases-vars_maybe : goal.decreases-vars_maybe
decreases-vars_maybe c = 4 * c.depth + 1

abbrev pub decreases-vars_catch : goal.decreases-vars_catch
decreases-vars_catch c = 4 * c.depth + 2

abbrev pub decreases-vars_finally : goal.decreases-vars_finally
decreases-vars_finally c = 4 * c.depth + 2

abbrev pub decreases-vars_all : goal.decreases-vars_all
decreases-vars_all c = 4 * c.depth + 1

abbrev pub decreases-vars_clauses : goal.decreases-vars_clauses
decreases-vars_clauses c = 4 * c.depth + 2

abbrev pub invariant-vars_all-loop-list : goal.invariant-vars_all-loop-list
invariant-vars_all-loop-list l = l.out ++ flat (spec.var_declared_names_to l.depth) l.list ≡ l.fn.out ++ flat (spec.var_declared_names_to l.depth) l.fn.list

abbrev pub decreases-vars_all-loop-list : goal.decreases-vars_all-loop-list
decreases-vars_all-loop-list l = length l.list

abbrev pub invariant-vars_clauses-loop-list : goal.invariant-vars_clauses-loop-list
invariant-vars_clauses-loop-list l = l.out ++ flat (spec.clause_vars (spec.var_declared_names_to l.depth)) l.list ≡ l.fn.out ++ flat (spec.clause_vars (spec.var_declared_names_to l.depth)) l.fn.list

abbrev pub decreases-vars_clauses-loop-list : goal.decreases-vars_clauses-loop-list
decreases-vars_clauses-loop-list l = length l.list
