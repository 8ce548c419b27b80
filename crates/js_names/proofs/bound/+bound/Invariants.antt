use Rattle.std.proofs.Common.{◌≡◌, ◌+◌, ◌*◌, ◌++◌, length}
use Rattle.js_names.specs.Lists.{flat}
use Rattle.js_names.specs.Names as spec
use Rattle.js_names.proofs.bound.+bound.Given as goal

abbrev pub decreases-bound_names_to : goal.decreases-bound_names_to
decreases-bound_names_to c = 4 * c.depth + 0

abbrev pub decreases-pattern_names_row : goal.decreases-pattern_names_row
decreases-pattern_names_row c = 4 * c.depth + 3

abbrev pub decreases-rest_names : goal.decreases-rest_names
decreases-rest_names c = 4 * c.depth + 1

abbrev pub decreases-fields_names : goal.decreases-fields_names
decreases-fields_names c = 4 * c.depth + 1

abbrev pub decreases-maybe_element_names : goal.decreases-maybe_element_names
decreases-maybe_element_names c = 4 * c.depth + 1

abbrev pub decreases-maybe_elements_names : goal.decreases-maybe_elements_names
decreases-maybe_elements_names c = 4 * c.depth + 2

abbrev pub invariant-fields_names-loop-list : goal.invariant-fields_names-loop-list
invariant-fields_names-loop-list l = l.out ++ flat (spec.field_names (spec.bound_names_to l.depth) l.constant) l.list ≡ l.fn.out ++ flat (spec.field_names (spec.bound_names_to l.depth) l.constant) l.fn.list

abbrev pub decreases-fields_names-loop-list : goal.decreases-fields_names-loop-list
decreases-fields_names-loop-list l = length l.list

abbrev pub invariant-maybe_elements_names-loop-list : goal.invariant-maybe_elements_names-loop-list
invariant-maybe_elements_names-loop-list l = l.out ++ flat (spec.maybe_element_names (spec.bound_names_to l.depth) l.constant) l.list ≡ l.fn.out ++ flat (spec.maybe_element_names (spec.bound_names_to l.depth) l.constant) l.fn.list

abbrev pub decreases-maybe_elements_names-loop-list : goal.decreases-maybe_elements_names-loop-list
decreases-maybe_elements_names-loop-list l = length l.list
