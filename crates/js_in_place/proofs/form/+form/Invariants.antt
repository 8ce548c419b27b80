use Rattle.std.proofs.Common.{◌≡◌, ◌+◌, ◌-◌, ◌*◌, length}
use Rattle.js_code.specs.Tables.{part_of}
use Rattle.js_in_place.specs.Places.{ComesTo, at_form, at_list, at_test}
use Rattle.js_in_place.proofs.form.+form.Given as goal

abbrev pub decreases-do_form : goal.decreases-do_form
decreases-do_form g c = 16 * c.depth

abbrev pub decreases-do_held : goal.decreases-do_held
decreases-do_held g c = 16 * c.depth + 1

abbrev pub decreases-do_tried : goal.decreases-do_tried
decreases-do_tried g c = 16 * c.depth + 2

abbrev pub decreases-do_item : goal.decreases-do_item
decreases-do_item g c = 16 * c.depth + 3

abbrev pub decreases-do_scope : goal.decreases-do_scope
decreases-do_scope g c = 16 * c.depth + 1

abbrev pub decreases-do_turned : goal.decreases-do_turned
decreases-do_turned g c = 16 * c.depth + 1

abbrev pub decreases-do_inside : goal.decreases-do_inside
decreases-do_inside g c = 16 * c.depth + 1

abbrev pub decreases-do_other_update : goal.decreases-do_other_update
decreases-do_other_update g c = 16 * c.depth + 1

abbrev pub decreases-do_list : goal.decreases-do_list
decreases-do_list g c = 16 * c.depth + 5

abbrev pub decreases-do_items : goal.decreases-do_items
decreases-do_items g c = 16 * c.depth + 4

abbrev pub decreases-do_whole : goal.decreases-do_whole
decreases-do_whole g c = 16 * c.depth + 2

abbrev pub decreases-do_renewal : goal.decreases-do_renewal
decreases-do_renewal g c = 16 * c.depth + 2

abbrev pub decreases-do_rest : goal.decreases-do_rest
decreases-do_rest g c = 16 * c.depth + 5

abbrev pub decreases-do_update : goal.decreases-do_update
decreases-do_update g c = 16 * c.depth + 3

abbrev pub decreases-do_listed : goal.decreases-do_listed
decreases-do_listed g c = 16 * c.depth + 6

abbrev pub decreases-do_body : goal.decreases-do_body
decreases-do_body g c = 16 * c.depth + 7

abbrev pub decreases-do_turn : goal.decreases-do_turn
decreases-do_turn g c = 16 * c.depth + 8

abbrev pub decreases-do_loop : goal.decreases-do_loop
decreases-do_loop g c = 16 * c.depth + 9

abbrev pub decreases-do_row : goal.decreases-do_row
decreases-do_row g c = 16 * c.depth - 1

abbrev pub invariant-do_form-loop-i : goal.invariant-do_form-loop-i
invariant-do_form-loop-i g l = ComesTo l.fn.left l.fn.machine l.machine (at_form l.fn.at l.fn.machine) (at_form l.at l.machine) l.left

abbrev pub invariant-do_items-loop-i : goal.invariant-do_items-loop-i
invariant-do_items-loop-i g l = ComesTo l.fn.left l.fn.machine l.machine (at_list l.fn.start l.fn.count l.fn.machine) (at_list (l.fn.start + l.i) (l.fn.count - l.i) l.machine) l.left
    × (l.there - l.i ≡ length (part_of (l.fn.start + l.i) (l.fn.count - l.i) l.machine.code.numbers))

abbrev pub invariant-do_loop-loop-i : goal.invariant-do_loop-loop-i
invariant-do_loop-loop-i g l = ComesTo l.fn.left l.fn.machine l.machine (at_test l.fn.turns l.fn.machine) (at_test l.fn.turns l.machine) l.left
