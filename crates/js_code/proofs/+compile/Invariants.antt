use Rattle.std.proofs.Common.{◌+◌, ◌*◌}
use Rattle.js_code.specs.Decoded.{part_of_row}
use Rattle.js_code.proofs.Holding.{Listing}
use Rattle.js_code.proofs.+compile.Given as goal

abbrev pub decreases-compile::place : goal.decreases-compile::place
decreases-compile::place c = 9 * c.depth

abbrev pub decreases-operands::two : goal.decreases-operands::two
decreases-operands::two c = 9 * c.depth + 1

abbrev pub decreases-operands::maybe : goal.decreases-operands::maybe
decreases-operands::maybe c = 9 * c.depth + 1

abbrev pub decreases-operands::terms : goal.decreases-operands::terms
decreases-operands::terms c = 9 * c.depth + 1

abbrev pub decreases-operands::named : goal.decreases-operands::named
decreases-operands::named c = 9 * c.depth + 1

abbrev pub decreases-functions::template_to : goal.decreases-functions::template_to
decreases-functions::template_to c = 9 * c.depth + 2

abbrev pub decreases-operands::three : goal.decreases-operands::three
decreases-operands::three c = 9 * c.depth + 2

abbrev pub decreases-operands::arguments : goal.decreases-operands::arguments
decreases-operands::arguments c = 9 * c.depth + 2

abbrev pub decreases-functions::maybe_template : goal.decreases-functions::maybe_template
decreases-functions::maybe_template c = 9 * c.depth + 3

abbrev pub decreases-functions::method : goal.decreases-functions::method
decreases-functions::method c = 9 * c.depth + 3

abbrev pub decreases-operands::called : goal.decreases-operands::called
decreases-operands::called c = 9 * c.depth + 3

abbrev pub decreases-operands::called_on : goal.decreases-operands::called_on
decreases-operands::called_on c = 9 * c.depth + 3

abbrev pub decreases-functions::part : goal.decreases-functions::part
decreases-functions::part c = 9 * c.depth + 4

abbrev pub decreases-branching::branches : goal.decreases-branching::branches
decreases-branching::branches c = 9 * c.depth + 4

abbrev pub decreases-branching::jump : goal.decreases-branching::jump
decreases-branching::jump c = 9 * c.depth + 4

abbrev pub decreases-branching::returned : goal.decreases-branching::returned
decreases-branching::returned c = 9 * c.depth + 1

abbrev pub decreases-functions::parts : goal.decreases-functions::parts
decreases-functions::parts c = 9 * c.depth + 5

abbrev pub decreases-functions::defined : goal.decreases-functions::defined
decreases-functions::defined c = 9 * c.depth + 6

abbrev pub decreases-functions::class : goal.decreases-functions::class
decreases-functions::class c = 9 * c.depth + 6

abbrev pub decreases-branching::repeated : goal.decreases-branching::repeated
decreases-branching::repeated c = 9 * c.depth + 6

abbrev pub decreases-branching::guarded : goal.decreases-branching::guarded
decreases-branching::guarded c = 9 * c.depth + 6

abbrev pub decreases-compile::row : goal.decreases-compile::row
decreases-compile::row c = 9 * c.depth + 7

abbrev pub decreases-compile::term_to : goal.decreases-compile::term_to
decreases-compile::term_to c = 9 * c.depth + 8

abbrev pub invariant-operands::terms-loop-term : goal.invariant-operands::terms-loop-term
invariant-operands::terms-loop-term l = Listing (λ k c low. low k) l.fn.code l.code l.places.items l.term-index l.items

abbrev pub invariant-functions::parts-loop-item : goal.invariant-functions::parts-loop-item
invariant-functions::parts-loop-item l = Listing (λ r c low. part_of_row c low r) l.fn.code l.code l.rows.items l.item-index l.items
