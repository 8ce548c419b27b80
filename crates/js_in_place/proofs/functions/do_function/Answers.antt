use Rattle.std.proofs.Common.{◌-◌, refl}
use Rattle.js_code.specs.declared.node.Node.TheVariants as node
use Rattle.js_machine.specs.Steps.{deed_of_row}
use Rattle.js_in_place.specs.Places.{at_deed, at_form, at_mode}
use Rattle.js_in_place.proofs.Calling.{led_there}
use Rattle.js_in_place.proofs.Placed.{row_done, then_to, then_went}
use Rattle.js_in_place.proofs.functions.do_function.Goals as goal

pub returns : goal.returns
returns g c = λ at e.
    (let old = c.args.machine.now in
    let mid = c.begin_function.new.self in
    let row = node.Func c.args.template in
    let rest = c.args.left - 1 in
    then_went c.args.left rest old mid c.go_on_from.new.machine (at_form at old) (at_mode c.in-Ok.mode mid) c.go_on_from.new.seat c.go_on_from.result
    (then_to c.args.left rest rest old old mid (at_form at old) (at_deed (deed_of_row row old) old) (at_mode c.in-Ok.mode mid) (row_done at c.args.left rest row old e c.requires refl) (led_there (deed_of_row row old) rest old mid c.in-Ok.mode c.in-Ok.ensures))
    c.go_on_from.ensures)
