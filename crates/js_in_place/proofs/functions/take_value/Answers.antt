use Rattle.std.proofs.Common.{ap, subst, sym}
use Rattle.js_machine.specs.declared.frame.Mode.TheVariants as mode
use Rattle.js_in_place.specs.Places.{ComesTo, at_mode, at_value}
use Rattle.js_in_place.proofs.Placed.{went_given}
use Rattle.js_in_place.proofs.Returning.{value_taken}
use Rattle.js_in_place.proofs.functions.take_value.Goals as goal

pub returns-in_default : goal.returns-in_default
returns-in_default g c = c.led.ensures c.args.machine.now

pub returns : goal.returns
returns g c =
    let old = c.args.machine.now in
    let new = c.take-value.new.self in
    went_given c.args.left c.args.left old new (at_mode mode.Value old) c.given.new.seat c.given.result
    (subst (λ v. ComesTo c.args.left old new (at_mode mode.Value old) (at_value v new) c.args.left) (sym (ap (λ s. s.value) c.given.ensures.value)) (value_taken c.in-Some.value c.args.left old new c.in-Some.ensures c.take-value.ensures.rest))
    c.given.ensures.went
