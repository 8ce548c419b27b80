use Rattle.std.proofs.Common.{◌∙◌, ap, refl, rules, subst, sym, w64}
use Rattle.std.proofs.lemmas.Int.{to_z-of_z}
use Rattle.js_direct.specs.Direct.{value_of}
use Rattle.js_direct.specs.declared.plain.Plain.TheVariants as plain
use Rattle.js_machine.specs.Steps.{deed_with, under}
use Rattle.js_machine.specs.Views.{View, newest, top}
use Rattle.js_machine.specs.declared.frame.Frame.TheVariants as frame
use Rattle.js_machine.specs.js_operation.Computing.{number_or_end}
use Rattle.js_machine.specs.js_run.Operators.{numeric}
use Rattle.js_in_place.specs.InPlace.{LedTo}
use Rattle.js_in_place.specs.declared.spot.Spot.TheVariants as spot
use Rattle.js_in_place.proofs.Gone.{comes_to, still}
use Rattle.js_in_place.proofs.Led.{operated, value_stand}
use Rattle.js_in_place.proofs.deliver.operate.Goals as goal

pub returns-in_default : goal.returns-in_default
returns-in_default g c = λ e. still (spot.Given c.args.value) c.args.left c.args.machine.now c.stopped_at.result c.stopped_at.ensures.spot c.stopped_at.ensures.left

pub returns-in_default-number_below : goal.returns-in_default-number_below
returns-in_default-number_below g c = λ e.
    still (spot.Given c.args.value) c.args.left c.args.machine.now c.stopped_at-in_default-number_below.result (c.stopped_at-in_default-number_below.ensures.spot ∙ ap spot.Given (sym c.in-Int.is)) c.stopped_at-in_default-number_below.ensures.left

pub returns-in_default-number_by : goal.returns-in_default-number_by
returns-in_default-number_by g c = λ e.
    still (spot.Given c.args.value) c.args.left c.args.machine.now c.stopped_at-in_default-number_by.result (c.stopped_at-in_default-number_by.ensures.spot ∙ ap spot.Given (sym c.in-Int.is)) c.stopped_at-in_default-number_by.ensures.left

pub returns : goal.returns
returns g c = λ e.
    (let f = frame.BinaryRight c.args.operator in
    let low = c.take_off.new.machine in
    let first = ap (λ (w : View). top w.values) c.take_off.ensures ∙ c.in-Some.ensures in
    let i = to_z-of_z w64 c.in-Some.first (search rules) in
    let j = to_z-of_z w64 c.in-Int.second (search rules) in
    let number = (λ k. number_or_end (numeric c.args.operator (sym i k) (sym j k))) ∙ c.in-Some-number_by.ensures in
    let stand = c.at_value.ensures ∙ ap (λ n. value_stand (plain.Int n) c.args.left) (to_z-of_z w64 c.in-Some-number_by.number (search rules)) in
    comes_to (newest c.args.machine.now.frames) f f c.args.value c.args.left c.args.machine.now low c.discard.new.self c.at_value.result refl e refl c.take_off.ensures
    (subst (λ v. LedTo (deed_with f (value_of v) low) c.args.left (under f low) c.discard.new.self c.at_value.result) (sym c.in-Int.is)
    (operated c.args.operator c.in-Some.first c.in-Int.second c.in-Some-number_by.number c.args.left low c.discard.new.self c.at_value.result first number c.discard.ensures stand)))
