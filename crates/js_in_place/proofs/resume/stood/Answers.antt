use Rattle.std.proofs.Common.{ap, subst, sym}
use Rattle.js_in_place.specs.InPlace.{point_at}
use Rattle.js_in_place.specs.Places.{ComesTo, at_form, at_mode, at_value}
use Rattle.js_in_place.specs.declared.spot.Spot.TheVariants as spot
use Rattle.js_in_place.proofs.Placed.{comes_to_spot, went_given, went_left, went_next, went_other}
use Rattle.js_in_place.proofs.resume.stood.Goals as goal

pub returns-in-Form : goal.returns-in-Form
returns-in-Form c = λ p left old new h.
    (let s = c.args.stand in
    went_next left s.left old new (λ a. point_at a old p) c.next.new.seat c.next.result
    (subst (λ k. ComesTo left old new (λ a. point_at a old p) (at_form k new) s.left) (sym (ap (λ x. x.at) c.next.ensures.form)) (comes_to_spot p (spot.Form c.in-Form.at) left old new s c.in-Form.is h)) c.next.ensures.went)

pub returns-then-not-stand : goal.returns-then-not-stand
returns-then-not-stand c = λ p left old new h.
    (let s = c.args.stand in
    went_left left s.left old new (λ a. point_at a old p) c.held_back.new.seat c.held_back.result
    (subst (λ v. ComesTo left old new (λ a. point_at a old p) (at_value v new) s.left) (sym (ap (λ x. x.value) c.held_back.ensures.value)) (comes_to_spot p (spot.Given c.in-Given.value) left old new s c.in-Given.is h)) c.held_back.ensures.went)

pub returns-else-not-stand : goal.returns-else-not-stand
returns-else-not-stand c = λ p left old new h.
    (let s = c.args.stand in
    went_given left s.left old new (λ a. point_at a old p) c.given.new.seat c.given.result
    (subst (λ v. ComesTo left old new (λ a. point_at a old p) (at_value v new) s.left) (sym (ap (λ x. x.value) c.given.ensures.value)) (comes_to_spot p (spot.Given c.in-Given.value) left old new s c.in-Given.is h)) c.given.ensures.went)

pub returns-in-Other : goal.returns-in-Other
returns-in-Other c = λ p left old new h.
    (let s = c.args.stand in
    went_other left s.left old new (λ a. point_at a old p) c.led_by.new.seat c.led_by.result
    (subst (λ m. ComesTo left old new (λ a. point_at a old p) (at_mode m new) s.left) (sym (ap (λ x. x.mode) c.led_by.ensures.mode)) (comes_to_spot p (spot.Other c.in-Other.mode) left old new s c.in-Other.is h)) c.led_by.ensures.went)
