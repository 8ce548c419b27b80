use Rattle.std.proofs.Common.{ap}
use Rattle.js_in_place.specs.InPlace.{point_at}
use Rattle.js_in_place.specs.declared.spot.Spot.TheVariants as spot
use Rattle.js_in_place.specs.declared.spot.Stand.{Stand}
use Rattle.js_in_place.proofs.Placed.{given_went, left_went, next_went, other_went, runs, stopped_went}
use Rattle.js_in_place.proofs.stands.stand_of.Goals as goal

pub returns-in-Given : goal.returns-in-Given
returns-in-Given c = λ p left old new h.
    runs left c.args.step.left old new p (spot.Given c.args.seat.value) c.at_value.result (given_went left old new (λ a. point_at a old p) c.args.seat c.args.step c.in-Given.is h) (ap (λ (x : Stand). x.spot) c.at_value.ensures) (ap (λ (x : Stand). x.left) c.at_value.ensures)

pub returns-in-Left : goal.returns-in-Left
returns-in-Left c = λ p left old new h.
    runs left c.args.step.left old new p (spot.Given c.args.seat.value) c.at_value-in-Left.result (left_went left old new (λ a. point_at a old p) c.args.seat c.args.step c.in-Left.is h) (ap (λ (x : Stand). x.spot) c.at_value-in-Left.ensures) (ap (λ (x : Stand). x.left) c.at_value-in-Left.ensures)

pub returns-in-Next : goal.returns-in-Next
returns-in-Next c = λ p left old new h.
    runs left c.args.step.left old new p (spot.Form c.args.seat.at) c.at_form.result (next_went left old new (λ a. point_at a old p) c.args.seat c.args.step c.in-Next.is h) (ap (λ (x : Stand). x.spot) c.at_form.ensures) (ap (λ (x : Stand). x.left) c.at_form.ensures)

pub returns-in-Stopped : goal.returns-in-Stopped
returns-in-Stopped c = λ p left old new h.
    runs left c.args.step.left old new p (spot.Form c.args.seat.at) c.stopped_at.result (stopped_went left old new (λ a. point_at a old p) c.args.seat c.args.step c.in-Stopped.is h) c.stopped_at.ensures.spot c.stopped_at.ensures.left

pub returns-in-Other : goal.returns-in-Other
returns-in-Other c = λ p left old new h.
    runs left c.args.step.left old new p (spot.Other c.args.seat.mode) c.stopped_at-in-Other.result (other_went left old new (λ a. point_at a old p) c.args.seat c.args.step c.in-Other.is h) c.stopped_at-in-Other.ensures.spot c.stopped_at-in-Other.ensures.left
