use Rattle.std.proofs.Common.{rules, ◌≡◌, ◌+◌, ◌-◌, ◌∙◌, true, w64, ap, arith, get_or, refl, subst, sym}
use Rattle.std.proofs.lemmas.Int.{to_z-of_z}
use Rattle.js_code.specs.Decoded.{layer_of, no_turn_row, term_at}
use Rattle.js_code.specs.declared.node.Node.TheVariants as node
use Rattle.js_direct.specs.declared.plain.Plain.TheVariants as plain
use Rattle.js_in_place.specs.Places.{ComesTo, IsPart, IsWent, after_turn, at_copy, at_form, at_item, at_list, at_return, at_scope, at_test, at_update, at_value}
use Rattle.js_machine.specs.Views.{View}
use Rattle.js_in_place.specs.Turns.{at_begun, at_inside, turn_list}
use Rattle.js_in_place.proofs.Parts.{item_begins, list_goes_on, list_last, list_stops, loop_ends, scope_begins, scope_done, turn_starts, update_begins, updates, updates_nothing}
use Rattle.js_in_place.proofs.Placed.{done_in_list, given_went, gives_at, next_part, next_went, other_part, part_ends, part_failed, part_given, part_goes, part_next, row_done, stands_at, then_part, then_to, then_went, went_failed, went_given, went_next, went_stopped, whole_ends}
use Rattle.js_in_place.proofs.Turning.{inside_begins, inside_done, last_follows, list_begun, nothing_listed, renewed, rest_begins, rest_follows, return_done, turn_done, whole_begins}
use Rattle.js_in_place.proofs.form.+form.Goals as goal

-- FORMS THAT TAKE ONE ANOTHER'S PLACE

pub do_form-returns-in_default-clause-went : goal.do_form-returns-in_default-clause-went
do_form-returns-in_default-clause-went g t c =
    then_went c.args.left c.loop-i.left c.args.machine.now c.loop-i.machine c.after_row-step.new.machine (at_form c.args.at c.args.machine.now) (at_form c.loop-i.at c.loop-i.machine) c.after_row-step.new.seat c.after_row-step.result c.loop-i.invariant
    (c.after_row-step.ensures (at_form c.loop-i.at c.loop-i.machine) c.loop-i.left c.loop-i.machine c.do_row-step.ensures)

pub do_form-returns-in_default-clause-ends : goal.do_form-returns-in_default-clause-ends
do_form-returns-in_default-clause-ends g t c = c.in_default.not-Next

pub do_form-loop-i-preserved : goal.do_form-loop-i-preserved
do_form-loop-i-preserved g t c =
    then_to c.args.left c.loop-i.left c.after_row-step.result.left c.args.machine.now c.loop-i.machine c.after_row-step.new.machine (at_form c.args.at c.args.machine.now) (at_form c.loop-i.at c.loop-i.machine) (at_form c.after_row-step.new.seat.at c.after_row-step.new.machine) c.loop-i.invariant
    (next_went c.loop-i.left c.loop-i.machine c.after_row-step.new.machine (at_form c.loop-i.at c.loop-i.machine) c.after_row-step.new.seat c.after_row-step.result c.in-Next.is (c.after_row-step.ensures (at_form c.loop-i.at c.loop-i.machine) c.loop-i.left c.loop-i.machine c.do_row-step.ensures))

pub do_form-returns-clause-went : goal.do_form-returns-clause-went
do_form-returns-clause-went g t c =
    went_stopped c.args.left c.loop-i.left c.args.machine.now c.loop-i.machine (at_form c.args.at c.args.machine.now) c.stopped.new.seat c.stopped.result
    (stands_at c.args.left c.loop-i.left c.loop-i.at c.args.machine.now c.loop-i.machine c.loop-i.machine (at_form c.args.at c.args.machine.now) c.stopped.new.seat refl (ap (λ s. s.at) c.stopped.ensures.form) c.loop-i.invariant)
    c.stopped.ensures.went

-- ROWS

pub do_row-returns-in-Seq : goal.do_row-returns-in-Seq
do_row-returns-in-Seq g t c =
    then_went c.args.left (c.args.left - 1) c.args.machine.now c.args.machine.now c.do_list.new.machine (at_form c.args.at c.args.machine.now) (at_list c.in-Seq.start c.in-Seq.count c.args.machine.now) c.do_list.new.seat c.do_list.result
    (row_done c.args.at c.args.left (c.args.left - 1) (node.Seq c.in-Seq.start c.in-Seq.count) c.args.machine.now (c.node.ensures ∙ ap (layer_of c.args.machine.now.code (term_at c.args.machine.now.code)) c.in-Seq.is) c.requires.some refl) c.do_list.ensures

pub do_row-returns-in-Scope : goal.do_row-returns-in-Scope
do_row-returns-in-Scope g t c =
    then_went c.args.left (c.args.left - 1) c.args.machine.now c.args.machine.now c.do_scope.new.machine (at_form c.args.at c.args.machine.now) (at_scope c.in-Scope.slots c.in-Scope.body c.args.machine.now) c.do_scope.new.seat c.do_scope.result
    (row_done c.args.at c.args.left (c.args.left - 1) (node.Scope c.in-Scope.slots c.in-Scope.body) c.args.machine.now (c.node.ensures ∙ ap (layer_of c.args.machine.now.code (term_at c.args.machine.now.code)) c.in-Scope.is) c.requires.some refl) c.do_scope.ensures

pub do_row-returns-in-Loop-default-true : goal.do_row-returns-in-Loop-default-true
do_row-returns-in-Loop-default-true g t c =
    let it = c.in-Loop-default-true in
    then_went c.args.left (c.args.left - 1) c.args.machine.now c.args.machine.now c.do_loop.new.machine (at_form c.args.at c.args.machine.now) (at_test it.turns c.args.machine.now) c.do_loop.new.seat c.do_loop.result
    (row_done c.args.at c.args.left (c.args.left - 1) (node.Loop it.turns true) c.args.machine.now (c.node.ensures ∙ ap (layer_of c.args.machine.now.code (term_at c.args.machine.now.code)) (it.is ∙ ap (node.Loop it.turns) it.tests_first-test)) c.requires.some refl) c.do_loop.ensures

pub do_row-returns-in-Fresh : goal.do_row-returns-in-Fresh
do_row-returns-in-Fresh g t c =
    then_went c.args.left (c.args.left - 1) c.args.machine.now c.args.machine.now c.fresh.new.machine (at_form c.args.at c.args.machine.now) (at_copy c.args.machine.now) c.fresh.new.seat c.fresh.result
    (row_done c.args.at c.args.left (c.args.left - 1) node.Fresh c.args.machine.now (c.node.ensures ∙ ap (layer_of c.args.machine.now.code (term_at c.args.machine.now.code)) c.in-Fresh.is) c.requires.some refl) c.fresh.ensures

pub do_row-returns-in-Func : goal.do_row-returns-in-Func
do_row-returns-in-Func g t c =
    c.do_function.ensures c.args.at (c.node.ensures ∙ ap (layer_of c.args.machine.now.code (term_at c.args.machine.now.code)) c.in-Func.is)

pub do_row-returns-in-Return : goal.do_row-returns-in-Return
do_row-returns-in-Return g t c =
    then_went c.args.left (c.args.left - 1) c.args.machine.now c.args.machine.now c.leave.new.machine (at_form c.args.at c.args.machine.now) (at_return plain.Undefined c.args.machine.now) c.leave.new.seat c.leave.result
    (return_done c.args.at c.args.left (c.args.left - 1) c.args.machine.now (c.node.ensures ∙ ap (layer_of c.args.machine.now.code (term_at c.args.machine.now.code)) c.in-Return.is) c.requires.some refl) c.leave.ensures

-- LISTS

pub do_list-returns-then-count-eq1 : goal.do_list-returns-then-count-eq1
do_list-returns-then-count-eq1 g t c =
    subst (λ n. IsWent (at_list c.args.start n c.args.machine.now) c.args.left c.args.machine.now c.args.machine.now c.only.new.seat c.only.result) (sym c.if-count-eq1.true) c.only.ensures

pub do_items-returns-in_default-how : goal.do_items-returns-in_default-how
do_items-returns-in_default-how g t c =
    list_stops c.args.start c.args.count c.loop-i.i c.in-Ok.there (c.args.start + c.loop-i.i + 1) (c.args.count - c.loop-i.i - 1) c.number-at.result c.args.left c.loop-i.left c.args.machine.now c.loop-i.machine c.do_item-step.new.machine c.do_item-step.new.seat c.do_item-step.result
    c.loop-i.invariant.0 c.loop-i.invariant.1 c.in-Ok.ensures.most (omega (arith, c.loop-i-test.true)) refl refl c.number-at.ensures c.do_item-step.ensures c.in_default-how.not-Next

pub do_items-loop-i-preserved : goal.do_items-loop-i-preserved
do_items-loop-i-preserved g t c =
    list_goes_on c.args.start c.args.count c.loop-i.i c.in-Ok.there (c.args.start + c.loop-i.i + 1) (c.args.count - c.loop-i.i - 1) c.number-at.result c.args.left c.loop-i.left c.args.machine.now c.loop-i.machine c.do_item-step.new.machine c.do_item-step.new.seat c.do_item-step.result
    c.loop-i.invariant.0 c.loop-i.invariant.1 c.in-Ok.ensures.most (omega (arith, c.loop-i-test.true)) refl refl c.number-at.ensures c.do_item-step.ensures c.in-Next.is

pub do_items-returns : goal.do_items-returns
do_items-returns g t c =
    let from = at_list c.args.start c.args.count c.args.machine.now in
    let last : c.loop-i.i ≡ c.in-Ok.there - 1 = omega (arith, c.loop-i-test.false, c.loop-i.auto.i-end) in
    went_next c.args.left c.loop-i.left c.args.machine.now c.loop-i.machine from c.next.new.seat c.next.result
    (stands_at c.args.left c.loop-i.left c.number.result c.args.machine.now c.loop-i.machine c.loop-i.machine from c.next.new.seat refl (ap (λ s. s.at) c.next.ensures.form)
    (list_last c.args.start c.args.count c.loop-i.i c.in-Ok.there 0 0 c.number.result c.args.left c.loop-i.left c.args.machine.now c.loop-i.machine c.loop-i.machine c.next.new.seat c.next.result c.loop-i.invariant.0 c.loop-i.invariant.1 c.in-Ok.ensures.most
    last (omega (arith, c.if-there-eq0.false)) (c.number.ensures ∙ ap (λ k. get_or c.loop-i.machine.code.numbers (c.args.start + k) 0) (sym last))))
    c.next.ensures.went

pub do_held-returns-in-Given : goal.do_held-returns-in-Given
do_held-returns-in-Given g t c =
    let from = at_item c.args.at c.args.start c.args.count c.args.machine.now in
    let begun = item_begins c.args.at c.args.start c.args.count c.args.left c.args.machine.now c.push_frame.new.self c.in-Ok.ensures in
    let s = c.do_form-step.new.seat in
    then_part c.args.left c.do_form-step.result.left c.args.machine.now c.do_form-step.new.machine c.back_in_list.new.machine from (at_value s.value c.do_form-step.new.machine) (at_list c.args.start c.args.count c.back_in_list.new.machine) s c.back_in_list.result
    (then_to c.args.left c.args.left c.do_form-step.result.left c.args.machine.now c.push_frame.new.self c.do_form-step.new.machine from (at_form c.args.at c.push_frame.new.self) (at_value s.value c.do_form-step.new.machine) begun
    (given_went c.args.left c.push_frame.new.self c.do_form-step.new.machine (at_form c.args.at c.push_frame.new.self) s c.do_form-step.result c.in-Given.is c.do_form-step.ensures.went))
    (c.back_in_list.ensures s)

pub do_held-returns-in_default-how : goal.do_held-returns-in_default-how
do_held-returns-in_default-how g t c =
    let from = at_item c.args.at c.args.start c.args.count c.args.machine.now in
    let begun = item_begins c.args.at c.args.start c.args.count c.args.left c.args.machine.now c.push_frame.new.self c.in-Ok.ensures in
    part_ends c.args.left c.args.machine.now c.do_form-step.new.machine from (at_list c.args.start c.args.count c.do_form-step.new.machine) c.do_form-step.new.seat c.do_form-step.result c.do_form-step.ensures.ends
    (then_went c.args.left c.args.left c.args.machine.now c.push_frame.new.self c.do_form-step.new.machine from (at_form c.args.at c.push_frame.new.self) c.do_form-step.new.seat c.do_form-step.result begun c.do_form-step.ensures.went)

pub do_tried-returns-then-steps-eq0 : goal.do_tried-returns-then-steps-eq0
do_tried-returns-then-steps-eq0 g t c =
    subst (λ (w : View). IsPart (at_item c.args.at c.args.start c.args.count w) (at_list c.args.start c.args.count c.do_held.new.machine) c.args.left w c.do_held.new.machine c.do_held.new.seat c.do_held.result) (c.done_here-steps.ensures.none c.if-steps-eq0.true) c.do_held.ensures

pub do_tried-returns : goal.do_tried-returns
do_tried-returns g t c =
    let rest = c.args.left - c.from.result in
    part_next c.args.left rest c.args.machine.now c.done_here-steps.new.machine (at_item c.args.at c.args.start c.args.count c.args.machine.now) (at_list c.args.start c.args.count c.done_here-steps.new.machine) c.done_here-steps.new.seat c.came.result
    (done_in_list c.args.at c.args.start c.args.count c.args.left c.done_here-steps.result rest c.done_here-steps.new.seat.value c.args.machine.now c.done_here-steps.new.machine (c.done_here-steps.ensures.done (omega (arith, c.if-steps-eq0.false))) c.done_here-steps.ensures.within (omega (arith, c.from.ensures)))
    c.came.ensures

-- SCOPES

pub do_scope-returns-in-Given : goal.do_scope-returns-in-Given
do_scope-returns-in-Given g t c =
    let from = at_scope c.args.slots c.args.body c.args.machine.now in
    let begun = scope_begins c.args.slots c.args.body c.standing-scope.result c.args.left c.args.machine.now c.body_here.new.machine c.push_frame.new.self c.standing-scope.ensures (c.in-Nothing.ensures ∙ c.in-Ok.ensures) c.in-Ok-push_frame.ensures in
    let s = c.do_form-step.new.seat in
    then_went c.args.left c.do_form-step.result.left c.args.machine.now c.do_form-step.new.machine c.back_from_scope.new.machine from (at_value s.value c.do_form-step.new.machine) s c.back_from_scope.result
    (then_to c.args.left c.args.left c.do_form-step.result.left c.args.machine.now c.push_frame.new.self c.do_form-step.new.machine from (at_form c.args.body c.push_frame.new.self) (at_value s.value c.do_form-step.new.machine) begun
    (given_went c.args.left c.push_frame.new.self c.do_form-step.new.machine (at_form c.args.body c.push_frame.new.self) s c.do_form-step.result c.in-Given.is c.do_form-step.ensures.went))
    (c.back_from_scope.ensures s)

pub do_scope-returns-in-Gave : goal.do_scope-returns-in-Gave
do_scope-returns-in-Gave g t c =
    let rest = c.args.left - c.from.result in
    let from = at_scope c.args.slots c.args.body c.args.machine.now in
    let n = plain.Int c.in-Gave.number in
    went_given c.args.left rest c.args.machine.now c.stand_in.new.machine from c.given.new.seat c.given.result
    (gives_at c.args.left rest n c.args.machine.now c.stand_in.new.machine c.stand_in.new.machine from c.given.new.seat refl (ap (λ s. s.value) c.given.ensures.value ∙ ap plain.Int (to_z-of_z w64 c.in-Gave.number (search rules)))
    (scope_done c.args.slots c.args.body c.standing-scope.result c.args.left 9 rest n c.args.machine.now c.enter.new.machine c.body_here.new.machine c.stand_in.new.machine c.standing-scope.ensures c.in-Ok.ensures c.in-Gave.ensures.0 c.in-Gave.ensures.1 (omega (arith, c.from.ensures)) c.stand_in.ensures))
    c.given.ensures.went

pub do_scope-returns-in_default : goal.do_scope-returns-in_default
do_scope-returns-in_default g t c = went_failed c.args.left c.args.left c.args.machine.now _ (at_scope c.args.slots c.args.body c.args.machine.now) _ c.came.result c.came.ensures

pub do_scope-returns-in_default-how : goal.do_scope-returns-in_default-how
do_scope-returns-in_default-how g t c =
    let from = at_scope c.args.slots c.args.body c.args.machine.now in
    let begun = scope_begins c.args.slots c.args.body c.standing-scope.result c.args.left c.args.machine.now c.body_here.new.machine c.push_frame.new.self c.standing-scope.ensures (c.in-Nothing.ensures ∙ c.in-Ok.ensures) c.in-Ok-push_frame.ensures in
    then_went c.args.left c.args.left c.args.machine.now c.push_frame.new.self c.do_form-step.new.machine from (at_form c.args.body c.push_frame.new.self) c.do_form-step.new.seat c.do_form-step.result begun c.do_form-step.ensures.went

-- LOOPS

pub do_loop-returns-in_default : goal.do_loop-returns-in_default
do_loop-returns-in_default g t c =
    then_went c.args.left c.loop-i.left c.args.machine.now c.loop-i.machine c.do_turn-step.new.machine (at_test c.args.turns c.args.machine.now) (at_test c.args.turns c.loop-i.machine) c.do_turn-step.new.seat c.do_turn-step.result c.loop-i.invariant
    (whole_ends c.loop-i.left c.loop-i.machine c.do_turn-step.new.machine (at_test c.args.turns c.loop-i.machine) (at_test c.args.turns c.do_turn-step.new.machine) c.do_turn-step.new.seat c.do_turn-step.result c.in_default.not-Next c.do_turn-step.ensures)

pub do_loop-loop-i-preserved : goal.do_loop-loop-i-preserved
do_loop-loop-i-preserved g t c =
    then_to c.args.left c.loop-i.left c.do_turn-step.result.left c.args.machine.now c.loop-i.machine c.do_turn-step.new.machine (at_test c.args.turns c.args.machine.now) (at_test c.args.turns c.loop-i.machine) (at_test c.args.turns c.do_turn-step.new.machine) c.loop-i.invariant
    (next_part c.loop-i.left c.loop-i.machine c.do_turn-step.new.machine (at_test c.args.turns c.loop-i.machine) (at_test c.args.turns c.do_turn-step.new.machine) c.do_turn-step.new.seat c.do_turn-step.result c.in-Next.is c.do_turn-step.ensures)

pub do_loop-returns : goal.do_loop-returns
do_loop-returns g t c =
    then_went c.args.left c.loop-i.left c.args.machine.now c.loop-i.machine c.starts_loop.new.machine (at_test c.args.turns c.args.machine.now) (at_test c.args.turns c.loop-i.machine) c.starts_loop.new.seat c.starts_loop.result c.loop-i.invariant c.starts_loop.ensures.went

pub do_turn-returns-then-price-eq0 : goal.do_turn-returns-then-price-eq0
do_turn-returns-then-price-eq0 g t c =
    part_ends c.args.left c.args.machine.now c.starts_loop.new.machine (at_test c.args.turns c.args.machine.now) (at_test c.args.turns c.starts_loop.new.machine) c.starts_loop.new.seat c.starts_loop.result c.starts_loop.ensures.ends c.starts_loop.ensures.went

pub do_turn-returns-then-not-truth : goal.do_turn-returns-then-not-truth
do_turn-returns-then-not-truth g t c =
    let rest = c.args.left - c.from-price.result in
    let from = at_test c.args.turns c.args.machine.now in
    part_given c.args.left rest c.args.machine.now c.args.machine.now from from c.given.new.seat c.given.result
    (gives_at c.args.left rest plain.Undefined c.args.machine.now c.args.machine.now c.args.machine.now from c.given.new.seat refl (ap (λ s. s.value) c.given.ensures.value)
    (loop_ends c.args.turns c.args.left rest c.turn_row-row.result c.truth_here-truth.result c.args.machine.now c.turn_row-row.ensures (c.truth_here-truth.ensures (omega (arith, c.if-price-eq0.false, c.from-price.ensures)))
    (omega (arith, c.if-price-left.false, c.from-price.ensures)) (omega (arith, c.from-price.ensures)) c.if-not-truth.true))
    c.given.ensures.went

pub do_turn-returns-in_default : goal.do_turn-returns-in_default
do_turn-returns-in_default g t c =
    let rest = c.args.left - c.from-price.result in
    let from = at_test c.args.turns c.args.machine.now in
    let begun = turn_starts c.args.turns c.args.left rest c.turn_row-row.result c.truth_here-truth.result c.args.machine.now c.turn_row-row.ensures (c.truth_here-truth.ensures (omega (arith, c.if-price-eq0.false, c.from-price.ensures)))
    (omega (arith, c.if-price-left.false, c.from-price.ensures)) (omega (arith, c.from-price.ensures)) c.if-not-truth.false in
    let s = c.do_body-step.new.seat in
    let there = c.do_body-step.new.machine in
    other_part c.args.left c.args.machine.now there from (after_turn c.args.turns there) (at_test c.args.turns there) s c.do_body-step.result c.in_default.not-Next
    (then_part c.args.left rest c.args.machine.now c.args.machine.now there from (at_begun c.args.turns c.turn_row-row.result.body c.args.machine.now) (after_turn c.args.turns there) s c.do_body-step.result begun c.do_body-step.ensures)

pub do_turn-returns-in-Some : goal.do_turn-returns-in-Some
do_turn-returns-in-Some g t c =
    let rest = c.args.left - c.from-price.result in
    let from = at_test c.args.turns c.args.machine.now in
    let begun = turn_starts c.args.turns c.args.left rest c.turn_row-row.result c.truth_here-truth.result c.args.machine.now c.turn_row-row.ensures (c.truth_here-truth.ensures (omega (arith, c.if-price-eq0.false, c.from-price.ensures)))
    (omega (arith, c.if-price-left.false, c.from-price.ensures)) (omega (arith, c.from-price.ensures)) c.if-not-truth.false in
    let s = c.do_body-step.new.seat in
    let there = c.do_body-step.new.machine in
    let left = c.do_body-step.result.left in
    let turned = next_part c.args.left c.args.machine.now there from (after_turn c.args.turns there) s c.do_body-step.result c.in-Next.is
    (then_part c.args.left rest c.args.machine.now c.args.machine.now there from (at_begun c.args.turns c.turn_row-row.result.body c.args.machine.now) (after_turn c.args.turns there) s c.do_body-step.result begun c.do_body-step.ensures) in
    let row = c.turn_row-row.ensures ∙ ap (λ x. get_or x.turns c.args.turns no_turn_row) (sym turned.comes.keeps.1.0) in
    then_part c.args.left left c.args.machine.now there c.do_update.new.machine from (at_update c.args.turns c.in-Some.update there) (at_test c.args.turns c.do_update.new.machine) c.do_update.new.seat c.do_update.result
    (then_to c.args.left left left c.args.machine.now there there from (after_turn c.args.turns there) (at_update c.args.turns c.in-Some.update there) turned (updates c.args.turns c.in-Some.update left c.turn_row-row.result there row c.in-Some.is))
    c.do_update.ensures

pub do_turn-returns-in-None : goal.do_turn-returns-in-None
do_turn-returns-in-None g t c =
    let rest = c.args.left - c.from-price.result in
    let from = at_test c.args.turns c.args.machine.now in
    let begun = turn_starts c.args.turns c.args.left rest c.turn_row-row.result c.truth_here-truth.result c.args.machine.now c.turn_row-row.ensures (c.truth_here-truth.ensures (omega (arith, c.if-price-eq0.false, c.from-price.ensures)))
    (omega (arith, c.if-price-left.false, c.from-price.ensures)) (omega (arith, c.from-price.ensures)) c.if-not-truth.false in
    let s = c.do_body-step.new.seat in
    let there = c.do_body-step.new.machine in
    let left = c.do_body-step.result.left in
    let turned = next_part c.args.left c.args.machine.now there from (after_turn c.args.turns there) s c.do_body-step.result c.in-Next.is
    (then_part c.args.left rest c.args.machine.now c.args.machine.now there from (at_begun c.args.turns c.turn_row-row.result.body c.args.machine.now) (after_turn c.args.turns there) s c.do_body-step.result begun c.do_body-step.ensures) in
    let row = c.turn_row-row.ensures ∙ ap (λ x. get_or x.turns c.args.turns no_turn_row) (sym turned.comes.keeps.1.0) in
    part_goes c.args.left c.args.machine.now there from (at_test c.args.turns there) s c.do_body-step.result c.in-Next.is
    (then_to c.args.left left left c.args.machine.now there there from (after_turn c.args.turns there) (at_test c.args.turns there) turned (updates_nothing c.args.turns left c.turn_row-row.result there row c.in-None.is))

-- BODIES OF TURNS

pub do_body-returns-in-Seq : goal.do_body-returns-in-Seq
do_body-returns-in-Seq g t c =
    let there = c.do_listed.new.machine in
    then_part c.args.left (c.args.left - 1) c.args.machine.now c.args.machine.now there (at_begun c.args.turns c.args.body c.args.machine.now) (turn_list c.args.turns c.in-Seq.start c.in-Seq.count c.args.machine.now) (after_turn c.args.turns there) c.do_listed.new.seat c.do_listed.result
    (list_begun c.args.turns c.args.body c.in-Seq.start c.in-Seq.count c.args.left (c.args.left - 1) c.args.machine.now (c.node.ensures ∙ ap (layer_of c.args.machine.now.code (term_at c.args.machine.now.code)) c.in-Seq.is) c.if-left-gt0.true refl) c.do_listed.ensures

pub do_listed-returns-then-there-eq0 : goal.do_listed-returns-then-there-eq0
do_listed-returns-then-there-eq0 g t c =
    part_next c.args.left c.args.left c.args.machine.now c.args.machine.now (turn_list c.args.turns c.args.start c.args.count c.args.machine.now) (after_turn c.args.turns c.args.machine.now) c.args.seat.now c.came-then-there-eq0.result
    (nothing_listed c.args.turns c.args.start c.args.count c.in-Ok.there c.args.left c.args.machine.now c.in-Ok.ensures.there c.if-there-eq0.true) c.came-then-there-eq0.ensures

pub do_listed-returns-then-first-there : goal.do_listed-returns-then-first-there
do_listed-returns-then-first-there g t c =
    let from = turn_list c.args.turns c.args.start c.args.count c.args.machine.now in
    let first = c.do_first-first.result in
    let mid = c.do_first-first.new.machine in
    then_part c.args.left first.left c.args.machine.now mid c.do_rest.new.machine from (turn_list c.args.turns (c.args.start + first.done) (c.args.count - first.done) mid) (after_turn c.args.turns c.do_rest.new.machine) c.do_rest.new.seat c.do_rest.result
    (rest_follows c.args.turns c.args.start c.args.count c.in-Ok.there first.done c.args.left first.left c.args.machine.now mid c.in-Ok.ensures.there c.in-Ok.ensures.most (omega (arith, c.if-there-eq0.false)) c.do_first-first.ensures.goes)
    c.do_rest.ensures

pub do_listed-returns-then-steps-gt0 : goal.do_listed-returns-then-steps-gt0
do_listed-returns-then-steps-gt0 g t c =
    let from = turn_list c.args.turns c.args.start c.args.count c.args.machine.now in
    let first = c.do_first-first.result in
    let mid = c.do_first-first.new.machine in
    let last = c.number-last.result in
    let there = c.done_here-steps.new.machine in
    let rest = first.left - c.from.result in
    part_next c.args.left rest c.args.machine.now there from (after_turn c.args.turns there) c.done_here-steps.new.seat c.came-then-steps-gt0.result
    (then_to c.args.left first.left rest c.args.machine.now mid there from (at_begun c.args.turns last mid) (after_turn c.args.turns there)
    (last_follows c.args.turns c.args.start c.args.count c.in-Ok.there first.done c.args.left first.left c.args.machine.now mid c.in-Ok.ensures.there c.in-Ok.ensures.most (omega (arith, c.if-there-eq0.false)) c.do_first-first.ensures.goes last
    (omega (arith, c.if-first-there.false, c.do_first-first.ensures.done)) c.number-last.ensures)
    (turn_done c.args.turns last first.left c.done_here-steps.result rest c.done_here-steps.new.seat.value mid there (c.done_here-steps.ensures.done c.if-steps-gt0.true) c.done_here-steps.ensures.within (omega (arith, c.from.ensures))))
    c.came-then-steps-gt0.ensures

pub do_listed-returns : goal.do_listed-returns
do_listed-returns g t c =
    let from = turn_list c.args.turns c.args.start c.args.count c.args.machine.now in
    let first = c.do_first-first.result in
    let mid = c.do_first-first.new.machine in
    let last = c.number-last.result in
    let there = c.done_here-steps.new.machine in
    then_part c.args.left first.left c.args.machine.now there c.do_whole.new.machine from (at_begun c.args.turns last there) (after_turn c.args.turns c.do_whole.new.machine) c.do_whole.new.seat c.do_whole.result
    (subst (λ x. ComesTo c.args.left c.args.machine.now x from (at_begun c.args.turns last x) first.left) (sym (c.done_here-steps.ensures.none (omega (arith, c.if-steps-gt0.false))))
    (last_follows c.args.turns c.args.start c.args.count c.in-Ok.there first.done c.args.left first.left c.args.machine.now mid c.in-Ok.ensures.there c.in-Ok.ensures.most (omega (arith, c.if-there-eq0.false)) c.do_first-first.ensures.goes last
    (omega (arith, c.if-first-there.false, c.do_first-first.ensures.done)) c.number-last.ensures))
    c.do_whole.ensures

pub do_rest-returns-in-Next : goal.do_rest-returns-in-Next
do_rest-returns-in-Next g t c =
    let from = turn_list c.args.turns c.args.start c.args.count c.args.machine.now in
    let there = c.do_items-step.new.machine in
    let s = c.do_items-step.new.seat in
    let left = c.do_items-step.result.left in
    let list = at_list c.args.start c.args.count c.push_frame.new.self in
    then_part c.args.left left c.args.machine.now there c.do_turned.new.machine from (at_form s.at there) (after_turn c.args.turns c.do_turned.new.machine) c.do_turned.new.seat c.do_turned.result
    (then_to c.args.left c.args.left left c.args.machine.now c.push_frame.new.self there from list (at_form s.at there)
    (rest_begins c.args.turns c.args.start c.args.count c.args.left c.args.machine.now c.push_frame.new.self c.in-Ok.ensures)
    (next_went c.args.left c.push_frame.new.self there list s c.do_items-step.result c.in-Next.is c.do_items-step.ensures))
    c.do_turned.ensures

pub do_rest-returns-in-Given : goal.do_rest-returns-in-Given
do_rest-returns-in-Given g t c =
    let from = turn_list c.args.turns c.args.start c.args.count c.args.machine.now in
    let there = c.do_items-step.new.machine in
    let s = c.do_items-step.new.seat in
    let left = c.do_items-step.result.left in
    let list = at_list c.args.start c.args.count c.push_frame.new.self in
    then_part c.args.left left c.args.machine.now there c.back_from_turn.new.machine from (at_value s.value there) (after_turn c.args.turns c.back_from_turn.new.machine) s c.back_from_turn.result
    (then_to c.args.left c.args.left left c.args.machine.now c.push_frame.new.self there from list (at_value s.value there)
    (rest_begins c.args.turns c.args.start c.args.count c.args.left c.args.machine.now c.push_frame.new.self c.in-Ok.ensures)
    (given_went c.args.left c.push_frame.new.self there list s c.do_items-step.result c.in-Given.is c.do_items-step.ensures))
    (c.back_from_turn.ensures s)

pub do_rest-returns-in_default-how : goal.do_rest-returns-in_default-how
do_rest-returns-in_default-how g t c =
    let from = turn_list c.args.turns c.args.start c.args.count c.args.machine.now in
    let there = c.do_items-step.new.machine in
    let s = c.do_items-step.new.seat in
    part_ends c.args.left c.args.machine.now there from (after_turn c.args.turns there) s c.do_items-step.result c.in_default-how.not-Next
    (then_went c.args.left c.args.left c.args.machine.now c.push_frame.new.self there from (at_list c.args.start c.args.count c.push_frame.new.self) s c.do_items-step.result
    (rest_begins c.args.turns c.args.start c.args.count c.args.left c.args.machine.now c.push_frame.new.self c.in-Ok.ensures) c.do_items-step.ensures)

pub do_whole-returns : goal.do_whole-returns
do_whole-returns g t c =
    let there = c.do_turned.new.machine in
    then_part c.args.left c.args.left c.args.machine.now c.push_frame.new.self there (at_begun c.args.turns c.args.body c.args.machine.now) (at_form c.args.body c.push_frame.new.self) (after_turn c.args.turns there) c.do_turned.new.seat c.do_turned.result
    (whole_begins c.args.turns c.args.body c.args.left c.args.machine.now c.push_frame.new.self c.in-Ok.ensures) c.do_turned.ensures

pub do_turned-returns-in-Given : goal.do_turned-returns-in-Given
do_turned-returns-in-Given g t c =
    let from = at_form c.args.at c.args.machine.now in
    let there = c.do_form-step.new.machine in
    let s = c.do_form-step.new.seat in
    then_part c.args.left c.do_form-step.result.left c.args.machine.now there c.back_from_turn.new.machine from (at_value s.value there) (after_turn c.args.turns c.back_from_turn.new.machine) s c.back_from_turn.result
    (given_went c.args.left c.args.machine.now there from s c.do_form-step.result c.in-Given.is c.do_form-step.ensures.went) (c.back_from_turn.ensures s)

pub do_turned-returns-in_default : goal.do_turned-returns-in_default
do_turned-returns-in_default g t c =
    let there = c.do_form-step.new.machine in
    part_ends c.args.left c.args.machine.now there (at_form c.args.at c.args.machine.now) (after_turn c.args.turns there) c.do_form-step.new.seat c.do_form-step.result c.do_form-step.ensures.ends c.do_form-step.ensures.went

-- WHAT FOLLOWS A TURN

pub do_update-returns-in-Some : goal.do_update-returns-in-Some
do_update-returns-in-Some g t c =
    let there = c.do_renewal.new.machine in
    let whole : c.args.left - 3 + 3 ≡ c.args.left = omega (arith, c.if-left-ge3.true) in
    subst (λ k. IsPart (at_update c.args.turns c.args.update c.args.machine.now) (at_test c.args.turns there) k c.args.machine.now there c.do_renewal.new.seat c.do_renewal.result) whole (c.do_renewal.ensures c.args.update c.in-Some.ensures)

pub do_renewal-returns-in-Gave : goal.do_renewal-returns-in-Gave
do_renewal-returns-in-Gave g t c = λ at r.
    (let rest = c.args.left - c.from.result in
    let from = at_update c.args.turns at c.args.machine.now in
    let there = c.stand_in.new.machine in
    let inner = c.enter.new.machine in
    let scope = c.standing-scope.result in
    part_next (c.args.left + 3) rest c.args.machine.now there from (at_test c.args.turns there) c.args.seat.now c.came-in-Gave.result
    (then_to (c.args.left + 3) c.args.left rest c.args.machine.now inner there from (at_inside c.args.turns scope c.args.parts.body inner) (at_test c.args.turns there)
    (renewed c.args.turns at c.args.parts.slots c.args.parts.body scope c.args.left c.args.machine.now c.enter_copy.new.machine inner r c.in-Ok.ensures c.standing-scope.ensures c.in-Ok-enter.ensures)
    (inside_done c.args.turns scope c.args.parts.body c.args.left 9 rest _ inner c.body_here.new.machine there c.in-Gave.ensures.0 c.in-Gave.ensures.1 (omega (arith, c.from.ensures)) c.stand_in.ensures))
    c.came-in-Gave.ensures)

pub do_renewal-returns-in-Nothing : goal.do_renewal-returns-in-Nothing
do_renewal-returns-in-Nothing g t c = λ at r.
    (let from = at_update c.args.turns at c.args.machine.now in
    let there = c.do_inside.new.machine in
    let inner = c.body_here.new.machine in
    let scope = c.standing-scope.result in
    then_part (c.args.left + 3) c.args.left c.args.machine.now inner there from (at_inside c.args.turns scope c.args.parts.body inner) (at_test c.args.turns there) c.do_inside.new.seat c.do_inside.result
    (renewed c.args.turns at c.args.parts.slots c.args.parts.body scope c.args.left c.args.machine.now c.enter_copy.new.machine inner r c.in-Ok.ensures c.standing-scope.ensures (c.in-Nothing.ensures ∙ c.in-Ok-enter.ensures))
    c.do_inside.ensures)

pub do_inside-returns-in-Given : goal.do_inside-returns-in-Given
do_inside-returns-in-Given g t c =
    let from = at_inside c.args.turns c.args.scope c.args.body c.args.machine.now in
    let low = c.push_frame-2.new.self in
    let begun = inside_begins c.args.turns c.args.scope c.args.body c.args.left c.args.machine.now c.push_frame.new.self low c.in-Ok.ensures c.in-Ok-push_frame.ensures in
    let s = c.do_form-step.new.seat in
    let there = c.do_form-step.new.machine in
    let left = c.do_form-step.result.left in
    then_part c.args.left left c.args.machine.now there c.back_from_inside.new.machine from (at_value s.value there) (at_test c.args.turns c.back_from_inside.new.machine) s c.back_from_inside.result
    (then_to c.args.left c.args.left left c.args.machine.now low there from (at_form c.args.body low) (at_value s.value there) begun
    (given_went c.args.left low there (at_form c.args.body low) s c.do_form-step.result c.in-Given.is c.do_form-step.ensures.went))
    (c.back_from_inside.ensures s)

pub do_inside-returns-in_default-how : goal.do_inside-returns-in_default-how
do_inside-returns-in_default-how g t c =
    let from = at_inside c.args.turns c.args.scope c.args.body c.args.machine.now in
    let low = c.push_frame-2.new.self in
    let begun = inside_begins c.args.turns c.args.scope c.args.body c.args.left c.args.machine.now c.push_frame.new.self low c.in-Ok.ensures c.in-Ok-push_frame.ensures in
    let there = c.do_form-step.new.machine in
    part_ends c.args.left c.args.machine.now there from (at_test c.args.turns there) c.do_form-step.new.seat c.do_form-step.result c.do_form-step.ensures.ends
    (then_went c.args.left c.args.left c.args.machine.now low there from (at_form c.args.body low) c.do_form-step.new.seat c.do_form-step.result begun c.do_form-step.ensures.went)

pub do_other_update-returns-in-Given : goal.do_other_update-returns-in-Given
do_other_update-returns-in-Given g t c =
    let from = at_update c.args.turns c.args.update c.args.machine.now in
    let begun = update_begins c.args.turns c.args.update c.args.left c.args.machine.now c.push_frame.new.self c.in-Ok.ensures in
    let s = c.do_form-step.new.seat in
    then_part c.args.left c.do_form-step.result.left c.args.machine.now c.do_form-step.new.machine c.back_from_update.new.machine from (at_value s.value c.do_form-step.new.machine) (at_test c.args.turns c.back_from_update.new.machine) s c.back_from_update.result
    (then_to c.args.left c.args.left c.do_form-step.result.left c.args.machine.now c.push_frame.new.self c.do_form-step.new.machine from (at_form c.args.update c.push_frame.new.self) (at_value s.value c.do_form-step.new.machine) begun
    (given_went c.args.left c.push_frame.new.self c.do_form-step.new.machine (at_form c.args.update c.push_frame.new.self) s c.do_form-step.result c.in-Given.is c.do_form-step.ensures.went))
    (c.back_from_update.ensures s)

pub do_other_update-returns-in_default : goal.do_other_update-returns-in_default
do_other_update-returns-in_default g t c = part_failed c.args.left c.args.left c.args.machine.now _ (at_update c.args.turns c.args.update c.args.machine.now) _ _ c.came.result c.came.ensures

pub do_other_update-returns-in_default-how : goal.do_other_update-returns-in_default-how
do_other_update-returns-in_default-how g t c =
    let from = at_update c.args.turns c.args.update c.args.machine.now in
    let begun = update_begins c.args.turns c.args.update c.args.left c.args.machine.now c.push_frame.new.self c.in-Ok.ensures in
    part_ends c.args.left c.args.machine.now c.do_form-step.new.machine from (at_test c.args.turns c.do_form-step.new.machine) c.do_form-step.new.seat c.do_form-step.result c.do_form-step.ensures.ends
    (then_went c.args.left c.args.left c.args.machine.now c.push_frame.new.self c.do_form-step.new.machine from (at_form c.args.update c.push_frame.new.self) c.do_form-step.new.seat c.do_form-step.result begun c.do_form-step.ensures.went)
