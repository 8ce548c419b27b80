use Rattle.std.proofs.Common.{rules, ℤ, ◌∙◌, Some, ap, arith, slice_index, subst, sym, w64}
use Rattle.std.proofs.lemmas.Int.{to_z-of_z}
use Rattle.js_text.specs.declared.value.Value.TheVariants as value
use Rattle.js_state.specs.Scopes.{slot_of}
use Rattle.js_code.specs.Decoded.{layer_of, term_at}
use Rattle.js_operation.specs.Computing.{number_or_end}
use Rattle.js_operation.specs.js_run.Operators.{numeric}
use Rattle.js_direct.specs.Direct.{seen}
use Rattle.js_direct.specs.Increments.{IsIncremented}
use Rattle.js_direct.proofs.Increment.{came_of, three}
use Rattle.js_direct.proofs.increments.increment_at.Goals as goal

pub returns : goal.returns
returns c = λ store.
    (let ns = c.numbers-forms.result.now in
    let place = c.in-Some.place in
    let change = c.in-Some-change_at.change in
    let low = to_z-of_z w64 c.slot_number-old.result.number (search rules) in
    let high = to_z-of_z w64 c.operated-new.result.number (search rules) in
    let there = (c.slot_number-old.ensures (omega (arith, c.if-old-eq0.false))).0 in
    came_of c.written.result (seen store.party store.objects c.args.code.now c.args.scopes.now c.args.scope) c.args.at c.in-Seq.start c.in-Seq.count (slice_index ns 0) (slice_index ns 1) (slice_index ns 2) place.hops place.slot change.operator change.amount c.slot_number-old.result.number c.operated-new.result.number c.written.new.scopes
    (c.node.ensures.term ∙ ap (layer_of c.args.code.now (term_at c.args.code.now)) c.in-Seq.is) (sym c.numbers-forms.ensures ∙ three ns c.if-forms-ne3.false) c.in-Some.ensures c.in-Some-change_at.ensures (c.is_kept.ensures c.if-not-is_kept.false)
    (ap (λ k. slot_of c.args.scopes.now k place.slot) (sym c.outward-target.ensures) ∙ there) (ap (λ i. number_or_end (numeric change.operator c.slot_number-old.result.number i)) (sym (to_z-of_z w64 change.amount (search rules))) ∙ c.operated-new.ensures.number (omega (arith, c.if-new-eq0.false)))
    (subst (λ (n : ℤ × ℤ). IsIncremented c.written.result c.args.scopes.now c.written.new.scopes c.args.scope place.hops place.slot n.0 n.1) (λ j. (low j, high j)) (c.written.ensures place.hops c.outward-target.ensures (there ∙ ap (λ k. Some (value.Int k)) (sym low)))))
