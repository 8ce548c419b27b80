use Rattle.std.proofs.Common.{rules, ◌≡◌, ◌∙◌, Some, ap, arith, subst, sym, to_z, w64}
use Rattle.std.proofs.lemmas.Int.{to_z-of_z}
use Rattle.js_text.specs.declared.value.Value.TheVariants as value
use Rattle.js_state.specs.Scopes.{with_slot}
use Rattle.js_direct.specs.Increments.{WritesBoth}
use Rattle.js_direct.proofs.Increment.{writes_both}
use Rattle.js_direct.proofs.increments.written.Goals as goal

pub returns : goal.returns
returns c = λ hops way there.
    (let old = to_z-of_z w64 c.args.old (search rules) in
    let new = to_z-of_z w64 c.args.new (search rules) in
    let kept : c.slot_number-kept.result.number ≡ c.args.old = sym (to_z-of_z w64 c.slot_number-kept.result.number (search rules)) ∙ ap (to_z w64) c.if-kept-old.false ∙ old in
    subst (λ g. WritesBoth c.args.scopes.now c.write_number-2.new.scopes c.args.scope hops c.args.slot c.args.old c.args.new g) (sym old)
    (writes_both c.args.scopes.now c.write_number.new.scopes c.write_number-2.new.scopes c.args.scope c.args.target hops c.args.slot c.args.old c.args.new c.requires way there
    (c.write_number.ensures ∙ ap (λ n. with_slot c.args.scopes.now c.args.scope 0 (value.Int n)) old) ((c.slot_number-kept.ensures (omega (arith, c.if-kept-eq0.false))).0 ∙ ap (λ n. Some (value.Int n)) kept)
    (c.write_number-2.ensures ∙ ap (λ n. with_slot c.write_number.new.scopes c.args.target c.args.slot (value.Int n)) new)))
