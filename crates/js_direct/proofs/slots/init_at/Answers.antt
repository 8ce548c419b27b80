use Rattle.std.proofs.Common.{◌+◌, sym, subst, ◌∙◌, refl, arith}
use Rattle.js_text.specs.declared.value.Value.TheVariants as value
use Rattle.js_state.specs.Scopes.{with_slot}
use Rattle.js_direct.specs.Direct.{seen, value_of}
use Rattle.js_direct.specs.Done.{DoesAtOnce}
use Rattle.js_direct.proofs.Doing.{init_does}
use Rattle.js_direct.proofs.slots.init_at.Goals as goal

pub returns-clause-does : goal.returns-clause-does
returns-clause-does g c = λ l common at e.
    (let s = seen (g.S.Store.owner c.args.store.now) (g.S.Store.objects c.args.store.now) c.args.code.now c.args.scopes.now c.args.scope in
    let v = value_of c.value_into-steps.new.given in
    let after = c.write.ensures ∙ (λ j. with_slot c.args.scopes.now (c.outward-at.ensures j) c.args.slot (c.as_value.ensures j)) in
    subst (λ scopes. DoesAtOnce s common at value.Undefined (g.S.Store.objects c.args.store.now) scopes (c.value_into-steps.result + 1)) (sym after)
    (init_does s common at c.args.hops c.args.slot v c.value_into-steps.result (c.value_into-steps.result + 1) c.args.value e (c.value_into-steps.ensures (omega (arith, c.if-steps-eq0.false))) refl))
