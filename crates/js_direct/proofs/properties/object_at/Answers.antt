use Rattle.std.proofs.Common.{Some, ap, sym, ◌∙◌}
use Rattle.std.specs.Prelude.{option_map}
use Rattle.js_text.specs.declared.value.Value.TheVariants as value
use Rattle.js_direct.specs.Direct.{seen}
use Rattle.js_direct.proofs.Given.{own_slot}
use Rattle.js_direct.proofs.properties.object_at.Goals as goal

pub returns-in-Some-Ref-Own : goal.returns-in-Some-Ref-Own
returns-in-Some-Ref-Own g c =
    let it = c.in-Some-Ref-Own in
    own_slot (seen (g.S.Store.owner c.args.store.now) (g.S.Store.objects c.args.store.now) c.args.code.now c.args.scopes.now c.args.scope) c.args.at c.in-Local.hops c.in-Local.slot c.outward.result c.node.result it.party it.id c.node.ensures.term c.in-Local.is
    (sym c.value.ensures ∙ ap (option_map (λ v. v.now)) it.is ∙ ap Some (it.field-0-is ∙ ap value.Ref it.field-0-0-is)) c.outward.ensures (c.if-party.true ∙ ap (λ p. p.0) c.party.ensures)
