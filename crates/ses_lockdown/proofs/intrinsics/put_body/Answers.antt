use Rattle.std.proofs.Common.{◌<◌, length, ap, ◌∙◌, pos, subst, sym}
use Rattle.js_text.specs.Length.{length_key}
use Rattle.js_text.specs.declared.value.Value.TheVariants as value
use Rattle.lava_base.specs.Ids.{same_made_symbol}
use Rattle.js_store.specs.Objects.{at_place, with_replaced, with_slot}
use Rattle.ses_lockdown.specs.Intrinsics.{body_of, holding}
use Rattle.ses_lockdown.proofs.Making_laws.{at_twice, length_at}
use Rattle.ses_lockdown.proofs.intrinsics.put_body.Goals as goal

pub replace-requires : goal.replace-requires
replace-requires c = subst (λ n. c.args.place < n) (sym (ap length c.put_slot.ensures ∙ length_at c.args.store.now.objects c.args.place (with_slot c.body_of.result))) c.requires.place

pub returns : goal.returns
returns c =
    let xs = c.args.store.now.objects in
    c.replace.ensures.objects
    ∙ ap (λ ys. at_place ys c.args.place (with_replaced same_made_symbol c.args.key c.length_of.result)) (c.put_slot.ensures ∙ ap (λ s. at_place xs c.args.place (with_slot s)) c.body_of.ensures)
    ∙ ap (λ k. at_place (at_place xs c.args.place (with_slot (body_of c.args.number))) c.args.place (with_replaced same_made_symbol k c.length_of.result)) c.requires.key
    ∙ ap (λ d. at_place (at_place xs c.args.place (with_slot (body_of c.args.number))) c.args.place (with_replaced same_made_symbol length_key d)) c.length_of.ensures
    ∙ at_twice xs c.args.place (with_slot (body_of c.args.number)) (with_replaced same_made_symbol length_key (holding (value.Int (pos c.args.parameters)))) c.requires.place
