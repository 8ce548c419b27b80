-- Elements go, and then the length is written.
use Rattle.std.proofs.Common.{nat_eq, slice_set, ap, ◌∙◌}
use Rattle.lava_base.specs.Ids.{same_made_symbol}
use Rattle.js_text.specs.Length.{length_key}
use Rattle.js_desc.specs.declared.decision.Decision.TheVariants.{Done}
use Rattle.js_desc.specs.declared.reply.Reply.TheVariants.{Flag}
use Rattle.js_store.specs.Objects.{at_place, object_at, with_replaced}
use Rattle.js_exotic.specs.ArrayDefineOwnProperty.{final_length}
use Rattle.js_exotic.specs.ArrayLengths.{without_elements}
use Rattle.js_exotic.proofs.Lowering_laws.{in_turn}
use Rattle.js_exotic.proofs.array_set_length.cut_down.Goals as goal

pub returns-clause-decision : goal.returns-clause-decision
returns-clause-decision g c =
    let old = g.S.Store.objects c.args.store.now in
    let o = object_at old c.args.id.0 in
    let objects =
    in_turn old (g.S.Store.objects c.delete_elements-count.new.store) (g.S.Store.objects c.replace.new.self) c.args.id.0
    (without_elements c.delete_elements-count.result) (with_replaced same_made_symbol length_key (final_length c.delete_elements-count.result c.args.writable c.args.property))
    c.requires.within c.delete_elements-count.ensures.objects
    (c.replace.ensures.objects ∙ (λ j. at_place (g.S.Store.objects c.delete_elements-count.new.store) c.args.id.0 (with_replaced same_made_symbol (c.requires.key j) (c.final_length.ensures j))))
    ∙ ap (λ n. slice_set old c.args.id.0 (with_replaced same_made_symbol length_key (final_length n c.args.writable c.args.property) (without_elements n o))) c.delete_elements-count.ensures.count
    in
    λ j. (Done (Flag (nat_eq (c.delete_elements-count.ensures.count j) c.args.least)), objects j)
