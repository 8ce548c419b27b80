use Rattle.std.proofs.Common.{IfSome, ap, subst, sym, ◌∙◌}
use Rattle.lava_base.specs.declared.ids.MadeSymbol.{MadeSymbol}
use Rattle.lava_base.specs.declared.ids.Ref.{Ref}
use Rattle.js_store.proofs.Index_laws.{collected}
use Rattle.js_store.proofs.object.FlatObject.collect.Goals as goal
use Rattle.js_store.specs.Indexed.{IsIndexedBy}
use Rattle.js_store.specs.Objects.{Object, with_slot}
use Rattle.js_store.specs.declared.slot.Slot.{Slot}
use Rattle.js_store.specs.declared.slot.Slot.TheVariants as slot

pub collect-requires : goal.collect-requires
unfolding IsIndexedBy
collect-requires c = subst (λ (s : Slot Ref MadeSymbol). IfSome c.self.inside.index (λ index. IsIndexedBy s index.value)) c.in-Table.is c.self.invariant

pub invariant_of-self : goal.invariant_of-self
unfolding IsIndexedBy
invariant_of-self c = c.collect.ensures.kept

pub returns-in-Table-clause-object : goal.returns-in-Table-clause-object
returns-in-Table-clause-object c =
    collected c.args.which c.args.args.now c.collect.result c.args.self.now _ c.in-Table.entries c.collect.new.entries (ap (λ (o : Object Ref MadeSymbol). o.slot) (sym c.self.view_is) ∙ c.in-Table.is) (ap (with_slot (slot.Table c.collect.new.entries)) c.self.view_is) c.collect.ensures.ok
