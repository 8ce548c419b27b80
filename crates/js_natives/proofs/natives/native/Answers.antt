use Rattle.std.proofs.Common.{◌≡◌, ◌∙◌, true, sym, ap, arith}
use Rattle.lava_base.specs.declared.ids.PartyId.{PartyId}
use Rattle.js_text.specs.Naming.{naming_of}
use Rattle.js_natives.specs.Deeds.{asks_kind}
use Rattle.js_natives.proofs.Item_laws.{items_do}
use Rattle.js_natives.proofs.Native_laws.{native_does}
use Rattle.js_natives.proofs.natives.native.Goals as goal

pub returns-then-reads_items-clause-does : goal.returns-then-reads_items-clause-does
returns-then-reads_items-clause-does g c =
    items_do c.item_native.result (g.S.Store.owner c.args.store.now).0 (g.S.Store.objects c.args.store.now) c.args.common.now c.args.foreign.now c.args.which c.args.args.now (g.S.Store.objects c.item_native.new.store) (sym c.reads_items.ensures ∙ c.if-reads_items.true) c.item_native.ensures.plain c.item_native.ensures.ok

pub returns-clause-does : goal.returns-clause-does
returns-clause-does g c =
    let there : c.all_are_there.result ≡ true = grind (arith, c.if-not-all_are_there.false) in
    native_does (g.S.Store.owner c.args.store.now).0 (g.S.Store.objects c.args.store.now) c.args.common.now c.args.foreign.now c.args.which c.args.args.now c.in_ok-decision.decision (g.S.Store.objects c.native_step.new.store)
    (sym c.reads_items.ensures ∙ c.if-reads_items.false) (sym c.all_are_there.ensures ∙ there) c.in_ok-decision.ensures.ok
    (sym (c.asks_kind.ensures ∙ ap (λ (p : PartyId). asks_kind (naming_of p.0) c.args.which c.in_ok-decision.decision) (c.party.ensures ∙ c.in_ok-decision.ensures.party)) ∙ c.if-asks_kind.false)
