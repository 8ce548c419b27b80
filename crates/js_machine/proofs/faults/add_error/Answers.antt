use Rattle.std.proofs.Common.{nat_eq, ap, ◌∙◌}
use Rattle.lava_base.specs.declared.ids.PartyId.{PartyId}
use Rattle.js_machine.proofs.Faulted.{added_error}
use Rattle.js_machine.proofs.faults.add_error.Goals as goal

pub returns-clause-made : goal.returns-clause-made
returns-clause-made g c =
    added_error (g.S.Store.objects c.args.store.now) (g.S.Store.objects c.bare_error.new.store) (g.S.Store.objects c.apply.new.self) c.has_frozen_errors-frozen.result (nat_eq (g.S.Store.owner c.args.store.now).0 0) c.args.prototype c.args.key c.args.message c.in_ok-id.id.0 c.requires
    (c.has_frozen_errors-frozen.ensures ∙ ap (λ (q : PartyId). nat_eq q.0 0) c.party.ensures) c.in_ok-id.ensures.made c.in_ok-id.ensures.id c.in_ok-apply.ensures.ok
