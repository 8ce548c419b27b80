use Rattle.std.proofs.Common.{ap, ◌∙◌}
use Rattle.lava_base.specs.declared.ids.PartyId.{PartyId}
use Rattle.lava_start.specs.Grants.{global_supply, with_supplies}
use Rattle.lava_start.proofs.Supply_laws.{globals_made}
use Rattle.lava_start.proofs.grants.global_store.Goals as goal

pub returns-clause-objects : goal.returns-clause-objects
returns-clause-objects c =
    let a = c.in_ok-objects.objects.objects in
    let gs = c.args.globals.now in
    globals_made c.args.party.0 gs a c.put_globals.new.objects.objects c.in_ok-objects.ensures.objects
    (c.in_ok-put_globals.ensures.objects ∙ ap (λ (q : PartyId). with_supplies (global_supply q.0) 0 gs a) c.in_ok-objects.ensures.party)
