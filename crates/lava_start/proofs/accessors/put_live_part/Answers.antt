use Rattle.std.proofs.Common.{◌≡◌, ap, ◌∙◌}
use Rattle.lava_base.specs.declared.ids.PartyId.{PartyId}
use Rattle.lava_start.specs.Grants.{member_supply, with_supplies}
use Rattle.lava_start.proofs.Made_laws.{Last, inside}
use Rattle.lava_start.proofs.Supply_laws.{bare_object, inside_after, live_part_made}
use Rattle.lava_start.proofs.accessors.put_live_part.Goals as goal

pub prevent-requires : goal.prevent-requires
prevent-requires c =
    let os = c.args.objects.now.objects in
    let at = c.in_ok-at.at.0 in
    let a = c.put_object.new.objects.objects in
    let l0 : Last os bare_object at a = record { is = c.in_ok-at.ensures.made; at = c.in_ok-at.ensures.id } in
    inside_after (member_supply c.put_object.new.objects.party.0 c.args.name.now) c.args.members.now a c.put_live_members.new.objects.objects at (inside os bare_object at a l0) c.in_ok-put_live_members.ensures.objects

pub returns-clause-objects : goal.returns-clause-objects
returns-clause-objects c =
    let p = c.args.objects.now.party.0 in
    let name = c.args.name.now in
    let ms = c.args.members.now in
    let os = c.args.objects.now.objects in
    let a = c.put_object.new.objects.objects in
    let b = c.put_live_members.new.objects.objects in
    let at = c.in_ok-at.at.0 in
    let next : b ≡ with_supplies (member_supply p name) at ms a = c.in_ok-put_live_members.ensures.objects ∙ ap (λ (q : PartyId). with_supplies (member_supply q.0 name) at ms a) c.in_ok-at.ensures.party in
    live_part_made p name ms os a b c.prevent.new.self.objects at c.in_ok-at.ensures.id c.in_ok-at.ensures.made next c.prevent.ensures.objects
