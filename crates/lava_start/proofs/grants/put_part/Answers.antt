use Rattle.std.proofs.Common.{◌≡◌, map, ◌∙◌}
use Rattle.js_store.specs.Objects.{at_place, not_extensible}
use Rattle.lava_start.specs.Grants.{part_member, with_all_properties}
use Rattle.lava_start.specs.Making.{Thing}
use Rattle.lava_start.proofs.Made_laws.{Last, changed, inside}
use Rattle.lava_start.proofs.Supply_laws.{bare_object, inside_change, members_at_once}
use Rattle.lava_start.proofs.grants.put_part.Goals as goal

pub prevent-requires : goal.prevent-requires
prevent-requires c =
    let os = c.args.objects.now.objects in
    let at = c.in_ok-at.at.0 in
    let a = c.put_object.new.objects.objects in
    let b = c.put_part_members.new.objects.objects in
    let f = with_all_properties (map part_member c.args.members.now) in
    let l0 : Last os bare_object at a = record { is = c.in_ok-at.ensures.made; at = c.in_ok-at.ensures.id } in
    let there = inside os bare_object at a l0 in
    inside_change a b at f there (c.in_ok-put_part_members.ensures.objects ∙ members_at_once at c.args.members.now a there)

pub returns-clause-objects : goal.returns-clause-objects
returns-clause-objects c =
    let os = c.args.objects.now.objects in
    let at = c.in_ok-at.at.0 in
    let a = c.put_object.new.objects.objects in
    let b = c.put_part_members.new.objects.objects in
    let f = with_all_properties (map part_member c.args.members.now) in
    let o : Thing = f bare_object in
    let l0 : Last os bare_object at a = record { is = c.in_ok-at.ensures.made; at = c.in_ok-at.ensures.id } in
    let there = inside os bare_object at a l0 in
    let e : b ≡ at_place a at f = c.in_ok-put_part_members.ensures.objects ∙ members_at_once at c.args.members.now a there in
    let l1 : Last os o at b = changed os bare_object at a b f l0 e in
    let z = changed os o at b c.prevent.new.self.objects not_extensible l1 c.prevent.ensures.objects in
    z.is
