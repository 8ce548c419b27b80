use Rattle.std.proofs.Common.{Some, codes}
use Rattle.js_store.specs.Frozen.{common_ref}
use Rattle.js_store.specs.Objects.{fresh, not_extensible, plain_marks}
use Rattle.js_store.specs.declared.slot.Slot.TheVariants as slot
use Rattle.js_world.specs.js_run.declared.intrinsics.TheConstants.{OBJECT_PROTOTYPE}
use Rattle.lava_start.specs.Making.{Thing, with_host_member}
use Rattle.lava_start.proofs.Made_laws.{Last, changed}
use Rattle.lava_start.proofs.host.put_fs.Goals as goal

pub returns-clause-objects : goal.returns-clause-objects
returns-clause-objects c =
    let os = c.args.objects.now.objects in
    let o = fresh (Some (common_ref OBJECT_PROTOTYPE)) plain_marks slot.Plain in
    let at = c.in_ok-at.at.0 in
    let l0 : Last os o at c.put_object.new.objects.objects = record { is = c.in_ok-at.ensures.made; at = c.in_ok-at.ensures.id } in
    let o1 : Thing = with_host_member (codes "readFileSync") 10 o in
    let l1 = changed os o at c.put_object.new.objects.objects c.put_member.new.objects.objects (with_host_member (codes "readFileSync") 10) l0 c.in_ok-put_member.ensures.objects in
    let o2 : Thing = with_host_member (codes "existsSync") 11 o1 in
    let l2 = changed os o1 at c.put_member.new.objects.objects c.put_member-2.new.objects.objects (with_host_member (codes "existsSync") 11) l1 c.in_ok-put_member-2.ensures.objects in
    let z = changed os o2 at c.put_member-2.new.objects.objects c.prevent.new.self.objects not_extensible l2 c.prevent.ensures.objects in
    z.is
