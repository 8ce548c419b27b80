use Rattle.std.proofs.Common.{◌≡◌, OnOk, subst}
use Rattle.js_store.specs.Objects.{at_place}
use Rattle.lava_start.specs.Making.{with_global_self, with_intrinsic}
use Rattle.lava_start.proofs.Global_laws.{put_twice}
use Rattle.lava_start.proofs.global.put_path.Goals as goal

pub returns-clause-objects : goal.returns-clause-objects
returns-clause-objects c =
    let os = c.args.objects.now.objects in
    let a = c.put_self.new.objects in
    let b = c.put_intrinsic.new.objects in
    let p = c.args.objects.now.party in
    put_twice c.put_intrinsic.result os a.objects b.objects c.args.at.0 (with_global_self p.0 c.args.place) (with_intrinsic p.0 c.args.place c.args.path.now) c.requires c.in_ok-put_self.ensures.objects
    (subst (λ q. OnOk c.put_intrinsic.result (b.objects ≡ at_place a.objects c.args.at.0 (with_intrinsic q.0 c.args.place c.args.path.now))) c.in_ok-put_self.ensures.party c.put_intrinsic.ensures.objects)
