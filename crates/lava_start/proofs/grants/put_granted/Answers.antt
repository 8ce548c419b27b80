use Rattle.std.proofs.Common.{length}
use Rattle.lava_start.specs.Grants.{grant_objects, grant_property, key_of_name}
use Rattle.lava_start.proofs.Supply_laws.{applied}
use Rattle.lava_start.proofs.grants.put_granted.Goals as goal

pub returns-clause-objects : goal.returns-clause-objects
returns-clause-objects c =
    let os = c.args.objects.now.objects in
    let p = c.args.objects.now.party.0 in
    applied c.apply.result c.put_grant.new.objects.objects c.apply.new.self.objects os (grant_objects p (length os) c.args.name.now c.args.grant.now) c.args.at.0 c.in_ok-key.key (key_of_name c.args.name.now) c.in_ok-property.property (grant_property p (length os) c.args.grant.now)
    c.in_ok-property.ensures.objects c.in_ok-key.ensures c.in_ok-property.ensures.property c.apply.ensures.ok
