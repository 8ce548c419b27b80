use Rattle.std.proofs.Common.{length, Some, false}
use Rattle.lava_start.specs.Grants.{key_of_name, live_accessor, live_functions, target_of}
use Rattle.lava_start.proofs.Supply_laws.{applied}
use Rattle.lava_start.proofs.accessors.put_live_member.Goals as goal

pub returns-clause-objects : goal.returns-clause-objects
returns-clause-objects c =
    let os = c.args.objects.now.objects in
    let p = c.args.objects.now.party.0 in
    let made = live_functions (target_of c.args.name.now (Some (key_of_name c.args.member.now))) c.args.write in
    applied c.apply.result c.put_member.new.objects.objects c.apply.new.self.objects os made c.args.at.0 c.in_ok-key.key (key_of_name c.args.member.now) c.in_ok-property.property (live_accessor p (length os) c.args.write false)
    c.in_ok-property.ensures.objects c.in_ok-key.ensures c.in_ok-property.ensures.property c.apply.ensures.ok
