use Rattle.std.proofs.Common.{◌≡◌, ◌<◌, length}
use Rattle.lava_start.specs.Grants.{member_supply, with_supplies}
use Rattle.lava_start.proofs.accessors.put_live_members.Given as goal

abbrev pub invariant-loop-members : goal.invariant-loop-members
invariant-loop-members l = record {
  inside : l.at.0 < length l.objects.objects;
  party : l.objects.party ≡ l.fn.objects.party;
  left : with_supplies (member_supply l.fn.objects.party.0 l.name) l.at.0 l.members l.objects.objects ≡ with_supplies (member_supply l.fn.objects.party.0 l.name) l.at.0 l.fn.members l.fn.objects.objects;
}

abbrev pub decreases-loop-members : goal.decreases-loop-members
decreases-loop-members l = length l.members
