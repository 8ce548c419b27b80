use Rattle.std.proofs.Common.{◌≡◌, ◌<◌, length}
use Rattle.lava_start.specs.Grants.{global_supply, with_supplies}
use Rattle.lava_start.proofs.grants.put_globals.Given as goal

abbrev pub invariant-loop-globals : goal.invariant-loop-globals
invariant-loop-globals l = record {
  inside : l.at.0 < length l.objects.objects;
  party : l.objects.party ≡ l.fn.objects.party;
  left : with_supplies (global_supply l.fn.objects.party.0) l.at.0 l.globals l.objects.objects ≡ with_supplies (global_supply l.fn.objects.party.0) l.at.0 l.fn.globals l.fn.objects.objects;
}

abbrev pub decreases-loop-globals : goal.decreases-loop-globals
decreases-loop-globals l = length l.globals
