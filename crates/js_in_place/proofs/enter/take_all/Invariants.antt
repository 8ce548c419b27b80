use Rattle.std.proofs.Common.{◌≡◌, ◌-◌, ◌≤◌, drop}
use Rattle.js_machine.specs.Filling.{bound_from}
use Rattle.js_machine.specs.Views.{args_on}
use Rattle.js_in_place.proofs.enter.take_all.Given as goal

abbrev pub invariant-loop-left : goal.invariant-loop-left
invariant-loop-left g l = record {
  most : l.left ≤ l.count;
  state : l.machine ≡ record l.fn.machine { values = drop (l.count - l.left) l.fn.machine.values; scopes = l.machine.scopes };
  slots : bound_from l.left (args_on l.count l.fn.machine.values) l.scope l.machine.scopes ≡ bound_from l.count (args_on l.count l.fn.machine.values) l.scope l.fn.machine.scopes;
}

abbrev pub decreases-loop-left : goal.decreases-loop-left
decreases-loop-left g l = l.left
