use Rattle.std.proofs.Common.{◌≡◌, ◌-◌, drop}
use Rattle.js_machine.specs.Views.{args_on}
use Rattle.js_machine.specs.Filling.{bound_from}
use Rattle.js_machine.proofs.machine.Machine.bind_arguments.Given as goal

abbrev pub invariant-loop-left : goal.invariant-loop-left
invariant-loop-left g l = record {
  state : l.self ≡ record l.fn.self { values = drop (l.given - l.left) l.fn.self.values; scopes = l.self.scopes };
  slots : bound_from l.left (args_on l.given l.fn.self.values) l.scope l.self.scopes ≡ bound_from l.first (args_on l.given l.fn.self.values) l.scope l.fn.self.scopes;
}

abbrev pub decreases-loop-left : goal.decreases-loop-left
decreases-loop-left g l = l.left
