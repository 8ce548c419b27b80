use Rattle.std.proofs.Common.{◌≡◌, ◌≤◌, length, take}
use Rattle.js_scope.specs.Resolutions.{resolve_name}
use Rattle.js_scope.proofs.lookup.resolve_name.Given as goal

abbrev pub invariant-loop-level : goal.invariant-loop-level
invariant-loop-level l = record {
  within : l.level ≤ length l.scopes;
  left : resolve_name l.name l.scopes ≡ resolve_name l.name (take l.level l.scopes);
}

abbrev pub decreases-loop-level : goal.decreases-loop-level
decreases-loop-level l = l.level
