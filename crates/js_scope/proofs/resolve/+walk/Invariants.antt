use Rattle.std.proofs.Common.{◌≡◌, ◌+◌, ◌*◌, ◌++◌, length}
use Rattle.js_walk.specs.Parts.{parts_of}
use Rattle.js_scope.specs.Resolutions as spec
use Rattle.js_scope.proofs.resolve.+walk.Given as goal

abbrev pub decreases-walk_to : goal.decreases-walk_to
decreases-walk_to c = 8 * c.depth + 0

abbrev pub decreases-walk_row : goal.decreases-walk_row
decreases-walk_row c = 8 * c.depth + 7

abbrev pub decreases-walk_scope : goal.decreases-walk_scope
decreases-walk_scope c = 8 * c.depth + 4

abbrev pub decreases-walk_all : goal.decreases-walk_all
decreases-walk_all c = 8 * c.depth + 3

abbrev pub invariant-walk_all-loop-list : goal.invariant-walk_all-loop-list
invariant-walk_all-loop-list l = record {
  findings : l.out ++ spec.all_findings (spec.findings_to l.depth) l.fn.scopes (parts_of l.list) ≡ l.fn.out ++ spec.all_findings (spec.findings_to l.depth) l.fn.scopes (parts_of l.fn.list);
  scopes : l.scopes ≡ l.fn.scopes;
}

abbrev pub decreases-walk_all-loop-list : goal.decreases-walk_all-loop-list
decreases-walk_all-loop-list l = length l.list
