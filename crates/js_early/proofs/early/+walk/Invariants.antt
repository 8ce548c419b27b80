use Rattle.std.proofs.Common.{◌≡◌, ◌+◌, ◌*◌, ◌++◌, length}
use Rattle.js_walk.specs.Parts.{parts_of}
use Rattle.js_early.specs.Walks as spec
use Rattle.js_early.proofs.early.+walk.Given as goal

abbrev pub decreases-walk_to : goal.decreases-walk_to
decreases-walk_to c = 8 * c.depth + 0

abbrev pub decreases-walk_row : goal.decreases-walk_row
decreases-walk_row c = 8 * c.depth + 7

abbrev pub decreases-walk_below : goal.decreases-walk_below
decreases-walk_below c = 8 * c.depth + 6

abbrev pub decreases-walk_body : goal.decreases-walk_body
decreases-walk_body c = 8 * c.depth + 5

abbrev pub decreases-walk_labelled : goal.decreases-walk_labelled
decreases-walk_labelled c = 8 * c.depth + 5

abbrev pub decreases-walk_scope : goal.decreases-walk_scope
decreases-walk_scope c = 8 * c.depth + 4

abbrev pub decreases-walk_all : goal.decreases-walk_all
decreases-walk_all c = 8 * c.depth + 3

abbrev pub invariant-walk_all-loop-list : goal.invariant-walk_all-loop-list
invariant-walk_all-loop-list l = record {
  faults : l.out ++ spec.all_faults (spec.faults_to l.depth) l.context l.fn.labels l.fn.scopes (parts_of l.list)
      ≡ l.fn.out ++ spec.all_faults (spec.faults_to l.depth) l.context l.fn.labels l.fn.scopes (parts_of l.fn.list);
  labels : l.labels ≡ l.fn.labels;
  scopes : l.scopes ≡ l.fn.scopes;
}

abbrev pub decreases-walk_all-loop-list : goal.decreases-walk_all-loop-list
decreases-walk_all-loop-list l = length l.list
