use Rattle.js_valid.specs.Surroundings.{place}
use Rattle.js_valid.specs.Work.{pending}
use Rattle.js_valid.proofs.Steps_laws.{AreAsValid}
use Rattle.js_valid.proofs.valid.all_stand.Given as goal

abbrev pub invariant-loop-left : goal.invariant-loop-left
invariant-loop-left l = AreAsValid (place l.round.items) (pending l.work.items) (place l.fn.round.items) (pending l.fn.work.items)

abbrev pub decreases-loop-left : goal.decreases-loop-left
decreases-loop-left l = l.left
