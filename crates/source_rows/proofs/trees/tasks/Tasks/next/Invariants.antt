use Rattle.std.proofs.Common.{length}
use Rattle.source_rows.proofs.trees.tasks.Tasks.next.Given as goal

abbrev pub decreases-loop-task : goal.decreases-loop-task
decreases-loop-task l = length l.self.fresh.items
