-- What is there, and what is left.
use Rattle.std.proofs.Common.{◌++◌, drop}
use Rattle.lava_journal.specs.Alike.{FindsAlike}
use Rattle.lava_view.proofs.view_page.add_marks.Given as goal

abbrev pub invariant-loop-entry : goal.invariant-loop-entry
invariant-loop-entry l = FindsAlike (l.table.entries ++ drop l.entry-index l.marks) (l.initial.table.entries ++ l.marks)
