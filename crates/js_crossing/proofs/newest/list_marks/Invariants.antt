-- So many references are listed with their marks.
use Rattle.std.proofs.Common.{◌≡◌, take}
use Rattle.js_machine.specs.Looks.{marks_in}
use Rattle.js_crossing.specs.Newest.{with_their_marks}
use Rattle.js_crossing.proofs.newest.list_marks.Given as goal

abbrev pub invariant-loop-reference : goal.invariant-loop-reference
invariant-loop-reference g l = l.listed ≡ with_their_marks (marks_in l.machine) (take l.reference-index l.references)
