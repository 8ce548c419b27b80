-- The lines of a journal: what its trace says of it, crossing by crossing.
use Rattle.std.specs.Prelude.{List, [], ◌∷◌, ◌++◌, Option, Some, None}
use Rattle.js_crossing.specs.js_run.Journal.{Application, Crossing}
use Rattle.js_crossing.specs.Newest.{newest_crossing}
use Rattle.js_crossing.specs.declared.newest.TracedCrossing.{TracedCrossing}
use Rattle.lava_trace.specs.declared.line.TraceLine.{TraceLine}

-- the line of a crossing, with the marks of what it names
abbrev pub line_of_traced : TracedCrossing → TraceLine
line_of_traced x = record { crossing = x.crossing; marks = x.marks }

abbrev pub with_newest_line : List TraceLine → Option TracedCrossing → List TraceLine
with_newest_line ls None = ls
with_newest_line ls (Some x) = ls ++ line_of_traced x ∷ []

-- the lines of a journal, whose newest crossing stands first: the line of the oldest one comes first
-- own: the lines of a journal
abbrev pub journal_lines : Application → List Crossing → List TraceLine
journal_lines app [] = []
journal_lines app (x ∷ older) = with_newest_line (journal_lines app older) (newest_crossing app (x ∷ older))
