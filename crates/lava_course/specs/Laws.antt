-- The laws of a journal's lines.
use Rattle.std.specs.Prelude.{ℕ, ◌+◌, ◌<◌, ◌≤◌, ◌^◌, [], length}
use Rattle.std.specs.List.{AllByRecursion}
use Rattle.js_crossing.specs.js_run.Heap.{heap}
use Rattle.js_crossing.specs.js_run.Journal.{Application}
use Rattle.js_crossing.specs.js_run.Laws.{IsWellMade}
use Rattle.lava_journal.specs.Sheets.{no_names}
use Rattle.lava_trace.specs.declared.left.TheConstants.{MAX_PARTY}
use Rattle.lava_told.specs.Told.{MayAllBeSaid}
use Rattle.lava_course.specs.Courses.{AllHaveMarks, AllMayCross, AllOfKind, IsConnected, MayBeWritten}
use Rattle.lava_course.specs.Lines.{journal_lines}

-- each crossing goes from one party that is there to another one, and a Make to the next
-- own: crossings in a trace
abbrev pub Journal_goes_between : Type 0
Journal_goes_between =
    (app : Application) → IsWellMade app → IsConnected app → (budget crossings : ℕ)
    → AllByRecursion MayBeWritten (journal_lines app (heap app budget crossings).journal)
    → AllMayCross app.count (journal_lines app (heap app budget crossings).journal)

-- what stands in a line for the first time has marks there
-- own: marks in a trace
abbrev pub Journal_is_marked : Type 0
Journal_is_marked = (app : Application) (budget crossings : ℕ) → AllHaveMarks no_names 1 (journal_lines app (heap app budget crossings).journal)

-- so the lines of a journal may be told, where they can be written, their answers are of the kinds that were asked, and they are no more than 64 bits count
-- own: a run's journal may be told
abbrev pub Journal_may_be_told : Type 0
Journal_may_be_told =
    (app : Application) → IsWellMade app → IsConnected app → (budget crossings : ℕ)
    → AllOfKind [] (journal_lines app (heap app budget crossings).journal)
    → AllByRecursion MayBeWritten (journal_lines app (heap app budget crossings).journal)
    → app.count ≤ MAX_PARTY + 1
    → length (heap app budget crossings).journal < 2 ^ 64
    → MayAllBeSaid app.count [] no_names 1 (journal_lines app (heap app budget crossings).journal)
