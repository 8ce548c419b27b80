-- The laws of the trace that a run writes.
use Rattle.std.specs.Prelude.{◌≡◌, ℕ, suc, ◌+◌, ◌≤◌, List, [], length}
use Rattle.js_desc.specs.declared.ending.Ending.{Ending}
use Rattle.lava_course.specs.Courses.{IsConnected}
use Rattle.lava_course.specs.Lines.{journal_lines}
use Rattle.lava_driver.specs.Talks.{Agrees}
use Rattle.lava_driver.specs.Traces.{HasTraced, IsReadable, trace_text}
use Rattle.lava_driver.specs.declared.trace.TheConstants.{MAX_TEXT}
use Rattle.lava_driver.specs.declared.trace_run.Traced.{Traced}
use Rattle.lava_driver.specs.js_run.Heap.{World, begins, heap}
use Rattle.lava_driver.specs.js_run.Journal.{Application}
use Rattle.lava_driver.specs.js_run.Laws.{IsWellMade}
use Rattle.lava_driver.specs.js_world.Crossings.{Rests}
use Rattle.lava_driver.specs.js_world.Worlds.{WorldView}
use Rattle.lava_host.specs.Hosts.{HostWorld}
use Rattle.lava_journal.specs.Sheets.{count_of, no_names}
use Rattle.lava_run_told.specs.Runs.{run_trace}
use Rattle.lava_told.specs.Told.{MayAllBeSaid, names_after, told}
use Rattle.lava_trace.specs.Traces.{A_trace, reading_of}
use Rattle.lava_trace.specs.declared.left.TheConstants.{MAX_ID}
use Rattle.lava_trace.specs.declared.line.Trace.{Trace}
use Rattle.lava_trace_laws.specs.Written.{text_of}

-- what a run writes is the text of its journal's lines, between those of its parties and those of its steps and its ending
-- own: the text of a run
abbrev pub Run_has_the_text : Type 0
Run_has_the_text = (parties : List (List ℕ)) (app : Application) (w : World) (e : Ending) → trace_text parties app w e ≡ text_of (run_trace parties app w e)

-- a text that is not too long names no more than an id can number
abbrev pub Short_text_has_few_names : Type 0
Short_text_has_few_names = (t : Trace) (p : ℕ) → length (text_of t) ≤ MAX_TEXT → count_of (names_after no_names 1 t.lines) p ≤ MAX_ID + 1

-- where there are two parties, and the lines of a run may be told, the text that it writes is read as its parties, crossings, steps and ending
abbrev pub Text_is_read : Type 0
Text_is_read =
    (parties : List (List ℕ)) (app : Application) (w : World) (e : Ending) (text : List ℕ) → text ≡ trace_text parties app w e → IsReadable parties app w e text
    → 2 ≤ length parties → MayAllBeSaid (length parties) [] no_names 1 (journal_lines app w.journal)
    → reading_of text ≡ A_trace (told (run_trace parties app w e))

-- so the text that a run writes is read as its parties, crossings, steps and ending
-- own: a run's trace is read back
abbrev pub Run_is_read : Type 0
Run_is_read =
    (parties : List (List ℕ)) (app : Application) (budget crossings : ℕ) (e : Ending) (text : List ℕ)
    → text ≡ trace_text parties app (heap app budget crossings) e → IsReadable parties app (heap app budget crossings) e text
    → IsWellMade app → IsConnected app → app.count ≡ length parties
    → reading_of text ≡ A_trace (told (run_trace parties app (heap app budget crossings) e))

-- and so is the text of a run that is traced, in each application that begins as the first world rests and whose outside answers so
-- own: a traced run is read back
abbrev pub Traced_is_read : Type 0
Traced_is_read =
    (parties : List (List ℕ)) (dir : List ℕ) (first now : WorldView) (before after : HostWorld) (r : Traced) (h : HasTraced parties dir first before now r after)
    (app : Application) → Rests app (begins app) first → Agrees app h.runs.come.talks
    → IsWellMade app → IsConnected app → app.count ≡ length parties
    → reading_of h.text ≡ A_trace (told (run_trace parties app (heap app first.budget (suc h.runs.come.underway.crossings)) h.told))
