-- The text of a run, written line by line, is that of its journal's lines.
use Rattle.std.proofs.Common.{ℕ, List, [], ◌∷◌, length, refl, sym, append-nil}
use Rattle.lava_course.specs.Lines.{journal_lines, line_of_traced}
use Rattle.lava_driver.specs.Traces.{TraceText, steps_from, trace_of}
use Rattle.lava_driver.specs.js_crossing.Newest.{crossing_of, marks_at_crossing, references_in, with_their_marks}
use Rattle.lava_driver.specs.js_crossing.declared.newest.TracedCrossing.{TracedCrossing}
use Rattle.lava_driver.specs.js_run.Identities.{message_identities}
use Rattle.lava_driver.specs.js_run.Journal.{Application, Crossing}
use Rattle.lava_journal.specs.Lines.{start_text}
use Rattle.lava_run_told.specs.Laws.{Run_has_the_text}
use Rattle.lava_told.specs.Laws.{End_goes_last, IsSoFar, One_line_more}

-- the newest crossing, with the marks of what it names
abbrev pub newest : Application → Crossing → List Crossing → TracedCrossing
newest app x older = record { crossing = crossing_of x; marks = with_their_marks (marks_at_crossing app x (x ∷ older)) (references_in (message_identities x.sent.body)) }

so_far : One_line_more → (parties : List (List ℕ)) (app : Application) (js : List Crossing)
    → IsSoFar parties (journal_lines app js) (trace_of parties app js).text (trace_of parties app js).names (trace_of parties app js).count
so_far more parties app [] = record { text_is = sym (append-nil (start_text parties)); names_is = refl; count_is = refl }
so_far more parties app (x ∷ older) =
    let t : TraceText = trace_of parties app older in
    more parties (journal_lines app older) t.text t.names t.count (line_of_traced (newest app x older)) (so_far more parties app older)

pub run_has_the_text : One_line_more → End_goes_last → Run_has_the_text
run_has_the_text more last parties app w e =
    let t : TraceText = trace_of parties app w.journal in
    last parties (journal_lines app w.journal) t.text t.names t.count (steps_from 0 (length parties) w.steps) e (so_far more parties app w.journal)
