-- The trace of a run that is over: its parties, the lines of its journal, the steps of each party, and how it ended.
use Rattle.std.specs.Prelude.{ℕ, List, length}
use Rattle.js_desc.specs.declared.ending.Ending.{Ending}
use Rattle.lava_course.specs.Lines.{journal_lines}
use Rattle.lava_driver.specs.Traces.{steps_from}
use Rattle.lava_driver.specs.js_run.Heap.{World}
use Rattle.lava_driver.specs.js_run.Journal.{Application}
use Rattle.lava_trace.specs.declared.line.Trace.{Trace}

-- the trace of a run, with the run's own ids in it
-- own: the trace of a run
abbrev pub run_trace : (parties : List (List ℕ)) → Application → World → Ending → Trace
run_trace parties app w e = record {
  parties = parties;
  lines = journal_lines app w.journal;
  steps = steps_from 0 (length parties) w.steps;
  ending = e;
}
