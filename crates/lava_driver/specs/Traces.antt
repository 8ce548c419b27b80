-- The text of a trace: the lines of a journal, with the first ones before them and the last ones behind them.
use Rattle.std.specs.Prelude.{◌≡◌, ℕ, zero, suc, ◌+◌, ◌<◌, ◌≤◌, ◌^◌, true, false, List, [], ◌∷◌, ◌++◌, ◌⊎◌, length, sum, Option, Some, None, IfSome, ⊤}
use Rattle.js_desc.specs.declared.ending.Ending as desc
use Rattle.js_desc.specs.declared.ending.Ending.TheVariants as told
use Rattle.js_world.specs.js_run.Completions as halt
use Rattle.js_world.specs.js_run.Heap.{World, begins, heap}
use Rattle.js_world.specs.js_run.Journal as journal
use Rattle.js_world.specs.js_run.Journal.{Application, Crossing}
use Rattle.js_world.specs.js_crossing.Newest.{newest_crossing}
use Rattle.js_world.specs.Crossings.{Rests}
use Rattle.js_world.specs.Worlds.{WorldView, ending_of}
use Rattle.js_world.specs.js_crossing.declared.ending.Ending.TheVariants as ending
use Rattle.js_world.specs.js_crossing.declared.ending.Turn.{Turn}
use Rattle.js_world.specs.js_crossing.declared.ending.Turn.TheVariants as turn
use Rattle.js_world.specs.js_crossing.declared.newest.TracedCrossing.{TracedCrossing}
use Rattle.lava_journal.specs.Lines.{HasSteps, crossing_line, end_text, start_text}
use Rattle.lava_journal.specs.Sheets.{TraceNames, no_names}
use Rattle.lava_ranges.specs.Kinds.{OfKind}
use Rattle.lava_ranges.specs.Ranges.{HavePaths, IsInRange}
use Rattle.lava_ranges.specs.Starts.{MayBeginTrace}
use Rattle.lava_trace.specs.Courses.{opened, opens}
use Rattle.lava_trace.specs.declared.answers.AnswerKind.{AnswerKind}
use Rattle.lava_host.specs.Hosts.{HostWorld}
use Rattle.lava_host.specs.declared.fault.Which.{Which}
use Rattle.lava_host.specs.declared.fault.Which.TheVariants as which
use Rattle.lava_streams.specs.Outside.{Fails, Grows, Stand}
use Rattle.lava_driver.specs.Ran.{AreAskedIn, BeginsSo, HasRun, StandsAt, made_at}
use Rattle.lava_driver.specs.Talks.{Agrees, AreTalks, Talk, newest_failed}
use Rattle.lava_driver.specs.declared.run.Ran.{Ran}
use Rattle.lava_driver.specs.declared.trace.TheConstants.{MAX_TEXT}
use Rattle.lava_driver.specs.declared.trace_run.Traced.{Traced}

-- THE TEXT

-- a trace that is being written: what is written of it, what that has named, how many crossings it has, and the kinds of the answers to the open asks, the latest last
pub record TraceText : Type 0 where
  pub text : List ℕ
  pub names : TraceNames
  pub count : ℕ
  pub asks : List AnswerKind

-- the first lines
abbrev pub trace_start : (parties : List (List ℕ)) → TraceText
trace_start parties = record { text = start_text parties; names = no_names; count = 0; asks = [] }

-- the trace with the line of one crossing more
-- own: the crossings of a trace are numbered from 1
abbrev pub with_crossing : TraceText → TracedCrossing → TraceText
with_crossing t x = record {
  text = t.text ++ (crossing_line t.names (t.count + 1) x.crossing x.marks).text;
  names = (crossing_line t.names (t.count + 1) x.crossing x.marks).names;
  count = t.count + 1;
  asks = opened t.asks (opens x.crossing.body);
}

abbrev pub with_newest : TraceText → Option TracedCrossing → TraceText
with_newest t None = t
with_newest t (Some x) = with_crossing t x

-- the lines of a journal, whose newest crossing stands first, behind the first lines
abbrev pub trace_of : (parties : List (List ℕ)) → Application → List Crossing → TraceText
trace_of parties app [] = trace_start parties
trace_of parties app (x ∷ older) = with_newest (trace_of parties app older) (newest_crossing app (x ∷ older))

-- how a run ended, as a trace tells it. No party has a meter yet
abbrev pub halt_told : ℕ → halt.Halt → Option desc.Ending
halt_told p halt.Number = Some (told.Number (record { 0 = p }))
halt_told p halt.Text = Some (told.Text (record { 0 = p }))
halt_told p halt.Depth = Some (told.Depth (record { 0 = p }))
halt_told p halt.Meter = None
halt_told p halt.Outside = Some told.Outside

abbrev pub ending_told : journal.Ending → Option desc.Ending
ending_told journal.Done = Some told.Done
ending_told journal.Uncaught = Some told.Uncaught
ending_told (journal.Budget p) = Some (told.Budget (record { 0 = p }))
ending_told (journal.Fault p h) = halt_told p h
ending_told (journal.Parties p) = Some (told.Parties (record { 0 = p }))

-- the steps of so many parties, from one on
abbrev pub steps_from : (first count : ℕ) → (ℕ → ℕ) → List ℕ
steps_from p zero steps = []
steps_from p (suc n) steps = steps p ∷ steps_from (suc p) n steps

-- the trace of a run that is over: the lines of its journal, the steps of each party, and how it ended
-- own: the trace of a run
abbrev pub trace_text : (parties : List (List ℕ)) → Application → World → desc.Ending → List ℕ
trace_text parties app w e = (trace_of parties app w.journal).text ++ end_text (steps_from 0 (length parties) w.steps) e

-- ON THE WAY

-- a line keeps to what can be read back, where these asks are open before it
-- own: what a line of a run keeps to
abbrev pub CanBeRead : List AnswerKind → TracedCrossing → Type 0
CanBeRead asks x = IsInRange x.crossing × HavePaths x.marks × OfKind asks x.crossing.body

-- so does the line of each crossing of a journal
abbrev pub AllCanBeRead : (parties : List (List ℕ)) → Application → List Crossing → Type 0
AllCanBeRead parties app [] = ⊤
AllCanBeRead parties app (x ∷ older) = IfSome (newest_crossing app (x ∷ older)) (CanBeRead (trace_of parties app older).asks) × AllCanBeRead parties app older

-- what is written is the trace of a journal so far, and each line of it keeps to what can be read back
pub record IsTraceOf (parties : List (List ℕ)) (app : Application) (journal : List Crossing) (t : TraceText) : Type 0 where
  pub is : t ≡ trace_of parties app journal
  pub ranges : AllCanBeRead parties app journal

-- the line of the newest crossing is written, where crossings are traced, and keeps to what can be read back
pub record HasWritten (v : WorldView) (old new : TraceText) : Type 0 where
  pub traces : v.tracing ≡ true
  pub newest : TracedCrossing
  pub is : v.newest ≡ Some newest
  pub written : new ≡ with_crossing old newest
  pub reads : CanBeRead old.asks newest

-- a turn that comes by a crossing has its line, and another one has none
abbrev pub HasNoted : WorldView → Turn → (old new : TraceText) → Type 0
HasNoted v (turn.Runs m) old new = HasWritten v old new
HasNoted v (turn.Over ending.Done) old new = HasWritten v old new
HasNoted v (turn.Over ending.Uncaught) old new = HasWritten v old new
HasNoted v (turn.Over (ending.Budget p)) old new = new ≡ old
HasNoted v (turn.Over (ending.Fault p h)) old new = new ≡ old
HasNoted v (turn.Asks p) old new = new ≡ old

-- after so much was asked and answered the machine stands there, and the trace is that of the journal so far, in each application that begins as the first world rests and whose outside answers so
pub record IsTracing (parties : List (List ℕ)) (first : WorldView) (talks : List Talk) (now : WorldView) (t : Turn) (trace : TraceText) : Type 0 where
  pub crossings : ℕ
  pub stands : (app : Application) → Rests app (begins app) first → Agrees app talks → StandsAt app first.budget crossings now t
  pub lines : (app : Application) → Rests app (begins app) first → Agrees app talks → IsTraceOf parties app (heap app first.budget (made_at t crossings)).journal trace
  pub budget : now.budget ≡ first.budget

-- the same, with what was done to the outside meanwhile, and the object of it that has failed last. Lines that are printed go nowhere
pub record HasTracedTo (parties : List (List ℕ)) (dir : List ℕ) (first : WorldView) (before : HostWorld) (now : WorldView) (t : Turn) (failed : Option Which) (trace : TraceText) (after : HostWorld) : Type 0 where
  pub talks : List Talk
  pub outside : AreTalks false dir talks before after
  pub asked : AreAskedIn (BeginsSo first) first.budget talks
  pub tracing : IsTracing parties first talks now t trace
  pub newest : failed ≡ newest_failed talks

-- a call of the outside that failed goes before the output
abbrev pub first_failed : Option Which → Option Which
first_failed None = Some which.Output
first_failed (Some w) = Some w

-- a text is put to a sink in one piece: which object of the outside has failed by then
abbrev pub PutsText : List ℕ → (failed which : Option Which) → (before after : Stand (List ℕ)) → Type 0
PutsText text failed which before after = ((which ≡ failed) × Grows before after text) ⊎ ((which ≡ first_failed failed) × Fails before after text)

-- the end of a trace can be read back: 64 bits hold the sum of all steps and the number of each crossing, the party that the ending names has steps, and the text has no place for more names than an id can number
pub record IsInBounds (text : List ℕ) (steps : List ℕ) (told : desc.Ending) (crossings : ℕ) : Type 0 where
  pub total : sum steps < 2 ^ 64
  pub party : HasSteps steps told
  pub counted : crossings < 2 ^ 64
  pub short : length text ≤ MAX_TEXT

-- the text of a run that is over keeps to what can be read back, from the names of its parties to its end
-- own: what the trace of a run keeps to
pub record IsReadable (parties : List (List ℕ)) (app : Application) (w : World) (told : desc.Ending) (text : List ℕ) : Type 0 where
  pub begins_so : MayBeginTrace parties
  pub ranges : AllCanBeRead parties app w.journal
  pub bounds : IsInBounds text (steps_from 0 (length parties) w.steps) told (length w.journal)

-- the last lines of a trace were written, and the whole was put to the output
pub record IsFinished (v : WorldView) (ran : Ran) (trace : TraceText) (before after : Stand (List ℕ)) (r : Traced) : Type 0 where
  pub ending : r.ending ≡ ran.ending
  pub told : desc.Ending
  pub tells : ending_told (ending_of ran.ending) ≡ Some told
  pub puts : PutsText (trace.text ++ end_text v.steps told) ran.failed r.failed before after
  pub crossings : r.crossings ≡ trace.count
  pub bounds : IsInBounds (trace.text ++ end_text v.steps told) v.steps told trace.count

-- the run is over, and its trace is put to the output: it is a run whose printed lines go nowhere, and in each application that begins as the first world rests and whose outside answers so the trace is that of the run's journal
pub record HasTraced (parties : List (List ℕ)) (dir : List ℕ) (first : WorldView) (before : HostWorld) (now : WorldView) (r : Traced) (after : HostWorld) : Type 0 where
  pub ran : Ran
  pub mid : HostWorld
  pub runs : HasRun false dir first before now ran mid
  pub ending : r.ending ≡ ran.ending
  pub told : desc.Ending
  pub tells : ending_told (ending_of ran.ending) ≡ Some told
  pub text : List ℕ
  pub puts : PutsText text ran.failed r.failed mid.output after.output
  pub rest : after ≡ record mid { output = after.output }
  pub is : (app : Application) → Rests app (begins app) first → Agrees app runs.come.talks
      → text ≡ trace_text parties app (heap app first.budget (suc runs.come.underway.crossings)) told
  pub count : (app : Application) → Rests app (begins app) first → Agrees app runs.come.talks
      → r.crossings ≡ length (heap app first.budget (suc runs.come.underway.crossings)).journal
  -- it keeps to what can be read back
  pub reads : (app : Application) → Rests app (begins app) first → Agrees app runs.come.talks
      → IsReadable parties app (heap app first.budget (suc runs.come.underway.crossings)) told text
