-- The run of an application, and the report on it.
use Rattle.std.specs.Prelude.{◌≡◌, ℕ, Bool, true, false, List, length, Option, Some, None}
use Rattle.js_desc.specs.declared.ending.Ending as desc
use Rattle.js_host_laws.specs.Calls.{Calls_are_crossings}
use Rattle.lava_driver.specs.js_run.Heap.{Over_with, heap}
use Rattle.lava_driver.specs.js_run.Journal.{Application}
use Rattle.lava_driver.specs.js_run.Net.{net}
use Rattle.lava_driver.specs.js_world.Worlds.{Reads, WorldView, ending_of}
use Rattle.lava_driver.specs.js_crossing.declared.ending.Ending.{Ending}
use Rattle.lava_driver.specs.js_crossing.declared.ending.Ending.TheVariants as ending
use Rattle.lava_host.specs.Hosts.{HostWorld}
use Rattle.lava_packages.specs.lava_start.Applications.{RunParts, Surroundings, run_application}
use Rattle.pkg_graph.specs.declared.graph.Package.{Package}
use Rattle.pkg_load.specs.Applications as loads
use Rattle.pkg_load.specs.declared.module.LoadedModule.{LoadedModule}
use Rattle.lava_packages.specs.pkg_source.declared.code.ModuleCode.{ModuleCode}
use Rattle.policy_row.specs.Rows.{Rows}
use Rattle.lava_packages.specs.Commons.{IsCommonPart}
use Rattle.lava_packages.specs.Packages.{IsFirstOf, party_names, run_parts}
use Rattle.lava_driver.specs.Ran.{AreAskedIn, HasRun}
use Rattle.lava_driver.specs.Talks.{Agrees, AreTalks, Talk, newest_failed}
use Rattle.lava_runner.specs.Called.{AreCalledIn}
use Rattle.lava_packages.specs.Uncaught.{IsUncaughtIn, uncaught_of}
use Rattle.lava_driver.specs.Traces.{HasTraced, IsReadable, PutsText, ending_told, steps_from, trace_text}
use Rattle.lava_report.specs.declared.report.Mode.{Mode}
use Rattle.lava_report.specs.declared.report.Mode.TheVariants as mode
use Rattle.lava_report.specs.declared.report.Report.{Report}
use Rattle.lava_packages.specs.declared.common.CommonPart.{CommonPart}
use Rattle.lava_driver.specs.declared.run.Ran.{Ran}
use Rattle.lava_driver.specs.declared.trace_run.Traced.{Traced}

-- an application of the host and the packages, whatever its outside answers and however it reads texts as programs
pub record IsApplicationOf (parts : RunParts) (app : Application) : Type 0 where
  pub surroundings : Surroundings
  pub is : app ≡ run_application parts surroundings
  pub reads : Reads app

-- what is told of what nothing caught: the thrown value where there is one, and else nothing
abbrev pub uncaught_text : Ending → Option (List ℕ) → Option (List ℕ)
uncaught_text ending.Uncaught text = text
uncaught_text ending.Done text = None
uncaught_text (ending.Budget p) text = None
uncaught_text (ending.Fault p h) text = None

abbrev pub IsUncaughtText : WorldView → Ending → Option (List ℕ) → Type 0
IsUncaughtText v ending.Uncaught text = IsUncaughtIn v text
IsUncaughtText v ending.Done text = text ≡ None
IsUncaughtText v (ending.Budget p) text = text ≡ None
IsUncaughtText v (ending.Fault p h) text = text ≡ None

-- the report on a run of these parties that left the machine so
pub record IsReportOf (v : WorldView) (parties : List (List ℕ)) (ran : Ran) (r : Report) : Type 0 where
  pub ending : r.ending ≡ ran.ending
  pub which : r.which ≡ ran.failed
  pub uncaught : IsUncaughtText v ran.ending r.uncaught
  pub names : r.names ≡ parties
  pub steps : r.steps ≡ v.steps
  pub many : length v.steps ≡ length parties
  pub crossings : r.crossings ≡ ran.crossings

pub record HasReport (emit : Bool) (dir : List ℕ) (names : List (List ℕ)) (first : WorldView) (before after : HostWorld) (r : Report) : Type 0 where
  pub last : WorldView
  pub ran : Ran
  pub runs : HasRun emit dir first before last ran after
  pub report : IsReportOf last names ran r

-- the run of these packages from a first world of theirs
pub record HasRunFrom (emit : Bool) (dir : List ℕ) (packages : List Package) (ms : List (LoadedModule ModuleCode)) (policy : Rows) (c : CommonPart) (budget : ℕ) (before after : HostWorld) (r : Report) : Type 0 where
  pub first : WorldView
  pub is : IsFirstOf packages ms policy c budget first
  pub report : HasReport emit dir (party_names packages) first before after r

-- so many crossings after its first import the run of an application is over: so the machine of all parties says, and the network. The report has the steps of each party, and how many crossings the journal has. The host's calls of the outside are the Calls at its functions in the journal, each answered there by what the outside told
pub record EndsSo (app : Application) (budget crossings : ℕ) (r : Report) : Type 0 where
  pub machine : (heap app budget crossings).control ≡ Over_with (ending_of r.ending)
  pub network : (net app budget crossings).ending ≡ Some (ending_of r.ending)
  pub uncaught : r.uncaught ≡ uncaught_text r.ending (uncaught_of app (heap app budget crossings))
  pub steps : r.steps ≡ steps_from 0 (length r.names) (heap app budget crossings).steps
  pub count : r.crossings ≡ length (heap app budget crossings).journal
  pub crossed : Calls_are_crossings app (heap app budget crossings) (ending_of r.ending)

-- the run of an application, whose packages have what its merged policy grants them: what it asks of the host, each in its turn, is what was done to the outside, and what its journal says (`Called`), and in each application whose outside answers so it ends with this report
pub record IsEmittedRun (dir : List ℕ) (app : loads.Application ModuleCode) (policy : Rows) (budget : ℕ) (before after : HostWorld) (r : Report) : Type 0 where
  pub common : CommonPart
  pub part : IsCommonPart common
  pub talks : List Talk
  pub outside : AreTalks true dir talks before after
  pub which : r.which ≡ newest_failed talks
  pub names : r.names ≡ party_names app.packages
  pub asked : AreAskedIn (IsApplicationOf (run_parts common app.packages app.modules policy)) budget talks
  pub called : AreCalledIn (IsApplicationOf (run_parts common app.packages app.modules policy)) budget talks
  pub crossings : ℕ
  pub ends : (a : Application) → IsApplicationOf (run_parts common app.packages app.modules policy) a → Agrees a talks → EndsSo a budget crossings r

-- THE SAME WITH A TRACE

abbrev pub traced_as : Traced → Ran
traced_as t = record { ending = t.ending; failed = t.failed; crossings = t.crossings }

pub record HasTraceReport (parties : List (List ℕ)) (dir : List ℕ) (first : WorldView) (before after : HostWorld) (r : Report) : Type 0 where
  pub last : WorldView
  pub traced : Traced
  pub runs : HasTraced parties dir first before last traced after
  pub report : IsReportOf last parties (traced_as traced) r

pub record HasTracedFrom (dir : List ℕ) (packages : List Package) (ms : List (LoadedModule ModuleCode)) (policy : Rows) (c : CommonPart) (budget : ℕ) (before after : HostWorld) (r : Report) : Type 0 where
  pub first : WorldView
  pub is : IsFirstOf packages ms policy c budget first
  pub report : HasTraceReport (party_names packages) dir first before after r

-- a run ends with this report, and this is its trace, which keeps to what can be read back
pub record TracesSo (parties : List (List ℕ)) (app : Application) (budget crossings : ℕ) (told : desc.Ending) (text : List ℕ) (r : Report) : Type 0 where
  pub ends : EndsSo app budget crossings r
  pub trace : text ≡ trace_text parties app (heap app budget crossings) told
  pub reads : IsReadable parties app (heap app budget crossings) told text

-- the run of an application whose trace is put to the output at its end: what it asks of the host was done to the outside, but that its printed lines went nowhere, and in each application whose outside answers so it ends with this report, and this is the trace of its journal
pub record IsTracedRun (dir : List ℕ) (app : loads.Application ModuleCode) (policy : Rows) (budget : ℕ) (before after : HostWorld) (r : Report) : Type 0 where
  pub common : CommonPart
  pub part : IsCommonPart common
  pub talks : List Talk
  pub mid : HostWorld
  pub outside : AreTalks false dir talks before mid
  pub asked : AreAskedIn (IsApplicationOf (run_parts common app.packages app.modules policy)) budget talks
  pub called : AreCalledIn (IsApplicationOf (run_parts common app.packages app.modules policy)) budget talks
  pub told : desc.Ending
  pub tells : ending_told (ending_of r.ending) ≡ Some told
  pub text : List ℕ
  pub puts : PutsText text (newest_failed talks) r.which mid.output after.output
  pub rest : after ≡ record mid { output = after.output }
  pub names : r.names ≡ party_names app.packages
  pub crossings : ℕ
  pub ends : (a : Application) → IsApplicationOf (run_parts common app.packages app.modules policy) a → Agrees a talks → TracesSo (party_names app.packages) a budget crossings told text r

-- a run in a mode
abbrev pub IsRunOf : Mode → (dir : List ℕ) → loads.Application ModuleCode → (policy : Rows) → (budget : ℕ) → (before after : HostWorld) → Report → Type 0
IsRunOf mode.Emit dir app policy budget before after r = IsEmittedRun dir app policy budget before after r
IsRunOf mode.Trace dir app policy budget before after r = IsTracedRun dir app policy budget before after r
