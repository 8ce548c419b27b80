-- Where nothing that a folder holds is a cause of a refusal, and no count of faults rose, a run is answered by its ending, a report by its text, or there was no memory.
use Rattle.std.specs.Prelude.{◌≡◌, ◌⊎◌, ℕ, List, Option, Some, None, Ok, Err}
use Rattle.lava_base.specs.declared.place.Place.{Place}
use Rattle.js_fault.specs.declared.fault.SyntaxWhat.{SyntaxWhat}
use Rattle.lava_big.specs.BigFiles.{big_files}
use Rattle.lava_big.specs.Summaries.{summary_line}
use Rattle.lava_big.specs.declared.texts.TheConstants.{BIG_DIRECTORY}
use Rattle.lava_host.specs.Hosts.{HostWorld}
use Rattle.lava_lines.specs.Puts as puts
use Rattle.lava_policy.specs.CheckAnswers.{CheckFinishes}
use Rattle.lava_policy.specs.PolicyAnswers.{PolicyFinishes}
use Rattle.lava_streams.specs.Files.{Files}
use Rattle.lava_streams.specs.Outside.{Stand, Grows}
use Rattle.lava_words.specs.Words.{Asked, Bigs, Checks, Policies, Runs, Trees, command_of}
use Rattle.lava_runner.specs.Counts.{AreFaultless}
use Rattle.lava_runner.specs.Endings.{ending_status}
use Rattle.lava_runner.specs.Isolated.{Isolates}
use Rattle.lava_runner.specs.Reports.{IsRunOf}
use Rattle.lava_runner.specs.lava_report.Tells.{TellsEnding, ended_in}
use Rattle.lava_runner.specs.lava_report.declared.report.Mode.{Mode}
use Rattle.lava_runner.specs.lava_report.declared.report.Mode.TheVariants as mode
use Rattle.lava_runner.specs.lava_report.declared.report.Report.{Report}
use Rattle.lava_runner.specs.lava_loading.Laws.{IsHeld}
use Rattle.lava_runner.specs.lava_loading.Loads.{IsLoading}
use Rattle.lava_runner.specs.lava_loading.declared.loading.LoadedApplication.{LoadedApplication}
use Rattle.lava_runner.specs.lava_loading.declared.loading.LoadingFault.{LoadingFault}
use Rattle.lava_runner.specs.ses_prelude.Preludes.{IsPreludeFault, prelude}
use Rattle.lava_cli.specs.BigAnswers.{in_memory}
use Rattle.lava_cli.specs.RunAnswers.{HasReadFolder, outside_in}

-- nothing that the folder holds is a cause of a refusal, and the prelude is none
pub record HasNoCause (files : Files) (directory : List ℕ) : Type 0 where
  pub content : (f : LoadingFault) → ¬ IsHeld files directory (Err f)
  pub common : (place : Place) (what : SyntaxWhat) → ¬ IsPreludeFault prelude place what

-- the application was loaded and ran to its end, which is told, and the status is that of this ending
pub record HasFinished (mode : Mode) (directory : List ℕ) (budget : ℕ) (before after : HostWorld) (status : ℕ) : Type 0 where
  pub app : LoadedApplication
  pub loaded : IsLoading before.folder.told directory (Ok app)
  pub mid : HostWorld
  pub read : HasReadFolder before mid (Ok app)
  pub end : HostWorld
  pub report : Report
  pub ran : IsRunOf mode directory app.app app.policy budget mid end report
  pub isolated : Isolates mode directory app.app app.policy budget mid end report ran
  pub ends : status ≡ ending_status report.ending
  pub told : TellsEnding (ended_in app.app.packages report.ending) report.ending report.uncaught end.errors after.errors status
  pub rest : after ≡ record end { errors = after.errors }

-- there was no memory, which is told, whatever was done before
abbrev pub IsLack : (after : HostWorld) → (status : ℕ) → Type 0
IsLack after status = (errors : Stand (List ℕ)) × puts.Lacks errors after.errors status

-- Where the folder tells its files, no cause stands and no count rose, the run is over, and the answer is that of its ending, or there was no memory.
-- own: a run without a cause of a refusal comes to its end
abbrev pub Finishes : (mode : Mode) → (directory : List ℕ) → (budget : ℕ) → (before after : HostWorld) → (status : ℕ) → Type 0
Finishes mode directory budget before after status =
    (files : Files) → before.folder.told ≡ Some files → HasNoCause files directory → AreFaultless before after
    → HasFinished mode directory budget before after status ⊎ IsLack after status

-- the application of so many packages was loaded and ran to its end, its summary is on the output behind what it printed, its ending is told, and the status is that of this ending
pub record HasFinishedBig (count budget : ℕ) (before after : HostWorld) (status : ℕ) : Type 0 where
  pub app : LoadedApplication
  pub loaded : IsLoading (Some (big_files count)) BIG_DIRECTORY.now (Ok app)
  pub mid : HostWorld
  pub read : HasReadFolder (in_memory count before) mid (Ok app)
  pub end : HostWorld
  pub report : Report
  pub ran : IsRunOf mode.Emit BIG_DIRECTORY.now app.app app.policy budget mid end report
  pub isolated : Isolates mode.Emit BIG_DIRECTORY.now app.app app.policy budget mid end report ran
  pub ends : status ≡ ending_status report.ending
  pub summed : Grows end.output after.output (summary_line count report.crossings (ending_status report.ending))
  pub told : TellsEnding (ended_in app.app.packages report.ending) report.ending report.uncaught end.errors after.errors status
  pub rest : after ≡ record end { folder = before.folder; output = after.output; errors = after.errors }

-- Where nothing in the files of the application of so many packages is a cause, and no count rose, the run is over, and the answer is that of its ending, or there was no memory.
abbrev pub BigFinishes : (count budget : ℕ) → (before after : HostWorld) → (status : ℕ) → Type 0
BigFinishes count budget before after status =
    HasNoCause (big_files count) BIG_DIRECTORY.now → AreFaultless before after
    → HasFinishedBig count budget before after status ⊎ IsLack after status

-- of `tree` the answers say so themselves (`ends`)
abbrev pub FinishesOf : Option Asked → (before after : HostWorld) → (status : ℕ) → Type 0
FinishesOf None before after status = Unit {0}
FinishesOf (Some (Runs mode directory budget)) before after status = Finishes mode directory budget before after status
FinishesOf (Some (Trees file)) before after status = Unit {0}
FinishesOf (Some (Policies directory)) before after status = PolicyFinishes directory (outside_in before) (outside_in after) status
FinishesOf (Some (Checks directory)) before after status = CheckFinishes directory (outside_in before) (outside_in after) status
FinishesOf (Some (Bigs count budget)) before after status = BigFinishes count budget before after status

-- the same of words
abbrev pub CommandFinishes : (said : List (List ℕ)) → (before after : HostWorld) → (status : ℕ) → Type 0
CommandFinishes said before after status = FinishesOf (command_of said) before after status
