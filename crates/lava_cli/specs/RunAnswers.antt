-- What `lava run DIR` and `lava trace DIR` answer: the cause of each answer, and what the call leaves of the outside; and what `lava tree FILE` answers.
use Rattle.std.specs.Prelude.{◌≡◌, ℕ, List, Result, Ok, Err}
use Rattle.lava_host.specs.Hosts.{HostWorld}
use Rattle.lava_lines.specs.Puts as puts
use Rattle.lava_lines.specs.declared.status.TheConstants as texts
use Rattle.lava_runner.specs.Reports.{IsRunOf}
use Rattle.lava_runner.specs.lava_report.declared.report.Mode.{Mode}
use Rattle.lava_streams.specs.Outside.{Outside, outside}
use Rattle.lava_tree.specs.TreeAnswers.{TreeAnswers, TreeEnds, TreeMisses, TreeRefuses}
use Rattle.lava_runner.specs.ses_prelude.Preludes.{IsPreludeFault, prelude}
use Rattle.lava_runner.specs.lava_loading.Loads.{CountsLoading, IsLoading}
use Rattle.lava_runner.specs.lava_report.Tells.{RunReports, ended_in}
use Rattle.lava_runner.specs.lava_loading.declared.loading.LoadedApplication.{LoadedApplication}
use Rattle.lava_runner.specs.lava_loading.declared.loading.LoadingFault.{LoadingFault}
use Rattle.lava_runner.specs.lava_loading.declared.loading.LoadingFault.TheVariants as loading
use Rattle.lava_runner.specs.lava_report.declared.outcome.RunOutcome.{RunOutcome}
use Rattle.lava_runner.specs.lava_report.declared.outcome.RunOutcome.TheVariants as outcome

-- THE CAUSES

-- the run of this application with its policy in a mode, or why there is none
abbrev pub RunsOf : (mode : Mode) → (directory : List ℕ) → LoadedApplication → (budget : ℕ) → (before after : HostWorld) → RunOutcome → Type 0
RunsOf mode directory l budget before after (outcome.Ran e) = IsRunOf mode directory l.app l.policy budget before after e.report × (e.name ≡ ended_in l.app.packages e.report.ending)
RunsOf mode directory l budget before after (outcome.Prelude place what) = IsPreludeFault prelude place what
RunsOf mode directory l budget before after outcome.OutOfMemory = Unit {0}
RunsOf mode directory l budget before after (outcome.Graph f) = ⊥
RunsOf mode directory l budget before after (outcome.Policies f) = ⊥
RunsOf mode directory l budget before after (outcome.Load f) = ⊥

-- the folder alone was read, and tells what it told
pub record HasReadFolder (before after : HostWorld) (r : Result LoadedApplication LoadingFault) : Type 0 where
  pub rest : after ≡ record before { folder = after.folder }
  pub told : after.folder.told ≡ before.folder.told
  pub counts : CountsLoading before.folder.count after.folder.count r

-- an application was loaded, and then it ran so
pub record HasRunIn (mode : Mode) (directory : List ℕ) (budget : ℕ) (before after : HostWorld) (o : RunOutcome) : Type 0 where
  pub app : LoadedApplication
  pub mid : HostWorld
  pub loaded : IsLoading before.folder.told directory (Ok app)
  pub read : HasReadFolder before mid (Ok app)
  pub ran : RunsOf mode directory app budget mid after o

-- nothing was loaded
pub record IsRefusedBy (directory : List ℕ) (before after : HostWorld) (f : LoadingFault) : Type 0 where
  pub cause : IsLoading before.folder.told directory (Err f)
  pub read : HasReadFolder before after (Err f)

-- the cause of each outcome, with what it leaves of the outside
abbrev pub RunComes : (mode : Mode) → (directory : List ℕ) → (budget : ℕ) → (before after : HostWorld) → RunOutcome → Type 0
RunComes mode directory budget before after (outcome.Ran r) = HasRunIn mode directory budget before after (outcome.Ran r)
RunComes mode directory budget before after (outcome.Prelude place what) = HasRunIn mode directory budget before after (outcome.Prelude place what)
RunComes mode directory budget before after outcome.OutOfMemory = HasRunIn mode directory budget before after outcome.OutOfMemory
RunComes mode directory budget before after (outcome.Graph f) = IsRefusedBy directory before after (loading.Graph f)
RunComes mode directory budget before after (outcome.Policies f) = IsRefusedBy directory before after (loading.Policies f)
RunComes mode directory budget before after (outcome.Load f) = IsRefusedBy directory before after (loading.Load f)

-- THE ANSWERS

-- `run DIR`, or in the other mode `trace DIR`: some outcome has its cause, and then it is told on the errors alone
pub record RunAnswers (mode : Mode) (directory : List ℕ) (budget : ℕ) (before after : HostWorld) (status : ℕ) : Type 0 where
  pub outcome : RunOutcome
  pub mid : HostWorld
  pub comes : RunComes mode directory budget before mid outcome
  pub told : RunReports outcome mid.errors after.errors status
  pub rest : after ≡ record mid { errors = after.errors }

-- there was no memory to begin, as to take the words apart: that is told, and nothing else is touched
pub record MemoryLacks (before after : HostWorld) (status : ℕ) : Type 0 where
  pub told : puts.Lacks before.errors after.errors status
  pub rest : after ≡ record before { errors = after.errors }

-- what a command changes of the outside, where it leaves input and clock
abbrev pub outside_in : HostWorld → Outside
outside_in w = outside w.folder w.output w.errors

-- `tree FILE`: each answer has its cause, and a file that is a program, or none, or isn't there, or is too long, has its answer
pub record TreeAnswersIn (file : List ℕ) (before after : HostWorld) (status : ℕ) : Type 0 where
  pub answers : TreeAnswers file (outside_in before) (outside_in after) status
  pub ends : TreeEnds file (outside_in before) (outside_in after) status
  pub refuses : TreeRefuses file (outside_in before) (outside_in after) status
  pub misses : TreeMisses file (outside_in before) (outside_in after) status
  pub input : after.input ≡ before.input
  pub clock : after.clock ≡ before.clock

-- a usage fault: its line is told, and nothing else is touched
pub record UsageAnswers (before after : HostWorld) (status : ℕ) : Type 0 where
  pub told : puts.Puts texts.USAGE_LINE.now texts.USAGE_STATUS before.errors after.errors status
  pub rest : after ≡ record before { errors = after.errors }
