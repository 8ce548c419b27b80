-- What `lava big N` answers: its application stands in memory, runs, has its summary on the output, and how it ended is told.
use Rattle.std.specs.Prelude.{◌≡◌, ◌⊎◌, ℕ, List, Option, Some, None}
use Rattle.lava_big.specs.BigFiles.{big_files, held_stand}
use Rattle.lava_big.specs.Summaries.{summary_line}
use Rattle.lava_big.specs.declared.texts.TheConstants.{BIG_DIRECTORY}
use Rattle.lava_host.specs.Hosts.{HostWorld}
use Rattle.lava_host.specs.declared.fault.Which.{Which}
use Rattle.lava_host.specs.declared.fault.Which.TheVariants as which
use Rattle.lava_lines.specs.Puts as puts
use Rattle.lava_runner.specs.Endings.{ending_status}
use Rattle.lava_runner.specs.lava_report.Tells.{RunReports, TellsOutside, TellsRun}
use Rattle.lava_runner.specs.lava_report.declared.outcome.Ended.{Ended}
use Rattle.lava_runner.specs.lava_report.declared.outcome.RunOutcome.{RunOutcome}
use Rattle.lava_runner.specs.lava_report.declared.outcome.RunOutcome.TheVariants as outcome
use Rattle.lava_runner.specs.lava_report.declared.report.Mode.TheVariants as mode
use Rattle.lava_streams.specs.Outside.{Stand, Fails, Grows}
use Rattle.lava_cli.specs.declared.big_command.SummaryPut.{SummaryPut}
use Rattle.lava_cli.specs.declared.big_command.SummaryPut.TheVariants as put
use Rattle.lava_cli.specs.RunAnswers.{MemoryLacks, RunComes}

-- THE OUTSIDE OF THE RUN

-- the outside of a call with the files of the application of so many packages in place of its folder
abbrev pub in_memory : (count : ℕ) → HostWorld → HostWorld
in_memory count w = record w { folder = held_stand (big_files count) }

-- WHAT IS TOLD

-- what comes of putting a summary to the output, and what it leaves of that
abbrev pub PutsSummary : (line : List ℕ) → (before after : Stand (List ℕ)) → SummaryPut → Type 0
PutsSummary line before after put.Done = Grows before after line
PutsSummary line before after put.Failed = Fails before after line
PutsSummary line before after put.OutOfMemory = after ≡ before

-- how a run ended is told where its summary was put, and else why it was not
abbrev pub ReportsOver : SummaryPut → Ended → (before after : Stand (List ℕ)) → (status : ℕ) → Type 0
ReportsOver put.Done e before after status = TellsRun e before after status
ReportsOver put.Failed e before after status = TellsOutside which.Output before after status
ReportsOver put.OutOfMemory e before after status = puts.Lacks before after status

-- a run whose summary is put to the output, and then how it ended is told
pub record TellsSummed (count : ℕ) (e : Ended) (output new_output errors new_errors : Stand (List ℕ)) (status : ℕ) : Type 0 where
  pub put : SummaryPut
  pub sums : PutsSummary (summary_line count e.report.crossings (ending_status e.report.ending)) output new_output put
  pub told : ReportsOver put e errors new_errors status

-- a run in which a call of the outside failed has no summary
abbrev pub ReportsRan : (count : ℕ) → Option Which → Ended → (output new_output errors new_errors : Stand (List ℕ)) → (status : ℕ) → Type 0
ReportsRan count (Some w) e output new_output errors new_errors status = (new_output ≡ output) × TellsRun e errors new_errors status
ReportsRan count None e output new_output errors new_errors status = TellsSummed count e output new_output errors new_errors status

-- what is no run has no summary
abbrev pub ReportsAlone : RunOutcome → (output new_output errors new_errors : Stand (List ℕ)) → (status : ℕ) → Type 0
ReportsAlone o output new_output errors new_errors status = (new_output ≡ output) × RunReports o errors new_errors status

-- what is put to the output behind the run, and what is told of it
abbrev pub BigReports : (count : ℕ) → RunOutcome → (output new_output errors new_errors : Stand (List ℕ)) → (status : ℕ) → Type 0
BigReports count (outcome.Ran e) o p b a status = ReportsRan count e.report.which e o p b a status
BigReports count (outcome.Graph f) o p b a status = ReportsAlone (outcome.Graph f) o p b a status
BigReports count (outcome.Policies f) o p b a status = ReportsAlone (outcome.Policies f) o p b a status
BigReports count (outcome.Load f) o p b a status = ReportsAlone (outcome.Load f) o p b a status
BigReports count (outcome.Prelude place what) o p b a status = ReportsAlone (outcome.Prelude place what) o p b a status
BigReports count outcome.OutOfMemory o p b a status = ReportsAlone outcome.OutOfMemory o p b a status

-- THE ANSWERS

-- `big N`: in memory some outcome of the run has its cause, and no call on that folder failed; then the summary of the run is on the output, and how it ended is told. The caller's folder stands as it was
-- own: the command `big`
pub record BigAnswers (count budget : ℕ) (before after : HostWorld) (status : ℕ) : Type 0 where
  pub outcome : RunOutcome
  pub mid : HostWorld
  pub comes : RunComes mode.Emit BIG_DIRECTORY.now budget (in_memory count before) mid outcome
  pub still : mid.folder.count ≡ 0
  pub told : BigReports count outcome mid.output after.output mid.errors after.errors status
  pub rest : after ≡ record mid { folder = before.folder; output = after.output; errors = after.errors }

-- or there was no memory for the application
abbrev pub BigAnswersTo : (count budget : ℕ) → (before after : HostWorld) → (status : ℕ) → Type 0
BigAnswersTo count budget before after status = BigAnswers count budget before after status ⊎ MemoryLacks before after status
