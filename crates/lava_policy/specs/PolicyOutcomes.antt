-- How `lava policy DIR` and `lava check DIR` end: what is told of each outcome, and what may come whatever a folder holds.
use Rattle.std.specs.Prelude.{◌≡◌, ℕ, List}
use Rattle.lava_host.specs.declared.fault.Which.TheVariants as which
use Rattle.lava_lines.specs.Lines as lines
use Rattle.lava_lines.specs.Puts as puts
use Rattle.lava_lines.specs.declared.status.TheConstants as texts
use Rattle.lava_streams.specs.Outside.{Stand, Outside, HasFault, IsFaultless}
use Rattle.lava_report.specs.Tells.{TellsGraph, TellsLoad, TellsOutside, TellsPolicies}
use Rattle.lava_report.specs.declared.run_report.TheConstants as words
use Rattle.lava_report.specs.lava_loading.Laws.{plain_fault}
use Rattle.lava_report.specs.lava_loading.declared.loading.LoadingFault.{LoadingFault}
use Rattle.lava_report.specs.lava_loading.declared.loading.LoadingFault.TheVariants as loading
use Rattle.lava_policy.specs.declared.policy_outcome.PolicyOutcome.{PolicyOutcome}
use Rattle.lava_policy.specs.declared.policy_outcome.PolicyOutcome.TheVariants as outcome

-- WHAT IS TOLD

-- why nothing was loaded, as it is told of a run
abbrev pub TellsRefusal : LoadingFault → (before after : Stand (List ℕ)) → (status : ℕ) → Type 0
TellsRefusal (loading.Graph f) before after status = TellsGraph f before after status
TellsRefusal (loading.Policies f) before after status = TellsPolicies f before after status
TellsRefusal (loading.Load f) before after status = TellsLoad f before after status

-- what is told of each outcome, and the exit status: nothing where the command was finished, or printed its lines
abbrev pub PolicyReports : PolicyOutcome → (before after : Stand (List ℕ)) → (status : ℕ) → Type 0
PolicyReports outcome.Finished before after status = (status ≡ texts.DONE_STATUS) × (after ≡ before)
PolicyReports outcome.Denied before after status = (status ≡ texts.DENIED_STATUS) × (after ≡ before)
PolicyReports (outcome.Refused f) before after status = TellsRefusal f before after status
PolicyReports outcome.OutputFailed before after status = TellsOutside which.Output before after status
PolicyReports outcome.OutOfMemory before after status = puts.Lacks before after status

-- WHAT A FOLDER HOLDS DECIDES

-- nothing was loaded for this cause, which is told, and nothing was printed. Where a module is refused for a form that is left out, and others are left out at the same token, one of them is told
pub record TellsOneCause (holds : LoadingFault → Type 0) (f : LoadingFault) (before after : Outside) (status : ℕ) : Type 0 where
  pub cause : LoadingFault
  pub same : plain_fault cause ≡ plain_fault f
  pub held : holds cause
  pub told : TellsRefusal cause before.errors after.errors status
  pub faultless : IsFaultless before.folder after.folder
  pub output : after.output ≡ before.output

-- WHAT MAY COME ANYWHERE

-- a call on the folder failed, which is told, and nothing was printed
pub record FolderStops (before after : Outside) (status : ℕ) : Type 0 where
  pub fault : HasFault before.folder after.folder
  pub told : puts.PutsLine (lines.outside_line words.FOLDER.now) texts.OUTSIDE_STATUS before.errors after.errors status
  pub output : after.output ≡ before.output

-- there was no memory, which is told, and nothing was printed
pub record MemoryStops (before after : Outside) (status : ℕ) : Type 0 where
  pub told : puts.Lacks before.errors after.errors status
  pub output : after.output ≡ before.output

-- no count of faults rose
pub record AreCalm (before after : Outside) : Type 0 where
  pub folder : ¬ HasFault before.folder after.folder
  pub output : ¬ HasFault before.output after.output
  pub errors : ¬ HasFault before.errors after.errors
