-- What `lava check DIR` answers: the cause of each answer, what the call leaves of the outside, and that what a folder holds decides.
use Rattle.std.specs.Prelude.{◌≡◌, ◌≢◌, ◌⊎◌, ℕ, List, [], ◌∷◌, Result, Some, Ok, Err}
use Rattle.std.specs.List.{flat_map}
use Rattle.lava_lines.specs.Lines.{two_words}
use Rattle.lava_lines.specs.declared.status.TheConstants as texts
use Rattle.lava_streams.specs.Files.{Files}
use Rattle.lava_streams.specs.Outside.{Stand, Outside, IsFaultless, Grows, Fails}
use Rattle.lava_report.specs.lava_loading.Laws.{IsHeld, IsSourceMeaning, Meaning}
use Rattle.lava_report.specs.lava_loading.Loads.{CountsLoading, IsLoading}
use Rattle.lava_report.specs.lava_loading.declared.loading.LoadedApplication.{LoadedApplication}
use Rattle.lava_report.specs.lava_loading.declared.loading.LoadingFault.{LoadingFault}
use Rattle.policy_gen.specs.Denials.{denied_in}
use Rattle.policy_gen.specs.declared.denial.Denied.{Denied}
use Rattle.lava_policy.specs.declared.check.TheConstants.{DENIED_START}
use Rattle.lava_policy.specs.declared.policy_outcome.PolicyOutcome.{PolicyOutcome}
use Rattle.lava_policy.specs.declared.policy_outcome.PolicyOutcome.TheVariants as outcome
use Rattle.lava_policy.specs.PolicyOutcomes.{AreCalm, FolderStops, MemoryStops, PolicyReports, TellsOneCause}

-- WHAT IS PRINTED

-- the line of a request that is denied
-- own: the lines of a check
abbrev pub denied_line : Denied → List ℕ
denied_line d = two_words DENIED_START.now d.package d.request

-- the lines of these
abbrev pub denied_text : List Denied → List ℕ
denied_text ds = flat_map denied_line ds

-- what comes of printing the lines of these, and what it leaves of the output: it is not touched where there is none
abbrev pub CheckPrints : List Denied → (before after : Stand (List ℕ)) → PolicyOutcome → Type 0
CheckPrints ds before after outcome.Finished = (ds ≡ []) × (after ≡ before)
CheckPrints ds before after outcome.Denied = (ds ≢ []) × Grows before after (denied_text ds)
CheckPrints ds before after (outcome.Refused f) = ⊥
CheckPrints ds before after outcome.OutputFailed = (ds ≢ []) × Fails before after (denied_text ds)
CheckPrints ds before after outcome.OutOfMemory = after ≡ before

-- THE CAUSES

-- an application was loaded, and then what the policy of its two files denies of it was printed so
pub record IsCheckedIn (directory : List ℕ) (before after : Outside) (o : PolicyOutcome) : Type 0 where
  pub app : LoadedApplication
  pub loaded : IsLoading before.folder.told directory (Ok app)
  pub faultless : IsFaultless before.folder after.folder
  pub prints : CheckPrints (denied_in app.app app.policy) before.output after.output o

-- nothing was loaded, and nothing was printed
pub record IsUncheckedFor (directory : List ℕ) (before after : Outside) (f : LoadingFault) : Type 0 where
  pub cause : IsLoading before.folder.told directory (Err f)
  pub counts : CountsLoading {T = LoadedApplication} before.folder.count after.folder.count (Err f)
  pub output : after.output ≡ before.output

-- the cause of each outcome, with what it leaves of the folder and of the output
abbrev pub CheckComes : (directory : List ℕ) → (before after : Outside) → PolicyOutcome → Type 0
CheckComes directory before after outcome.Finished = IsCheckedIn directory before after outcome.Finished
CheckComes directory before after outcome.Denied = IsCheckedIn directory before after outcome.Denied
CheckComes directory before after (outcome.Refused f) = IsUncheckedFor directory before after f
CheckComes directory before after outcome.OutputFailed = IsCheckedIn directory before after outcome.OutputFailed
CheckComes directory before after outcome.OutOfMemory = IsCheckedIn directory before after outcome.OutOfMemory

-- THE ANSWERS

-- some outcome has its cause, and is told on the errors
pub record CheckAnswers (directory : List ℕ) (before after : Outside) (status : ℕ) : Type 0 where
  pub outcome : PolicyOutcome
  pub comes : CheckComes directory before after outcome
  pub told : PolicyReports outcome before.errors after.errors status

-- what is denied of this application is printed, which is told: the status is 0 where nothing is denied, 8 where its lines are printed, 7 where the output failed, and 9 where there was no memory
pub record TellsChecking (app : LoadedApplication) (before after : Outside) (status : ℕ) : Type 0 where
  pub outcome : PolicyOutcome
  pub prints : CheckPrints (denied_in app.app app.policy) before.output after.output outcome
  pub told : PolicyReports outcome before.errors after.errors status

-- the application that a folder holds, or why there is none, has its answer
abbrev pub CheckHeld : Files → (directory : List ℕ) → Result LoadedApplication LoadingFault → (before after : Outside) → (status : ℕ) → Type 0
CheckHeld files directory (Err f) before after status = TellsOneCause (λ cause. IsHeld files directory (Err cause)) f before after status
CheckHeld files directory (Ok app) before after status = TellsChecking app before after status

-- What the folder holds decides: the answer is this one, and none beside it but a fault of the folder and want of memory.
abbrev pub CheckDecides : (directory : List ℕ) → (before after : Outside) → (status : ℕ) → Type 0
CheckDecides directory before after status =
    (meaning : Meaning) → IsSourceMeaning meaning
    → (files : Files) → before.folder.told ≡ Some files → (r : Result LoadedApplication LoadingFault) → IsHeld files directory r
    → CheckHeld files directory r before after status ⊎ FolderStops before after status ⊎ MemoryStops before after status

-- the lines of these are on the output, and the status is 8; where there is none, the output is as before, and the status is 0
abbrev pub HasListed : List Denied → (before after : Outside) → (status : ℕ) → Type 0
HasListed [] before after status = (after.output ≡ before.output) × (status ≡ texts.DONE_STATUS)
HasListed (d ∷ ds) before after status =
    Grows before.output after.output (denied_text (d ∷ ds)) × (status ≡ texts.DENIED_STATUS)

-- all lines are printed
pub record HasChecked (directory : List ℕ) (before after : Outside) (status : ℕ) : Type 0 where
  pub app : LoadedApplication
  pub loaded : IsLoading before.folder.told directory (Ok app)
  pub listed : HasListed (denied_in app.app app.policy) before after status
  pub errors : after.errors ≡ before.errors

-- Where the folder tells its files, no cause of a refusal stands and no count rose, what is denied is printed, or there was no memory.
abbrev pub CheckFinishes : (directory : List ℕ) → (before after : Outside) → (status : ℕ) → Type 0
CheckFinishes directory before after status =
    (files : Files) → before.folder.told ≡ Some files → ((f : LoadingFault) → ¬ IsHeld files directory (Err f)) → AreCalm before after
    → HasChecked directory before after status ⊎ MemoryStops before after status

-- where the status is 8, an application was loaded of whose requests some are denied, and their lines are on the output
abbrev pub CheckDenies : (directory : List ℕ) → (before after : Outside) → (status : ℕ) → Type 0
CheckDenies directory before after status = status ≡ texts.DENIED_STATUS → IsCheckedIn directory before after outcome.Denied
