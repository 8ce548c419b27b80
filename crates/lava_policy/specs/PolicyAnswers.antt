-- What `lava policy DIR` answers: the cause of each answer, what the call leaves of the outside, and that what a folder holds decides.
use Rattle.std.specs.Prelude.{◌≡◌, ◌⊎◌, ℕ, List, [], ◌∷◌, ◌++◌, Some, Ok, Err}
use Rattle.json.specs.Layout.{pretty}
use Rattle.json.specs.Lex.{tokens}
use Rattle.lava_lines.specs.declared.status.TheConstants as texts
use Rattle.lava_streams.specs.Files.{Files}
use Rattle.lava_streams.specs.Outside.{Stand, Outside, IsFaultless, Grows, Fails}
use Rattle.lava_report.specs.lava_loading.Laws.{AreHeld, IsSourceMeaning, Meaning}
use Rattle.lava_report.specs.lava_loading.Loads.{AreSources, CountsLoading, LoadedSources}
use Rattle.lava_report.specs.lava_loading.declared.loading.LoadingFault.{LoadingFault}
use Rattle.pkg_load.specs.Applications.{Application}
use Rattle.pkg_source.specs.declared.code.ModuleCode.{ModuleCode}
use Rattle.policy_gen.specs.Generated.{generated}
use Rattle.policy_row.specs.Reading.{IsJson}
use Rattle.policy_row.specs.Rows.{Rows}
use Rattle.policy_row.specs.Writing.{IsPolicy, policy_data}
use Rattle.policy_row.specs.declared.fault.PolicyFile.{PolicyFile}
use Rattle.lava_policy.specs.declared.policy_outcome.PolicyOutcome.{PolicyOutcome}
use Rattle.lava_policy.specs.declared.policy_outcome.PolicyOutcome.TheVariants as outcome
use Rattle.lava_policy.specs.PolicyOutcomes.{AreCalm, FolderStops, MemoryStops, PolicyReports, TellsOneCause}

-- WHAT IS PRINTED

-- the text of a policy and a line feed: the JSON of its value, a row for each package, laid out as `serde_json` lays JSON out; it is read as that policy, as either of the two files
pub record IsTextOf (rows : Rows) (text : List ℕ) : Type 0 where
  pub body : List ℕ
  pub is : text ≡ body ++ (10 ∷ [])
  pub layout : body ≡ pretty (tokens body)
  pub writes : IsJson body (policy_data rows)
  pub reads : (file : PolicyFile) → IsPolicy file body rows

-- the text that is printed of an application: that of the policy that its sources ask for
-- LavaMoat policy
abbrev pub IsPolicyText : Application ModuleCode → (text : List ℕ) → Type 0
IsPolicyText app text = IsTextOf (generated app) text

-- what comes of the printing, and what it leaves of the output
abbrev pub PolicyPrints : Application ModuleCode → (before after : Stand (List ℕ)) → PolicyOutcome → Type 0
PolicyPrints app before after outcome.Finished = (text : List ℕ) × IsPolicyText app text × Grows before after text
PolicyPrints app before after outcome.Denied = ⊥
PolicyPrints app before after (outcome.Refused f) = ⊥
PolicyPrints app before after outcome.OutputFailed = (text : List ℕ) × IsPolicyText app text × Fails before after text
PolicyPrints app before after outcome.OutOfMemory = after ≡ before

-- THE CAUSES

-- the sources of an application were loaded, without its policy files, and then its policy was printed so
pub record IsPrintedIn (directory : List ℕ) (before after : Outside) (o : PolicyOutcome) : Type 0 where
  pub app : Application ModuleCode
  pub loaded : AreSources before.folder.told directory (Ok app)
  pub faultless : IsFaultless before.folder after.folder
  pub prints : PolicyPrints app before.output after.output o

-- nothing was loaded, and nothing was printed
pub record IsUnprintedFor (directory : List ℕ) (before after : Outside) (f : LoadingFault) : Type 0 where
  pub cause : AreSources before.folder.told directory (Err f)
  pub counts : CountsLoading {T = Application ModuleCode} before.folder.count after.folder.count (Err f)
  pub output : after.output ≡ before.output

-- the cause of each outcome, with what it leaves of the folder and of the output
abbrev pub PolicyComes : (directory : List ℕ) → (before after : Outside) → PolicyOutcome → Type 0
PolicyComes directory before after outcome.Finished = IsPrintedIn directory before after outcome.Finished
PolicyComes directory before after outcome.Denied = ⊥
PolicyComes directory before after (outcome.Refused f) = IsUnprintedFor directory before after f
PolicyComes directory before after outcome.OutputFailed = IsPrintedIn directory before after outcome.OutputFailed
PolicyComes directory before after outcome.OutOfMemory = IsPrintedIn directory before after outcome.OutOfMemory

-- THE ANSWERS

-- some outcome has its cause, and is told on the errors
pub record PolicyAnswers (directory : List ℕ) (before after : Outside) (status : ℕ) : Type 0 where
  pub outcome : PolicyOutcome
  pub comes : PolicyComes directory before after outcome
  pub told : PolicyReports outcome before.errors after.errors status

-- the policy of this application is printed, which is told: the status is 0 where it is printed, 7 where the output failed, and 9 where there was no memory
pub record TellsPrinting (app : Application ModuleCode) (before after : Outside) (status : ℕ) : Type 0 where
  pub outcome : PolicyOutcome
  pub prints : PolicyPrints app before.output after.output outcome
  pub told : PolicyReports outcome before.errors after.errors status

-- what the sources in a folder are, or why there are none, has its answer
abbrev pub PolicyHeld : Files → (directory : List ℕ) → LoadedSources → (before after : Outside) → (status : ℕ) → Type 0
PolicyHeld files directory (Err f) before after status = TellsOneCause (λ cause. AreHeld files directory (Err cause)) f before after status
PolicyHeld files directory (Ok app) before after status = TellsPrinting app before after status

-- What the folder holds decides, whatever its policy files hold: the answer is this one, and none beside it but a fault of the folder and want of memory.
abbrev pub PolicyDecides : (directory : List ℕ) → (before after : Outside) → (status : ℕ) → Type 0
PolicyDecides directory before after status =
    (meaning : Meaning) → IsSourceMeaning meaning
    → (files : Files) → before.folder.told ≡ Some files → (r : LoadedSources) → AreHeld files directory r
    → PolicyHeld files directory r before after status ⊎ FolderStops before after status ⊎ MemoryStops before after status

-- the whole text is on the output, and the status is 0
pub record HasPrintedPolicy (directory : List ℕ) (before after : Outside) (status : ℕ) : Type 0 where
  pub app : Application ModuleCode
  pub loaded : AreSources before.folder.told directory (Ok app)
  pub text : List ℕ
  pub is : IsPolicyText app text
  pub put : Grows before.output after.output text
  pub done : status ≡ texts.DONE_STATUS
  pub errors : after.errors ≡ before.errors

-- Where the folder tells its files, no cause of a refusal stands and no count rose, the policy is printed, or there was no memory.
abbrev pub PolicyFinishes : (directory : List ℕ) → (before after : Outside) → (status : ℕ) → Type 0
PolicyFinishes directory before after status =
    (files : Files) → before.folder.told ≡ Some files → ((f : LoadingFault) → ¬ AreHeld files directory (Err f)) → AreCalm before after
    → HasPrintedPolicy directory before after status ⊎ MemoryStops before after status
