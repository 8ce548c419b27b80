-- What the program answers to its words: the cause of each answer, and what the call leaves of the outside.
use Rattle.std.specs.Prelude.{◌≡◌, ◌⊎◌, ℕ, List, Option, Some, None}
use Rattle.lava_host.specs.Hosts.{HostWorld}
use Rattle.lava_policy.specs.CheckAnswers.{CheckAnswers, CheckDecides, CheckDenies, CheckFinishes}
use Rattle.lava_policy.specs.PolicyAnswers.{PolicyAnswers, PolicyDecides, PolicyFinishes}
use Rattle.lava_words.specs.Words.{Asked, Bigs, Checks, Policies, Runs, Trees, command_of}
use Rattle.lava_cli.specs.BigAnswers.{BigAnswersTo}
use Rattle.lava_cli.specs.RunAnswers.{MemoryLacks, RunAnswers, TreeAnswersIn, UsageAnswers, outside_in}

-- `policy DIR`: each answer has its cause, what the folder holds decides, and without a cause of a refusal the policy is printed
pub record PolicyAnswersIn (directory : List ℕ) (before after : HostWorld) (status : ℕ) : Type 0 where
  pub answers : PolicyAnswers directory (outside_in before) (outside_in after) status
  pub decides : PolicyDecides directory (outside_in before) (outside_in after) status
  pub finishes : PolicyFinishes directory (outside_in before) (outside_in after) status
  pub input : after.input ≡ before.input
  pub clock : after.clock ≡ before.clock

-- `check DIR`: the same, and the status 8 comes only with a line
pub record CheckAnswersIn (directory : List ℕ) (before after : HostWorld) (status : ℕ) : Type 0 where
  pub answers : CheckAnswers directory (outside_in before) (outside_in after) status
  pub decides : CheckDecides directory (outside_in before) (outside_in after) status
  pub finishes : CheckFinishes directory (outside_in before) (outside_in after) status
  pub denies : CheckDenies directory (outside_in before) (outside_in after) status
  pub input : after.input ≡ before.input
  pub clock : after.clock ≡ before.clock

abbrev pub AnswersTo : Option Asked → (before after : HostWorld) → (status : ℕ) → Type 0
AnswersTo None before after status = UsageAnswers before after status
AnswersTo (Some (Runs mode directory budget)) before after status = RunAnswers mode directory budget before after status
AnswersTo (Some (Trees file)) before after status = TreeAnswersIn file before after status
AnswersTo (Some (Policies directory)) before after status = PolicyAnswersIn directory before after status
AnswersTo (Some (Checks directory)) before after status = CheckAnswersIn directory before after status
AnswersTo (Some (Bigs count budget)) before after status = BigAnswersTo count budget before after status

-- the answer to words
abbrev pub CommandAnswers : (said : List (List ℕ)) → (before after : HostWorld) → (status : ℕ) → Type 0
CommandAnswers said before after status = AnswersTo (command_of said) before after status ⊎ MemoryLacks before after status
