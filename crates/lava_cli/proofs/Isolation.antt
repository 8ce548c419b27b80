-- Isolation holds of each run that a command makes.
use Rattle.std.proofs.Common.{◌⊎◌, ℕ, List, Option, Some, None, inl, inr}
use Rattle.lava_big.specs.declared.texts.TheConstants.{BIG_DIRECTORY}
use Rattle.lava_host.specs.Hosts.{HostWorld}
use Rattle.lava_words.specs.Words.{Asked, Bigs, Checks, Policies, Runs, Trees}
use Rattle.lava_runner.specs.Isolated.{Each_run_isolates}
use Rattle.lava_runner.specs.lava_report.declared.outcome.RunOutcome.{RunOutcome}
use Rattle.lava_runner.specs.lava_report.declared.outcome.RunOutcome.TheVariants as outcome
use Rattle.lava_runner.specs.lava_report.declared.report.Mode.{Mode}
use Rattle.lava_runner.specs.lava_report.declared.report.Mode.TheVariants as modes
use Rattle.lava_cli.specs.Answers.{AnswersTo}
use Rattle.lava_cli.specs.BigAnswers.{in_memory}
use Rattle.lava_cli.specs.Isolates.{IsolatesIn, IsolatesOf}
use Rattle.lava_cli.specs.RunAnswers.{MemoryLacks, RunComes}

isolated_in : Each_run_isolates → (mode : Mode) (directory : List ℕ) (budget : ℕ) (before after : HostWorld) (o : RunOutcome) (h : RunComes mode directory budget before after o) → IsolatesIn mode directory budget before after o h
isolated_in law mode directory budget before after (outcome.Ran e) h = law mode directory h.app.app h.app.policy budget h.mid after e.report h.ran.0
isolated_in law mode directory budget before after (outcome.Prelude place what) h = tt
isolated_in law mode directory budget before after outcome.OutOfMemory h = tt
isolated_in law mode directory budget before after (outcome.Graph f) h = tt
isolated_in law mode directory budget before after (outcome.Policies f) h = tt
isolated_in law mode directory budget before after (outcome.Load f) h = tt

pub isolates : Each_run_isolates → (asked : Option Asked) (before after : HostWorld) (status : ℕ) → AnswersTo asked before after status ⊎ MemoryLacks before after status → IsolatesOf asked before after status
isolates law None before after status a = tt
isolates law (Some (Trees file)) before after status a = tt
isolates law (Some (Runs mode directory budget)) before after status (inl a) = inl (record { answer = a; isolated = isolated_in law mode directory budget before a.mid a.outcome a.comes })
isolates law (Some (Runs mode directory budget)) before after status (inr l) = inr l
isolates law (Some (Policies directory)) before after status a = tt
isolates law (Some (Checks directory)) before after status a = tt
isolates law (Some (Bigs count budget)) before after status (inl (inl a)) =
    inl (record { answer = a; isolated = isolated_in law modes.Emit BIG_DIRECTORY.now budget (in_memory count before) a.mid a.outcome a.comes })
isolates law (Some (Bigs count budget)) before after status (inl (inr l)) = inr l
isolates law (Some (Bigs count budget)) before after status (inr l) = inr l
