-- Where no cause stands and no count of faults rose, each command comes to its end, or there was no memory.
use Rattle.std.proofs.Common.{◌⊎◌, ℕ, Option, Some, None, inl, inr}
use Rattle.lava_host.specs.Hosts.{HostWorld}
use Rattle.lava_words.specs.Words.{Asked, Bigs, Checks, Policies, Runs, Trees}
use Rattle.lava_runner.specs.Isolated.{Each_run_isolates}
use Rattle.lava_cli.specs.Answers.{AnswersTo}
use Rattle.lava_cli.specs.Finishes.{FinishesOf}
use Rattle.lava_cli.specs.RunAnswers.{MemoryLacks}
use Rattle.lava_cli.proofs.BigFinished.{big_finished}
use Rattle.lava_cli.proofs.Decided.{memory_stops}
use Rattle.lava_cli.proofs.Finished.{answered}

pub finishes : Each_run_isolates → (asked : Option Asked) (before after : HostWorld) (status : ℕ) → AnswersTo asked before after status ⊎ MemoryLacks before after status → FinishesOf asked before after status
finishes law None before after status a = tt
finishes law (Some (Trees file)) before after status a = tt
finishes law (Some (Runs mode directory budget)) before after status (inl a) =
    λ files told none faultless. answered law mode directory budget before a.mid after status faultless a.rest files told none a.outcome a.comes a.told
finishes law (Some (Runs mode directory budget)) before after status (inr l) = λ files told none faultless. inr (before.errors, l.told)
finishes law (Some (Policies directory)) before after status (inl a) = a.finishes
finishes law (Some (Policies directory)) before after status (inr l) = λ files told none calm. inr (memory_stops before after status l)
finishes law (Some (Checks directory)) before after status (inl a) = a.finishes
finishes law (Some (Checks directory)) before after status (inr l) = λ files told none calm. inr (memory_stops before after status l)
finishes law (Some (Bigs count budget)) before after status (inl (inl a)) =
    λ none faultless. big_finished law count budget before a.mid after status a.still a.rest faultless none a.outcome a.comes a.told
finishes law (Some (Bigs count budget)) before after status (inl (inr l)) = λ none faultless. inr (before.errors, l.told)
finishes law (Some (Bigs count budget)) before after status (inr l) = λ none faultless. inr (before.errors, l.told)
