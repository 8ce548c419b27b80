-- What a folder holds decides the answer to each command.
use Rattle.std.proofs.Common.{◌⊎◌, ℕ, Option, Some, None, inl, inr}
use Rattle.lava_host.specs.Hosts.{HostWorld}
use Rattle.lava_words.specs.Words.{Asked, Bigs, Checks, Policies, Runs, Trees}
use Rattle.lava_runner.specs.lava_loading.Laws.{One_loading}
use Rattle.lava_cli.specs.Answers.{AnswersTo}
use Rattle.lava_cli.specs.Causes.{DecidesOf}
use Rattle.lava_cli.specs.RunAnswers.{MemoryLacks}
use Rattle.lava_cli.proofs.BigDecided.{big_answered}
use Rattle.lava_cli.proofs.Decided.{answered, memory_stops}

pub decides : One_loading → (asked : Option Asked) (before after : HostWorld) (status : ℕ) → AnswersTo asked before after status ⊎ MemoryLacks before after status → DecidesOf asked before after status
decides one None before after status a = a
decides one (Some (Trees file)) before after status a = tt
decides one (Some (Runs mode directory budget)) before after status (inl a) =
    λ meaning means. record {
      answers = λ files told r held. answered one meaning means mode directory budget before a.mid after status files told a.outcome r held a.comes a.told a.rest;
    }
decides one (Some (Runs mode directory budget)) before after status (inr l) = λ meaning means. record { answers = λ files told r held. inr (inr l.told) }
decides one (Some (Policies directory)) before after status (inl a) = a.decides
decides one (Some (Policies directory)) before after status (inr l) = λ meaning means files told r held. inr (inr (memory_stops before after status l))
decides one (Some (Checks directory)) before after status (inl a) = a.decides
decides one (Some (Checks directory)) before after status (inr l) = λ meaning means files told r held. inr (inr (memory_stops before after status l))
decides one (Some (Bigs count budget)) before after status (inl (inl a)) =
    λ meaning means r held. big_answered one meaning means count budget before a.mid after status a.still a.rest a.outcome r held a.comes a.told
decides one (Some (Bigs count budget)) before after status (inl (inr l)) = λ meaning means r held. inr l.told
decides one (Some (Bigs count budget)) before after status (inr l) = λ meaning means r held. inr l.told
