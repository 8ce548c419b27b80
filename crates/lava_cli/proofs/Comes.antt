-- An application is loaded, and then it runs.
use Rattle.std.proofs.Common.{◌≡◌, ℕ, List, Ok, sym, ◌∙◌, subst}
use Rattle.pkg_graph.specs.declared.graph.Package.{Package}
use Rattle.lava_host.specs.Hosts.{HostWorld}
use Rattle.lava_runner.specs.Reports.{IsRunOf}
use Rattle.lava_runner.specs.lava_report.declared.report.Mode.{Mode}
use Rattle.lava_runner.specs.lava_report.declared.report.Report.{Report}
use Rattle.lava_runner.specs.lava_loading.Loads.{IsLoading}
use Rattle.lava_cli.specs.RunAnswers.{HasReadFolder, RunComes, RunsOf}
use Rattle.lava_runner.specs.lava_report.Tells.{EndsAs, ended_in}
use Rattle.lava_runner.specs.lava_loading.declared.loading.LoadedApplication.{LoadedApplication}
use Rattle.lava_runner.specs.lava_report.declared.outcome.RunOutcome.{RunOutcome}
use Rattle.lava_runner.specs.lava_report.declared.outcome.RunOutcome.TheVariants as outcome

-- it was loaded, and then it ran
pub ran_so : (mode : Mode) (directory : List ℕ) (budget : ℕ) (before mid after : HostWorld) (app : LoadedApplication) (o : RunOutcome) → IsLoading before.folder.told directory (Ok app) → HasReadFolder before mid (Ok app)
    → RunsOf mode directory app budget mid after o → RunComes mode directory budget before after o
ran_so mode directory budget before mid after app (outcome.Ran r) l f ran = record { app = app; mid = mid; loaded = l; read = f; ran = ran }
ran_so mode directory budget before mid after app (outcome.Prelude place what) l f ran = record { app = app; mid = mid; loaded = l; read = f; ran = ran }
ran_so mode directory budget before mid after app outcome.OutOfMemory l f ran = record { app = app; mid = mid; loaded = l; read = f; ran = ran }
ran_so mode directory budget before mid after app (outcome.Graph f) l g ran = absurd ran
ran_so mode directory budget before mid after app (outcome.Policies f) l g ran = absurd ran
ran_so mode directory budget before mid after app (outcome.Load f) l g ran = absurd ran

-- it ran, and ended in the party of this name
pub ended_so : (mode : Mode) (directory : List ℕ) (l : LoadedApplication) (budget : ℕ) (before after : HostWorld) (r : Report) (packages : List Package) (o : RunOutcome) → packages ≡ l.app.packages → IsRunOf mode directory l.app l.policy budget before after r → EndsAs packages r o
    → RunsOf mode directory l budget before after o
ended_so mode directory l budget before after r packages (outcome.Ran e) same run ends =
    (subst (λ x. IsRunOf mode directory l.app l.policy budget before after x) (sym ends.0) run, ends.1 ∙ (λ j. ended_in (same j) (sym ends.0 j).ending))
ended_so mode directory l budget before after r packages outcome.OutOfMemory same run ends = tt
ended_so mode directory l budget before after r packages (outcome.Prelude place what) same run ends = absurd ends
ended_so mode directory l budget before after r packages (outcome.Graph f) same run ends = absurd ends
ended_so mode directory l budget before after r packages (outcome.Policies f) same run ends = absurd ends
ended_so mode directory l budget before after r packages (outcome.Load f) same run ends = absurd ends
