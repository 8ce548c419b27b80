-- What a folder holds decides the answer.
use Rattle.std.proofs.Common.{◌≡◌, ◌⊎◌, ℕ, List, Option, Some, Result, Ok, Err, sym, ap, ◌∙◌, subst, inl, inr}
use Rattle.lava_host.specs.Hosts.{HostWorld}
use Rattle.lava_lines.specs.Lines as lines
use Rattle.lava_lines.specs.Puts as puts
use Rattle.lava_lines.specs.declared.status.TheConstants as texts
use Rattle.lava_streams.specs.Files.{Files}
use Rattle.lava_streams.specs.Outside.{Stand, HasFault}
use Rattle.pkg_graph.specs.declared.fault.GraphFault.TheVariants as graph
use Rattle.lava_policy.specs.PolicyOutcomes.{MemoryStops}
use Rattle.lava_runner.specs.lava_report.Tells.{RunReports}
use Rattle.lava_runner.specs.lava_report.declared.outcome.RunOutcome.{RunOutcome}
use Rattle.lava_runner.specs.lava_report.declared.outcome.RunOutcome.TheVariants as outcome
use Rattle.lava_runner.specs.lava_report.declared.report.Mode.{Mode}
use Rattle.lava_runner.specs.lava_report.declared.run_report.TheConstants as words
use Rattle.lava_runner.specs.lava_loading.Laws.{IsHeld, IsOfContent, IsSourceMeaning, Meaning, One_loading}
use Rattle.lava_runner.specs.lava_loading.Loads.{IsLoading}
use Rattle.lava_runner.specs.lava_loading.declared.loading.LoadedApplication.{LoadedApplication}
use Rattle.lava_runner.specs.lava_loading.declared.loading.LoadingFault.{LoadingFault}
use Rattle.lava_runner.specs.lava_loading.declared.loading.LoadingFault.TheVariants as loading
use Rattle.lava_runner.specs.lava_loading.declared.policies.PoliciesFault.TheVariants as policies
use Rattle.lava_runner.specs.lava_loading.pkg_load.declared.fault.LoadFault.TheVariants as load
use Rattle.lava_cli.specs.Causes.{AnswersHeld, TellsFolder, TellsLack, outcome_of}
use Rattle.lava_cli.specs.RunAnswers.{HasReadFolder, HasRunIn, IsRefusedBy, MemoryLacks, RunComes, RunsOf, outside_in}

-- RESULTS

abbrev pub is_ok : {X Y : Type 0} → Result X Y → Type 0
is_ok (Ok x) = Unit {0}
is_ok (Err y) = ⊥

pub ok_err : {X Y : Type 0} {x : X} {y : Y} → Ok x ≡ Err y → ⊥
ok_err p = subst is_ok p tt

pub ok_one : {X Y : Type 0} {x y : X} → ◌≡◌ {A = Result X Y} (Ok x) (Ok y) → x ≡ y
ok_one p = cc

pub err_one : {X Y : Type 0} {x y : Y} → ◌≡◌ {A = Result X Y} (Err x) (Err y) → x ≡ y
err_one p = cc

-- WHAT A REFUSAL IS OF

-- a fault of the folder, as it is told
abbrev pub FailsFolder : (before mid after : HostWorld) → (status : ℕ) → Type 0
FailsFolder before mid after status = HasFault before.folder mid.folder × puts.PutsLine (lines.outside_line words.FOLDER.now) texts.OUTSIDE_STATUS mid.errors after.errors status

-- what a refusal is of: of what the folder holds, of a fault of the folder, or of want of memory
pub sorted : (directory : List ℕ) (before mid after : HostWorld) (status : ℕ) (g : LoadingFault) → IsRefusedBy directory before mid g → RunReports (outcome_of g) mid.errors after.errors status
    → IsOfContent g ⊎ FailsFolder before mid after status ⊎ puts.Lacks mid.errors after.errors status
sorted directory before mid after status (loading.Graph (graph.Manifest dir field)) c t = inl tt
sorted directory before mid after status (loading.Graph (graph.TooMany what count)) c t = inl tt
sorted directory before mid after status (loading.Graph graph.Folder) c t = inr (inl (c.read.counts, t))
sorted directory before mid after status (loading.Graph graph.OutOfMemory) c t = inr (inr t)
sorted directory before mid after status (loading.Policies (policies.Bad file row key what)) c t = inl tt
sorted directory before mid after status (loading.Policies policies.TooLong) c t = inl tt
sorted directory before mid after status (loading.Policies policies.Folder) c t = inr (inl (c.read.counts, t))
sorted directory before mid after status (loading.Policies policies.OutOfMemory) c t = inr (inr t)
sorted directory before mid after status (loading.Load (load.Syntax name path place what)) c t = inl tt
sorted directory before mid after status (loading.Load (load.Missing name request)) c t = inl tt
sorted directory before mid after status (loading.Load load.Folder) c t = inr (inl (c.read.counts, t))
sorted directory before mid after status (loading.Load (load.TooMany what count)) c t = inl tt
sorted directory before mid after status (loading.Load load.OutOfMemory) c t = inr (inr t)

pub held_so : (files : Files) (directory : List ℕ) (told : Option Files) (g : LoadingFault) → told ≡ Some files → IsLoading told directory (Err g) → IsOfContent g → IsHeld files directory (Err g)
held_so files directory told g is cause of = (subst (λ t. IsLoading t directory (Err g)) is cause, of)

-- THE ONE ANSWER

pub rest_so : (before mid after : HostWorld) → mid ≡ record before { folder = mid.folder } → after ≡ record mid { errors = after.errors } → after ≡ record before { folder = after.folder; errors = after.errors }
rest_so before mid after m a =
    a ∙ ap (λ (w : HostWorld). record w { errors = after.errors }) m
    ∙ ap (λ f. record before { folder = f; errors = after.errors }) (sym (ap (λ (w : HostWorld). w.folder) a))

module _ (one : One_loading) (meaning : Meaning) (means : IsSourceMeaning meaning) (mode : Mode) (directory : List ℕ) (budget : ℕ) (before mid after : HostWorld) (status : ℕ) (files : Files) (told : before.folder.told ≡ Some files) where
  abbrev Answer : Result LoadedApplication LoadingFault → Type 0
  Answer r = AnswersHeld mode directory budget files r before after status ⊎ TellsFolder before after status ⊎ TellsLack before after status

  refused_as : (g : LoadingFault) (r : Result LoadedApplication LoadingFault) → IsHeld files directory (Err g) → IsHeld files directory r → RunReports (outcome_of g) before.errors after.errors status
      → after ≡ record before { folder = after.folder; errors = after.errors } → AnswersHeld mode directory budget files r before after status
  refused_as g (Ok l) h q t rest = absurd (ok_err (sym (one files directory meaning (Err g) (Ok l) means h q)))
  refused_as g (Err f) h q t rest = record { cause = g; same = err_one (one files directory meaning (Err g) (Err f) means h q); held = h; told = t; rest = rest }

  refused : (g : LoadingFault) (r : Result LoadedApplication LoadingFault) → IsHeld files directory r → IsRefusedBy directory before mid g → RunReports (outcome_of g) mid.errors after.errors status
      → after ≡ record mid { errors = after.errors } → Answer r
  refused g r q c t rest = by (sorted directory before mid after status g c t)
    where
      same : mid.errors ≡ before.errors
      same = ap (λ (w : HostWorld). w.errors) c.read.rest

      whole : after ≡ record before { folder = after.folder; errors = after.errors }
      whole = rest_so before mid after c.read.rest rest

      by : IsOfContent g ⊎ FailsFolder before mid after status ⊎ puts.Lacks mid.errors after.errors status → Answer r
      by (inl of) =
          inl (refused_as g r (held_so files directory before.folder.told g told c.cause of) q (subst (λ (e : Stand (List ℕ)). RunReports (outcome_of g) e after.errors status) same t) whole)
      by (inr (inl f)) =
          inr (inl (record {
            fault = subst (λ s. HasFault before.folder s) (sym (ap (λ (w : HostWorld). w.folder) rest)) f.0;
            told = subst (λ (e : Stand (List ℕ)). puts.PutsLine (lines.outside_line words.FOLDER.now) texts.OUTSIDE_STATUS e after.errors status) same f.1;
            rest = whole;
          }))
      by (inr (inr l)) = inr (inr (subst (λ (e : Stand (List ℕ)). puts.Lacks e after.errors status) same l))

  ran_as : (o : RunOutcome) (r : Result LoadedApplication LoadingFault) → IsHeld files directory r → HasRunIn mode directory budget before mid o → RunReports o mid.errors after.errors status
      → after ≡ record mid { errors = after.errors } → AnswersHeld mode directory budget files r before after status
  ran_as o (Err f) q h t rest =
      absurd (ok_err (one files directory meaning (Ok h.app) (Err f) means (subst (λ t. IsLoading t directory (Ok h.app)) told h.loaded) q))
  ran_as o (Ok l) q h t rest =
      let same : h.app ≡ l = ok_one (one files directory meaning (Ok h.app) (Ok l) means (subst (λ t. IsLoading t directory (Ok h.app)) told h.loaded) q) in
      record {
        outcome = o;
        mid = h.mid;
        end = mid;
        read = subst (λ (x : LoadedApplication). HasReadFolder before h.mid (Ok x)) same h.read;
        ran = subst (λ (x : LoadedApplication). RunsOf mode directory x budget h.mid mid o) same h.ran;
        told = t;
        rest = rest;
      }

  pub answered : (o : RunOutcome) (r : Result LoadedApplication LoadingFault) → IsHeld files directory r → RunComes mode directory budget before mid o → RunReports o mid.errors after.errors status
      → after ≡ record mid { errors = after.errors } → Answer r
  answered (outcome.Ran e) r q h t rest = inl (ran_as (outcome.Ran e) r q h t rest)
  answered (outcome.Prelude place what) r q h t rest = inl (ran_as (outcome.Prelude place what) r q h t rest)
  answered outcome.OutOfMemory r q h t rest = inl (ran_as outcome.OutOfMemory r q h t rest)
  answered (outcome.Graph f) r q c t rest = refused (loading.Graph f) r q c t rest
  answered (outcome.Policies f) r q c t rest = refused (loading.Policies f) r q c t rest
  answered (outcome.Load f) r q c t rest = refused (loading.Load f) r q c t rest

-- there was no memory to begin with a report
pub memory_stops : (before after : HostWorld) (status : ℕ) → MemoryLacks before after status → MemoryStops (outside_in before) (outside_in after) status
memory_stops before after status l = record { told = l.told; output = ap (λ (w : HostWorld). w.output) l.rest }
