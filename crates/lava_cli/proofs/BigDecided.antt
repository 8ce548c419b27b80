-- What the files of the application of so many packages are decides the answer of `big`.
use Rattle.std.proofs.Common.{◌≡◌, ◌⊎◌, ℕ, List, Some, Result, Ok, Err, sym, ap, ◌∙◌, subst, inl, inr, refl, arith}
use Rattle.lava_big.specs.BigFiles.{big_files}
use Rattle.lava_big.specs.declared.texts.TheConstants.{BIG_DIRECTORY}
use Rattle.lava_host.specs.Hosts.{HostWorld}
use Rattle.lava_lines.specs.Puts as puts
use Rattle.lava_streams.specs.Counts.{Rises}
use Rattle.lava_streams.specs.Outside.{Stand}
use Rattle.lava_runner.specs.lava_report.Tells.{RunReports}
use Rattle.lava_runner.specs.lava_report.declared.outcome.RunOutcome.{RunOutcome}
use Rattle.lava_runner.specs.lava_report.declared.outcome.RunOutcome.TheVariants as outcome
use Rattle.lava_runner.specs.lava_report.declared.report.Mode.TheVariants as mode
use Rattle.lava_runner.specs.lava_loading.Laws.{IsHeld, IsOfContent, IsSourceMeaning, Meaning, One_loading}
use Rattle.lava_runner.specs.lava_loading.declared.loading.LoadedApplication.{LoadedApplication}
use Rattle.lava_runner.specs.lava_loading.declared.loading.LoadingFault.{LoadingFault}
use Rattle.lava_runner.specs.lava_loading.declared.loading.LoadingFault.TheVariants as loading
use Rattle.lava_cli.specs.BigAnswers.{BigReports, in_memory}
use Rattle.lava_cli.specs.Causes.{BigAnswersHeld, TellsLack, outcome_of}
use Rattle.lava_cli.specs.RunAnswers.{HasReadFolder, HasRunIn, IsRefusedBy, RunComes, RunsOf}
use Rattle.lava_cli.proofs.Decided.{FailsFolder, err_one, held_so, ok_err, ok_one, sorted}

-- a count that stands at 0 has not risen
pub calm : (n : ℕ) → n ≡ 0 → ¬ Rises 0 n
calm n is (least, inl less) = omega arith
calm n is (least, inr most) = omega arith

module _ (one : One_loading) (meaning : Meaning) (means : IsSourceMeaning meaning) (count budget : ℕ) (before mid after : HostWorld) (status : ℕ) (still : mid.folder.count ≡ 0) (rest : after ≡ record mid { folder = before.folder; output = after.output; errors = after.errors }) where
  abbrev Answer : Result LoadedApplication LoadingFault → Type 0
  Answer r = BigAnswersHeld count budget r before after status ⊎ TellsLack before after status

  refused_as : (g : LoadingFault) (r : Result LoadedApplication LoadingFault) → IsHeld (big_files count) BIG_DIRECTORY.now (Err g) → IsHeld (big_files count) BIG_DIRECTORY.now r
      → RunReports (outcome_of g) before.errors after.errors status → after ≡ record before { errors = after.errors } → BigAnswersHeld count budget r before after status
  refused_as g (Ok l) h q t whole = absurd (ok_err (sym (one (big_files count) BIG_DIRECTORY.now meaning (Err g) (Ok l) means h q)))
  refused_as g (Err f) h q t whole = record { cause = g; same = err_one (one (big_files count) BIG_DIRECTORY.now meaning (Err g) (Err f) means h q); held = h; told = t; rest = whole }

  refused : (g : LoadingFault) (r : Result LoadedApplication LoadingFault) → IsHeld (big_files count) BIG_DIRECTORY.now r → IsRefusedBy BIG_DIRECTORY.now (in_memory count before) mid g
      → after.output ≡ mid.output → RunReports (outcome_of g) mid.errors after.errors status → Answer r
  refused g r q c output t = by (sorted BIG_DIRECTORY.now (in_memory count before) mid (record mid { errors = after.errors }) status g c t)
    where
      same : mid.errors ≡ before.errors
      same = ap (λ (w : HostWorld). w.errors) c.read.rest

      whole : after ≡ record before { errors = after.errors }
      whole =
          rest
          ∙ ap (λ (w : HostWorld). record w { folder = before.folder; output = after.output; errors = after.errors }) c.read.rest
          ∙ ap (λ (o : Stand (List ℕ)). record before { output = o; errors = after.errors }) (output ∙ ap (λ (w : HostWorld). w.output) c.read.rest)

      by : IsOfContent g ⊎ FailsFolder (in_memory count before) mid (record mid { errors = after.errors }) status ⊎ puts.Lacks mid.errors after.errors status → Answer r
      by (inl of) =
          inl (refused_as g r (held_so (big_files count) BIG_DIRECTORY.now (Some (big_files count)) g refl c.cause of) q (subst (λ (e : Stand (List ℕ)). RunReports (outcome_of g) e after.errors status) same t) whole)
      by (inr (inl f)) = absurd (calm mid.folder.count still f.0)
      by (inr (inr l)) = inr (subst (λ (e : Stand (List ℕ)). puts.Lacks e after.errors status) same l)

  ran_as : (o : RunOutcome) (r : Result LoadedApplication LoadingFault) → IsHeld (big_files count) BIG_DIRECTORY.now r → HasRunIn mode.Emit BIG_DIRECTORY.now budget (in_memory count before) mid o
      → BigReports count o mid.output after.output mid.errors after.errors status → BigAnswersHeld count budget r before after status
  ran_as o (Err f) q h t = absurd (ok_err (one (big_files count) BIG_DIRECTORY.now meaning (Ok h.app) (Err f) means h.loaded q))
  ran_as o (Ok l) q h t =
      let same : h.app ≡ l = ok_one (one (big_files count) BIG_DIRECTORY.now meaning (Ok h.app) (Ok l) means h.loaded q) in
      record {
        outcome = o;
        mid = h.mid;
        end = mid;
        read = subst (λ (x : LoadedApplication). HasReadFolder (in_memory count before) h.mid (Ok x)) same h.read;
        ran = subst (λ (x : LoadedApplication). RunsOf mode.Emit BIG_DIRECTORY.now x budget h.mid mid o) same h.ran;
        told = t;
        rest = rest;
      }

  pub big_answered : (o : RunOutcome) (r : Result LoadedApplication LoadingFault) → IsHeld (big_files count) BIG_DIRECTORY.now r → RunComes mode.Emit BIG_DIRECTORY.now budget (in_memory count before) mid o
      → BigReports count o mid.output after.output mid.errors after.errors status → Answer r
  big_answered (outcome.Ran e) r q h t = inl (ran_as (outcome.Ran e) r q h t)
  big_answered (outcome.Prelude place what) r q h t = inl (ran_as (outcome.Prelude place what) r q h t)
  big_answered outcome.OutOfMemory r q h t = inl (ran_as outcome.OutOfMemory r q h t)
  big_answered (outcome.Graph f) r q c t = refused (loading.Graph f) r q c t.0 t.1
  big_answered (outcome.Policies f) r q c t = refused (loading.Policies f) r q c t.0 t.1
  big_answered (outcome.Load f) r q c t = refused (loading.Load f) r q c t.0 t.1
