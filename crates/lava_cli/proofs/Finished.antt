-- Where no cause stands and no count of faults rose, a run is answered by its ending, or there was no memory.
use Rattle.std.proofs.Common.{◌≡◌, ◌⊎◌, ℕ, List, Option, Some, None, sym, ap, subst, inl, inr, refl}
use Rattle.lava_host.specs.Hosts.{HostWorld}
use Rattle.lava_host.specs.declared.fault.Which.{Which}
use Rattle.lava_host.specs.declared.fault.Which.TheVariants as which
use Rattle.lava_lines.specs.Puts as puts
use Rattle.lava_lines.specs.declared.status.TheConstants as texts
use Rattle.lava_streams.specs.Files.{Files}
use Rattle.lava_streams.specs.Outside.{Stand, HasFault}
use Rattle.lava_runner.specs.lava_report.Tells.{RunReports, TellsEnding, TellsReport}
use Rattle.lava_runner.specs.lava_report.declared.outcome.Ended.{Ended}
use Rattle.lava_runner.specs.lava_report.declared.outcome.RunOutcome.{RunOutcome}
use Rattle.lava_runner.specs.lava_report.declared.outcome.RunOutcome.TheVariants as outcome
use Rattle.lava_runner.specs.lava_report.declared.report.Mode.{Mode}
use Rattle.lava_runner.specs.lava_loading.Laws.{IsOfContent}
use Rattle.lava_runner.specs.lava_loading.declared.loading.LoadingFault.{LoadingFault}
use Rattle.lava_runner.specs.lava_loading.declared.loading.LoadingFault.TheVariants as loading
use Rattle.lava_cli.specs.Causes.{outcome_of}
use Rattle.lava_runner.specs.Counts.{AreCounted, AreFaultless, count_of}
use Rattle.lava_runner.specs.Endings.{ending_status}
use Rattle.lava_runner.specs.Isolated.{Each_run_isolates}
use Rattle.lava_cli.specs.Finishes.{HasFinished, HasNoCause, IsLack}
use Rattle.lava_cli.specs.RunAnswers.{HasRunIn, IsRefusedBy, RunComes}
use Rattle.lava_runner.proofs.Told.{ending_told}
use Rattle.lava_runner.proofs.Counted.{counted_on, failed_so, forgotten, rises_behind, rises_before, run_counted, touched_so, went_well}
use Rattle.lava_cli.proofs.Decided.{FailsFolder, held_so, sorted}

-- WHAT IS TOLD

-- a line that is put touches the errors alone
put_counted : (line : List ℕ) (own : ℕ) (w v : HostWorld) (status : ℕ) → v ≡ record w { errors = v.errors } → puts.Puts line own w.errors v.errors status → AreCounted w v None
put_counted line own w v status t (inl p) = touched_so which.Errors w v None t (went_well which.Errors w.errors.count v.errors.count p.1.0)
put_counted line own w v status t (inr p) =
    forgotten w v (Some which.Errors) (touched_so which.Errors w v (Some which.Errors) t (failed_so which.Errors which.Errors w.errors.count v.errors.count refl p.1.0))

pub line_counted : (line : List ℕ) (own : ℕ) (w v : HostWorld) (status : ℕ) → v ≡ record w { errors = v.errors } → puts.PutsLine line own w.errors v.errors status → AreCounted w v None
line_counted line own w v status t (inl p) = put_counted line own w v status t p
line_counted line own w v status t (inr p) = put_counted texts.MEMORY_LINE.now texts.MEMORY_STATUS w v status t p

-- A RUN

-- the folder alone was read, without a fault, and then the run has its counts
pub ran_counted : (mode : Mode) (directory : List ℕ) (budget : ℕ) (before mid : HostWorld) (e : Ended) → HasRunIn mode directory budget before mid (outcome.Ran e) → AreCounted before mid e.report.which
ran_counted mode directory budget before mid e h =
    counted_on before h.mid mid e.report.which
    (touched_so which.Folder before h.mid None h.read.rest (went_well which.Folder before.folder.count h.mid.folder.count h.read.counts))
    (run_counted mode directory h.app budget h.mid mid e.report h.ran.0)

module _ (law : Each_run_isolates) (mode : Mode) (directory : List ℕ) (budget : ℕ) (before mid after : HostWorld) (status : ℕ) (faultless : AreFaultless before after) (rest : after ≡ record mid { errors = after.errors }) where
  abbrev Answer : Type 0
  Answer = HasFinished mode directory budget before after status ⊎ IsLack after status

  finished : (e : Ended) (h : HasRunIn mode directory budget before mid (outcome.Ran e)) → TellsEnding e.name e.report.ending e.report.uncaught mid.errors after.errors status → Answer
  finished e h t = by (ending_told e.name e.report.ending e.report.uncaught mid.errors after.errors status t)
    where
      by : (status ≡ ending_status e.report.ending) ⊎ HasFault mid.errors after.errors ⊎ puts.Lacks mid.errors after.errors status → Answer
      by (inl is) =
          inl (record {
            app = h.app;
            loaded = h.loaded;
            mid = h.mid;
            read = h.read;
            end = mid;
            report = e.report;
            ran = h.ran.0;
            isolated = law mode directory h.app.app h.app.policy budget h.mid mid e.report h.ran.0;
            ends = is;
            told = subst (λ n. TellsEnding n e.report.ending e.report.uncaught mid.errors after.errors status) h.ran.1 t;
            rest = rest;
          })
      by (inr (inl f)) = absurd (faultless which.Errors (rises_behind before.errors.count mid.errors.count after.errors.count ((ran_counted mode directory budget before mid e h).each which.Errors) f))
      by (inr (inr l)) = inr (mid.errors, l)

  ran : (e : Ended) (h : HasRunIn mode directory budget before mid (outcome.Ran e)) (failed : Option Which) → e.report.which ≡ failed → TellsReport failed e mid.errors after.errors status → Answer
  ran e h None is t = finished e h t
  ran e h (Some w) is t =
      absurd (faultless w (rises_before (count_of w before) (count_of w mid) (count_of w after) ((ran_counted mode directory budget before mid e h).rose w is) ((line_counted _ texts.OUTSIDE_STATUS mid after status rest t).each w)))

  refused : (files : Files) → before.folder.told ≡ Some files → HasNoCause files directory → (g : LoadingFault) → IsRefusedBy directory before mid g → RunReports (outcome_of g) mid.errors after.errors status → Answer
  refused files told none g c t = by (sorted directory before mid after status g c t)
    where
      by : IsOfContent g ⊎ FailsFolder before mid after status ⊎ puts.Lacks mid.errors after.errors status → Answer
      by (inl of) = absurd (none.content g (held_so files directory before.folder.told g told c.cause of))
      by (inr (inl f)) = absurd (faultless which.Folder (subst (λ (s : Stand Files). HasFault before.folder s) (sym (ap (λ (w : HostWorld). w.folder) rest)) f.0))
      by (inr (inr l)) = inr (mid.errors, l)

  pub answered : (files : Files) → before.folder.told ≡ Some files → HasNoCause files directory → (o : RunOutcome) → RunComes mode directory budget before mid o → RunReports o mid.errors after.errors status → Answer
  answered files told none (outcome.Ran e) h t = ran e h e.report.which refl t
  answered files told none (outcome.Prelude place what) h t = absurd (none.common place what h.ran)
  answered files told none outcome.OutOfMemory h t = inr (mid.errors, t)
  answered files told none (outcome.Graph f) c t = refused files told none (loading.Graph f) c t
  answered files told none (outcome.Policies f) c t = refused files told none (loading.Policies f) c t
  answered files told none (outcome.Load f) c t = refused files told none (loading.Load f) c t
