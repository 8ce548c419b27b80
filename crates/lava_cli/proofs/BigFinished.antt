-- Where no cause stands and no count of faults rose, `big` is answered by the ending of its run, behind its summary, or there was no memory.
use Rattle.std.proofs.Common.{◌≡◌, ◌⊎◌, ℕ, List, Option, Some, None, sym, ap, subst, inl, inr, refl}
use Rattle.lava_big.specs.BigFiles.{big_files}
use Rattle.lava_big.specs.Summaries.{summary_line}
use Rattle.lava_big.specs.declared.texts.TheConstants.{BIG_DIRECTORY}
use Rattle.lava_host.specs.Hosts.{HostWorld}
use Rattle.lava_host.specs.declared.fault.Which.{Which}
use Rattle.lava_host.specs.declared.fault.Which.TheVariants as which
use Rattle.lava_lines.specs.Puts as puts
use Rattle.lava_lines.specs.declared.status.TheConstants as texts
use Rattle.lava_streams.specs.Counts.{Rises}
use Rattle.lava_streams.specs.Outside.{Stand, HasFault}
use Rattle.lava_runner.specs.lava_report.Tells.{RunReports, TellsEnding, TellsReport}
use Rattle.lava_runner.specs.lava_report.declared.outcome.Ended.{Ended}
use Rattle.lava_runner.specs.lava_report.declared.outcome.RunOutcome.{RunOutcome}
use Rattle.lava_runner.specs.lava_report.declared.outcome.RunOutcome.TheVariants as outcome
use Rattle.lava_runner.specs.lava_report.declared.report.Mode.TheVariants as mode
use Rattle.lava_runner.specs.lava_loading.Laws.{IsOfContent}
use Rattle.lava_runner.specs.lava_loading.declared.loading.LoadingFault.{LoadingFault}
use Rattle.lava_runner.specs.lava_loading.declared.loading.LoadingFault.TheVariants as loading
use Rattle.lava_runner.specs.Counts.{AreCounted, AreFaultless, count_of}
use Rattle.lava_runner.specs.Endings.{ending_status}
use Rattle.lava_runner.specs.Isolated.{Each_run_isolates}
use Rattle.lava_cli.specs.declared.big_command.SummaryPut.{SummaryPut}
use Rattle.lava_cli.specs.declared.big_command.SummaryPut.TheVariants as put
use Rattle.lava_cli.specs.BigAnswers.{BigReports, PutsSummary, ReportsOver, ReportsRan, in_memory}
use Rattle.lava_cli.specs.Causes.{outcome_of}
use Rattle.lava_cli.specs.Finishes.{HasFinishedBig, HasNoCause, IsLack}
use Rattle.lava_cli.specs.RunAnswers.{HasRunIn, IsRefusedBy, RunComes}
use Rattle.lava_runner.proofs.Told.{ending_told}
use Rattle.lava_runner.proofs.Counted.{counted_on, rises_before, rises_behind, unmoved}
use Rattle.lava_cli.proofs.BigDecided.{calm}
use Rattle.lava_cli.proofs.Decided.{FailsFolder, held_so, sorted}
use Rattle.lava_cli.proofs.Finished.{line_counted, ran_counted}

module _ (law : Each_run_isolates) (count budget : ℕ) (before mid after : HostWorld) (status : ℕ) (still : mid.folder.count ≡ 0) (rest : after ≡ record mid { folder = before.folder; output = after.output; errors = after.errors }) (faultless : AreFaultless before after) where
  abbrev Answer : Type 0
  Answer = HasFinishedBig count budget before after status ⊎ IsLack after status

  -- the outside of the run at its end
  abbrev over : HostWorld
  over = record mid { output = after.output; errors = after.errors }

  -- no object of the outside of the run has counted a fault
  none_rose : (w : Which) → ¬ Rises (count_of w (in_memory count before)) (count_of w over)
  none_rose which.Folder r = calm mid.folder.count still r
  none_rose which.Input r = faultless which.Input (subst (λ (w : HostWorld). Rises before.input.count w.input.count) (sym rest) r)
  none_rose which.Output r = faultless which.Output r
  none_rose which.Errors r = faultless which.Errors r
  none_rose which.Clock r = faultless which.Clock (subst (λ (w : HostWorld). Rises before.clock.count w.clock.count) (sym rest) r)

  counted : (e : Ended) → HasRunIn mode.Emit BIG_DIRECTORY.now budget (in_memory count before) mid (outcome.Ran e) → AreCounted (in_memory count before) mid e.report.which
  counted e h = ran_counted mode.Emit BIG_DIRECTORY.now budget (in_memory count before) mid e h

  finished : (e : Ended) (h : HasRunIn mode.Emit BIG_DIRECTORY.now budget (in_memory count before) mid (outcome.Ran e))
      → PutsSummary (summary_line count e.report.crossings (ending_status e.report.ending)) mid.output after.output put.Done
      → TellsEnding e.name e.report.ending e.report.uncaught mid.errors after.errors status → Answer
  finished e h sums t = by (ending_told e.name e.report.ending e.report.uncaught mid.errors after.errors status t)
    where
      by : (status ≡ ending_status e.report.ending) ⊎ HasFault mid.errors after.errors ⊎ puts.Lacks mid.errors after.errors status → Answer
      by (inl is) =
          inl (record {
            app = h.app;
            loaded = h.loaded;
            mid = h.mid;
            read = h.read;
            end = mid;
            report = e.report;
            ran = h.ran.0;
            isolated = law mode.Emit BIG_DIRECTORY.now h.app.app h.app.policy budget h.mid mid e.report h.ran.0;
            ends = is;
            summed = sums;
            told = subst (λ n. TellsEnding n e.report.ending e.report.uncaught mid.errors after.errors status) h.ran.1 t;
            rest = rest;
          })
      by (inr (inl f)) = absurd (faultless which.Errors (rises_behind before.errors.count mid.errors.count after.errors.count ((counted e h).each which.Errors) f))
      by (inr (inr l)) = inr (mid.errors, l)

  summed : (e : Ended) (h : HasRunIn mode.Emit BIG_DIRECTORY.now budget (in_memory count before) mid (outcome.Ran e)) → e.report.which ≡ None → (p : SummaryPut)
      → PutsSummary (summary_line count e.report.crossings (ending_status e.report.ending)) mid.output after.output p → ReportsOver p e mid.errors after.errors status → Answer
  summed e h is put.Done sums t = finished e h sums (subst (λ failed. TellsReport failed e mid.errors after.errors status) is t)
  summed e h is put.Failed sums t = absurd (faultless which.Output (rises_behind before.output.count mid.output.count after.output.count ((counted e h).each which.Output) sums.0))
  summed e h is put.OutOfMemory sums t = inr (mid.errors, t)

  -- what is told of an object that failed, behind an output that stands as it was
  told_counted : (line : List ℕ) → after.output ≡ mid.output → puts.PutsLine line texts.OUTSIDE_STATUS mid.errors after.errors status → AreCounted mid over None
  told_counted line output t =
      counted_on mid (record mid { output = after.output }) over None (unmoved mid (record mid { output = after.output }) (ap (λ (o : Stand (List ℕ)). record mid { output = o }) output))
      (line_counted line texts.OUTSIDE_STATUS (record mid { output = after.output }) over status refl t)

  ran : (e : Ended) (h : HasRunIn mode.Emit BIG_DIRECTORY.now budget (in_memory count before) mid (outcome.Ran e)) (failed : Option Which) → e.report.which ≡ failed
      → ReportsRan count failed e mid.output after.output mid.errors after.errors status → Answer
  ran e h None is t = summed e h is t.put t.sums t.told
  ran e h (Some w) is t =
      absurd (none_rose w (rises_before (count_of w (in_memory count before)) (count_of w mid) (count_of w over) ((counted e h).rose w is)
      ((told_counted _ t.0 (subst (λ failed. TellsReport failed e mid.errors after.errors status) is t.1)).each w)))

  refused : HasNoCause (big_files count) BIG_DIRECTORY.now → (g : LoadingFault) → IsRefusedBy BIG_DIRECTORY.now (in_memory count before) mid g → RunReports (outcome_of g) mid.errors after.errors status → Answer
  refused none g c t = by (sorted BIG_DIRECTORY.now (in_memory count before) mid (record mid { errors = after.errors }) status g c t)
    where
      by : IsOfContent g ⊎ FailsFolder (in_memory count before) mid (record mid { errors = after.errors }) status ⊎ puts.Lacks mid.errors after.errors status → Answer
      by (inl of) = absurd (none.content g (held_so (big_files count) BIG_DIRECTORY.now (Some (big_files count)) g refl c.cause of))
      by (inr (inl f)) = absurd (calm mid.folder.count still f.0)
      by (inr (inr l)) = inr (mid.errors, l)

  pub big_finished : HasNoCause (big_files count) BIG_DIRECTORY.now → (o : RunOutcome) → RunComes mode.Emit BIG_DIRECTORY.now budget (in_memory count before) mid o
      → BigReports count o mid.output after.output mid.errors after.errors status → Answer
  big_finished none (outcome.Ran e) h t = ran e h e.report.which refl t
  big_finished none (outcome.Prelude place what) h t = absurd (none.common place what h.ran)
  big_finished none outcome.OutOfMemory h t = inr (mid.errors, t.1)
  big_finished none (outcome.Graph f) c t = refused none (loading.Graph f) c t.1
  big_finished none (outcome.Policies f) c t = refused none (loading.Policies f) c t.1
  big_finished none (outcome.Load f) c t = refused none (loading.Load f) c t.1
