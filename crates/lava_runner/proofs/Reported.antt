-- The report on a run that is over.
use Rattle.std.proofs.Common.{◌≡◌, ◌<◌, ℕ, zero, suc, ◌+◌, Bool, true, List, [], ◌∷◌, get_or, set, length, nat_eq, Option, refl, sym, ap, ◌∙◌, subst, arith, Result, Ok, Err, IfOk, ⊎_elim, if◌then◌else◌}
use Rattle.std.proofs.lemmas.Bool.Decides.{eqb_tells}
use Rattle.std.specs.Option.{option_map}
use Rattle.lava_base.specs.Ids.{same_ref}
use Rattle.lava_base.specs.declared.ids.MadeSymbol.{MadeSymbol}
use Rattle.lava_base.specs.declared.ids.Ref.{Ref}
use Rattle.lava_base.specs.declared.marks.Marks.{Marks}
use Rattle.js_text.specs.Naming.{Origin, Own, Common, Foreign, naming_of, origin_of}
use Rattle.js_store.specs.Foreign.{marks_of}
use Rattle.js_store.specs.Objects.{object_at}
use Rattle.js_host_laws.specs.Calls.{Gone_at_the_newest, HasHost, Host_calls_are_crossings}
use Rattle.js_host_laws.specs.Prototypes.{HasRepairs}
use Rattle.lava_driver.specs.js_run.Heap as heap
use Rattle.lava_driver.specs.js_run.Heap.{Over_with, World, begins}
use Rattle.lava_driver.specs.js_run.Completions as halt
use Rattle.lava_driver.specs.js_run.Journal.{Application, Fault, foreign_of}
use Rattle.lava_driver.specs.js_run.Laws.{IsWellMade, Journal_is_net}
use Rattle.lava_driver.specs.js_run.Parties.{Party}
use Rattle.lava_driver.specs.js_run.Laws as laws
use Rattle.lava_driver.specs.js_machine.Begun as begun
use Rattle.lava_driver.specs.js_machine.Begun.{own_of}
use Rattle.lava_driver.specs.js_machine.Looks.{marks_at, marks_in}
use Rattle.lava_driver.specs.js_machine.Views.{View}
use Rattle.lava_driver.specs.js_world.Crossings.{Rests}
use Rattle.lava_driver.specs.js_world.Worlds.{HasAnswered, IsOver, KeepsAnswer, Reads, WorldView, ending_of, no_own, own_here, turned}
use Rattle.lava_driver.specs.js_crossing.declared.ending.Ending.{Ending}
use Rattle.lava_driver.specs.js_crossing.declared.ending.Ending.TheVariants as ending
use Rattle.lava_host.specs.Hosts.{HostWorld}
use Rattle.lava_host.specs.Printed.{printed_reference, printed_value}
use Rattle.lava_packages.specs.lava_start.Applications.{AllInRange, RunParts, package_starts}
use Rattle.lava_packages.specs.lava_start.Firsts.{IsFirstWorld}
use Rattle.lava_packages.specs.lava_start.Laws.{Runs_are_well_made}
use Rattle.pkg_graph.specs.declared.graph.Package.{Package}
use Rattle.pkg_load.specs.Applications as loads
use Rattle.pkg_load.specs.declared.module.LoadedModule.{LoadedModule}
use Rattle.lava_packages.specs.pkg_source.declared.code.ModuleCode.{ModuleCode}
use Rattle.policy_row.specs.Rows.{Rows}
use Rattle.lava_packages.specs.Commons.{IsCommonPart}
use Rattle.lava_packages.specs.Laws.{Common_part_calls_repairs}
use Rattle.lava_packages.specs.Packages.{IsFirstOf, party_names, run_parts}
use Rattle.lava_driver.specs.Ran.{AreAskedIn, BeginsSo}
use Rattle.lava_runner.specs.Reports.{EndsSo, HasReport, HasRunFrom, HasTraceReport, HasTracedFrom, IsApplicationOf, IsEmittedRun, IsReportOf, IsTracedRun, IsUncaughtText, traced_as, uncaught_text}
use Rattle.lava_driver.specs.Talks.{Talk, newest_failed}
use Rattle.lava_driver.specs.Traces.{HasTraced, IsReadable, PutsText, ending_told, steps_from, trace_text}
use Rattle.lava_packages.specs.Uncaught.{IsUncaughtIn, Thrown, host_marks, marks_there, shown, thrown_in, uncaught_of}
use Rattle.lava_report.specs.declared.report.Report.{Report}
use Rattle.lava_packages.specs.declared.common.CommonPart.{CommonPart}
use Rattle.lava_driver.specs.declared.run.Ran.{Ran}
use Rattle.lava_driver.specs.declared.trace_run.Traced.{Traced}
use Rattle.lava_driver.proofs.Traced_whole.{steps_listed}
use Rattle.lava_runner.proofs.Calling.{are_called}
use Rattle.lava_runner.proofs.Repaired.{has_repairs}
use Rattle.lava_packages.proofs.In_range.{parts_in_range}

-- THE APPLICATION BEGINS AS THE FIRST WORLD RESTS

pub begins_so : (parts : RunParts) (budget : ℕ) (v : WorldView) → IsFirstWorld parts budget v → (app : Application) → IsApplicationOf parts app → BeginsSo v app
begins_so parts budget v f app a = subst (λ x. Rests x (begins x) v) (sym a.is) (f.rests a.surroundings (subst Reads a.is a.reads))

asked_in : (parts : RunParts) (budget : ℕ) (v : WorldView) (f : IsFirstWorld parts budget v) (ts : List Talk) → AreAskedIn (BeginsSo v) v.budget ts → AreAskedIn (IsApplicationOf parts) budget ts
asked_in parts budget v f [] a = tt
asked_in parts budget v f (t ∷ ts) a =
    ((λ app b g e. subst (λ n. (c : ℕ) × ((heap.heap app n c).control ≡ Over_with (Fault t.party halt.Outside))) f.limit (a.0 app (begins_so parts budget v f app b) g e)), asked_in parts budget v f ts a.1)

-- the host stands first, and what its objects inherit calls the functions of lockdown alone
has_host : (parts : RunParts) → HasRepairs parts.common → (app : Application) → IsApplicationOf parts app → HasHost app
has_host parts repairs app a = record {
  first = ap (λ (x : Application). x.own 0) a.is;
  counted = λ e. let bad : suc (length (package_starts 1 parts.packages)) ≡ 0 = sym (ap (λ (x : Application). x.count) a.is) ∙ e in cc bad;
  repairs = subst (λ (x : Application). HasRepairs x.shared.objects) (sym a.is) repairs;
}

-- WHAT NOTHING CAUGHT

-- the things of the host are in the machine once it is turned to it
laid_down : (xs : List begun.Own) (p : ℕ) (x : begun.Own) → p < length xs → get_or (set xs p x) 0 no_own ≡ (if nat_eq p 0 then x else get_or xs 0 no_own)
laid_down [] p x l = absurd (omega (arith, l))
laid_down (y ∷ ys) zero x l = refl
laid_down (y ∷ ys) (suc p) x l = ⊎_elim (λ h. absurd (omega (arith, h.1))) (λ h. ap (λ b. if b then x else y) (sym h.0)) (eqb_tells (suc p) 0)

own_turned : (v : WorldView) → v.machine.me < length v.others → own_of (turned 0 v).machine ≡ own_here v 0
own_turned v l = laid_down v.others v.machine.me (own_of v.machine) l

marks_same : (app : Application) (w : World) (m : View) (r : Ref) (o : Origin) → m.objects ≡ (w.own 0).objects → m.common ≡ app.shared.objects → m.known ≡ foreign_of app w.journal → marks_at m r o ≡ marks_there app w r o
marks_same app w m r (Own i) a b c = ap (λ xs. (object_at xs i).marks) a
marks_same app w m r (Common k) a b c = ap (λ xs. (object_at xs k).marks) b
marks_same app w m r Foreign a b c = ap (λ known. marks_of same_ref r known) c

marks_seen : (app : Application) (w : World) (v : WorldView) → HasAnswered app w v → v.machine.me < length v.others → 0 < length v.others → (r : Ref) → marks_in (turned 0 v).machine r ≡ host_marks app w r
marks_seen app w v h l g r =
    let m = (turned 0 v).machine in
    let own = own_turned v l in
    let me : m.me ≡ 0 = ap (λ (o : begun.Own). o.me) own ∙ h.suits.me 0 g in
    let objects : m.objects ≡ (w.own 0).objects = ap (λ (o : begun.Own). o.objects) own ∙ ap (λ (p : Party Ref MadeSymbol). p.objects) (sym (h.own 0 g)) in
    ap (λ n. marks_at m r ((naming_of n).origin r)) me ∙ marks_same app w m r (origin_of 0 r) objects h.suits.objects h.counts.known

told : (app : Application) (w : World) (v : WorldView) (text : Option (List ℕ)) → HasAnswered app w v → IsUncaughtIn v text → text ≡ uncaught_of app w
told app w v text h u =
    let same : marks_in (turned 0 v).machine ≡ host_marks app w = λ j r. marks_seen app w v h u.here u.host r j in
    let show : (Ref → Marks) → Thrown → List ℕ = λ f x. printed_value (λ r. printed_reference (f r)) x in
    u.is ∙ ap (λ f. option_map (show f) (thrown_in v.last)) same ∙ ap (λ o. option_map (shown app w) (thrown_in o)) h.last

uncaught_so : (app : Application) (w : World) (v : WorldView) (e : Ending) (text : Option (List ℕ)) → KeepsAnswer app w v e → IsUncaughtText v e text → text ≡ uncaught_text e (uncaught_of app w)
uncaught_so app w v ending.Uncaught text k u = told app w v text k u
uncaught_so app w v ending.Done text k u = u
uncaught_so app w v (ending.Budget p) text k u = u
uncaught_so app w v (ending.Fault p h) text k u = u

-- THE RUN OF AN APPLICATION

pub ran_from : {E : Type 0} (r : Result Report E) (emit : Bool) (dir : List ℕ) (packages : List Package) (ms : List (LoadedModule ModuleCode)) (policy : Rows) (c : CommonPart) (budget : ℕ) (before after : HostWorld) (first : WorldView) (names : List (List ℕ))
    → IsFirstOf packages ms policy c budget first → names ≡ party_names packages → IfOk r (HasReport emit dir names first before after) → IfOk r (HasRunFrom emit dir packages ms policy c budget before after)
ran_from (Ok r) emit dir packages ms policy c budget before after first names f e h = record { first = first; is = f; report = subst (λ ns. HasReport emit dir ns first before after r) e h }
ran_from (Err e) emit dir packages ms policy c budget before after first names f n h = tt

-- what the packages are made of is what they are made of as they are handed in
ends_so : Journal_is_net → Host_calls_are_crossings → Runs_are_well_made → (parts : RunParts) → HasRepairs parts.common → (budget crossings : ℕ) (last : WorldView) (names : List (List ℕ)) (ran : Ran) (r : Report) → AllInRange parts.packages → IsReportOf last names ran r → (app : Application) → IsApplicationOf parts app
    → IsOver app (heap.heap app budget crossings) last ran.ending → ran.crossings ≡ length (heap.heap app budget crossings).journal → EndsSo app budget crossings r
ends_so law calls made parts repairs budget n last names ran r range s app a over count =
    let w : World = heap.heap app budget n in
    let is : (heap.heap app budget n).control ≡ Over_with (ending_of r.ending) = over.control ∙ ap (λ e. Over_with (ending_of e)) (sym s.ending) in
    let well = subst IsWellMade (sym a.is) (made parts a.surroundings range) in
    record {
      machine = is;
      network = sym (law app well budget n).ending ∙ ap laws.ending_of is;
      uncaught = uncaught_so app (heap.heap app budget n) last ran.ending r.uncaught over.answer s.uncaught ∙ ap (λ e. uncaught_text e (uncaught_of app (heap.heap app budget n))) (sym s.ending);
      steps =
          s.steps
          ∙ steps_listed 0 w.steps last.steps (λ q l. (let here : 0 + q ≡ q = omega arith in ap w.steps here ∙ over.steps q l))
          ∙ ap (λ m. steps_from 0 m w.steps) (s.many ∙ ap length (sym s.names));
      count = s.crossings ∙ count;
      crossed = calls app (has_host parts repairs app a) budget n (ending_of r.ending) (ap laws.ending_of is);
    }

pub is_run : {E : Type 0} → Journal_is_net → Host_calls_are_crossings → Gone_at_the_newest → Runs_are_well_made → Common_part_calls_repairs → (k : Result Report E) (dir : List ℕ) (loaded : loads.Application ModuleCode) (policy : Rows) (budget : ℕ) (before after : HostWorld) (c : CommonPart)
    → IsCommonPart c → IfOk k (HasRunFrom true dir loaded.packages loaded.modules policy c budget before after) → IfOk k (IsEmittedRun dir loaded policy budget before after)
is_run law calls gone made calling (Err e) dir loaded policy budget before after c part run = run
is_run law calls gone made calling (Ok r) dir loaded policy budget before after c part run =
    let first = run.first in
    let f = run.is in
    let h = run.report in
    let come = h.runs.come in
    let parts = run_parts c loaded.packages loaded.modules policy in
    let repairs : HasRepairs parts.common = has_repairs c.objects (calling c part) in
    let range = parts_in_range loaded.packages loaded.modules policy 0 loaded.packages in
    let are_asked = asked_in parts budget first f come.talks come.asked in
    record {
      common = c;
      part = part;
      talks = come.talks;
      outside = come.outside;
      which = h.report.which ∙ come.newest;
      names = h.report.names;
      asked = are_asked;
      called = are_called gone (IsApplicationOf parts) (has_host parts repairs) budget come.talks are_asked;
      crossings = suc come.underway.crossings;
      ends = λ app a g.
          ends_so law calls made parts repairs budget (suc come.underway.crossings) h.last (party_names loaded.packages) h.ran r range h.report app a
          (subst (λ b. IsOver app (heap.heap app b (suc come.underway.crossings)) h.last h.ran.ending) f.limit (come.underway.stands app (begins_so parts budget first f app a) g))
          (come.underway.counts app (begins_so parts budget first f app a) g ∙ ap (λ b. length (heap.heap app b (suc come.underway.crossings)).journal) f.limit);
    }

-- WITH A TRACE

pub traced_from : {E : Type 0} (k : Result Report E) (dir : List ℕ) (packages : List Package) (ms : List (LoadedModule ModuleCode)) (policy : Rows) (c : CommonPart) (budget : ℕ) (before after : HostWorld) (first : WorldView) (names : List (List ℕ))
    → IsFirstOf packages ms policy c budget first → names ≡ party_names packages → IfOk k (HasTraceReport names dir first before after) → IfOk k (HasTracedFrom dir packages ms policy c budget before after)
traced_from (Ok r) dir packages ms policy c budget before after first names f e h = record { first = first; is = f; report = subst (λ ns. HasTraceReport ns dir first before after r) e h }
traced_from (Err e) dir packages ms policy c budget before after first names f n h = tt

pub trace_report : {E : Type 0} (k : Result Report E) (parties : List (List ℕ)) (dir : List ℕ) (first last : WorldView) (before after : HostWorld) (traced : Traced)
    → HasTraced parties dir first before last traced after → IfOk k (IsReportOf last parties (traced_as traced)) → IfOk k (HasTraceReport parties dir first before after)
trace_report (Ok r) parties dir first last before after traced h s = record { last = last; traced = traced; runs = h; report = s }
trace_report (Err e) parties dir first last before after traced h s = tt

-- the report says how the run ended
as_ran : (last : WorldView) (names : List (List ℕ)) (t : Traced) (ran : Ran) (r : Report) → t.ending ≡ ran.ending → IsReportOf last names (traced_as t) r → IsReportOf last names (record { ending = ran.ending; failed = t.failed; crossings = t.crossings }) r
as_ran last names t ran r e s = record { ending = s.ending ∙ e; which = s.which; uncaught = subst (λ x. IsUncaughtText last x r.uncaught) e s.uncaught; names = s.names; steps = s.steps; many = s.many; crossings = s.crossings }

pub is_traced : {E : Type 0} → Journal_is_net → Host_calls_are_crossings → Gone_at_the_newest → Runs_are_well_made → Common_part_calls_repairs → (k : Result Report E) (dir : List ℕ) (loaded : loads.Application ModuleCode) (policy : Rows) (budget : ℕ) (before after : HostWorld) (c : CommonPart)
    → IsCommonPart c → IfOk k (HasTracedFrom dir loaded.packages loaded.modules policy c budget before after) → IfOk k (IsTracedRun dir loaded policy budget before after)
is_traced law calls gone made calling (Err e) dir loaded policy budget before after c part run = run
is_traced law calls gone made calling (Ok r) dir loaded policy budget before after c part run =
    let first = run.first in
    let f = run.is in
    let h = run.report in
    let t = h.runs in
    let come = t.runs.come in
    let names = party_names loaded.packages in
    let parts = run_parts c loaded.packages loaded.modules policy in
    let repairs : HasRepairs parts.common = has_repairs c.objects (calling c part) in
    let range = parts_in_range loaded.packages loaded.modules policy 0 loaded.packages in
    let are_asked = asked_in parts budget first f come.talks come.asked in
    let n = suc come.underway.crossings in
    let ran : Ran = record { ending = t.ran.ending; failed = h.traced.failed; crossings = h.traced.crossings } in
    let s = as_ran h.last names h.traced t.ran r t.ending h.report in
    record {
      common = c;
      part = part;
      talks = come.talks;
      mid = t.mid;
      outside = come.outside;
      asked = are_asked;
      called = are_called gone (IsApplicationOf parts) (has_host parts repairs) budget come.talks are_asked;
      told = t.told;
      tells = ap (λ e. ending_told (ending_of e)) s.ending ∙ t.tells;
      text = t.text;
      puts = subst (λ w. PutsText t.text (newest_failed come.talks) w t.mid.output after.output) (sym h.report.which) (subst (λ v. PutsText t.text v h.traced.failed t.mid.output after.output) come.newest t.puts);
      rest = t.rest;
      names = s.names;
      crossings = n;
      ends = λ app a g.
          record {
            ends =
                ends_so law calls made parts repairs budget n h.last names ran r range s app a
                (subst (λ b. IsOver app (heap.heap app b n) h.last t.ran.ending) f.limit (come.underway.stands app (begins_so parts budget first f app a) g))
                (t.count app (begins_so parts budget first f app a) g ∙ ap (λ b. length (heap.heap app b n).journal) f.limit);
            trace = t.is app (begins_so parts budget first f app a) g ∙ ap (λ b. trace_text names app (heap.heap app b n) t.told) f.limit;
            reads = subst (λ b. IsReadable names app (heap.heap app b n) t.told t.text) f.limit (t.reads app (begins_so parts budget first f app a) g);
          };
    }
