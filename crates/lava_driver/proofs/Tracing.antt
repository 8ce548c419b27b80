-- How the trace of a run goes on with each crossing.
use Rattle.std.proofs.Common.{◌≡◌, ℕ, suc, false, List, [], ◌∷◌, Option, Some, None, IfSome, refl, sym, ap, ◌∙◌, subst}
use Rattle.js_world.specs.js_run.Heap.{World, begins, cross, heap}
use Rattle.js_world.specs.js_run.Journal.{Application, Crossing, first_import}
use Rattle.js_world.specs.js_machine.declared.frame.Mode.{Mode}
use Rattle.js_world.specs.js_machine.declared.outside.HostAnswer.{HostAnswer}
use Rattle.js_world.specs.js_machine.declared.stop.Pause.{Pause}
use Rattle.js_world.specs.Asked_outside.{Answers}
use Rattle.js_world.specs.Crossings.{Rests}
use Rattle.js_world.specs.First.{IsBegun}
use Rattle.js_world.specs.js_crossing.Newest.{newest_crossing}
use Rattle.js_world.specs.Worlds.{After, Crosses, HasNewest, WorldView}
use Rattle.js_world.specs.js_crossing.declared.ending.Ending.TheVariants as ending
use Rattle.js_world.specs.js_crossing.declared.ending.Turn.{Turn}
use Rattle.js_world.specs.js_crossing.declared.ending.Turn.TheVariants as turn
use Rattle.lava_host.specs.Hosts.{HostWorld}
use Rattle.lava_host.specs.declared.fault.Which.{Which}
use Rattle.lava_driver.specs.Ran.{made_at}
use Rattle.lava_driver.specs.Talks.{Agrees, IsTalk, Talk, talk_of}
use Rattle.lava_driver.specs.Traces.{AllCanBeRead, CanBeRead, HasNoted, HasTracedTo, HasWritten, IsTraceOf, IsTracing, TraceText, trace_of, trace_start, with_newest}
use Rattle.lava_driver.proofs.Growing.{Grown, advance, journal_at, runs_grown, stands_so, stopped_grown}
use Rattle.lava_driver.proofs.Underway.{asked_here}

-- THE LINES

-- the line of the newest crossing is written
wrote : (parties : List (List ℕ)) (app : Application) (after : World) (js : List Crossing) (v : WorldView) (old new : TraceText) → ((x : Crossing) × (after.journal ≡ x ∷ js)) → HasNewest app after v → HasWritten v old new → IsTraceOf parties app js old
    → IsTraceOf parties app after.journal new
wrote parties app after js v old new g h w t =
    let x : Crossing = g.0 in
    let newest : Some w.newest ≡ newest_crossing app (x ∷ js) = sym w.is ∙ h w.traces ∙ ap (newest_crossing app) g.1 in
    record {
      is =
          w.written
          ∙ ap (with_newest old) newest
          ∙ ap (λ o. with_newest o (newest_crossing app (x ∷ js))) t.is
          ∙ ap (trace_of parties app) (sym g.1);
      ranges =
          subst (AllCanBeRead parties app) (sym g.1)
          (subst (λ o. IfSome o (CanBeRead (trace_of parties app js).asks)) newest (subst (λ asks. CanBeRead asks w.newest) (ap (λ (o : TraceText). o.asks) t.is) w.reads), t.ranges);
    }

-- nothing crossed
same_lines : (parties : List (List ℕ)) (app : Application) (js ks : List Crossing) (old new : TraceText) → ks ≡ js → new ≡ old → IsTraceOf parties app js old → IsTraceOf parties app ks new
same_lines parties app js ks old new g n t = record { is = n ∙ t.is ∙ ap (trace_of parties app) (sym g); ranges = subst (AllCanBeRead parties app) (sym g) t.ranges }

noted : (parties : List (List ℕ)) (app : Application) (w after : World) (v : WorldView) (t : Turn) (old new : TraceText) → Grown after.control w.journal after.journal → After app w after v t → HasNoted v t old new → IsTraceOf parties app w.journal old
    → IsTraceOf parties app (journal_at t w after) new
noted parties app w after v (turn.Runs m) old new g a n t = wrote parties app after w.journal v old new (subst (λ c. Grown c w.journal after.journal) a.control g) a.newest n t
noted parties app w after v (turn.Over ending.Done) old new g a n t = wrote parties app after w.journal v old new (subst (λ c. Grown c w.journal after.journal) a.control g) a.newest n t
noted parties app w after v (turn.Over ending.Uncaught) old new g a n t = wrote parties app after w.journal v old new (subst (λ c. Grown c w.journal after.journal) a.control g) a.newest n t
noted parties app w after v (turn.Over (ending.Budget p)) old new g a n t = same_lines parties app w.journal after.journal old new (subst (λ c. Grown c w.journal after.journal) a.control g) n t
noted parties app w after v (turn.Over (ending.Fault p h)) old new g a n t = same_lines parties app w.journal after.journal old new (subst (λ c. Grown c w.journal after.journal) a.control g) n t
noted parties app w after v (turn.Asks p) old new g a n t = same_lines parties app w.journal w.journal old new refl n t

-- WHERE THE RUN STANDS

lines_so : (parties : List (List ℕ)) (app : Application) (b n : ℕ) (t : Turn) (x : TraceText) → IsTraceOf parties app (journal_at t (heap app b n) (heap app b (suc n))) x → IsTraceOf parties app (heap app b (made_at t (advance t n))).journal x
lines_so parties app b n (turn.Runs m) x h = h
lines_so parties app b n (turn.Over e) x h = h
lines_so parties app b n (turn.Asks p) x h = h

-- the host's first import has its line
pub first_traced : (parties : List (List ℕ)) (first mid new : WorldView) (m : Mode) (old now : TraceText) → ((app : Application) (w : World) → Rests app w first → Rests app w mid) → mid.budget ≡ first.budget → IsBegun mid new m → old ≡ trace_start parties
    → HasWritten new old now → IsTracing parties first [] new (turn.Runs m) now
first_traced parties first mid new m old now rests e b t w = record {
  crossings = 0;
  stands = λ app r g. b.begins app (rests app (begins app) r);
  lines = λ app r g. wrote parties app (begins app) [] new old now (first_import, refl) (b.begins app (rests app (begins app) r)).newest w (record { is = t; ranges = tt });
  budget = b.budget ∙ e;
}

-- it runs on to the next crossing
pub traced_on : (parties : List (List ℕ)) (first : WorldView) (talks : List Talk) (old new : WorldView) (m : Mode) (t : Turn) (x y : TraceText) → IsTracing parties first talks old (turn.Runs m) x → Crosses old m new t → HasNoted new t x y
    → IsTracing parties first talks new t y
traced_on parties first talks old new m t x y u c noted_so =
    let n = u.crossings in
    let b = first.budget in
    let after : (app : Application) → Rests app (begins app) first → Agrees app talks → After app (heap app b n) (heap app b (suc n)) new t =
    λ app r g. subst (λ k. After app (heap app b n) (cross app k (heap app b n) (heap app b n).control) new t) u.budget (c.crosses app (heap app b n) (u.stands app r g)) in
    record {
      crossings = advance t n;
      stands = λ app r g. stands_so app b n new t (after app r g);
      lines = λ app r g. lines_so parties app b n t y (noted parties app (heap app b n) (heap app b (suc n)) new t x y (runs_grown app b (heap app b n) old m (u.stands app r g)) (after app r g) noted_so (u.lines app r g));
      budget = c.budget ∙ u.budget;
    }

-- nothing was asked yet
pub none_traced : (parties : List (List ℕ)) (dir : List ℕ) (first new : WorldView) (w : HostWorld) (t : Turn) (x : TraceText) → IsTracing parties first [] new t x → HasTracedTo parties dir first w new t None x w
none_traced parties dir first new w t x u = record { talks = []; outside = refl; asked = tt; tracing = u; newest = refl }

-- it has come further
pub traced_further : (parties : List (List ℕ)) (dir : List ℕ) (first old new : WorldView) (start w : HostWorld) (m : Mode) (t : Turn) (failed : Option Which) (x y : TraceText) → HasTracedTo parties dir first start old (turn.Runs m) failed x w
    → ((talks : List Talk) → IsTracing parties first talks old (turn.Runs m) x → IsTracing parties first talks new t y) → HasTracedTo parties dir first start new t failed y w
traced_further parties dir first old new start w m t failed x y h go = record { talks = h.talks; outside = h.outside; asked = h.asked; tracing = go h.talks h.tracing; newest = h.newest }

-- the outside has answered
pub traced_by : (parties : List (List ℕ)) (dir : List ℕ) (first old new : WorldView) (start before after : HostWorld) (p : Pause) (a : HostAnswer) (t : Turn) (earlier failed : Option Which) (x y : TraceText)
    → HasTracedTo parties dir first start old (turn.Asks p) earlier x before → IsTalk false dir old.machine.me (talk_of old a failed) before after → Answers p a old new t → HasNoted new t x y → HasTracedTo parties dir first start new t failed y after
traced_by parties dir first old new start before after p a t earlier failed x y h talk answers noted_so =
    let u = h.tracing in
    let n = u.crossings in
    let b = first.budget in
    let came : (app : Application) → Rests app (begins app) first → Agrees app (talk_of old a failed ∷ h.talks) → After app (heap app b n) (heap app b (suc n)) new t =
    λ app r g. answers.answers app (heap app b n) (heap app b (suc n)) (u.stands app r g.1) g.0 in
    record {
      talks = talk_of old a failed ∷ h.talks;
      outside = (before, (h.outside, talk));
      asked = (asked_here first old h.talks p a failed n u.stands, h.asked);
      tracing = record {
        crossings = advance t n;
        stands = λ app r g. stands_so app b n new t (came app r g);
        lines = λ app r g. lines_so parties app b n t y (noted parties app (heap app b n) (heap app b (suc n)) new t x y (stopped_grown app (heap app b n) (heap app b (suc n)) old p (u.stands app r g.1)) (came app r g) noted_so (u.lines app r g.1));
        budget = answers.budget ∙ u.budget;
      };
      newest = refl;
    }
