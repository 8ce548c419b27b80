-- The trace of a run that is over.
use Rattle.std.proofs.Common.{◌≡◌, ◌<◌, ℕ, suc, ◌+◌, true, List, [], ◌∷◌, ◌++◌, length, get_or, Option, Some, refl, sym, ap, ◌∙◌, subst, arith, Result, Ok, Err, IfOk, OnOk}
use Rattle.std.specs.Option.{option_map}
use Rattle.js_world.specs.js_run.Heap.{World, heap}
use Rattle.js_world.specs.js_run.Journal.{Application, Crossing}
use Rattle.js_world.specs.Worlds.{IsOver, WorldView}
use Rattle.js_world.specs.js_crossing.declared.ending.Turn.TheVariants as turn
use Rattle.js_world.specs.js_crossing.declared.newest.TracedCrossing.{TracedCrossing}
use Rattle.lava_host.specs.Hosts.{HostWorld}
use Rattle.lava_journal.specs.Lines.{end_text}
use Rattle.lava_ranges.specs.Starts.{MayBeginTrace}
use Rattle.lava_driver.specs.Traces.{CanBeRead, HasTraced, HasTracedTo, HasWritten, IsFinished, IsInBounds, TraceText, steps_from, trace_of, with_crossing}
use Rattle.lava_driver.specs.declared.run.Ran.{Ran}
use Rattle.lava_driver.specs.declared.trace_run.Traced.{Traced}

-- what a borrowed answer is
pub kept_so : {B : Type 0} (f : B → TracedCrossing) (o : Option B) (b : B) (n : Option TracedCrossing) → option_map f o ≡ n → o ≡ Some b → n ≡ Some (f b)
kept_so f o b n e d = sym e ∙ ap (option_map f) d

-- the newest crossing is written
pub written_so : {A E : Type 0} (k : Result A E) (v : WorldView) (old new : TraceText) (x : TracedCrossing) → v.tracing ≡ true → v.newest ≡ Some x → OnOk k ((new ≡ with_crossing old x) × CanBeRead old.asks x) → OnOk k (HasWritten v old new)
written_so (Ok a) v old new x t is w = record { traces = t; newest = x; is = is; written = w.0; reads = w.1 }
written_so (Err e) v old new x t is w = tt

-- the steps of all parties, as a list
pub steps_listed : (p : ℕ) (f : ℕ → ℕ) (xs : List ℕ) → ((q : ℕ) → q < length xs → f (p + q) ≡ get_or xs q 0) → xs ≡ steps_from p (length xs) f
steps_listed p f [] h = refl
steps_listed p f (x ∷ xs) h =
    let here : p + 0 ≡ p = omega arith in
    let first : f p ≡ x = ap f (sym here) ∙ h 0 (omega arith) in
    let more : (q : ℕ) → q < length xs → f (suc p + q) ≡ get_or xs q 0 =
    λ q l. (let next : suc p + q ≡ p + suc q = omega arith in ap f next ∙ h (suc q) (omega (arith, l))) in
    λ j. sym first j ∷ steps_listed (suc p) f xs more j

-- those of a run that is over
whole_steps : (app : Application) (w : World) (now : WorldView) (ran : Ran) (parties : List (List ℕ)) → IsOver app w now ran.ending → length now.steps ≡ length parties → now.steps ≡ steps_from 0 (length parties) w.steps
whole_steps app w now ran parties over size =
    steps_listed 0 w.steps now.steps (λ q l. (let here : 0 + q ≡ q = omega arith in ap w.steps here ∙ over.steps q l)) ∙ ap (λ m. steps_from 0 m w.steps) size

-- each crossing of the journal has its line
counted : (parties : List (List ℕ)) (app : Application) (js : List Crossing) → (trace_of parties app js).count ≡ length js
counted parties app [] = refl
counted parties app (x ∷ js) = let next : length js + 1 ≡ suc (length js) = omega arith in ap (λ n. n + 1) (counted parties app js) ∙ next

pub traced_whole : (parties : List (List ℕ)) (dir : List ℕ) (first now : WorldView) (before mid after : HostWorld) (ran : Ran) (trace : TraceText) (r : Traced) → HasTracedTo parties dir first before now (turn.Over ran.ending) ran.failed trace mid
    → MayBeginTrace parties → ran.crossings ≡ trace.count → length now.steps ≡ length parties → IsFinished now ran trace mid.output after.output r → after ≡ record mid { output = after.output } → HasTraced parties dir first before now r after
traced_whole parties dir first now before mid after ran trace r h begin tally size f rest =
    let u = h.tracing in
    let n = u.crossings in
    let b = first.budget in
    record {
      ran = ran;
      mid = mid;
      runs = record {
        come = record {
          talks = h.talks;
          outside = h.outside;
          asked = h.asked;
          underway = record {
            crossings = n;
            stands = u.stands;
            counts = λ app s g. tally ∙ ap (λ (t : TraceText). t.count) (u.lines app s g).is ∙ counted parties app (heap app b (suc n)).journal;
            budget = u.budget;
          };
          newest = h.newest;
        };
      };
      ending = f.ending;
      told = f.told;
      tells = f.tells;
      text = trace.text ++ end_text now.steps f.told;
      puts = f.puts;
      rest = rest;
      is = λ app s g.
          (let w : World = heap app b (suc n) in
          let over : IsOver app w now ran.ending = u.stands app s g in
          let lines : trace ≡ trace_of parties app w.journal = (u.lines app s g).is in
          let steps : now.steps ≡ steps_from 0 (length parties) w.steps = whole_steps app w now ran parties over size in
          λ j. (lines j).text ++ end_text (steps j) f.told);
      count = λ app s g. f.crossings ∙ ap (λ (t : TraceText). t.count) (u.lines app s g).is ∙ counted parties app (heap app b (suc n)).journal;
      reads = λ app s g.
          (let w : World = heap app b (suc n) in
          let text : List ℕ = trace.text ++ end_text now.steps f.told in
          let count : trace.count ≡ length w.journal = ap (λ (t : TraceText). t.count) (u.lines app s g).is ∙ counted parties app w.journal in
          record {
            begins_so = begin;
            ranges = (u.lines app s g).ranges;
            bounds = subst (λ ss. IsInBounds text ss f.told (length w.journal)) (whole_steps app w now ran parties (u.stands app s g) size) (subst (IsInBounds text now.steps f.told) count f.bounds);
          });
    }

pub whole_so : {E : Type 0} (k : Result Traced E) (parties : List (List ℕ)) (dir : List ℕ) (first now : WorldView) (before mid after : HostWorld) (ran : Ran) (trace : TraceText) → HasTracedTo parties dir first before now (turn.Over ran.ending) ran.failed trace mid
    → MayBeginTrace parties → ran.crossings ≡ trace.count → length now.steps ≡ length parties → IfOk k (IsFinished now ran trace mid.output after.output) → after ≡ record mid { output = after.output } → IfOk k (λ r. HasTraced parties dir first before now r after)
whole_so (Ok r) parties dir first now before mid after ran trace h begin tally size f rest = traced_whole parties dir first now before mid after ran trace r h begin tally size f rest
whole_so (Err e) parties dir first now before mid after ran trace h begin tally size f rest = tt
