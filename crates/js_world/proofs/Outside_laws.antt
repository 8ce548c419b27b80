-- A crossing that goes on with an answer of the outside.
use Rattle.std.proofs.Common.{◌≡◌, ◌<◌, ℕ, length, None, sym, ap, ◌∙◌, subst, Result, Ok, Err, IfOk}
use Rattle.js_text.specs.Naming.{naming_of}
use Rattle.js_crossing.specs.js_run.Heap as heap
use Rattle.js_crossing.specs.js_run.Heap.{has_run}
use Rattle.js_crossing.specs.js_run.Journal.{Application, outside_of}
use Rattle.js_crossing.specs.js_machine.Outsides.{IsAnswered, answer_of}
use Rattle.js_crossing.specs.js_machine.Steps.{point_of}
use Rattle.js_crossing.specs.js_machine.Stops.{RunsOn, runs_on, stop_of}
use Rattle.js_crossing.specs.js_machine.Views.{Around, View}
use Rattle.js_crossing.specs.js_machine.declared.frame.Mode.{Mode}
use Rattle.js_crossing.specs.js_machine.declared.frame.Mode.TheVariants as mode
use Rattle.js_crossing.specs.js_machine.declared.outside.HostAnswer.{HostAnswer}
use Rattle.js_crossing.specs.js_machine.declared.stop.Pause.{Pause}
use Rattle.js_crossing.specs.js_machine.declared.stop.Stop.{Stop}
use Rattle.js_crossing.specs.js_machine.declared.stop.Stop.TheVariants as stop
use Rattle.js_world.specs.Asked_outside.{Answers, GoesOnAfter}
use Rattle.js_world.specs.Crossings.{Follows}
use Rattle.js_world.specs.Worlds.{Counts, HasNewest, HasOwn, HasStopped, Suits, WorldView, around}
use Rattle.js_crossing.specs.declared.ending.Turn.{Turn}
use Rattle.js_world.proofs.Kept.{fits_here, kept_counts, kept_own, kept_suits}

-- the run of the party in the machine goes on after a pause as this mode says
pub record Pends (app : Application) (w : heap.World) (v : WorldView) (p : Pause) (m : Mode) (after : heap.World) : Type 0 where
  pub suits : Suits app v
  pub others : (q : ℕ) → (v.machine.me ≡ q → ⊥) → HasOwn app w v q
  pub counts : Counts app w v
  pub newest : HasNewest app w v
  pub comes : after ≡ (let a = around app suits.reads w.journal v.machine.me in has_run app v.machine.me w (runs_on (naming_of v.machine.me) a.shared a.env p (point_of a v.machine m)))

has_answer : (app : Application) (w after : heap.World) (v : WorldView) (n : View) (p : Pause) (x : HostAnswer) (m : Mode) → HasStopped app w v (stop.Outside p) after → v.machine.me < length v.others → IsAnswered x v.machine n m
    → outside_of app v.machine.me v.machine.calls ≡ answer_of x → Pends app w (record v { machine = n }) p m after
has_answer app w after v n p x m h there d told =
    let k = d.keeps in
    let me = v.machine.me in
    let a = around app h.suits.reads w.journal me in
    let point : point_of a n m ≡ point_of a v.machine mode.Outside = subst (λ (b : Around). point_of b n m ≡ point_of b v.machine mode.Outside) (fits_here app w v h.suits there h.counts.known) (d.stands a told) in
    record {
      suits = kept_suits app v n k h.suits;
      others = λ q ne. (let apart : me ≡ q → ⊥ = λ e. ne (k.0 ∙ e) in kept_own app w v n q k apart (h.others q apart));
      counts = kept_counts app w v n k h.counts;
      newest = h.newest;
      comes = h.comes
          ∙ ap (λ y. has_run app me w (runs_on (naming_of me) a.shared a.env p y)) (sym point)
          ∙ (λ j. (let b = around app h.suits.reads w.journal (sym k.0 j) in has_run app (sym k.0 j) w (runs_on (naming_of (sym k.0 j)) b.shared b.env p (point_of b n m))));
    }

has_gone_on : (app : Application) (w after : heap.World) (v : WorldView) (n : View) (p : Pause) (m : Mode) (s : Stop) → Pends app w v p m after → v.machine.me < length v.others → RunsOn None p m v.machine n s → HasStopped app w (record v { machine = n }) s after
has_gone_on app w after v n p m s h there d =
    let k = d.keeps in
    let me = v.machine.me in
    let a = around app h.suits.reads w.journal me in
    let stop : stop_of a n s ≡ runs_on (naming_of me) a.shared a.env p (point_of a v.machine m) =
    subst (λ (b : Around). stop_of b n s ≡ runs_on (naming_of me) b.shared b.env p (point_of b v.machine m)) (fits_here app w v h.suits there h.counts.known) (d.stops a (h.suits.meters me there)) in
    record {
      suits = kept_suits app v n k h.suits;
      others = λ q ne. (let apart : me ≡ q → ⊥ = λ e. ne (k.0 ∙ e) in kept_own app w v n q k apart (h.others q apart));
      counts = kept_counts app w v n k h.counts;
      newest = h.newest;
      comes = h.comes
          ∙ ap (has_run app me w) (sym stop)
          ∙ (λ j. has_run app (sym k.0 j) w (stop_of (around app h.suits.reads w.journal (sym k.0 j)) n s));
    }

went_on : (app : Application) (w after : heap.World) (old new : WorldView) (p : Pause) (x : HostAnswer) (s : Stop) → HasStopped app w old (stop.Outside p) after → outside_of app old.machine.me old.machine.calls ≡ answer_of x
    → GoesOnAfter p x old.machine new.machine s → old.machine.me < length old.others → new ≡ record old { machine = new.machine } → HasStopped app w new s after
went_on app w after old new p x s h told g l is =
    let low : WorldView = record old { machine = g.mid } in
    let there : low.machine.me < length low.others = subst (λ i. i < length old.others) (sym g.answered.keeps.0) l in
    subst (λ v. HasStopped app w v s after) (sym is) (has_gone_on app w after low new.machine p g.mode s (has_answer app w after old g.mid p x g.mode h l g.answered told) there g.runs)

pub answers_so : {E : Type 0} (k : Result Turn E) (p : Pause) (x : HostAnswer) (s : Stop) (old mid new : WorldView) → GoesOnAfter p x old.machine mid.machine s → old.machine.me < length old.others → mid ≡ record old { machine = mid.machine }
    → IfOk k (Follows s mid new) → IfOk k (Answers p x old new)
answers_so (Ok t) p x s old mid new g l is f = record {
  answers = λ app w after h told. f.follows app w after (went_on app w after old mid p x s h told g l is);
  budget = f.budget ∙ ap (λ (v : WorldView). v.budget) is;
}
answers_so (Err z) p x s old mid new g l is f = tt

pub gone_on : {E : Type 0} (k : Result Stop E) (p : Pause) (x : HostAnswer) (m : Mode) (mid base old new : View) → IsAnswered x base mid m → IfOk k (RunsOn None p m mid new) → base ≡ old → IfOk k (GoesOnAfter p x old new)
gone_on (Ok s) p x m mid base old new d h e = record { mid = mid; mode = m; answered = subst (λ b. IsAnswered x b mid m) e d; runs = h }
gone_on (Err z) p x m mid base old new d h e = tt
