-- How a run goes on, from the first import to the end.
use Rattle.std.proofs.Common.{◌≡◌, ℕ, zero, suc, Bool, List, [], ◌∷◌, drop, Option, Some, None, refl, sym, ap, ◌∙◌, subst, Result, Ok, Err, IfOk}
use Rattle.std.specs.Option.{unwrap_or}
use Rattle.js_text.specs.Naming.{naming_of}
use Rattle.js_world.specs.js_run.Completions as halt
use Rattle.js_world.specs.js_run.Hosts.{outside_answers}
use Rattle.js_world.specs.js_run.Journal.{Application, Fault, outside_of}
use Rattle.js_world.specs.js_run.Outside.{OutsideAnswer, OutsideCall, Fails, IsGone}
use Rattle.js_world.specs.js_run.Runs.{Stopped, answered}
use Rattle.js_world.specs.js_machine.Outsides.{answer_of, newest_call}
use Rattle.js_world.specs.js_machine.declared.outside.HostAnswer.TheVariants as host_answer
use Rattle.lava_driver.specs.declared.answers.Answered.{Answered}
use Rattle.js_world.specs.js_run.Heap.{Control, Over_with, World, begins, cross, has_run, heap}
use Rattle.js_world.specs.js_machine.Steps.{settles}
use Rattle.js_world.specs.js_machine.Stops.{runs_on, told_as}
use Rattle.js_world.specs.js_machine.Views.{party_of}
use Rattle.js_world.specs.js_machine.declared.frame.Mode.{Mode}
use Rattle.js_world.specs.js_machine.declared.outside.HostAnswer.{HostAnswer}
use Rattle.js_world.specs.js_machine.declared.stop.Pause.{Pause}
use Rattle.js_world.specs.Asked_outside.{Answers}
use Rattle.js_world.specs.Crossings.{Rests}
use Rattle.js_world.specs.First.{IsBegun}
use Rattle.js_world.specs.js_machine.declared.stop.Stop.TheVariants as stop
use Rattle.js_world.specs.Worlds.{After, Crosses, HasStopped, WorldView, around}
use Rattle.js_world.specs.js_crossing.declared.ending.Turn.{Turn}
use Rattle.js_world.specs.js_crossing.declared.ending.Turn.TheVariants as turn
use Rattle.lava_host.specs.Hosts.{HostWorld}
use Rattle.lava_host.specs.declared.fault.Which.{Which}
use Rattle.lava_driver.specs.Ran.{BeginsSo, HasComeTo, IsAskedIn, IsUnderway, StandsAt, counted}
use Rattle.lava_driver.specs.Talks.{Agrees, IsHostTalk, IsTalk, Talk, talk_of}
use Rattle.lava_driver.proofs.Growing.{advance, counts_then, runs_grown, stands_so, stopped_grown}

-- the host's import is sent
begins_so : (first new : WorldView) (m : Mode) → IsBegun first new m → IsUnderway first [] new (turn.Runs m) 1
begins_so first new m b = record { crossings = 0; stands = λ app r a. b.begins app r; counts = λ app r a. refl; budget = b.budget }

pub begun : {E : Type 0} (r : Result Mode E) (first new : WorldView) → IfOk r (IsBegun first new) → IfOk r (λ m. IsUnderway first [] new (turn.Runs m) 1)
begun (Ok m) first new b = begins_so first new m b
begun (Err x) first new b = tt

-- it runs on to the next crossing
runs_so : (first : WorldView) (talks : List Talk) (old new : WorldView) (m : Mode) (t : Turn) (k : ℕ) → IsUnderway first talks old (turn.Runs m) k → Crosses old m new t → IsUnderway first talks new t (counted t k)
runs_so first talks old new m t k u c =
    let n = u.crossings in
    let b = first.budget in
    let after : (app : Application) → Rests app (begins app) first → Agrees app talks → After app (heap app b n) (heap app b (suc n)) new t =
    λ app r g. subst (λ x. After app (heap app b n) (cross app x (heap app b n) (heap app b n).control) new t) u.budget (c.crosses app (heap app b n) (u.stands app r g)) in
    record {
      crossings = advance t n;
      stands = λ app r g. stands_so app b n new t (after app r g);
      counts = λ app r g. counts_then app b n k new t (runs_grown app b (heap app b n) old m (u.stands app r g)) (after app r g) (u.counts app r g);
      budget = c.budget ∙ u.budget;
    }

pub ran_on : (first : WorldView) (talks : List Talk) (old new : WorldView) (m : Mode) (t : Turn) (k n : ℕ) → n ≡ counted t k → Crosses old m new t → IsUnderway first talks old (turn.Runs m) k → IsUnderway first talks new t n
ran_on first talks old new m t k n e c u = subst (IsUnderway first talks new t) (sym e) (runs_so first talks old new m t k u c)

-- nothing was asked yet
pub none_asked : (emit : Bool) (dir : List ℕ) (first new : WorldView) (w : HostWorld) (t : Turn) (k : ℕ) → IsUnderway first [] new t k → HasComeTo emit dir first w new t None k w
none_asked emit dir first new w t k u = record { talks = []; outside = refl; asked = tt; underway = u; newest = refl }

-- it has come further
pub further : {S E : Type 0} (r : Result S E) (t : S → Turn) (f : S → Option Which) (c : S → ℕ) (emit : Bool) (dir : List ℕ) (first old new : WorldView) (start w : HostWorld) (m : Mode) (failed : Option Which) (k : ℕ)
    → HasComeTo emit dir first start old (turn.Runs m) failed k w → ((talks : List Talk) → IsUnderway first talks old (turn.Runs m) k → IfOk r (λ s. IsUnderway first talks new (t s) (c s))) → IfOk r (λ s. f s ≡ failed)
    → IfOk r (λ s. HasComeTo emit dir first start new (t s) (f s) (c s) w)
further (Ok s) t f c emit dir first old new start w m failed k h go same = record { talks = h.talks; outside = h.outside; asked = h.asked; underway = go h.talks h.underway; newest = same ∙ h.newest }
further (Err e) t f c emit dir first old new start w m failed k h go same = tt

-- a run ends where its outside has no answer
gone_told : (told : Option ℕ) (app : Application) (p n : ℕ) (w : World) → (has_run app p w (told_as told (Stopped halt.Outside n))).control ≡ Over_with (Fault p halt.Outside)
gone_told None app p n w = refl
gone_told (Some k) app p n w = refl

gone : (app : Application) (w after : World) (v : WorldView) (p : Pause) → HasStopped app w v (stop.Outside p) after → outside_of app v.machine.me v.machine.calls ≡ IsGone → after.control ≡ Over_with (Fault v.machine.me halt.Outside)
gone app w after v p h e =
    let me = v.machine.me in
    let a = around app h.suits.reads w.journal me in
    let names = naming_of me in
    let leads : OutsideAnswer → Control = λ o. (has_run app me w (runs_on names a.shared a.env p (settles a v.machine v.machine.values (answered names a.env (outside_answers names a.shared (party_of a v.machine) o))))).control in
    ap (λ (x : World). x.control) h.comes ∙ ap leads e ∙ gone_told p.told app me p.steps w

pub asked_here : (first old : WorldView) (talks : List Talk) (p : Pause) (x : HostAnswer) (failed : Option Which) (n : ℕ) → ((app : Application) → Rests app (begins app) first → Agrees app talks → StandsAt app first.budget n old (turn.Asks p))
    → IsAskedIn (BeginsSo first) first.budget (talk_of old x failed) talks
asked_here first old talks p x failed n stands =
    λ app b g e. (suc n, gone app (heap app first.budget n) (heap app first.budget (suc n)) old p (stands app b g) e)

-- the outside has answered
pub came_by : (emit : Bool) (dir : List ℕ) (first old new : WorldView) (start before after : HostWorld) (p : Pause) (x : HostAnswer) (t : Turn) (earlier failed : Option Which) (k m : ℕ) → HasComeTo emit dir first start old (turn.Asks p) earlier k before
    → IsTalk emit dir old.machine.me (talk_of old x failed) before after → Answers p x old new t → m ≡ counted t k → HasComeTo emit dir first start new t failed m after
came_by emit dir first old new start before after p x t earlier failed k m h talk a e =
    let u = h.underway in
    let n = u.crossings in
    let b = first.budget in
    let came : (app : Application) → Rests app (begins app) first → Agrees app (talk_of old x failed ∷ h.talks) → After app (heap app b n) (heap app b (suc n)) new t =
    λ app r g. a.answers app (heap app b n) (heap app b (suc n)) (u.stands app r g.1) g.0 in
    record {
      talks = talk_of old x failed ∷ h.talks;
      outside = (before, (h.outside, talk));
      asked = (asked_here first old h.talks p x failed n u.stands, h.asked);
      underway = record {
        crossings = advance t n;
        stands = λ app r g. stands_so app b n new t (came app r g);
        counts = λ app r g. e ∙ counts_then app b n k new t (stopped_grown app (heap app b n) (heap app b (suc n)) old p (u.stands app r g.1)) (came app r g) (u.counts app r g.1);
        budget = a.budget ∙ u.budget;
      };
      newest = refl;
    }

-- ANSWERS

-- another party than the host has no answer
others_none : (emit : Bool) (dir : List ℕ) (p : ℕ) (t : Talk) (w : HostWorld) → (p ≡ 0 → ⊥) → t.answer ≡ Fails [] → t.failed ≡ None → IsTalk emit dir p t w w
others_none emit dir zero t w n a f = absurd (n refl)
others_none emit dir (suc p) t w n a f = record { is = a; none = f; rest = refl }

pub refused : (emit : Bool) (dir : List ℕ) (v : WorldView) (text : List ℕ) (w : HostWorld) → (v.machine.me ≡ 0 → ⊥) → text ≡ [] → let t = talk_of v (host_answer.Fails text) None in IsTalk emit dir t.party t w w
refused emit dir v text w n e = others_none emit dir v.machine.me (talk_of v (host_answer.Fails text) None) w n (ap Fails e) refl

-- the newest of the calls, and those before it
newest_of : (cs : List OutsideCall) (c : OutsideCall) → newest_call cs ≡ Some c → cs ≡ c ∷ drop 1 cs
newest_of [] c e = cc
newest_of (x ∷ xs) c e = ap (λ (o : Option OutsideCall). unwrap_or o x ∷ xs) e

-- the host has answered
pub host_talked : {E : Type 0} (r : Result Answered E) (emit : Bool) (dir : List ℕ) (v : WorldView) (c : OutsideCall) (w after : HostWorld) → v.machine.me ≡ 0 → newest_call v.machine.calls ≡ Some c
    → ((earlier : List OutsideCall) → IfOk r (λ x. IsHostTalk emit dir (record { party = 0; calls = c ∷ earlier; answer = answer_of x.answer; failed = x.failed }) w after))
    → IfOk r (λ x. let t = talk_of v x.answer x.failed in IsTalk emit dir t.party t w after)
host_talked (Ok x) emit dir v c w after m n h =
    let calls = newest_of v.machine.calls c n in
    let told = subst (λ l. IsTalk emit dir 0 (record { party = 0; calls = l; answer = answer_of x.answer; failed = x.failed }) w after) (sym calls) (h (drop 1 v.machine.calls)) in
    subst (λ p. IsTalk emit dir p (record { party = p; calls = v.machine.calls; answer = answer_of x.answer; failed = x.failed }) w after) (sym m) told
host_talked (Err y) emit dir v c w after m n h = tt
