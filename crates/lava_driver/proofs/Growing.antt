-- What each turn does to the journal of a run, and where the run stands then.
use Rattle.std.proofs.Common.{◌≡◌, ℕ, suc, ◌+◌, ◌-◌, true, false, Bool, List, [], ◌∷◌, length, refl, sym, ap, ◌∙◌, subst, arith}
use Rattle.lava_base.specs.declared.ids.MadeSymbol.{MadeSymbol}
use Rattle.lava_base.specs.declared.ids.Ref.{Ref}
use Rattle.js_text.specs.Naming.{naming_of}
use Rattle.js_desc.specs.declared.reply.Reply.{Reply}
use Rattle.js_desc.specs.declared.reply.Reply.TheVariants as reply
use Rattle.js_world.specs.js_run.Acts.{Next}
use Rattle.js_world.specs.js_run.Completions.{reply_of}
use Rattle.js_world.specs.js_run.Heap.{Control, Over_with, Runs, World, charged, cross, has_asked, has_run, heap, replies_of, with_own}
use Rattle.js_world.specs.js_run.Identities.{Replies, Requests}
use Rattle.js_world.specs.js_run.Journal as journal
use Rattle.js_world.specs.js_run.Journal.{Application, Crossing, asked_party, crossing, end_of, env_of, has_room, table_of}
use Rattle.js_world.specs.js_run.Parties.{Party}
use Rattle.js_world.specs.js_run.Runs.{Gave, Point, Request, Sent, Short, Stop, Stopped, run}
use Rattle.js_world.specs.js_machine.Steps.{point_of}
use Rattle.js_world.specs.js_machine.Stops.{stop_of}
use Rattle.js_world.specs.js_machine.declared.frame.Mode.{Mode}
use Rattle.js_world.specs.js_machine.declared.stop.Pause.{Pause}
use Rattle.js_world.specs.js_machine.declared.stop.Stop.TheVariants as stop
use Rattle.js_world.specs.Worlds.{After, HasStopped, Stands, WorldView, around}
use Rattle.js_world.specs.js_crossing.declared.ending.Ending.TheVariants as ending
use Rattle.js_world.specs.js_crossing.declared.ending.Turn.{Turn}
use Rattle.js_world.specs.js_crossing.declared.ending.Turn.TheVariants as turn
use Rattle.lava_driver.specs.Ran.{StandsAt, counted, made_at}

-- THE JOURNAL GROWS

-- what a run of a party does to the journal, by how it stops
abbrev pub Grown : Control → (older now : List Crossing) → Type 0
Grown (Runs p point) js ks = (x : Crossing) × (ks ≡ x ∷ js)
Grown (Over_with journal.Done) js ks = (x : Crossing) × (ks ≡ x ∷ js)
Grown (Over_with journal.Uncaught) js ks = (x : Crossing) × (ks ≡ x ∷ js)
Grown (Over_with (journal.Budget p)) js ks = ks ≡ js
Grown (Over_with (journal.Fault p h)) js ks = ks ≡ js
Grown (Over_with (journal.Parties p)) js ks = ks ≡ js

answered_grown : (r : Reply Ref MadeSymbol) (x : Crossing) (js : List Crossing) → Grown (Over_with (end_of r)) js (x ∷ js)
answered_grown (reply.Value v) x js = (x, refl)
answered_grown (reply.Proto p) x js = (x, refl)
answered_grown (reply.Flag b) x js = (x, refl)
answered_grown (reply.Desc d) x js = (x, refl)
answered_grown (reply.Keys ks) x js = (x, refl)
answered_grown (reply.Throw v) x js = (x, refl)

replies_grown : (app : Application) (x : ℕ → Crossing) (r : Reply Ref MadeSymbol) (bs : List (ℕ × List (Next Ref MadeSymbol))) (w : World) → let y = replies_of app x r bs w in Grown y.control w.journal y.journal
replies_grown app x r [] w = answered_grown r (x 0) w.journal
replies_grown app x r (b ∷ bs) w = (x b.0, refl)

asked_grown : (app : Application) (p : ℕ) (w : World) (o : Request Ref MadeSymbol) (own : Party Ref MadeSymbol) (ks : List (Next Ref MadeSymbol)) (n : ℕ) (b : Bool) → let y = has_asked app p w o own ks n b in Grown y.control w.journal y.journal
asked_grown app p w o own ks n true = (crossing p (asked_party app w.journal p o) own n (Requests o), refl)
asked_grown app p w o own ks n false = refl

run_grown : (app : Application) (p : ℕ) (w : World) (s : Stop Ref MadeSymbol) → let y = has_run app p w s in Grown y.control w.journal y.journal
run_grown app p w (Sent o own ks n) = asked_grown app p w o own ks n (has_room app w.journal o)
run_grown app p w (Gave c own n) = replies_grown app (λ q. crossing p q own n (Replies (reply_of c))) (reply_of c) w.stack (with_own p own (charged p n w))
run_grown app p w (Stopped e n) = refl
run_grown app p w (Short n) = refl

cross_grown : (app : Application) (budget : ℕ) (w : World) (p : ℕ) (point : Point Ref MadeSymbol) → let y = cross app budget w (Runs p point) in Grown y.control w.journal y.journal
cross_grown app budget w p point = run_grown app p w (run (naming_of p) app.shared (env_of app (table_of app w.journal) p) (w.steps p + (budget - w.spent)) (w.steps p) point)

pub runs_grown : (app : Application) (budget : ℕ) (w : World) (v : WorldView) (m : Mode) → Stands app w v m → let y = cross app budget w w.control in Grown y.control w.journal y.journal
runs_grown app budget w v m s =
    subst (λ c. Grown (cross app budget w c).control w.journal (cross app budget w c).journal) (sym s.control) (cross_grown app budget w v.machine.me (point_of (around app s.suits.reads w.journal v.machine.me) v.machine m))

pub stopped_grown : (app : Application) (w after : World) (v : WorldView) (p : Pause) → HasStopped app w v (stop.Outside p) after → Grown after.control w.journal after.journal
stopped_grown app w after v p h =
    subst (λ (y : World). Grown y.control w.journal y.journal) (sym h.comes) (run_grown app v.machine.me w (stop_of (around app h.suits.reads w.journal v.machine.me) v.machine (stop.Outside p)))

-- the journal that a run has there
abbrev pub journal_at : Turn → (w after : World) → List Crossing
journal_at (turn.Runs m) w after = after.journal
journal_at (turn.Over e) w after = after.journal
journal_at (turn.Asks p) w after = w.journal

-- WHERE THE RUN STANDS

abbrev pub advance : Turn → ℕ → ℕ
advance (turn.Runs m) n = suc n
advance (turn.Over e) n = n
advance (turn.Asks p) n = n

pub stands_so : (app : Application) (b n : ℕ) (v : WorldView) (t : Turn) → After app (heap app b n) (heap app b (suc n)) v t → StandsAt app b (advance t n) v t
stands_so app b n v (turn.Runs m) a = a
stands_so app b n v (turn.Over e) a = a
stands_so app b n v (turn.Asks p) a = a

-- THE COUNT OF CROSSINGS

one_more : (n : ℕ) (after js : List Crossing) → ((x : Crossing) × (after ≡ x ∷ js)) → n ≡ length js → n + 1 ≡ length after
one_more n after js g e = let next : length js + 1 ≡ suc (length js) = omega arith in ap (λ k. k + 1) e ∙ next ∙ ap length (sym g.1)

counts_so : (app : Application) (w after : World) (v : WorldView) (t : Turn) (n : ℕ) → Grown after.control w.journal after.journal → After app w after v t → n ≡ length w.journal → counted t n ≡ length (journal_at t w after)
counts_so app w after v (turn.Runs m) n g a e = one_more n after.journal w.journal (subst (λ c. Grown c w.journal after.journal) a.control g) e
counts_so app w after v (turn.Over ending.Done) n g a e = one_more n after.journal w.journal (subst (λ c. Grown c w.journal after.journal) a.control g) e
counts_so app w after v (turn.Over ending.Uncaught) n g a e = one_more n after.journal w.journal (subst (λ c. Grown c w.journal after.journal) a.control g) e
counts_so app w after v (turn.Over (ending.Budget p)) n g a e = e ∙ ap length (sym (subst (λ c. Grown c w.journal after.journal) a.control g))
counts_so app w after v (turn.Over (ending.Fault p h)) n g a e = e ∙ ap length (sym (subst (λ c. Grown c w.journal after.journal) a.control g))
counts_so app w after v (turn.Asks p) n g a e = e

made_so : (app : Application) (b n k : ℕ) (t : Turn) → k ≡ length (journal_at t (heap app b n) (heap app b (suc n))) → k ≡ length (heap app b (made_at t (advance t n))).journal
made_so app b n k (turn.Runs m) h = h
made_so app b n k (turn.Over e) h = h
made_so app b n k (turn.Asks p) h = h

-- behind a turn the journal has so many crossings
pub counts_then : (app : Application) (b n k : ℕ) (v : WorldView) (t : Turn) → let w = heap app b n in let after = heap app b (suc n) in Grown after.control w.journal after.journal → After app w after v t → k ≡ length w.journal
    → counted t k ≡ length (heap app b (made_at t (advance t n))).journal
counts_then app b n k v t g a e = made_so app b n (counted t k) t (counts_so app (heap app b n) (heap app b (suc n)) v t k g a e)
