-- The network tells what the machine tells, and each party by itself.
use Rattle.std.proofs.Common.{◌≡◌, ◌≢◌, ℕ, zero, suc, ◌+◌, ◌-◌, ◌≤◌, List, [], ◌∷◌, ◌++◌, length, Bool, true, false, Some, None, refl, sym, ap, ◌∙◌, subst, ◌⊎◌, inl, inr, ⊎_elim, arith, if◌then◌else◌}
use Rattle.std.proofs.lemmas.Bool.{cases_eq}
use Rattle.lava_base.specs.declared.ids.MadeSymbol.{MadeSymbol}
use Rattle.lava_base.specs.declared.ids.Ref.{Ref}
use Rattle.lava_base.specs.declared.marks.Marks.{Marks}
use Rattle.js_text.specs.Naming.{Naming, naming_of}
use Rattle.js_desc.specs.declared.reply.Reply.{Reply}
use Rattle.js_run.specs.Acts.{Next, asks}
use Rattle.js_run.specs.Completions.{reply_of}
use Rattle.js_run.specs.Heap.{Control, Over_with, Runs, World, charged, cross, has_asked, has_run, heap, replies_of, with_own}
use Rattle.js_run.specs.Identities.{Replies, Requests}
use Rattle.js_run.specs.Journal.{Application, Crossing, Ending, Parties, asked_party, crossing, end_of, env_of, has_room, put, received, sent_by, table_of}
use Rattle.js_run.specs.Laws.{AgreeFor, IsWaiting, IsWellMade, Is_cut_off, Is_its_own, StandsAt, Tells_the_same, ending_of, own_run}
use Rattle.js_run.specs.Local.{Local, Outgoing, after, local, outgoing}
use Rattle.js_run.specs.Net.{Net, adds, adds_body, ended_by, first_or_host, last_receiver, net, next, one_more, open_asks, tells, turn_of}
use Rattle.js_run.specs.Parties.{Party}
use Rattle.js_run.specs.Runs.{Gave, Point, Request, Sent, Short, Stop, Stopped, run}
use Rattle.js_run_laws.proofs.Agree.{At, Core, Has_run, Running, Stack, Takes, askers, at_rest, bodies_of, holds, ran, stops}
use Rattle.js_run_laws.proofs.Known.{only_given_is_enough, same_marks_same_run}
use Rattle.js_run_laws.proofs.Steps.{run_above, run_within, steps_of}
use Rattle.js_run_laws.proofs.Story.{self_eq}

-- THE NETWORK
abbrev pub told : World → Net
told w = record { journal = w.journal; steps = w.steps; spent = w.spent; ending = ending_of w.control }

one_more_is : {A : Type 0} (x : A) (xs : List A) → one_more (x ∷ xs) xs ≡ Some x
one_more_is x xs = ap (λ b. (if b then Some x else None)) (self_eq (suc (length xs)))

abbrev open_net : World → Net
open_net w = record { journal = w.journal; steps = w.steps; spent = w.spent; ending = None }

-- a reply is added alike
replied : (app : Application) (w : World) (x : ℕ → Crossing) (p : ℕ) (o : Outgoing Ref MadeSymbol) (c : Reply Ref MadeSymbol) → ((q : ℕ) → x q ≡ record { sender = p; receiver = q; sent = o }) → (stack : Stack) → open_asks w.journal ≡ askers stack → adds_body app (open_net w) p o (Replies c) ≡ told (replies_of app x c stack w)
replied app w x p o c is [] asks = ap (λ ps. record { journal = record { sender = p; receiver = first_or_host ps; sent = o } ∷ w.journal; steps = w.steps; spent = w.spent; ending = ended_by c ps }) asks ∙ ap (λ y. record { journal = y ∷ w.journal; steps = w.steps; spent = w.spent; ending = Some (end_of c) }) (sym (is 0))
replied app w x p o c is (b ∷ []) asks = ap (λ ps. record { journal = record { sender = p; receiver = first_or_host ps; sent = o } ∷ w.journal; steps = w.steps; spent = w.spent; ending = ended_by c ps }) asks ∙ ap (λ y. record { journal = y ∷ w.journal; steps = w.steps; spent = w.spent; ending = None }) (sym (is b.0))
replied app w x p o c is (b ∷ d ∷ stack) asks = ap (λ ps. record { journal = record { sender = p; receiver = first_or_host ps; sent = o } ∷ w.journal; steps = w.steps; spent = w.spent; ending = ended_by c ps }) asks ∙ ap (λ y. record { journal = y ∷ w.journal; steps = w.steps; spent = w.spent; ending = None }) (sym (is b.0))

asked : (app : Application) (w : World) (p : ℕ) (o : Request Ref MadeSymbol) (own : Party Ref MadeSymbol) (ks : List (Next Ref MadeSymbol)) (n : ℕ) (b : Bool) → has_room app w.journal o ≡ b → adds_body app (open_net (charged p n w)) p (outgoing (naming_of p) own n (Requests o)) (Requests o) ≡ told (has_asked app p w o own ks n b)
asked app w p o own ks n true room = ap (λ b. elim b [ true ↦ record { journal = crossing p (asked_party app w.journal p o) own n (Requests o) ∷ w.journal; steps = put p n w.steps; spent = w.spent + (n - w.steps p); ending = None } | false ↦ record { journal = w.journal; steps = put p n w.steps; spent = w.spent + (n - w.steps p); ending = Some (Parties p) } ]) room
asked app w p o own ks n false room = ap (λ b. elim b [ true ↦ record { journal = crossing p (asked_party app w.journal p o) own n (Requests o) ∷ w.journal; steps = put p n w.steps; spent = w.spent + (n - w.steps p); ending = None } | false ↦ record { journal = w.journal; steps = put p n w.steps; spent = w.spent + (n - w.steps p); ending = Some (Parties p) } ]) room

tells_run : (app : Application) (w : World) (p : ℕ) (bodies : List (List (Next Ref MadeSymbol))) (stop : Stop Ref MadeSymbol) → open_asks w.journal ≡ askers w.stack → tells app (open_net w) p (after (naming_of p) (sent_by p w.journal) bodies stop) ≡ told (has_run app p w stop)
tells_run app w p bodies (Sent o own ks n) asks =
    ap (adds app (open_net (charged p n w)) p) (one_more_is (outgoing (naming_of p) own n (Requests o)) (sent_by p w.journal))
    ∙ asked app w p o own ks n (has_room app w.journal o) refl
tells_run app w p bodies (Gave c own n) asks =
    ap (adds app (open_net (charged p n w)) p) (one_more_is (outgoing (naming_of p) own n (Replies (reply_of c))) (sent_by p w.journal))
    ∙ replied app (with_own p own (charged p n w)) (λ q. crossing p q own n (Replies (reply_of c))) p (outgoing (naming_of p) own n (Replies (reply_of c))) (reply_of c) (λ q. refl) w.stack asks
tells_run app w p bodies (Stopped k n) asks = refl
tells_run app w p bodies (Short n) asks = refl

goes_along : (app : Application) (budget : ℕ) (w : World) → Core budget w → (c : Control) → c ≡ w.control → At app w c → next app budget (record { journal = w.journal; steps = w.steps; spent = w.spent; ending = ending_of c }) (ending_of c) ≡ told (cross app budget w c)
goes_along app budget w core (Runs p point) is at =
    let env = env_of app (table_of app w.journal) p in
    let n : ℕ = budget - (w.spent - w.steps p) in
    let mine = core.share p in
    let within = core.within in
    let le : w.steps p ≤ n = omega (arith, mine, within) in
    let left : n ≡ w.steps p + (budget - w.spent) = omega (arith, mine, within) in
    ap (turn_of app budget (open_net w)) at.turn
    ∙ (ap (tells app (open_net w) p) (only_given_is_enough p app.shared env (app.own p) n (received p w.journal) (table_of app w.journal) ∙ (ran app w p point at.takes n le ∙ ap (λ l. after (naming_of p) (sent_by p w.journal) (bodies_of p w.stack) (run (naming_of p) app.shared env l (w.steps p) point)) left))
    ∙ tells_run app w p (bodies_of p w.stack) (stops app budget w p point) at.asks)
goes_along app budget w core (Over_with e) is at = ap (λ k. record { journal = w.journal; steps = w.steps; spent = w.spent; ending = ending_of k }) is

pub is_net : (app : Application) → IsWellMade app → (budget m : ℕ) → net app budget m ≡ told (heap app budget m)
is_net app well budget zero = refl
is_net app well budget (suc m) =
    let w = heap app budget m in
    let h = holds app well budget m in
    ap (λ (n : Net). next app budget n n.ending) (is_net app well budget m) ∙ goes_along app budget w h.core w.control refl h.at

pub tells_the_same : (app : Application) → IsWellMade app → (budget m : ℕ) → Tells_the_same (heap app budget m) (net app budget m)
tells_the_same app well budget m =
    let e = is_net app well budget m in
    record { journal = sym (ap (λ (n : Net). n.journal) e); steps = sym (ap (λ (n : Net). n.steps) e); spent = sym (ap (λ (n : Net). n.spent) e); ending = sym (ap (λ (n : Net). n.ending) e) }

-- EACH BY ITSELF
ended : (app : Application) (w : World) (e : Ending) (p : ℕ) → (c : Control) → At app w c → ending_of c ≡ Some e → Has_run app w e p
ended app w e p (Runs q point) at is = absurd cc
ended app w e p (Over_with d) at is = let de : d ≡ e = cc in subst (λ k. Has_run app w k p) de (at p)

pub ended_so : (app : Application) → IsWellMade app → (budget m : ℕ) (e : Ending) (p : ℕ) → ending_of (heap app budget m).control ≡ Some e → Has_run app (heap app budget m) e p
ended_so app well budget m e p is = let w = heap app budget m in ended app w e p w.control (holds app well budget m).at is

-- under each table that agrees on what was given
abbrev with_table : (app : Application) (w : World) (p n : ℕ) (marks : Ref → Marks) → AgreeFor app w p (table_of app w.journal) marks → local (naming_of p) app.shared (env_of app marks p) (app.own p) n (received p w.journal) ≡ local (naming_of p) app.shared (env_of app (table_of app w.journal) p) (app.own p) n (received p w.journal)
with_table app w p n marks agree = same_marks_same_run p app.shared (env_of app (table_of app w.journal) p) (app.own p) n (received p w.journal) (table_of app w.journal) marks agree

its_own : (app : Application) (w : World) (e : Ending) (p : ℕ) → Has_run app w e p → (marks : Ref → Marks) → AgreeFor app w p (table_of app w.journal) marks → Is_its_own app w e p marks
its_own app w e p h marks agree =
    let is : own_run app w marks p ≡ record { sent = h.more ++ sent_by p w.journal; steps = w.steps p; standing = h.standing } = with_table app w p (w.steps p) marks agree ∙ h.is in
    record {
      more = h.more;
      has_more = h.has_more;
      sent = ap (λ (r : Local Ref MadeSymbol). r.sent) is;
      steps = ap (λ (r : Local Ref MadeSymbol). r.steps) is;
      stands = subst (λ (r : Local Ref MadeSymbol). StandsAt e p r.standing) (sym is) h.stands;
      larger = λ wait n le. with_table app w p n marks agree ∙ (h.larger (subst (λ (r : Local Ref MadeSymbol). IsWaiting r.standing) is wait) n le ∙ sym is);
    }

pub each_is_its_own : (app : Application) → IsWellMade app → (budget m : ℕ) (e : Ending) (p : ℕ) → ending_of (heap app budget m).control ≡ Some e → (marks : Ref → Marks) → AgreeFor app (heap app budget m) p (table_of app (heap app budget m).journal) marks → Is_its_own app (heap app budget m) e p marks
each_is_its_own app well budget m e p is marks agree = its_own app (heap app budget m) e p (ended_so app well budget m e p is) marks agree

-- A PUT THAT FAILED
few_more : (names : Naming Ref MadeSymbol) (sent : List (Outgoing Ref MadeSymbol)) (bodies : List (List (Next Ref MadeSymbol))) (stop : Stop Ref MadeSymbol) → (more : List (Outgoing Ref MadeSymbol)) × ((after names sent bodies stop).sent ≡ more ++ sent) × ((more ≡ []) ⊎ ((o : Outgoing Ref MadeSymbol) × (more ≡ o ∷ [])))
few_more names sent bodies (Sent o p ks n) = (outgoing names p n (Requests o) ∷ [], refl, inr (outgoing names p n (Requests o), refl))
few_more names sent bodies (Gave c p n) = (outgoing names p n (Replies (reply_of c)) ∷ [], refl, inr (outgoing names p n (Replies (reply_of c)), refl))
few_more names sent bodies (Stopped e n) = ([], refl, inl refl)
few_more names sent bodies (Short n) = ([], refl, inl refl)

after_steps : (names : Naming Ref MadeSymbol) (sent : List (Outgoing Ref MadeSymbol)) (bodies : List (List (Next Ref MadeSymbol))) (stop : Stop Ref MadeSymbol) → (after names sent bodies stop).steps ≡ steps_of stop
after_steps names sent bodies (Sent o p ks n) = refl
after_steps names sent bodies (Gave c p n) = refl
after_steps names sent bodies (Stopped e n) = refl
after_steps names sent bodies (Short n) = refl

cut_running : (app : Application) (w : World) (p : ℕ) (point : Point Ref MadeSymbol) → Running app w p point → (q : ℕ) (marks : Ref → Marks) → AgreeFor app w q (table_of app w.journal) marks → Is_cut_off app w q marks
cut_running app w p point run_at q marks agree =
    ⊎_elim
    (λ (pq : p ≡ q).
    let run_q : Takes app w q point = subst (λ z. Takes app w z point) pq run_at.takes in
    let env = env_of app (table_of app w.journal) q in
    let stop = run (naming_of q) app.shared env (w.steps q) (w.steps q) point in
    let is : own_run app w marks q ≡ after (naming_of q) (sent_by q w.journal) (bodies_of q w.stack) stop = with_table app w q (w.steps q) marks agree ∙ ran app w q point run_q (w.steps q) (omega arith) in
    let low = run_above (naming_of q) app.shared env (w.steps q) (w.steps q) point in
    let high = run_within (naming_of q) app.shared env (w.steps q) (w.steps q) point (omega arith) in
    let same : steps_of stop ≡ w.steps q = omega (arith, low, high) in
    let few = few_more (naming_of q) (sent_by q w.journal) (bodies_of q w.stack) stop in
    let here : q ≢ last_receiver w.journal → ⊥ = λ z. z (sym (run_at.turn ∙ pq)) in
    record {
      steps = ap (λ (r : Local Ref MadeSymbol). r.steps) is ∙ (after_steps (naming_of q) (sent_by q w.journal) (bodies_of q w.stack) stop ∙ same);
      more = few.0;
      sent = ap (λ (r : Local Ref MadeSymbol). r.sent) is ∙ few.1;
      few = few.2;
      others = λ z. absurd (here z);
      larger = λ z n le. absurd (here z);
    })
    (λ ne.
    let rests = run_at.others q (λ z. ne (sym z)) in
    let all : (n : ℕ) → w.steps q ≤ n → local (naming_of q) app.shared (env_of app marks q) (app.own q) n (received q w.journal) ≡ at_rest w q = λ n le. with_table app w q n marks agree ∙ rests.by n le in
    let is = all (w.steps q) (omega arith) in
    record {
      steps = ap (λ (r : Local Ref MadeSymbol). r.steps) is;
      more = [];
      sent = ap (λ (r : Local Ref MadeSymbol). r.sent) is;
      few = inl refl;
      others = λ z. (refl, subst (λ (r : Local Ref MadeSymbol). IsWaiting r.standing) (sym is) tt);
      larger = λ z n le. all n le ∙ sym is;
    })
    (cases_eq p q)

cut_at : (app : Application) (w : World) (c : Control) → At app w c → ending_of c ≡ None → (q : ℕ) (marks : Ref → Marks) → AgreeFor app w q (table_of app w.journal) marks → Is_cut_off app w q marks
cut_at app w (Runs p point) at is q marks agree = cut_running app w p point at q marks agree
cut_at app w (Over_with e) at is q marks agree = absurd (cc is)

pub cut_off : (app : Application) → IsWellMade app → (budget m q : ℕ) → ending_of (heap app budget m).control ≡ None → (marks : Ref → Marks) → AgreeFor app (heap app budget m) q (table_of app (heap app budget m).journal) marks → Is_cut_off app (heap app budget m) q marks
cut_off app well budget m q is marks agree = let w = heap app budget m in cut_at app w w.control (holds app well budget m).at is q marks agree
