-- The one-heap machine: where each party rests, and how its own run comes there.
use Rattle.std.proofs.Common.{◌≡◌, ◌≢◌, ℕ, zero, suc, ◌+◌, ◌-◌, ◌≤◌, List, [], ◌∷◌, ◌++◌, Bool, true, false, nat_eq, Option, Some, None, refl, sym, ap, ◌∙◌, subst, ⊎_elim, arith, if◌then◌else◌}
use Rattle.std.proofs.lemmas.Bool.{cases_eq, ne_eqb}
use Rattle.lava_base.specs.declared.ids.MadeSymbol.{MadeSymbol}
use Rattle.lava_base.specs.declared.ids.Ref.{Ref}
use Rattle.lava_base.specs.declared.marks.Marks.{Marks}
use Rattle.js_text.specs.Identities.{Of_object}
use Rattle.js_text.specs.Naming.{Foreign, Naming, naming_of, origin_of}
use Rattle.js_desc.specs.declared.reply.Reply.TheVariants as reply
use Rattle.js_desc.specs.declared.reply.Reply.{Reply}
use Rattle.js_run.specs.Acts.{Next}
use Rattle.js_run.specs.Completions.{Completion, Halt, reply_of}
use Rattle.js_run.specs.Heap.{Control, Over_with, Runs, World, asks_of, begins, charged, cross, hands, has_asked, has_run, heap, replies_of, with_own}
use Rattle.js_run.specs.Identities.{IsAmong, Message, Replies, Requests, given, history_identities, party_identities}
use Rattle.js_run.specs.Journal.{Application, Budget, Crossing, Ending, Fault, Parties, asked_party, crossing, end_of, env_of, first_import, first_of, has_room, put, received, root_link, sent_by, table_of}
use Rattle.js_run.specs.Laws.{HasMark, HasMore, IsEnd, IsLawful, IsMake, IsWaiting, IsWellMade, StandsAt}
use Rattle.js_run.specs.Local.{Has_ended, Is_short, Local, Outgoing, Standing, Waits, after, first_sent, local, outgoing, served, taken_up, takes}
use Rattle.js_run.specs.Net.{last_receiver, open_asks, rest}
use Rattle.js_run.specs.Parties.{Party, Shared}
use Rattle.js_run.specs.Runs.{Asks, Env, Gave, Imports, Makes, Point, Request, Sent, Short, Stop, Stopped, run}
use Rattle.js_run_laws.proofs.Known.{sent_is_known}
use Rattle.js_run_laws.proofs.Looks.{behind, in_front}
use Rattle.js_run_laws.proofs.Steps.{IsFull, run_above, run_cut, run_enough, run_within, steps_of}
use Rattle.js_run_laws.proofs.Story.{AreGiven, Story, WasGiven, all_there, choose, goes_on_so, in_either, mark_in, mark_stays, same_later, self_eq}

abbrev pub Stack : Type 0
Stack = List (ℕ × List (Next Ref MadeSymbol))

-- the bodies of one party on the stack
abbrev pub bodies_of : ℕ → Stack → List (List (Next Ref MadeSymbol))
bodies_of q [] = []
bodies_of q (b ∷ stack) = if nat_eq b.0 q then b.1 ∷ bodies_of q stack else bodies_of q stack

abbrev pub askers : Stack → List ℕ
askers [] = 0 ∷ []
askers (b ∷ stack) = b.0 ∷ askers stack

-- where a party's own run comes to where the party is in the world
abbrev pub at_rest : World → ℕ → Local Ref MadeSymbol
at_rest w q = record { sent = sent_by q w.journal; steps = w.steps q; standing = Waits (w.own q) (bodies_of q w.stack) }

pub record Rests (app : Application) (marks : Ref → Marks) (w : World) (q : ℕ) (ins : List (Message Ref MadeSymbol)) : Type 0 where
  pub by : (n : ℕ) → w.steps q ≤ n → local (naming_of q) app.shared (env_of app marks q) (app.own q) n ins ≡ record { sent = sent_by q w.journal; steps = w.steps q; standing = Waits (w.own q) (bodies_of q w.stack) }

-- the party has taken the last of what it received, and is at this point
pub record Takes (app : Application) (w : World) (p : ℕ) (point : Point Ref MadeSymbol) : Type 0 where
  pub last : Message Ref MadeSymbol
  pub older : List (Message Ref MadeSymbol)
  pub bodies : List (List (Next Ref MadeSymbol))
  pub is : received p w.journal ≡ last ∷ older
  pub before : (n : ℕ) → w.steps p ≤ n → local (naming_of p) app.shared (env_of app (table_of app w.journal) p) (app.own p) n older ≡ record { sent = sent_by p w.journal; steps = w.steps p; standing = Waits (w.own p) bodies }
  pub serves : served (naming_of p) app.shared (env_of app (table_of app w.journal) p) (w.own p) bodies last ≡ Some (point, bodies_of p w.stack)

pub record Core (budget : ℕ) (w : World) : Type 0 where
  pub within : w.spent ≤ budget
  pub share : (q : ℕ) → w.steps q ≤ w.spent

pub record Running (app : Application) (w : World) (p : ℕ) (point : Point Ref MadeSymbol) : Type 0 where
  pub turn : last_receiver w.journal ≡ p
  pub asks : open_asks w.journal ≡ askers w.stack
  pub takes : Takes app w p point
  pub others : (q : ℕ) → q ≢ p → Rests app (table_of app w.journal) w q (received q w.journal)

-- how the party's own run stands at the end
pub record Has_run (app : Application) (w : World) (e : Ending) (p : ℕ) : Type 0 where
  pub waited : (x : Message Ref MadeSymbol) (older : List (Message Ref MadeSymbol)) → received p w.journal ≡ x ∷ older → IsWaiting (local (naming_of p) app.shared (env_of app (table_of app w.journal) p) (app.own p) (w.steps p) older).standing
  -- what was sent before the last crossing was taken is in the journal
  pub kept : (x : Message Ref MadeSymbol) (older : List (Message Ref MadeSymbol)) → received p w.journal ≡ x ∷ older → IsEnd (local (naming_of p) app.shared (env_of app (table_of app w.journal) p) (app.own p) (w.steps p) older).sent (sent_by p w.journal)
  -- and it is all that the journal has, if it was the party's turn
  pub at_turn : p ≢ 0 → last_receiver w.journal ≡ p → (x : Message Ref MadeSymbol) (older : List (Message Ref MadeSymbol)) → received p w.journal ≡ x ∷ older → (local (naming_of p) app.shared (env_of app (table_of app w.journal) p) (app.own p) (w.steps p) older).sent ≡ sent_by p w.journal
  pub standing : Standing Ref MadeSymbol
  pub stands : StandsAt e p standing
  pub more : List (Outgoing Ref MadeSymbol)
  pub has_more : HasMore e p more
  pub is : local (naming_of p) app.shared (env_of app (table_of app w.journal) p) (app.own p) (w.steps p) (received p w.journal) ≡ record { sent = more ++ sent_by p w.journal; steps = w.steps p; standing = standing }
  pub larger : IsWaiting standing → (n : ℕ) → w.steps p ≤ n → local (naming_of p) app.shared (env_of app (table_of app w.journal) p) (app.own p) n (received p w.journal) ≡ record { sent = more ++ sent_by p w.journal; steps = w.steps p; standing = standing }

abbrev pub At : Application → World → Control → Type 0
At app w (Runs p point) = Running app w p point
At app w (Over_with e) = (p : ℕ) → Has_run app w e p

pub record Holds (app : Application) (budget : ℕ) (w : World) : Type 0 where
  pub core : Core budget w
  pub story : Story app w.journal
  pub at : At app w w.control

-- the run of p from where it is
abbrev pub stops : Application → ℕ → World → ℕ → Point Ref MadeSymbol → Stop Ref MadeSymbol
stops app budget w p point = run (naming_of p) app.shared (env_of app (table_of app w.journal) p) (w.steps p + (budget - w.spent)) (w.steps p) point

-- the party's own run with the last crossing is the run of its body
pub ran : (app : Application) (w : World) (p : ℕ) (point : Point Ref MadeSymbol) → Takes app w p point → (n : ℕ) → w.steps p ≤ n → local (naming_of p) app.shared (env_of app (table_of app w.journal) p) (app.own p) n (received p w.journal) ≡ after (naming_of p) (sent_by p w.journal) (bodies_of p w.stack) (run (naming_of p) app.shared (env_of app (table_of app w.journal) p) n (w.steps p) point)
ran app w p point t n le =
    let env = env_of app (table_of app w.journal) p in
    ap (local (naming_of p) app.shared env (app.own p) n) t.is
    ∙ (ap (λ (r : Local Ref MadeSymbol). takes (naming_of p) app.shared env n r r.standing t.last) (t.before n le)
    ∙ ap (taken_up (naming_of p) app.shared env n (record { sent = sent_by p w.journal; steps = w.steps p; standing = Waits (w.own p) t.bodies })) t.serves)

above : (app : Application) (budget : ℕ) (w : World) (p : ℕ) (point : Point Ref MadeSymbol) (stop : Stop Ref MadeSymbol) → stops app budget w p point ≡ stop → w.steps p ≤ steps_of stop
above app budget w p point stop e = subst (λ (s : Stop Ref MadeSymbol). w.steps p ≤ steps_of s) e (run_above (naming_of p) app.shared (env_of app (table_of app w.journal) p) (w.steps p + (budget - w.spent)) (w.steps p) point)

-- under each limit that has its steps
settled : (app : Application) (budget : ℕ) (w : World) (p : ℕ) (point : Point Ref MadeSymbol) (stop : Stop Ref MadeSymbol) → Takes app w p point → stops app budget w p point ≡ stop → IsFull stop → (n : ℕ) → steps_of stop ≤ n → local (naming_of p) app.shared (env_of app (table_of app w.journal) p) (app.own p) n (received p w.journal) ≡ after (naming_of p) (sent_by p w.journal) (bodies_of p w.stack) stop
settled app budget w p point stop t e full n le =
    let env = env_of app (table_of app w.journal) p in
    let ab = above app budget w p point stop e in
    let enough : steps_of (stops app budget w p point) ≤ n = subst (λ (s : Stop Ref MadeSymbol). steps_of s ≤ n) (sym e) le in
    ran app w p point t n (omega (arith, ab, le))
    ∙ ap (after (naming_of p) (sent_by p w.journal) (bodies_of p w.stack)) (run_enough (naming_of p) app.shared env (w.steps p + (budget - w.spent)) n (w.steps p) point (subst IsFull (sym e) full) enough ∙ e)

-- where each party rests once p has sent an ask
rests_sent : (app : Application) (budget : ℕ) (w : World) (p : ℕ) (point : Point Ref MadeSymbol) (o : Request Ref MadeSymbol) (own : Party Ref MadeSymbol) (ks : List (Next Ref MadeSymbol)) (n1 : ℕ) → Running app w p point → stops app budget w p point ≡ Sent o own ks n1 → (r q n : ℕ) → put p n1 w.steps q ≤ n
    → local (naming_of q) app.shared (env_of app (table_of app w.journal) q) (app.own q) n (received q w.journal) ≡ at_rest (asks_of app (crossing p r own n1 (Requests o)) p o ks (with_own p own (charged p n1 w))) q
rests_sent app budget w p point o own ks n1 run_at e r q n le =
    let T = table_of app w.journal in
    choose p q (λ b. (if b then n1 else w.steps q) ≤ n → local (naming_of q) app.shared (env_of app T q) (app.own q) n (received q w.journal) ≡ record { sent = (if b then outgoing (naming_of p) own n1 (Requests o) ∷ sent_by q w.journal else sent_by q w.journal); steps = (if b then n1 else w.steps q); standing = Waits (if b then own else w.own q) (if b then ks ∷ bodies_of q w.stack else bodies_of q w.stack) })
    (λ pq. subst (λ q'. n1 ≤ n → local (naming_of q') app.shared (env_of app T q') (app.own q') n (received q' w.journal) ≡ record { sent = outgoing (naming_of p) own n1 (Requests o) ∷ sent_by q' w.journal; steps = n1; standing = Waits own (ks ∷ bodies_of q' w.stack) }) pq (λ le1. settled app budget w p point (Sent o own ks n1) run_at.takes e tt n le1))
    (λ ne le1. (run_at.others q (λ qp. ne (sym qp))).by n le1)
    le

-- where each party rests once p has replied, before the reply is taken
abbrev gave_rest : World → ℕ → ℕ → Party Ref MadeSymbol → Reply Ref MadeSymbol → ℕ → Local Ref MadeSymbol
gave_rest w p n1 own c q = record { sent = (if nat_eq p q then outgoing (naming_of p) own n1 (Replies c) ∷ sent_by q w.journal else sent_by q w.journal); steps = put p n1 w.steps q; standing = Waits (put p own w.own q) (bodies_of q w.stack) }

rests_gave : (app : Application) (budget : ℕ) (w : World) (p : ℕ) (point : Point Ref MadeSymbol) (c : Completion Ref MadeSymbol) (own : Party Ref MadeSymbol) (n1 : ℕ) → Running app w p point → stops app budget w p point ≡ Gave c own n1 → (q n : ℕ) → put p n1 w.steps q ≤ n
    → local (naming_of q) app.shared (env_of app (table_of app w.journal) q) (app.own q) n (received q w.journal) ≡ gave_rest w p n1 own (reply_of c) q
rests_gave app budget w p point c own n1 run_at e q n le =
    let T = table_of app w.journal in
    choose p q (λ b. (if b then n1 else w.steps q) ≤ n → local (naming_of q) app.shared (env_of app T q) (app.own q) n (received q w.journal) ≡ record { sent = (if b then outgoing (naming_of p) own n1 (Replies (reply_of c)) ∷ sent_by q w.journal else sent_by q w.journal); steps = (if b then n1 else w.steps q); standing = Waits (if b then own else w.own q) (bodies_of q w.stack) })
    (λ pq. subst (λ q'. n1 ≤ n → local (naming_of q') app.shared (env_of app T q') (app.own q') n (received q' w.journal) ≡ record { sent = outgoing (naming_of p) own n1 (Replies (reply_of c)) ∷ sent_by q' w.journal; steps = n1; standing = Waits own (bodies_of q' w.stack) }) pq (λ le1. settled app budget w p point (Gave c own n1) run_at.takes e tt n le1))
    (λ ne le1. (run_at.others q (λ qp. ne (sym qp))).by n le1)
    le

-- an ask is handed over
passes : (app : Application) (budget : ℕ) (w : World) (p : ℕ) (point : Point Ref MadeSymbol) (o : Request Ref MadeSymbol) (own : Party Ref MadeSymbol) (ks : List (Next Ref MadeSymbol)) (n1 : ℕ) → Story app w.journal → Running app w p point → stops app budget w p point ≡ Sent o own ks n1 → (r : ℕ)
    → At app (asks_of app (crossing p r own n1 (Requests o)) p o ks (with_own p own (charged p n1 w))) (hands app (crossing p r own n1 (Requests o) ∷ w.journal) (put p own w.own) r o)
passes app budget w p point o own ks n1 story run_at e r =
    let x = crossing p r own n1 (Requests o) in
    let later : (q n : ℕ) → put p n1 w.steps q ≤ n → local (naming_of q) app.shared (env_of app (table_of app (x ∷ w.journal)) q) (app.own q) n (received q w.journal) ≡ at_rest (asks_of app (crossing p r own n1 (Requests o)) p o ks (with_own p own (charged p n1 w))) q = λ q n le. same_later app w.journal story x q n ∙ rests_sent app budget w p point o own ks n1 run_at e r q n le in
    record {
      turn = refl;
      asks = ap (λ ps. p ∷ ps) run_at.asks;
      takes = record {
        last = Requests o;
        older = received r w.journal;
        bodies = bodies_of r ((p, ks) ∷ w.stack);
        is = ap (λ b. (if b then Requests o ∷ received r w.journal else received r w.journal)) (self_eq r);
        before = later r;
        serves = refl;
      };
      others = λ q qr. record {
        by = λ n le. ap (λ b. local (naming_of q) app.shared (env_of app (table_of app (x ∷ w.journal)) q) (app.own q) n (if b then Requests o ∷ received q w.journal else received q w.journal)) (ne_eqb r q (λ z. qr (sym z))) ∙ later q n le;
      };
    }

-- a party that waits waited before what it took last
pub took : {R S : Type 0} (names : Naming R S) (shared : Shared) (env : Env R) (n : ℕ) (r : Local R S) (st : Standing R S) (x : Message R S) → r.standing ≡ st → IsWaiting (takes names shared env n r st x).standing → IsWaiting st
took names shared env n r (Waits own bodies) x is h = tt
took names shared env n r Is_short x is h = subst IsWaiting is h
took names shared env n r (Has_ended k) x is h = subst IsWaiting is h

pub waited_rest : {R S : Type 0} (names : Naming R S) (shared : Shared) (env : Env R) (start : Party R S) (n : ℕ) (ins : List (Message R S)) → IsWaiting (local names shared env start n ins).standing → (x : Message R S) (older : List (Message R S)) → ins ≡ x ∷ older → IsWaiting (local names shared env start n older).standing
waited_rest names shared env start n ins h x older is =
    let r = local names shared env start n older in
    took names shared env n r r.standing x refl (subst (λ xs. IsWaiting (local names shared env start n xs).standing) is h)

waited_run : (app : Application) (w : World) (p : ℕ) (point : Point Ref MadeSymbol) → Takes app w p point → (n : ℕ) → w.steps p ≤ n → (x : Message Ref MadeSymbol) (older : List (Message Ref MadeSymbol)) → received p w.journal ≡ x ∷ older → IsWaiting (local (naming_of p) app.shared (env_of app (table_of app w.journal) p) (app.own p) n older).standing
waited_run app w p point t n le x older is =
    let same : t.last ∷ t.older ≡ x ∷ older = sym t.is ∙ is in
    let e : t.older ≡ older = cc same in
    subst (λ xs. IsWaiting (local (naming_of p) app.shared (env_of app (table_of app w.journal) p) (app.own p) n xs).standing) e (subst (λ (r : Local Ref MadeSymbol). IsWaiting r.standing) (sym (t.before n le)) tt)

ends_waiting : (r : Reply Ref MadeSymbol) (p : ℕ) (s : Standing Ref MadeSymbol) → IsWaiting s → StandsAt (end_of r) p s
ends_waiting (reply.Value v) p s h = h
ends_waiting (reply.Proto o) p s h = h
ends_waiting (reply.Flag b) p s h = h
ends_waiting (reply.Desc d) p s h = h
ends_waiting (reply.Keys ks) p s h = h
ends_waiting (reply.Throw v) p s h = h

ends_no_more : (r : Reply Ref MadeSymbol) (p : ℕ) → HasMore (end_of r) p []
ends_no_more (reply.Value v) p = refl
ends_no_more (reply.Proto o) p = refl
ends_no_more (reply.Flag b) p = refl
ends_no_more (reply.Desc d) p = refl
ends_no_more (reply.Keys ks) p = refl
ends_no_more (reply.Throw v) p = refl

-- at the host's reply: the host's body is over, and takes nothing more
takes_no_more : (app : Application) (marks : Ref → Marks) (start : Party Ref MadeSymbol) (q n : ℕ) (c : Reply Ref MadeSymbol) (ins : List (Message Ref MadeSymbol)) (sent : List (Outgoing Ref MadeSymbol)) (steps : ℕ) (own : Party Ref MadeSymbol) → local (naming_of q) app.shared (env_of app marks q) start n ins ≡ record { sent = sent; steps = steps; standing = Waits own [] } → local (naming_of q) app.shared (env_of app marks q) start n (Replies c ∷ ins) ≡ record { sent = sent; steps = steps; standing = Waits own [] }
takes_no_more app marks start q n c ins sent steps own is =
    ap (λ (r : Local Ref MadeSymbol). takes (naming_of q) app.shared (env_of app marks q) n r r.standing (Replies c)) is

-- what was sent before is an end of what is sent
after_keeps : {R S : Type 0} (names : Naming R S) (sent : List (Outgoing R S)) (bodies : List (List (Next R S))) (stop : Stop R S) → IsEnd sent (after names sent bodies stop).sent
after_keeps names sent bodies (Sent o p ks n) = (outgoing names p n (Requests o) ∷ [], refl)
after_keeps names sent bodies (Gave c p n) = (outgoing names p n (Replies (reply_of c)) ∷ [], refl)
after_keeps names sent bodies (Stopped e n) = ([], refl)
after_keeps names sent bodies (Short n) = ([], refl)

pub takes_keeps : {R S : Type 0} (names : Naming R S) (shared : Shared) (env : Env R) (n : ℕ) (r : Local R S) (st : Standing R S) (x : Message R S) → IsEnd r.sent (takes names shared env n r st x).sent
takes_keeps {R} {S} names shared env n r (Waits p bodies) x = by (served names shared env p bodies x)
  where
    by : (o : Option (Point R S × List (List (Next R S)))) → IsEnd r.sent (taken_up names shared env n r o).sent
    by None = ([], refl)
    by (Some s) = after_keeps names r.sent s.1 (run names shared env n r.steps s.0)
takes_keeps names shared env n r Is_short x = ([], refl)
takes_keeps names shared env n r (Has_ended e) x = ([], refl)

kept_rest : {R S : Type 0} (names : Naming R S) (shared : Shared) (env : Env R) (start : Party R S) (n : ℕ) (ins : List (Message R S)) (x : Message R S) (older : List (Message R S)) → ins ≡ x ∷ older → IsEnd (local names shared env start n older).sent (local names shared env start n ins).sent
kept_rest names shared env start n ins x older is =
    let r = local names shared env start n older in
    subst (λ xs. IsEnd r.sent (local names shared env start n xs).sent) (sym is) (takes_keeps names shared env n r r.standing x)

-- the reply of p is taken by the topmost body
passes_back : (app : Application) (w : World) (p n1 : ℕ) (own : Party Ref MadeSymbol) (c : Reply Ref MadeSymbol) (stack : Stack) → w.stack ≡ stack → open_asks w.journal ≡ askers stack
    → ((q n : ℕ) → put p n1 w.steps q ≤ n → local (naming_of q) app.shared (env_of app (table_of app (crossing p 0 own n1 (Replies c) ∷ w.journal)) q) (app.own q) n (received q w.journal) ≡ gave_rest w p n1 own c q)
    → At app (replies_of app (λ q. crossing p q own n1 (Replies c)) c stack (with_own p own (charged p n1 w))) (replies_of app (λ q. crossing p q own n1 (Replies c)) c stack (with_own p own (charged p n1 w))).control
passes_back app w p n1 own c [] is asks gives = λ q.
    let T = table_of app (crossing p 0 own n1 (Replies c) ∷ w.journal) in
    let none : bodies_of q w.stack ≡ [] = ap (bodies_of q) is in
    let final : Local Ref MadeSymbol = record { sent = (if nat_eq p q then outgoing (naming_of p) own n1 (Replies c) ∷ sent_by q w.journal else sent_by q w.journal); steps = put p n1 w.steps q; standing = Waits (put p own w.own q) [] } in
    let bare : (n : ℕ) → put p n1 w.steps q ≤ n → local (naming_of q) app.shared (env_of app T q) (app.own q) n (received q w.journal) ≡ final = λ n le. gives q n le ∙ ap (λ bs. record { sent = (if nat_eq p q then outgoing (naming_of p) own n1 (Replies c) ∷ sent_by q w.journal else sent_by q w.journal); steps = put p n1 w.steps q; standing = Waits (put p own w.own q) bs }) none in
    let back : (n : ℕ) → put p n1 w.steps q ≤ n → local (naming_of q) app.shared (env_of app T q) (app.own q) n (if nat_eq 0 q then Replies c ∷ received q w.journal else received q w.journal) ≡ final = λ n le.
    choose 0 q (λ b. local (naming_of q) app.shared (env_of app T q) (app.own q) n (if b then Replies c ∷ received q w.journal else received q w.journal) ≡ final)
    (λ z. takes_no_more app T (app.own q) q n c (received q w.journal) final.sent final.steps (put p own w.own q) (bare n le))
    (λ z. bare n le) in
    record {
      waited = waited_rest (naming_of q) app.shared (env_of app T q) (app.own q) (put p n1 w.steps q) _ (subst (λ (r : Local Ref MadeSymbol). IsWaiting r.standing) (sym (back (put p n1 w.steps q) (omega arith))) tt);
      kept = λ y older is'. subst (λ (r : Local Ref MadeSymbol). IsEnd (local (naming_of q) app.shared (env_of app T q) (app.own q) (put p n1 w.steps q) older).sent r.sent) (back (put p n1 w.steps q) (omega arith)) (kept_rest (naming_of q) app.shared (env_of app T q) (app.own q) (put p n1 w.steps q) _ y older is');
      at_turn = λ q0 turn. absurd (q0 (sym turn));
      standing = Waits (put p own w.own q) [];
      stands = ends_waiting c q (Waits (put p own w.own q) []) tt;
      more = [];
      has_more = ends_no_more c q;
      is = back (put p n1 w.steps q) (omega arith);
      larger = λ wait n le. back n le;
    }
passes_back app w p n1 own c (b ∷ stack) is asks gives =
    let T = table_of app (crossing p 0 own n1 (Replies c) ∷ w.journal) in
    record {
      turn = refl;
      asks = ap rest asks;
      takes = record {
        last = Replies c;
        older = received b.0 w.journal;
        bodies = b.1 ∷ bodies_of b.0 stack;
        is = ap (λ t. (if t then Replies c ∷ received b.0 w.journal else received b.0 w.journal)) (self_eq b.0);
        before = λ n le. gives b.0 n le ∙ ap (λ bs. record { sent = (if nat_eq p b.0 then outgoing (naming_of p) own n1 (Replies c) ∷ sent_by b.0 w.journal else sent_by b.0 w.journal); steps = put p n1 w.steps b.0; standing = Waits (put p own w.own b.0) bs }) (ap (bodies_of b.0) is ∙ ap (λ t. (if t then b.1 ∷ bodies_of b.0 stack else bodies_of b.0 stack)) (self_eq b.0));
        serves = refl;
      };
      others = λ q qb. record {
        by = λ n le.
            let ne = ne_eqb b.0 q (λ z. qb (sym z)) in
            ap (λ t. local (naming_of q) app.shared (env_of app T q) (app.own q) n (if t then Replies c ∷ received q w.journal else received q w.journal)) ne
            ∙ (gives q n le ∙ ap (λ bs. record { sent = (if nat_eq p q then outgoing (naming_of p) own n1 (Replies c) ∷ sent_by q w.journal else sent_by q w.journal); steps = put p n1 w.steps q; standing = Waits (put p own w.own q) bs }) (ap (bodies_of q) is ∙ ap (λ t. (if t then b.1 ∷ bodies_of q stack else bodies_of q stack)) ne));
      };
    }

core_charged : (app : Application) (budget : ℕ) (w : World) (p : ℕ) (point : Point Ref MadeSymbol) (stop : Stop Ref MadeSymbol) → Core budget w → stops app budget w p point ≡ stop → (w.spent + (steps_of stop - w.steps p) ≤ budget) × ((q : ℕ) → put p (steps_of stop) w.steps q ≤ w.spent + (steps_of stop - w.steps p))
core_charged app budget w p point stop core e =
    let ab = above app budget w p point stop e in
    let within = core.within in
    let mine = core.share p in
    let below = subst (λ (s : Stop Ref MadeSymbol). steps_of s ≤ w.steps p + (budget - w.spent)) e (run_within (naming_of p) app.shared (env_of app (table_of app w.journal) p) (w.steps p + (budget - w.spent)) (w.steps p) point (omega arith)) in
    (omega (arith, ab, below, within), λ q. choose p q (λ b. (if b then steps_of stop else w.steps q) ≤ w.spent + (steps_of stop - w.steps p)) (λ pq. omega (arith, ab, mine)) (λ ne. let h = core.share q in omega (arith, h)))

after_reply : (app : Application) (budget : ℕ) (w : World) (x : ℕ → Crossing) (c : Reply Ref MadeSymbol) (stack : Stack) → Core budget w → Core budget (replies_of app x c stack w)
after_reply app budget w x c [] core = record { within = core.within; share = core.share }
after_reply app budget w x c (b ∷ stack) core = record { within = core.within; share = core.share }

-- another party than the one with which the run ends
others_rest : (app : Application) (w : World) (p : ℕ) (point : Point Ref MadeSymbol) (n1 : ℕ) (e : Ending) → Running app w p point → (q : ℕ) → p ≢ q → ((s : Standing Ref MadeSymbol) → IsWaiting s → StandsAt e q s) → HasMore e q [] → Has_run app (record (charged p n1 w) { control = Over_with e }) e q
others_rest app w p point n1 e run_at q ne stand none =
    let T = table_of app w.journal in
    let other : put p n1 w.steps q ≡ w.steps q = ap (λ b. (if b then n1 else w.steps q)) (ne_eqb p q ne) in
    let rests = run_at.others q (λ z. ne (sym z)) in
    let all : (n : ℕ) → put p n1 w.steps q ≤ n → local (naming_of q) app.shared (env_of app T q) (app.own q) n (received q w.journal) ≡ record { sent = sent_by q w.journal; steps = put p n1 w.steps q; standing = Waits (w.own q) (bodies_of q w.stack) } = λ n le. rests.by n (subst (λ (m : ℕ). m ≤ n) other le) ∙ ap (λ m. record { sent = sent_by q w.journal; steps = m; standing = Waits (w.own q) (bodies_of q w.stack) }) (sym other) in
    record {
      waited = waited_rest (naming_of q) app.shared (env_of app T q) (app.own q) (put p n1 w.steps q) _ (subst (λ (r : Local Ref MadeSymbol). IsWaiting r.standing) (sym (all (put p n1 w.steps q) (omega arith))) tt);
      kept = λ y older is'. subst (λ (r : Local Ref MadeSymbol). IsEnd (local (naming_of q) app.shared (env_of app T q) (app.own q) (put p n1 w.steps q) older).sent r.sent) (all (put p n1 w.steps q) (omega arith)) (kept_rest (naming_of q) app.shared (env_of app T q) (app.own q) (put p n1 w.steps q) _ y older is');
      at_turn = λ q0 turn. absurd (ne (sym run_at.turn ∙ turn));
      standing = Waits (w.own q) (bodies_of q w.stack);
      stands = stand (Waits (w.own q) (bodies_of q w.stack)) tt;
      more = [];
      has_more = none;
      is = all (put p n1 w.steps q) (omega arith);
      larger = λ wait n le. all n le;
    }

-- the party with which the run ends
mine_ends : (app : Application) (budget : ℕ) (w : World) (p : ℕ) (point : Point Ref MadeSymbol) (stop : Stop Ref MadeSymbol) (e : Ending) → Running app w p point → stops app budget w p point ≡ stop → (q : ℕ) → p ≡ q → (s : Standing Ref MadeSymbol) → StandsAt e q s → (more : List (Outgoing Ref MadeSymbol)) → HasMore e q more
    → (local (naming_of p) app.shared (env_of app (table_of app w.journal) p) (app.own p) (steps_of stop) (received p w.journal) ≡ record { sent = more ++ sent_by p w.journal; steps = steps_of stop; standing = s })
    → (IsWaiting s → (n : ℕ) → steps_of stop ≤ n → local (naming_of p) app.shared (env_of app (table_of app w.journal) p) (app.own p) n (received p w.journal) ≡ record { sent = more ++ sent_by p w.journal; steps = steps_of stop; standing = s })
    → Has_run app (record (charged p (steps_of stop) w) { control = Over_with e }) e q
mine_ends app budget w p point stop e run_at run_is q pq s stand more has_more here larger =
    let T = table_of app w.journal in
    let n1 = steps_of stop in
    let mine : put p n1 w.steps p ≡ n1 = ap (λ b. (if b then n1 else w.steps p)) (self_eq p) in
    let Waited : ℕ → Type 0 = λ q'. (x : Message Ref MadeSymbol) (older : List (Message Ref MadeSymbol)) → received q' w.journal ≡ x ∷ older → IsWaiting (local (naming_of q') app.shared (env_of app T q') (app.own q') (put p n1 w.steps q') older).standing in
    let Kept : ℕ → Type 0 = λ q'. (x : Message Ref MadeSymbol) (older : List (Message Ref MadeSymbol)) → received q' w.journal ≡ x ∷ older → IsEnd (local (naming_of q') app.shared (env_of app T q') (app.own q') (put p n1 w.steps q') older).sent (sent_by q' w.journal) in
    let Turned : ℕ → Type 0 = λ q'. (x : Message Ref MadeSymbol) (older : List (Message Ref MadeSymbol)) → received q' w.journal ≡ x ∷ older → (local (naming_of q') app.shared (env_of app T q') (app.own q') (put p n1 w.steps q') older).sent ≡ sent_by q' w.journal in
    let Is : ℕ → Type 0 = λ q'. local (naming_of q') app.shared (env_of app T q') (app.own q') (put p n1 w.steps q') (received q' w.journal) ≡ record { sent = more ++ sent_by q' w.journal; steps = put p n1 w.steps q'; standing = s } in
    let Larger : ℕ → Type 0 = λ q'. IsWaiting s → (n : ℕ) → put p n1 w.steps q' ≤ n → local (naming_of q') app.shared (env_of app T q') (app.own q') n (received q' w.journal) ≡ record { sent = more ++ sent_by q' w.journal; steps = put p n1 w.steps q'; standing = s } in
    record {
      waited = subst Waited pq (waited_run app w p point run_at.takes (put p n1 w.steps p) (subst (λ (m : ℕ). w.steps p ≤ m) (sym mine) (above app budget w p point stop run_is)));
      kept = subst Kept pq (λ x older is'.
          let t = run_at.takes in
          let same : t.last ∷ t.older ≡ x ∷ older = sym t.is ∙ is' in
          let o : t.older ≡ older = cc same in
          subst (λ xs. IsEnd (local (naming_of p) app.shared (env_of app T p) (app.own p) (put p n1 w.steps p) xs).sent (sent_by p w.journal)) o ([], ap (λ (r : Local Ref MadeSymbol). r.sent) (t.before (put p n1 w.steps p) (subst (λ (m : ℕ). w.steps p ≤ m) (sym mine) (above app budget w p point stop run_is)))));
      at_turn = λ q0 turn. subst Turned pq (λ x older is'.
          let t = run_at.takes in
          let same : t.last ∷ t.older ≡ x ∷ older = sym t.is ∙ is' in
          let o : t.older ≡ older = cc same in
          subst (λ xs. (local (naming_of p) app.shared (env_of app T p) (app.own p) (put p n1 w.steps p) xs).sent ≡ sent_by p w.journal) o (ap (λ (r : Local Ref MadeSymbol). r.sent) (t.before (put p n1 w.steps p) (subst (λ (m : ℕ). w.steps p ≤ m) (sym mine) (above app budget w p point stop run_is)))));
      standing = s;
      stands = stand;
      more = more;
      has_more = has_more;
      is = subst Is pq (subst (λ m. local (naming_of p) app.shared (env_of app T p) (app.own p) m (received p w.journal) ≡ record { sent = more ++ sent_by p w.journal; steps = m; standing = s }) (sym mine) here);
      larger = subst Larger pq (subst (λ m. IsWaiting s → (n : ℕ) → m ≤ n → local (naming_of p) app.shared (env_of app T p) (app.own p) n (received p w.journal) ≡ record { sent = more ++ sent_by p w.journal; steps = m; standing = s }) (sym mine) larger);
    }

-- where the run of p ends the run of all
run_ended : (app : Application) (budget : ℕ) (w : World) (p : ℕ) (point : Point Ref MadeSymbol) (k : Halt) (n1 : ℕ) → Running app w p point → stops app budget w p point ≡ Stopped k n1 → (q : ℕ) → Has_run app (record (charged p n1 w) { control = Over_with (Fault p k) }) (Fault p k) q
run_ended app budget w p point k n1 run_at e q =
    ⊎_elim
    (λ pq. mine_ends app budget w p point (Stopped k n1) (Fault p k) run_at e q pq (Has_ended k) (λ z. refl, λ z. absurd (z pq)) [] refl (settled app budget w p point (Stopped k n1) run_at.takes e tt n1 (omega arith)) (λ wait. elim wait [ ]))
    (λ ne. others_rest app w p point n1 (Fault p k) run_at q ne (λ s h. (λ z. absurd (ne z), λ z. h)) refl)
    (cases_eq p q)

run_short : (app : Application) (budget : ℕ) (w : World) (p : ℕ) (point : Point Ref MadeSymbol) (n1 : ℕ) → Running app w p point → stops app budget w p point ≡ Short n1 → (q : ℕ) → Has_run app (record (charged p n1 w) { control = Over_with (Budget p) }) (Budget p) q
run_short app budget w p point n1 run_at e q =
    let env = env_of app (table_of app w.journal) p in
    ⊎_elim
    (λ pq. mine_ends app budget w p point (Short n1) (Budget p) run_at e q pq Is_short (λ z. refl, λ z. absurd (z pq)) [] refl
    (ran app w p point run_at.takes n1 (above app budget w p point (Short n1) e) ∙ ap (after (naming_of p) (sent_by p w.journal) (bodies_of p w.stack)) (run_cut (naming_of p) app.shared env (w.steps p + (budget - w.spent)) (w.steps p) n1 point (omega arith) e)) (λ wait. elim wait [ ]))
    (λ ne. others_rest app w p point n1 (Budget p) run_at q ne (λ s h. (λ z. absurd (ne z), λ z. h)) refl)
    (cases_eq p q)

makes_alone : (app : Application) (journal : List Crossing) (o : Request Ref MadeSymbol) → has_room app journal o ≡ false → IsMake (Requests o)
makes_alone app journal (Asks g m) e = absurd (cc e)
makes_alone app journal (Imports link path) e = absurd (cc e)
makes_alone app journal (Makes globals modules meter) e = tt

not_made : (app : Application) (budget : ℕ) (w : World) (p : ℕ) (point : Point Ref MadeSymbol) (o : Request Ref MadeSymbol) (own : Party Ref MadeSymbol) (ks : List (Next Ref MadeSymbol)) (n1 : ℕ) → has_room app w.journal o ≡ false → Running app w p point → stops app budget w p point ≡ Sent o own ks n1 → (q : ℕ) → Has_run app (record (charged p n1 w) { control = Over_with (Parties p) }) (Parties p) q
not_made app budget w p point o own ks n1 no_room run_at e q =
    let x = outgoing (naming_of p) own n1 (Requests o) in
    ⊎_elim
    (λ pq. mine_ends app budget w p point (Sent o own ks n1) (Parties p) run_at e q pq (Waits own (ks ∷ bodies_of p w.stack)) tt (x ∷ []) (λ z. (x, refl, makes_alone app w.journal o no_room), λ z. absurd (z pq))
    (settled app budget w p point (Sent o own ks n1) run_at.takes e tt n1 (omega arith)) (λ wait n le. settled app budget w p point (Sent o own ks n1) run_at.takes e tt n le))
    (λ ne. others_rest app w p point n1 (Parties p) run_at q ne (λ s h. h) (λ z. absurd (ne z), λ z. refl))
    (cases_eq p q)

-- what p sends was known to it
sends_known : (app : Application) (w : World) (p r n n1 : ℕ) (own : Party Ref MadeSymbol) (x : Message Ref MadeSymbol) (older : List (Outgoing Ref MadeSymbol)) → (local (naming_of p) app.shared (env_of app (table_of app w.journal) p) (app.own p) n (received p w.journal)).sent ≡ outgoing (naming_of p) own n1 x ∷ older → WasGiven app (crossing p r own n1 x) w.journal
sends_known app w p r n n1 own x older is a ne there = sent_is_known p app.shared (env_of app (table_of app w.journal) p) (app.own p) n (received p w.journal) (table_of app w.journal) (outgoing (naming_of p) own n1 x) older is a ne there

after_story : (app : Application) (w : World) (x : ℕ → Crossing) (c : Reply Ref MadeSymbol) (stack : Stack) → ((r : ℕ) → Story app (x r ∷ w.journal)) → Story app (replies_of app x c stack w).journal
after_story app w x c [] story = story 0
after_story app w x c (b ∷ stack) story = story b.0

keeps_ask : (app : Application) (budget : ℕ) (w : World) (p : ℕ) (point : Point Ref MadeSymbol) → Core budget w → Story app w.journal → Running app w p point → (o : Request Ref MadeSymbol) (own : Party Ref MadeSymbol) (ks : List (Next Ref MadeSymbol)) (n : ℕ) → stops app budget w p point ≡ Sent o own ks n → (b : Bool) → has_room app w.journal o ≡ b → Holds app budget (has_asked app p w o own ks n b)
keeps_ask app budget w p point core story run_at o own ks n e true room =
    let h = core_charged app budget w p point (Sent o own ks n) core e in
    let r = asked_party app w.journal p o in
    let is = ap (λ (l : Local Ref MadeSymbol). l.sent) (settled app budget w p point (Sent o own ks n) run_at.takes e tt n (omega arith)) in
    record {
      core = record { within = h.0; share = h.1 };
      story = goes_on_so app w.journal story p r n own (Requests o) (sends_known app w p r n n own (Requests o) (sent_by p w.journal) is);
      at = passes app budget w p point o own ks n story run_at e r;
    }
keeps_ask app budget w p point core story run_at o own ks n e false no_room =
    let h = core_charged app budget w p point (Sent o own ks n) core e in
    record { core = record { within = h.0; share = h.1 }; story = story; at = not_made app budget w p point o own ks n no_room run_at e }

keeps_run : (app : Application) (budget : ℕ) (w : World) (p : ℕ) (point : Point Ref MadeSymbol) → Core budget w → Story app w.journal → Running app w p point → (stop : Stop Ref MadeSymbol) → stops app budget w p point ≡ stop → Holds app budget (has_run app p w stop)
keeps_run app budget w p point core story run_at (Sent o own ks n) e = keeps_ask app budget w p point core story run_at o own ks n e (has_room app w.journal o) refl
keeps_run app budget w p point core story run_at (Gave c own n) e =
    let h = core_charged app budget w p point (Gave c own n) core e in
    let is = ap (λ (l : Local Ref MadeSymbol). l.sent) (settled app budget w p point (Gave c own n) run_at.takes e tt n (omega arith)) in
    record {
      core = after_reply app budget (with_own p own (charged p n w)) (λ q. crossing p q own n (Replies (reply_of c))) (reply_of c) w.stack (record { within = h.0; share = h.1 });
      story = after_story app (with_own p own (charged p n w)) (λ q. crossing p q own n (Replies (reply_of c))) (reply_of c) w.stack (λ r. goes_on_so app w.journal story p r n own (Replies (reply_of c)) (sends_known app w p r n n own (Replies (reply_of c)) (sent_by p w.journal) is));
      at = passes_back app w p n own (reply_of c) w.stack refl run_at.asks (λ q m le. same_later app w.journal story (crossing p 0 own n (Replies (reply_of c))) q m ∙ rests_gave app budget w p point c own n run_at e q m le);
    }
keeps_run app budget w p point core story run_at (Stopped k n) e =
    let h = core_charged app budget w p point (Stopped k n) core e in
    record { core = record { within = h.0; share = h.1 }; story = story; at = run_ended app budget w p point k n run_at e }
keeps_run app budget w p point core story run_at (Short n) e =
    let h = core_charged app budget w p point (Short n) core e in
    record { core = record { within = h.0; share = h.1 }; story = story; at = run_short app budget w p point n run_at e }

keeps : (app : Application) (budget : ℕ) (w : World) → Core budget w → Story app w.journal → (c : Control) → At app w c → c ≡ w.control → Holds app budget (cross app budget w c)
keeps app budget w core story (Runs p point) at is = keeps_run app budget w p point core story at _ refl
keeps app budget w core story (Over_with e) at is = record { core = core; story = story; at = subst (At app w) is at }

-- before anything has run
begins_so : (app : Application) → IsWellMade app → (budget : ℕ) → Holds app budget (begins app)
begins_so app well budget = record {
  core = record { within = omega arith; share = λ q. omega arith };
  story = record {
    lawful = (λ a ne there. absurd there, tt);
    marked = λ q r rq there. choose 1 q (λ b. IsAmong (Of_object r) (given (app.own q) (if b then Requests (Imports root_link []) ∷ [] else [])) → HasMark (mark_in app (first_import ∷ []) r)) (λ e h. starts q r rq h) (λ e h. starts q r rq h) there;
  };
  at = record {
    turn = refl;
    asks = refl;
    takes = record { last = Requests (Imports root_link []); older = []; bodies = []; is = refl; before = λ n le. refl; serves = refl };
    others = λ q q1. record {
      by = λ n le. ap (λ b. local (naming_of q) app.shared (env_of app (table_of app (first_import ∷ [])) q) (app.own q) n (if b then Requests (Imports root_link []) ∷ [] else [])) (ne_eqb 1 q (λ z. q1 (sym z))) ∙ first_alike q;
    };
  };
}
  where
    starts : (q : ℕ) (r : Ref) → origin_of q r ≡ Foreign → IsAmong (Of_object r) (party_identities (app.own q) ++ []) → HasMark (mark_in app (first_import ∷ []) r)
    starts q r rq h = let m = well.marked q r rq (⊎_elim (λ k. k) (λ k. absurd k) (in_either (Of_object r) (party_identities (app.own q)) [] h)) in (let t = all_there r app.marks [] m in (t.0, mark_stays app first_import [] r t.0 t.1))

    first_alike : (q : ℕ) → record { sent = first_sent (first_of q); steps = 0; standing = Waits (app.own q) [] } ≡ at_rest (begins app) q
    first_alike zero = refl
    first_alike (suc q) = ap (λ b. record { sent = (if b then first_import.sent ∷ [] else []); steps = 0; standing = Waits (app.own (suc q)) [] }) (sym (ne_eqb 0 (suc q) (λ z. cc z)))

pub holds : (app : Application) → IsWellMade app → (budget m : ℕ) → Holds app budget (heap app budget m)
holds app well budget zero = begins_so app well budget
holds app well budget (suc m) = let h = holds app well budget m in let w = heap app budget m in keeps app budget w h.core h.story w.control h.at refl

pub are_given : (app : Application) → IsWellMade app → (budget m : ℕ) → AreGiven app (heap app budget m).journal
are_given app well budget m = (holds app well budget m).story.lawful

-- so it was known by the start
lawful_by : (app : Application) → IsWellMade app → (journal : List Crossing) → AreGiven app journal → IsLawful app journal
lawful_by app well [] h = tt
lawful_by app well (x ∷ older) h = (
  λ a ne there. ⊎_elim
      (λ k. in_front a (app.starts x.sender) (history_identities (received x.sender older)) (well.listed x.sender a ne k))
      (λ k. behind a (app.starts x.sender) (history_identities (received x.sender older)) k)
      (in_either a (party_identities (app.own x.sender)) (history_identities (received x.sender older)) (h.0 a ne there)),
  lawful_by app well older h.1,
)

pub is_lawful : (app : Application) → IsWellMade app → (budget m : ℕ) → IsLawful app (heap app budget m).journal
is_lawful app well budget m = lawful_by app well (heap app budget m).journal (are_given app well budget m)
