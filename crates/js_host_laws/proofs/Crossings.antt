-- The calls of the host from crossing to crossing.
use Rattle.std.proofs.Common.{◌≡◌, ◌≢◌, inl, inr, ℕ, zero, suc, List, [], ◌∷◌, length, Bool, true, false, ◌&&◌, not, Option, Some, None, refl, sym, ap, ◌∙◌, subst, if◌then◌else◌}
use Rattle.std.proofs.lemmas.Bool.{eq-eqb}
use Rattle.std.specs.Prelude.{nat_lt, pos}
use Rattle.lava_base.specs.declared.ids.MadeSymbol.{MadeSymbol}
use Rattle.lava_base.specs.declared.ids.Ref.{Ref}
use Rattle.lava_base.specs.declared.ids.Ref.TheVariants as reference
use Rattle.lava_base.specs.declared.marks.Marks.{Marks}
use Rattle.js_text.specs.Naming.{Own, Foreign, naming_of, origin_of}
use Rattle.js_text.specs.declared.text.TheConstants.{MAX_UNITS}
use Rattle.js_text.specs.declared.value.Value.{Value}
use Rattle.js_text.specs.declared.value.Value.TheVariants as value
use Rattle.js_desc.specs.declared.ask.Ask.TheVariants as ask
use Rattle.js_desc.specs.declared.reply.Reply.{Reply}
use Rattle.js_desc.specs.declared.reply.Reply.TheVariants as reply
use Rattle.js_run.specs.Acts.{End, throws}
use Rattle.js_run.specs.Completions as halt
use Rattle.js_run.specs.Completions.{Replied, reply_of}
use Rattle.js_run.specs.Faults.{error_object}
use Rattle.js_run.specs.Heap.{World, asks_of, charged, has_run, replies_of, with_own}
use Rattle.js_run.specs.Hosts.{outside_answers}
use Rattle.js_run.specs.Identities.{Requests, Replies}
use Rattle.js_run.specs.Journal.{Application, Crossing, crossing, env_of, owner_of, table_of}
use Rattle.js_run.specs.Outside.{OutsideCall, OutsideAnswer, AnswersText, AnswersNumber, AnswersTruth, AnswersNull, AnswersUndefined, Fails, IsGone}
use Rattle.js_run.specs.Parties.{Party, made}
use Rattle.js_run.specs.Runs.{Asks, Gave, Gives, Request, Sent, Short, Stop, Stopped, answered}
use Rattle.js_run.specs.declared.intrinsics.TheConstants.{ERROR_PROTOTYPE}
use Rattle.js_run_laws.proofs.Allowed.{serves_allowed, settle_allowed}
use Rattle.js_host_laws.specs.Calls.{Answers, AreAnswered, IsAnswerTo, call_of, call_there, ended_by, errors_of, host_calls_of, all_marks, is_thrown, thing_marks, throws_so, told, with_call}
use Rattle.js_host_laws.proofs.Quiet.{Asked}
use Rattle.js_host_laws.proofs.Running.{AreQuiet, GivesSo, IsAskAway, IsQuietStop, Waits}
use Rattle.js_host_laws.proofs.Serving.{stop_after, the_call}
use Rattle.js_host_laws.proofs.Things.{HostError, IsHost, count_is, error_at, host_with, one_error_more, things}
use Rattle.js_host_laws.proofs.Turns.{Good, IsGoodStack, IsPackageFirst, Stack, has_all}

-- AFTER THE HOST HAS RUN

module _ (app : Application) (w : World) (x : Crossing) (older : List Crossing) (stack : Stack) where
  -- the world where it runs
  abbrev here : World
  here = record w { stack = stack; journal = x ∷ older }

  abbrev errors : ℕ
  errors = errors_of (x ∷ older)

  abbrev calls : List OutsideCall
  calls = host_calls_of app (x ∷ older)

  abbrev pub After : Stop Ref MadeSymbol → Type 0
  After s = let v = has_run app 0 here s in Good app v v.control

  -- how many errors there are once it has given this
  abbrev errors_then : Reply Ref MadeSymbol → ℕ
  errors_then r = if throws_so r && not (is_thrown x.sent.body) then suc errors else errors

  -- it has replied to its asker
  gave_to : (q : ℕ) (ks : Waits) (below : Stack) (own : Party Ref MadeSymbol) (n : ℕ) (r : Reply Ref MadeSymbol) → q ≢ 0 → IsGoodStack below → AreAnswered app (x ∷ older) → IsHost (errors_then r) calls own
      → Answers app (crossing 0 q own n (Replies r)) x (call_of app x older) older
      → let v = replies_of app (λ t. crossing 0 t own n (Replies r)) r ((q, ks) ∷ below) (with_own 0 own (charged 0 n here)) in Good app v v.control
  gave_to zero ks below own n r ne good old is answers = absurd (ne refl)
  gave_to (suc q) ks below own n r ne good old is answers =
      let y = crossing 0 (suc q) own n (Replies r) in
      record {
        answered = (answers, old);
        stands = record {
          last = refl;
          good = good;
          host = is;
          allowed = settle_allowed (naming_of (suc q)) app.shared (env_of app (table_of app (y ∷ x ∷ older)) (suc q)) ks (Gives (Replied r) ((with_own 0 own (charged 0 n here)).own (suc q))) tt;
        };
      }

  gave : (s : Stack) (own : Party Ref MadeSymbol) (n : ℕ) (r : Reply Ref MadeSymbol) → IsPackageFirst s → IsGoodStack s → AreAnswered app (x ∷ older) → IsHost (errors_then r) calls own
      → ((q : ℕ) → Answers app (crossing 0 q own n (Replies r)) x (call_of app x older) older)
      → let v = replies_of app (λ t. crossing 0 t own n (Replies r)) r s (with_own 0 own (charged 0 n here)) in Good app v v.control
  gave [] own n r first good old is answers = absurd first
  gave (b ∷ below) own n r first good old is answers = gave_to b.0 b.1 below own n r first good.1 old is (answers b.0)

  -- it was not called
  module _ (no_call : call_of app x older ≡ None) (old : AreAnswered app (x ∷ older)) (first : IsPackageFirst stack) (good : IsGoodStack stack) (host : IsHost errors calls (w.own 0)) where
    nothing_due : (y : Crossing) → Answers app y x (call_of app x older) older
    nothing_due y = subst (λ o. Answers app y x o older) (sym no_call) tt

    -- it has asked a package
    sent_to : (q : ℕ) (own : Party Ref MadeSymbol) (n : ℕ) (r : Ref) (m : Asked) (ks : Waits) → q ≢ 0 → AreQuiet ks → IsHost errors calls own
        → let v = asks_of app (crossing 0 q own n (Requests (Asks r m))) 0 (Asks r m) ks (with_own 0 own (charged 0 n here)) in Good app v v.control
    sent_to zero own n r m ks ne quiet is = absurd (ne refl)
    sent_to (suc q) own n r m ks ne quiet is =
        let y = crossing 0 (suc q) own n (Requests (Asks r m)) in
        record {
          answered = (nothing_due y, old);
          stands = record {
            last = refl;
            good = ((quiet, first), good);
            host = is;
            allowed = serves_allowed (naming_of (suc q)) app.shared (env_of app (table_of app (y ∷ x ∷ older)) (suc q)) ((with_own 0 own (charged 0 n here)).own (suc q)) (Asks r m);
          };
        }

    -- an object that is foreign to the host is another party's
    elsewhere : (r : Ref) → origin_of 0 r ≡ Foreign → owner_of r ≢ 0
    elsewhere (reference.Common c) f = absurd cc
    elsewhere (reference.Own q i) f = λ e. let bad : Own i.0 ≡ Foreign = sym (ap (λ t. if t then Own i.0 else Foreign) (eq-eqb q.0 0 e)) ∙ f in cc bad

    sent_away : (o : Request Ref MadeSymbol) (own : Party Ref MadeSymbol) (ks : Waits) (n : ℕ) → IsAskAway app (table_of app (x ∷ older)) errors calls o → AreQuiet ks → IsHost errors calls own → After (Sent o own ks n)
    sent_away o own ks n h quiet is =
        subst (λ o. After (Sent o own ks n)) (sym h.3) (sent_to (owner_of h.0) own n h.0 h.1 ks (elsewhere h.0 h.2) quiet is)

    -- nothing was thrown to it
    counted : (r : Reply Ref MadeSymbol) (own : Party Ref MadeSymbol) → is_thrown x.sent.body ≡ false → GivesSo errors calls r own → IsHost (errors_then r) calls own
    counted r own nt (inl h) = subst (λ b. IsHost (if b && not (is_thrown x.sent.body) then suc errors else errors) calls own) (sym h.0) h.1
    counted r own nt (inr h) =
        subst (λ b. IsHost (if b && not (is_thrown x.sent.body) then suc errors else errors) calls own) (sym h.0) (subst (λ b. IsHost (if true && not b then suc errors else errors) calls own) (sym nt) h.1)

    pub quiet_ran : is_thrown x.sent.body ≡ false → (s : Stop Ref MadeSymbol) → IsQuietStop app (table_of app (x ∷ older)) errors calls s → After s
    quiet_ran nt (Sent o own ks n) h = sent_away o own ks n h.0 h.2 h.1
    quiet_ran nt (Gave c own n) h =
        subst (λ c. After (Gave c own n)) (sym h.1) (gave stack own n h.0 first good old (counted h.0 own nt h.2) (λ q. nothing_due (crossing 0 q own n (Replies h.0))))
    quiet_ran nt (Stopped e n) h = record { answered = old; stands = inr (has_all app here errors (x ∷ older) refl host, h) }
    quiet_ran nt (Short n) h = record { answered = old; stands = has_all app here errors (x ∷ older) refl host }

    -- what was thrown to it passes
    pub throw_ran : is_thrown x.sent.body ≡ true → (v : Value Ref MadeSymbol) (own : Party Ref MadeSymbol) (n : ℕ) → IsHost errors calls own → After (Gave (Replied (reply.Throw v)) own n)
    throw_ran thrown v own n is =
        gave stack own n (reply.Throw v) first good old (subst (λ b. IsHost (if true && not b then suc errors else errors) calls own) (sym thrown) is) (λ q. nothing_due (crossing 0 q own n (Replies (reply.Throw v))))

-- A CALL AT ONE OF ITS FUNCTIONS

module _ (app : Application) (w : World) (sender n₀ : ℕ) (sent : Party Ref MadeSymbol) (older : List Crossing) (waits : Waits) (below : Stack)
    (r : Ref) (i : ℕ) (this : Value Ref MadeSymbol) (args : List (Value Ref MadeSymbol)) (from : origin_of 0 r ≡ Own i)
    (es : List HostError) (depth : ℕ) (count : length es ≡ errors_of older) (is : w.own 0 ≡ host_with es (host_calls_of app older) depth) where
  abbrev x : Crossing
  x = crossing (suc sender) 0 sent n₀ (Requests (Asks r (ask.Call this args)))

  abbrev before : List OutsideCall
  before = host_calls_of app older

  abbrev errors_before : ℕ
  errors_before = errors_of older

  abbrev marks : Ref → Marks
  marks = table_of app (x ∷ older)

  abbrev c : OutsideCall
  c = the_call app marks errors_before es count before depth r i from args

  abbrev world : World
  world = here app w x older ((suc sender, waits) ∷ below)

  abbrev host_called : Party Ref MadeSymbol
  host_called = host_with es (c ∷ before) depth

  pub is_call : (thing_marks errors_before i).callable ≡ true → call_of app x older ≡ Some c
  is_call h = ap (λ at. call_there app.shared errors_before marks at args) from ∙ ap (λ b. if b then Some c else None) h

  abbrev AfterStop : Stop Ref MadeSymbol → Type 0
  AfterStop s = After app w x older ((suc sender, waits) ∷ below) s

  abbrev done : OutsideAnswer → ℕ → Stop Ref MadeSymbol
  done a n = stop_after app marks errors_before es count before depth r i from n (answered (naming_of 0) (env_of app marks 0) (outside_answers (naming_of 0) app.shared host_called a))

  module _ (called : call_of app x older ≡ Some c) (good : IsGoodStack below) (old : AreAnswered app (x ∷ older)) where
    calls_are : host_calls_of app (x ∷ older) ≡ c ∷ before
    calls_are = ap (λ (o : Option OutsideCall). with_call o before) called

    no_zero : suc sender ≢ 0
    no_zero e = cc e

    replied : (a : OutsideAnswer) (n : ℕ) (new : Party Ref MadeSymbol) (reply : Reply Ref MadeSymbol) → app.outside (c ∷ before) ≡ a → IsHost (if throws_so reply && not false then suc errors_before else errors_before) (c ∷ before) new
        → told (length (all_marks errors_before)) a ≡ Some reply → AfterStop (Gave (Replied reply) new n)
    replied a n new reply e host t =
        let answer : IsAnswerTo app (crossing 0 (suc sender) new n (Replies reply)) x c older =
        record { sender = refl; receiver = refl; reply = reply; body = refl; is = ap (told (length (all_marks errors_before))) e ∙ t } in
        gave_to app w x older ((suc sender, waits) ∷ below) (suc sender) waits below new n reply no_zero good old
        (subst (λ l. IsHost (if throws_so reply && not false then suc errors_before else errors_before) l new) (sym calls_are) host)
        (subst (λ o. Answers app (crossing 0 (suc sender) new n (Replies reply)) x o older) (sym called) answer)

    -- the run ends there
    ended : (a : OutsideAnswer) (n : ℕ) (k : halt.Halt) → app.outside (c ∷ before) ≡ a → ended_by a ≡ Some k → AfterStop (Stopped k n)
    ended a n k e t =
        let same : (world.own 0).calls ≡ before = ap (λ (q : Party Ref MadeSymbol). q.calls) is in
        record {
          answered = old;
          stands = inl (c, calls_are ∙ sym (ap (λ l. c ∷ l) same), ap (λ l. ended_by (app.outside (c ∷ l))) same ∙ ap ended_by e ∙ t);
        }

    plain : IsHost errors_before (c ∷ before) host_called
    plain = record { es = es; depth = depth; count = count; is = refl }

    fails : (t : List ℕ) (n : ℕ) → app.outside (c ∷ before) ≡ Fails t → (b : Bool) → nat_lt MAX_UNITS (length t) ≡ b
        → AfterStop (stop_after app marks errors_before es count before depth r i from n (answered (naming_of 0) (env_of app marks 0)
        (if b then End halt.Text else throws (value.Ref ((naming_of 0).own (length host_called.objects))) (made host_called (error_object (naming_of 0) true ERROR_PROTOTYPE t)))))
    fails t n e true k = ended (Fails t) n halt.Text e (ap (λ b. if b then Some halt.Text else None) k)
    fails t n e false k =
        let thrown : ℕ → Reply Ref MadeSymbol = λ m. reply.Throw (value.Ref ((naming_of 0).own m)) in
        let as_many : length (things es) ≡ length (all_marks errors_before) = count_is errors_before es count in
        replied (Fails t) n (made host_called (error_at (None, t))) (thrown (length (things es))) e (one_error_more errors_before (c ∷ before) es depth (None, t) count)
        (ap (λ b. if b then None else Some (thrown (length (all_marks errors_before)))) k ∙ ap (λ m. Some (thrown m)) (sym as_many))

    pub goes : (a : OutsideAnswer) (n : ℕ) → app.outside (c ∷ before) ≡ a → AfterStop (done a n)
    goes (AnswersText t) n e = replied (AnswersText t) n host_called (reply.Value (value.Text t)) e plain refl
    goes (AnswersNumber k) n e = replied (AnswersNumber k) n host_called (reply.Value (value.Int (pos k))) e plain refl
    goes (AnswersTruth b) n e = replied (AnswersTruth b) n host_called (reply.Value (value.Bool b)) e plain refl
    goes AnswersNull n e = replied AnswersNull n host_called (reply.Value value.Null) e plain refl
    goes AnswersUndefined n e = replied AnswersUndefined n host_called (reply.Value value.Undefined) e plain refl
    goes (Fails t) n e = fails t n e (nat_lt MAX_UNITS (length t)) refl
    goes IsGone n e = ended IsGone n halt.Outside e refl
