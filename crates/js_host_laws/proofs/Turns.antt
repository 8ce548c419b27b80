-- How the host stands in a world: asked, replied to, or waiting below others.
use Rattle.std.proofs.Common.{◌≡◌, ◌≢◌, ◌⊎◌, inl, inr, ℕ, zero, suc, ◌+◌, arith, List, [], ◌∷◌, Bool, true, false, None, refl, sym, ap, ◌∙◌, subst, ne_eqb, if◌then◌else◌}
use Rattle.std.specs.Prelude.{⊤}
use Rattle.lava_base.specs.declared.ids.MadeSymbol.{MadeSymbol}
use Rattle.lava_base.specs.declared.ids.Ref.{Ref}
use Rattle.js_text.specs.Naming.{Foreign, naming_of, origin_of}
use Rattle.js_desc.specs.declared.reply.Reply.{Reply}
use Rattle.js_desc.specs.declared.reply.Reply.TheVariants as reply
use Rattle.js_run.specs.Completions.{Replied, reply_of}
use Rattle.js_run.specs.Heap.{Control, Over_with, Runs, World, asks_of, charged, has_asked, has_run, replies_of, with_own}
use Rattle.js_run.specs.Identities.{Requests, Replies}
use Rattle.js_run.specs.Journal.{Application, Crossing, asked_party, crossing, end_of, env_of, has_room, is_host, owner_of, put, table_of}
use Rattle.js_run.specs.Local.{serves}
use Rattle.js_run.specs.Net.{last_receiver}
use Rattle.js_run.specs.Parties.{Party}
use Rattle.js_run.specs.Runs.{Asks, Gave, Gives, Imports, Makes, Point, Request, Sent, Short, Stop, Stopped, settle}
use Rattle.js_run_laws.proofs.Allowed.{IsAllowed, PointAllowed, StopAllowed, serves_allowed, settle_allowed}
use Rattle.js_host_laws.specs.Calls.{Answers, AreAnswered, HasAll, HasCalled, HasHost, call_sent, errors_of, host_calls_of}
use Rattle.js_host_laws.proofs.Running.{AreQuiet, Waits}
use Rattle.js_host_laws.proofs.Things.{IsHost}

abbrev pub Stack : Type 0
Stack = List (ℕ × Waits)

-- a package waits first
abbrev pub IsPackageFirst : Stack → Type 0
IsPackageFirst [] = ⊥
IsPackageFirst (b ∷ stack) = b.0 ≢ 0

abbrev pub IfHost : ℕ → Type 0 → Type 0
IfHost zero T = T
IfHost (suc p) T = ⊤

-- where the host waits, what waits is quiet, and the package that asked it waits below
abbrev pub IsGoodStack : Stack → Type 0
IsGoodStack [] = ⊤
IsGoodStack (b ∷ stack) = IfHost b.0 (AreQuiet b.1 × IsPackageFirst stack) × IsGoodStack stack

-- where an ask comes to the host from a package
abbrev pub ComesFrom : ℕ → Request Ref MadeSymbol → Type 0
ComesFrom p (Asks r x) = (origin_of p r ≡ Foreign) × (owner_of r ≡ 0)
ComesFrom p (Imports link path) = ⊤
ComesFrom p (Makes globals modules meter) = ⊥

-- the host after this journal
abbrev pub HostAfter : Application → List Crossing → Party Ref MadeSymbol → Type 0
HostAfter app journal p = IsHost (errors_of journal) (host_calls_of app journal) p

-- a package has asked the host, which runs
pub record HostAsked (app : Application) (w : World) (point : Point Ref MadeSymbol) : Type 0 where
  pub sender : ℕ
  pub own : Party Ref MadeSymbol
  pub steps : ℕ
  pub asked : Request Ref MadeSymbol
  pub older : List Crossing
  pub waits : Waits
  pub below : Stack
  pub journal : w.journal ≡ crossing (suc sender) 0 own steps (Requests asked) ∷ older
  pub stack : w.stack ≡ (suc sender, waits) ∷ below
  pub good : IsGoodStack below
  pub host : HostAfter app older (w.own 0)
  pub from : ComesFrom (suc sender) asked
  pub is : point ≡ serves (naming_of 0) app.shared (env_of app (table_of app w.journal) 0) (w.own 0) asked

-- a package has replied to the host, which goes on
pub record HostReplied (app : Application) (w : World) (point : Point Ref MadeSymbol) : Type 0 where
  pub sender : ℕ
  pub own : Party Ref MadeSymbol
  pub steps : ℕ
  pub reply : Reply Ref MadeSymbol
  pub older : List Crossing
  pub waits : Waits
  pub journal : w.journal ≡ crossing (suc sender) 0 own steps (Replies reply) ∷ older
  pub first : IsPackageFirst w.stack
  pub good : IsGoodStack w.stack
  pub quiet : AreQuiet waits
  pub host : HostAfter app older (w.own 0)
  pub is : point ≡ settle (naming_of 0) app.shared (env_of app (table_of app w.journal) 0) waits (Gives (Replied reply) (w.own 0))

-- a package runs
pub record PackageRuns (app : Application) (w : World) (p : ℕ) (point : Point Ref MadeSymbol) : Type 0 where
  pub last : last_receiver w.journal ≡ suc p
  pub good : IsGoodStack w.stack
  pub host : HostAfter app w.journal (w.own 0)
  pub allowed : PointAllowed (naming_of (suc p)) app.shared (env_of app (table_of app w.journal) (suc p)) point

abbrev pub StandsSo : Application → World → Control → Type 0
StandsSo app w (Runs zero point) = HostAsked app w point ⊎ HostReplied app w point
StandsSo app w (Runs (suc p) point) = PackageRuns app w p point
StandsSo app w (Over_with e) = HasCalled app w e

pub record Good (app : Application) (w : World) (c : Control) : Type 0 where
  pub answered : AreAnswered app w.journal
  pub stands : StandsSo app w c

-- what comes behind a crossing to a package answers no call
pub next_answered : (app : Application) (p : ℕ) (y : Crossing) (journal : List Crossing) → last_receiver journal ≡ suc p → AreAnswered app journal → AreAnswered app (y ∷ journal)
next_answered app p y [] e h = tt
next_answered app p y (x ∷ older) e h = (subst (λ q. Answers app y x (if is_host q then call_sent app.shared (errors_of older) (table_of app (x ∷ older)) x.sent.body else None) older) (sym e) tt, h)

-- the end of a run by a reply to the host
over_so : (app : Application) (w : World) (r : Reply Ref MadeSymbol) → HasAll app w → HasCalled app w (end_of r)
over_so app w (reply.Throw v) h = h
over_so app w (reply.Value v) h = h
over_so app w (reply.Proto o) h = h
over_so app w (reply.Flag b) h = h
over_so app w (reply.Desc d) h = h
over_so app w (reply.Keys ks) h = h

pub has_all : (app : Application) (w : World) (n : ℕ) (journal : List Crossing) → host_calls_of app w.journal ≡ host_calls_of app journal → IsHost n (host_calls_of app journal) (w.own 0) → HasAll app w
has_all app w n journal e h = e ∙ sym (ap (λ (q : Party Ref MadeSymbol). q.calls) h.is)

no_zero : (p : ℕ) → suc p ≢ 0
no_zero p e = cc e

-- another party's things are changed, and not the host's
not_host : {A : Type 0} (p : ℕ) (a : A) (f : ℕ → A) → put (suc p) a f 0 ≡ f 0
not_host p a f = ap (λ b. if b then a else f 0) (ne_eqb (suc p) 0 (no_zero p))

no_sum : (n m : ℕ) → n ≢ 0 → n + m ≡ 0 → ⊥
no_sum n m ne e = ne (omega (arith, e))

-- A PACKAGE RUNS

module _ (app : Application) (has : HasHost app) (w : World) (p : ℕ) (before : Point Ref MadeSymbol) (old : AreAnswered app w.journal) (s : PackageRuns app w p before) where
  host_kept : (own : Party Ref MadeSymbol) (n : ℕ) → HostAfter app w.journal ((with_own (suc p) own (charged (suc p) n w)).own 0)
  host_kept own n = subst (HostAfter app w.journal) (sym (not_host p own w.own)) s.host

  comes_from : (o : Request Ref MadeSymbol) → IsAllowed (naming_of (suc p)) app.shared (env_of app (table_of app w.journal) (suc p)) o → asked_party app w.journal (suc p) o ≡ 0 → ComesFrom (suc p) o
  comes_from (Asks r x) allowed e = (allowed, e)
  comes_from (Imports link path) allowed e = tt
  comes_from (Makes globals modules meter) allowed e = absurd (no_sum app.count _ has.counted e)

  sent_to : (q : ℕ) (o : Request Ref MadeSymbol) (own : Party Ref MadeSymbol) (ks : Waits) (n : ℕ) → IsAllowed (naming_of (suc p)) app.shared (env_of app (table_of app w.journal) (suc p)) o
      → asked_party app w.journal (suc p) o ≡ q → let v = asks_of app (crossing (suc p) q own n (Requests o)) (suc p) o ks (with_own (suc p) own (charged (suc p) n w)) in Good app v v.control
  sent_to zero o own ks n allowed e = record {
    answered = next_answered app p (crossing (suc p) 0 own n (Requests o)) w.journal s.last old;
    stands = inl (record {
      sender = p;
      own = own;
      steps = n;
      asked = o;
      older = w.journal;
      waits = ks;
      below = w.stack;
      journal = refl;
      stack = refl;
      good = s.good;
      host = host_kept own n;
      from = comes_from o allowed e;
      is = refl;
    });
  }
  sent_to (suc q) o own ks n allowed e =
      let x = crossing (suc p) (suc q) own n (Requests o) in
      record {
        answered = next_answered app p x w.journal s.last old;
        stands = record {
          last = refl;
          good = (tt, s.good);
          host = host_kept own n;
          allowed = serves_allowed (naming_of (suc q)) app.shared (env_of app (table_of app (x ∷ w.journal)) (suc q)) ((with_own (suc p) own (charged (suc p) n w)).own (suc q)) o;
        };
      }

  asked_so : (o : Request Ref MadeSymbol) (own : Party Ref MadeSymbol) (ks : Waits) (n : ℕ) (b : Bool) → IsAllowed (naming_of (suc p)) app.shared (env_of app (table_of app w.journal) (suc p)) o
      → let v = has_asked app (suc p) w o own ks n b in Good app v v.control
  asked_so o own ks n true allowed = sent_to (asked_party app w.journal (suc p) o) o own ks n allowed refl
  asked_so o own ks n false allowed = record { answered = old; stands = has_all app w (errors_of w.journal) w.journal refl s.host }

  -- the body that goes on is the host's, or another party's
  gave_to : (q : ℕ) (own : Party Ref MadeSymbol) (n : ℕ) (r : Reply Ref MadeSymbol) (ks : Waits) (stack : Stack) → IsGoodStack ((q, ks) ∷ stack)
      → let v = replies_of app (λ t. crossing (suc p) t own n (Replies r)) r ((q, ks) ∷ stack) (with_own (suc p) own (charged (suc p) n w)) in Good app v v.control
  gave_to zero own n r ks stack h = record {
    answered = next_answered app p (crossing (suc p) 0 own n (Replies r)) w.journal s.last old;
    stands = inr (record {
      sender = p;
      own = own;
      steps = n;
      reply = r;
      older = w.journal;
      waits = ks;
      journal = refl;
      first = h.0.1;
      good = h.1;
      quiet = h.0.0;
      host = host_kept own n;
      is = refl;
    });
  }
  gave_to (suc q) own n r ks stack h =
      let x = crossing (suc p) (suc q) own n (Replies r) in
      record {
        answered = next_answered app p x w.journal s.last old;
        stands = record {
          last = refl;
          good = h.1;
          host = host_kept own n;
          allowed = settle_allowed (naming_of (suc q)) app.shared (env_of app (table_of app (x ∷ w.journal)) (suc q)) ks (Gives (Replied r) ((with_own (suc p) own (charged (suc p) n w)).own (suc q))) tt;
        };
      }

  gave_so : (own : Party Ref MadeSymbol) (n : ℕ) (r : Reply Ref MadeSymbol) (stack : Stack) → IsGoodStack stack
      → let v = replies_of app (λ t. crossing (suc p) t own n (Replies r)) r stack (with_own (suc p) own (charged (suc p) n w)) in Good app v v.control
  gave_so own n r [] h =
      let v = replies_of app (λ t. crossing (suc p) t own n (Replies r)) r [] (with_own (suc p) own (charged (suc p) n w)) in
      record { answered = next_answered app p (crossing (suc p) 0 own n (Replies r)) w.journal s.last old; stands = over_so app v r (has_all app v (errors_of w.journal) w.journal refl (host_kept own n)) }
  gave_so own n r (b ∷ stack) h = gave_to b.0 own n r b.1 stack h

  pub package_ran : (stop : Stop Ref MadeSymbol) → StopAllowed (naming_of (suc p)) app.shared (env_of app (table_of app w.journal) (suc p)) stop → let v = has_run app (suc p) w stop in Good app v v.control
  package_ran (Sent o own ks n) h = asked_so o own ks n (has_room app w.journal o) h
  package_ran (Gave c own n) h = gave_so own n (reply_of c) w.stack s.good
  package_ran (Stopped e n) h = record { answered = old; stands = has_all app w (errors_of w.journal) w.journal refl s.host }
  package_ran (Short n) h = record { answered = old; stands = has_all app w (errors_of w.journal) w.journal refl s.host }
