-- The law, from crossing to crossing.
use Rattle.std.proofs.Common.{◌≡◌, ◌⊎◌, inl, inr, ℕ, zero, suc, ◌+◌, ◌-◌, List, [], ◌∷◌, length, Bool, true, false, Some, None, refl, sym, ap, ◌∙◌, subst, if◌then◌else◌}
use Rattle.std.specs.Prelude.{nat_lt}
use Rattle.std.specs.Option.{unwrap_or}
use Rattle.js_text.specs.Naming.{naming_of}
use Rattle.js_text.specs.declared.text.TheConstants.{MAX_UNITS}
use Rattle.lava_base.specs.declared.ids.MadeSymbol.{MadeSymbol}
use Rattle.lava_base.specs.declared.ids.Ref.{Ref}
use Rattle.js_run.specs.Completions as halt
use Rattle.js_run.specs.Completions.{Replied}
use Rattle.js_run.specs.Heap.{Control, Over_with, Runs, World, cross, has_run, heap}
use Rattle.js_run.specs.Identities.{Requests, Replies}
use Rattle.js_run.specs.Journal.{Application, Crossing, Ending, Fault, crossing, env_of, first_import, root_link, table_of}
use Rattle.js_run.specs.Laws.{ending_of}
use Rattle.js_run.specs.Local.{serves}
use Rattle.js_run.specs.Outside.{OutsideAnswer, AnswersText, AnswersNumber, AnswersTruth, AnswersNull, AnswersUndefined, Fails, IsGone, OutsideCall}
use Rattle.js_run.specs.Runs.{Gives, Imports, Point, Stop, run, settle}
use Rattle.js_run_laws.proofs.Allowed.{run_allowed, serves_allowed}
use Rattle.js_host_laws.specs.Calls.{AreAnswered, Gone_at_the_newest, HasCalled, HasHost, Host_calls_are_crossings, ended_by, host_calls_of}
use Rattle.js_host_laws.proofs.Course.{host_goes_on, host_serves}
use Rattle.js_host_laws.proofs.Turns.{Good, HostAsked, HostReplied, Stack, StandsSo, package_ran}

-- where the parts of a world are these
by_parts : (P : World → Type 0) (w : World) (stack : Stack) (journal : List Crossing) → w.stack ≡ stack → w.journal ≡ journal → P (record w { stack = stack; journal = journal }) → P w
by_parts P w stack journal es ej h = subst (λ j. P (record w { stack = w.stack; journal = j })) (sym ej) (subst (λ s. P (record w { stack = s; journal = journal })) (sym es) h)

abbrev HasRunSo : Application → World → Stop Ref MadeSymbol → Type 0
HasRunSo app w s = let v = has_run app 0 w s in Good app v v.control

module _ (app : Application) (has : HasHost app) (limit n : ℕ) where
  asked_ran : (w : World) (point : Point Ref MadeSymbol) → HostAsked app w point → AreAnswered app w.journal → HasRunSo app w (run (naming_of 0) app.shared (env_of app (table_of app w.journal) 0) limit n point)
  asked_ran w point s old =
      subst (λ q. HasRunSo app w (run (naming_of 0) app.shared (env_of app (table_of app w.journal) 0) limit n q)) (sym s.is)
      (by_parts
      (λ v. AreAnswered app v.journal → HasRunSo app v (run (naming_of 0) app.shared (env_of app (table_of app v.journal) 0) limit n (serves (naming_of 0) app.shared (env_of app (table_of app v.journal) 0) (w.own 0) s.asked)))
      w ((suc s.sender, s.waits) ∷ s.below) (crossing (suc s.sender) 0 s.own s.steps (Requests s.asked) ∷ s.older) s.stack s.journal
      (host_serves app has w s.sender s.steps s.own s.older s.waits s.below limit n s.good s.host s.asked s.from) old)

  replied_ran : (w : World) (point : Point Ref MadeSymbol) → HostReplied app w point → AreAnswered app w.journal → HasRunSo app w (run (naming_of 0) app.shared (env_of app (table_of app w.journal) 0) limit n point)
  replied_ran w point s old =
      subst (λ q. HasRunSo app w (run (naming_of 0) app.shared (env_of app (table_of app w.journal) 0) limit n q)) (sym s.is)
      (by_parts
      (λ v. AreAnswered app v.journal
      → HasRunSo app v (run (naming_of 0) app.shared (env_of app (table_of app v.journal) 0) limit n (settle (naming_of 0) app.shared (env_of app (table_of app v.journal) 0) s.waits (Gives (Replied s.reply) (w.own 0)))))
      w w.stack (crossing (suc s.sender) 0 s.own s.steps (Replies s.reply) ∷ s.older) refl s.journal
      (host_goes_on app has w s.sender s.steps s.own s.older w.stack s.waits limit n s.first s.good s.quiet s.host s.reply) old)

  host_ran : (w : World) (point : Point Ref MadeSymbol) → HostAsked app w point ⊎ HostReplied app w point → AreAnswered app w.journal → HasRunSo app w (run (naming_of 0) app.shared (env_of app (table_of app w.journal) 0) limit n point)
  host_ran w point (inl s) old = asked_ran w point s old
  host_ran w point (inr s) old = replied_ran w point s old

module _ (app : Application) (has : HasHost app) (budget : ℕ) where
  crossed : (w : World) (k : Control) → k ≡ w.control → Good app w k → Good app (cross app budget w k) (cross app budget w k).control
  crossed w (Runs zero point) is g = host_ran app has (w.steps 0 + (budget - w.spent)) (w.steps 0) w point g.stands g.answered
  crossed w (Runs (suc p) point) is g =
      let env = env_of app (table_of app w.journal) (suc p) in
      let limit = w.steps (suc p) + (budget - w.spent) in
      package_ran app has w p point g.answered g.stands (run (naming_of (suc p)) app.shared env limit (w.steps (suc p)) point) (run_allowed (naming_of (suc p)) app.shared env limit (w.steps (suc p)) point g.stands.allowed)
  crossed w (Over_with e) is g = subst (Good app w) is g

  from_begin : (m : ℕ) → Good app (heap app budget m) (heap app budget m).control
  from_begin zero = record {
    answered = tt;
    stands = record {
      last = refl;
      good = tt;
      host = record { es = []; depth = 0; count = refl; is = has.first };
      allowed = serves_allowed (naming_of 1) app.shared (env_of app (table_of app (first_import ∷ [])) 1) (app.own 1) (Imports root_link []);
    };
  }
  from_begin (suc m) = let w = heap app budget m in crossed w w.control refl (from_begin m)

at_end : (app : Application) (w : World) (k : Control) (e : Ending) → ending_of k ≡ Some e → StandsSo app w k → HasCalled app w e
at_end app w (Runs p point) e is s = absurd cc
at_end app w (Over_with f) e is s = subst (HasCalled app w) (ap (λ o. unwrap_or o f) is) s

pub are_crossings : Host_calls_are_crossings
are_crossings app has budget m e over =
    let w = heap app budget m in
    let g = from_begin app has budget m in
    record { calls = at_end app w w.control e over g.stands; answered = g.answered }

-- an answer that ends the run so is none
gone_by : (a : OutsideAnswer) → ended_by a ≡ Some halt.Outside → a ≡ IsGone
gone_by IsGone e = refl
gone_by (Fails t) e = by_length (nat_lt MAX_UNITS (length t)) e
  where
    by_length : (b : Bool) → (if b then Some halt.Text else None) ≡ Some halt.Outside → Fails t ≡ IsGone
    by_length true e = absurd cc
    by_length false e = absurd cc
gone_by (AnswersText t) e = absurd cc
gone_by (AnswersNumber n) e = absurd cc
gone_by (AnswersTruth b) e = absurd cc
gone_by AnswersNull e = absurd cc
gone_by AnswersUndefined e = absurd cc

gone_in : (app : Application) (w : World) → HasCalled app w (Fault 0 halt.Outside) → (calls : List OutsideCall) → ((cs : List OutsideCall) → app.outside cs ≡ IsGone → cs ≡ calls) → host_calls_of app w.journal ≡ calls
gone_in app w (inl h) calls alone = h.1 ∙ alone (h.0 ∷ (w.own 0).calls) (gone_by (app.outside (h.0 ∷ (w.own 0).calls)) h.2)
gone_in app w (inr h) calls alone = absurd (h.1 refl)

pub gone_at : Gone_at_the_newest
gone_at app has budget m over calls alone = gone_in app (heap app budget m) (are_crossings app has budget m (Fault 0 halt.Outside) over).calls calls alone
