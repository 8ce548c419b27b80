-- From the first import to the end: whatever the host is asked.
use Rattle.std.proofs.Common.{◌≡◌, ◌≢◌, ℕ, suc, List, [], ◌∷◌, map, slice_get, Bool, true, false, Option, Some, None, refl, sym, ap, ◌∙◌, subst, if◌then◌else◌}
use Rattle.std.proofs.lemmas.Bool.{eq-eqb}
use Rattle.lava_base.specs.declared.ids.MadeSymbol.{MadeSymbol}
use Rattle.lava_base.specs.declared.ids.Ref.{Ref}
use Rattle.lava_base.specs.declared.ids.Ref.TheVariants as reference
use Rattle.lava_base.specs.declared.marks.Marks.{Marks}
use Rattle.js_text.specs.Naming.{Own, Foreign, naming_of, origin_of}
use Rattle.js_text.specs.declared.value.Value.TheVariants as value
use Rattle.js_desc.specs.declared.ask.Ask.TheVariants as ask
use Rattle.js_desc.specs.declared.reply.Reply.{Reply}
use Rattle.js_desc.specs.declared.reply.Reply.TheVariants as reply
use Rattle.js_run.specs.Decisions.{decides}
use Rattle.js_run.specs.Completions.{Replied}
use Rattle.js_run.specs.Heap.{World}
use Rattle.js_run.specs.Identities.{Requests, Replies}
use Rattle.js_run.specs.Journal.{Application, Crossing, crossing, env_of, owner_of, table_of}
use Rattle.js_run.specs.Local.{serves, serves_at}
use Rattle.js_run.specs.Modules.{imported_module, imports, imports_there, loaded_at, throws_plain_error}
use Rattle.js_run.specs.Parties.{Party}
use Rattle.js_run.specs.Requests.{not_found_text, whole_request}
use Rattle.js_run.specs.Runs.{Asks, Decides, Due, Gives, Imports, Makes, Request, answered, run, run_for, settle}
use Rattle.js_host_laws.specs.Calls.{AreAnswered, HasHost, call_asked, call_of, call_there, errors_of, host_calls_of, thing_marks, printed, throws_so, with_call}
use Rattle.js_host_laws.proofs.Answers.{not_callable}
use Rattle.js_host_laws.proofs.Crossings.{After, goes, is_call, quiet_ran, throw_ran}
use Rattle.js_host_laws.proofs.Quiet.{Asked, HostValue, IsNoCall}
use Rattle.js_host_laws.proofs.Running.{AreQuiet, IsQuietPoint, Waits, answered_so, at_steps_so, charges_one, error_thrown, gives, passes, runs_for}
use Rattle.js_host_laws.proofs.Serving.{call_runs, the_call}
use Rattle.js_host_laws.proofs.Things.{IsHost, marks_are}
use Rattle.js_host_laws.proofs.Turns.{ComesFrom, HostAfter, IsGoodStack, IsPackageFirst, Stack}

-- AN IMPORT, WHICH THE HOST HAS NO MODULE FOR

no_module : (request : List ℕ) (n : Option ℕ) (p : Party Ref MadeSymbol) → p.modules ≡ [] → imports_there (naming_of 0) request n (loaded_at (naming_of 0) n p) p ≡ throws_plain_error (naming_of 0) (not_found_text request) p
no_module request None p e = refl
no_module request (Some k) p e = ap (λ m. imports_there (naming_of 0) request (Some k) m p) (ap (λ ms. slice_get ms k) e)

-- AN ASK

module _ (app : Application) (has : HasHost app) (w : World) (sender n₀ : ℕ) (sent : Party Ref MadeSymbol) (older : List Crossing) (waits : Waits) (below : Stack) (limit n : ℕ) (good : IsGoodStack below) (host : HostAfter app older (w.own 0)) where
  abbrev x : Request Ref MadeSymbol → Crossing
  x o = crossing (suc sender) 0 sent n₀ (Requests o)

  abbrev marks : Request Ref MadeSymbol → Ref → Marks
  marks o = table_of app (x o ∷ older)

  no_zero : suc sender ≢ 0
  no_zero e = cc e

  abbrev Serves : Request Ref MadeSymbol → Type 0
  Serves o =
      AreAnswered app (x o ∷ older)
      → After app w (x o) older ((suc sender, waits) ∷ below) (run (naming_of 0) app.shared (env_of app (marks o) 0) limit n (serves (naming_of 0) app.shared (env_of app (marks o) 0) (w.own 0) o))

  -- what is no call
  quiet : (o : Request Ref MadeSymbol) → call_of app (x o) older ≡ None → IsQuietPoint app (marks o) (errors_of older) (host_calls_of app older) (serves (naming_of 0) app.shared (env_of app (marks o) 0) (w.own 0) o) → Serves o
  quiet o none h old =
      let calls_same : host_calls_of app older ≡ host_calls_of app (x o ∷ older) = sym (ap (λ k. with_call k (host_calls_of app older)) none) in
      let point = serves (naming_of 0) app.shared (env_of app (marks o) 0) (w.own 0) o in
      let so : IsQuietPoint app (marks o) (errors_of older) (host_calls_of app (x o ∷ older)) point = subst (λ l. IsQuietPoint app (marks o) (errors_of older) l point) calls_same h in
      quiet_ran app w (x o) older ((suc sender, waits) ∷ below) none old no_zero (tt, good) (subst (λ l. IsHost (errors_of older) l (w.own 0)) calls_same host) refl
      (run (naming_of 0) app.shared (env_of app (marks o) 0) limit n point)
      (at_steps_so app (marks o) (errors_of older) (host_calls_of app (x o ∷ older)) n (run_for (naming_of 0) app.shared (env_of app (marks o) 0) 1000 1000 0 point)
      (runs_for app (marks o) (errors_of older) (host_calls_of app (x o ∷ older)) has.repairs 1000 1000 0 point so))

  module _ (r : Ref) (i : ℕ) (from : origin_of 0 r ≡ Own i) where
    -- an ask that is no Call
    no_call : (m : Asked) → IsNoCall m → call_asked app.shared (errors_of older) (marks (Asks r m)) r m ≡ None → Serves (Asks r m)
    no_call m h none =
        quiet (Asks r m) none
        (subst (λ at. IsQuietPoint app (marks (Asks r m)) (errors_of older) (host_calls_of app older) (serves_at at r m (w.own 0))) (sym from) ((r, m, Own i, from, h, refl), host, tt))

    -- a Call at an object that is not callable
    no_function : (this : HostValue) (args : List HostValue) → (thing_marks (errors_of older) i).callable ≡ false → Serves (Asks r (ask.Call this args))
    no_function this args c old =
        let m = ask.Call this args in
        let o = Asks r m in
        let none : call_of app (x o) older ≡ None =
        ap (λ at. call_there app.shared (errors_of older) (marks o) at args) from ∙ ap (λ b. if b then Some (record { function = i; arguments = map (printed app.shared (errors_of older) (marks o)) args }) else None) c in
        let calls_same : host_calls_of app older ≡ host_calls_of app (x o ∷ older) = sym (ap (λ k. with_call k (host_calls_of app older)) none) in
        let now : IsHost (errors_of older) (host_calls_of app (x o ∷ older)) (w.own 0) = subst (λ l. IsHost (errors_of older) l (w.own 0)) calls_same host in
        let env = env_of app (marks o) 0 in
        let calls = host_calls_of app (x o ∷ older) in
        let errors = errors_of older in
        subst (λ at. After app w (x o) older ((suc sender, waits) ∷ below) (run (naming_of 0) app.shared env limit n (serves_at at r m (w.own 0)))) (sym from)
        (quiet_ran app w (x o) older ((suc sender, waits) ∷ below) none old no_zero (tt, good) now refl
        (run (naming_of 0) app.shared env limit n (Due 0 (Decides (value.Ref r) m) (w.own 0) []))
        (at_steps_so app (marks o) errors calls n (run_for (naming_of 0) app.shared env 1000 1000 0 (Due 0 (Decides (value.Ref r) m) (w.own 0) []))
        (charges_one app (marks o) errors calls has.repairs 999 1000 0 0 (Decides (value.Ref r) m) (w.own 0) [] now
        (runs_for app (marks o) errors calls has.repairs 999 1000 1 (settle (naming_of 0) app.shared env [] (answered (naming_of 0) env (decides (naming_of 0) app.shared (value.Ref r) m (w.own 0))))
        (subst (λ p. IsQuietPoint app (marks o) errors calls (settle (naming_of 0) app.shared env [] (answered (naming_of 0) env (decides (naming_of 0) app.shared (value.Ref r) m p)))) (sym now.is)
        (answered_so app (marks o) errors calls has.repairs [] tt r m now.es now.depth now.count
        (not_callable app.shared has.repairs now.es calls now.depth r i this args from (ap (λ (m : Marks). m.callable) (marks_are errors now.es i now.count) ∙ c))))))))

    a_function : (this : HostValue) (args : List HostValue) → (thing_marks (errors_of older) i).callable ≡ true → Serves (Asks r (ask.Call this args))
    a_function this args callable old =
        let o = Asks r (ask.Call this args) in
        let env = env_of app (marks o) 0 in
        let c = the_call app (marks o) (errors_of older) host.es host.count (host_calls_of app older) host.depth r i from args in
        let AfterIt = After app w (x o) older ((suc sender, waits) ∷ below) in
        subst (λ p. AfterIt (run (naming_of 0) app.shared env limit n (serves (naming_of 0) app.shared env p o))) (sym host.is)
        (subst AfterIt
        (sym (call_runs app (marks o) (errors_of older) host.es host.count (host_calls_of app older) host.depth r i from limit n this args (ap (λ (m : Marks). m.callable) (marks_are (errors_of older) host.es i host.count) ∙ callable)))
        (goes app w sender n₀ sent older waits below r i this args from host.es host.depth host.count host.is
        (is_call app w sender n₀ sent older waits below r i this args from host.es host.depth host.count host.is callable) good old (app.outside (c ∷ host_calls_of app older)) n refl))

    called : (this : HostValue) (args : List HostValue) (b : Bool) → (thing_marks (errors_of older) i).callable ≡ b → Serves (Asks r (ask.Call this args))
    called this args true e = a_function this args e
    called this args false e = no_function this args e

    asks_at : (m : Asked) → Serves (Asks r m)
    asks_at (ask.Call this args) = called this args (thing_marks (errors_of older) i).callable refl
    asks_at ask.GetPrototypeOf = no_call ask.GetPrototypeOf tt refl
    asks_at (ask.SetPrototypeOf p) = no_call (ask.SetPrototypeOf p) tt refl
    asks_at ask.IsExtensible = no_call ask.IsExtensible tt refl
    asks_at ask.PreventExtensions = no_call ask.PreventExtensions tt refl
    asks_at (ask.GetOwnProperty k) = no_call (ask.GetOwnProperty k) tt refl
    asks_at (ask.DefineOwnProperty k d) = no_call (ask.DefineOwnProperty k d) tt refl
    asks_at (ask.HasProperty k) = no_call (ask.HasProperty k) tt refl
    asks_at (ask.Get k v) = no_call (ask.Get k v) tt refl
    asks_at (ask.Set k v q) = no_call (ask.Set k v q) tt refl
    asks_at (ask.Delete k) = no_call (ask.Delete k) tt refl
    asks_at ask.OwnPropertyKeys = no_call ask.OwnPropertyKeys tt refl
    asks_at (ask.Construct target args) = no_call (ask.Construct target args) tt refl
    asks_at (ask.Import link path) = no_call (ask.Import link path) tt refl
    asks_at (ask.Slot which args) = no_call (ask.Slot which args) tt refl
    asks_at (ask.Make globals modules) = no_call (ask.Make globals modules) tt refl
    asks_at ask.Queue = no_call ask.Queue tt refl
    asks_at ask.Turn = no_call ask.Turn tt refl

  -- an object of another party than a package, where it is asked at the host, is the host's
  asked_at : (r : Ref) (m : Asked) → origin_of (suc sender) r ≡ Foreign → owner_of r ≡ 0 → Serves (Asks r m)
  asked_at (reference.Common c) m f e = absurd cc
  asked_at (reference.Own q i) m f e = asks_at (reference.Own q i) i.0 (ap (λ t. if t then Own i.0 else Foreign) (eq-eqb q.0 0 e)) m

  imported : (link path : List ℕ) → Serves (Imports link path)
  imported link path =
      let o : Request Ref MadeSymbol = Imports link path in
      let env = env_of app (marks o) 0 in
      let p = w.own 0 in
      let request = whole_request link path in
      let is : imports (naming_of 0) link path p ≡ throws_plain_error (naming_of 0) (not_found_text request) p = no_module request (imported_module (naming_of 0) path p) p (ap (λ (q : Party Ref MadeSymbol). q.modules) host.is) in
      quiet o refl
      (subst (λ a. IsQuietPoint app (marks o) (errors_of older) (host_calls_of app older) (settle (naming_of 0) app.shared env [] (answered (naming_of 0) env a))) (sym is)
      (error_thrown app (marks o) (errors_of older) (host_calls_of app older) [] tt None (not_found_text request) p host))

  pub host_serves : (o : Request Ref MadeSymbol) → ComesFrom (suc sender) o → Serves o
  host_serves (Asks r m) from = asked_at r m from.0 from.1
  host_serves (Imports link path) from = imported link path
  host_serves (Makes globals modules meter) from = absurd from

-- A REPLY

module _ (app : Application) (has : HasHost app) (w : World) (sender n₀ : ℕ) (sent : Party Ref MadeSymbol) (older : List Crossing) (stack : Stack) (waits : Waits) (limit n : ℕ)
    (first : IsPackageFirst stack) (good : IsGoodStack stack) (quiet_waits : AreQuiet waits) (host : HostAfter app older (w.own 0)) where
  abbrev y : Reply Ref MadeSymbol → Crossing
  y r = crossing (suc sender) 0 sent n₀ (Replies r)

  abbrev GoesOn : Reply Ref MadeSymbol → Type 0
  GoesOn r =
      let env = env_of app (table_of app (y r ∷ older)) 0 in
      AreAnswered app (y r ∷ older) → After app w (y r) older stack (run (naming_of 0) app.shared env limit n (settle (naming_of 0) app.shared env waits (Gives (Replied r) (w.own 0))))

  given : (r : Reply Ref MadeSymbol) → throws_so r ≡ false → GoesOn r
  given r t old =
      let marks = table_of app (y r ∷ older) in
      let env = env_of app marks 0 in
      let point = settle (naming_of 0) app.shared env waits (Gives (Replied r) (w.own 0)) in
      quiet_ran app w (y r) older stack refl old first good host t
      (run (naming_of 0) app.shared env limit n point)
      (at_steps_so app marks (errors_of older) (host_calls_of app older) n (run_for (naming_of 0) app.shared env 1000 1000 0 point)
      (runs_for app marks (errors_of older) (host_calls_of app older) has.repairs 1000 1000 0 point (gives app marks (errors_of older) (host_calls_of app older) waits quiet_waits r t (w.own 0) host)))

  thrown : (v : HostValue) → GoesOn (reply.Throw v)
  thrown v old =
      let r : Reply Ref MadeSymbol = reply.Throw v in
      let marks = table_of app (y r ∷ older) in
      let env = env_of app marks 0 in
      let rest = passes app marks (errors_of older) (host_calls_of app older) waits quiet_waits v (errors_of older) (w.own 0) host in
      subst (λ point. After app w (y r) older stack (run (naming_of 0) app.shared env limit n point)) (sym rest.1)
      (throw_ran app w (y r) older stack refl old first good host refl v rest.0 n rest.2)

  pub host_goes_on : (r : Reply Ref MadeSymbol) → GoesOn r
  host_goes_on (reply.Throw v) = thrown v
  host_goes_on (reply.Value v) = given (reply.Value v) refl
  host_goes_on (reply.Proto o) = given (reply.Proto o) refl
  host_goes_on (reply.Flag b) = given (reply.Flag b) refl
  host_goes_on (reply.Desc d) = given (reply.Desc d) refl
  host_goes_on (reply.Keys ks) = given (reply.Keys ks) refl
