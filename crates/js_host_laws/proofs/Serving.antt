-- What the host does with a Call at one of its functions: it prints the arguments, and asks the outside.
use Rattle.std.proofs.Common.{◌≡◌, ℕ, List, [], ◌∷◌, ◌++◌, length, map, true, refl, sym, ap, ◌∙◌, append_assoc, append-nil}
use Rattle.lava_base.specs.declared.ids.MadeSymbol.{MadeSymbol}
use Rattle.lava_base.specs.declared.ids.Ref.{Ref}
use Rattle.lava_base.specs.declared.marks.Marks.{Marks}
use Rattle.js_text.specs.Naming.{Origin, Own, Common, Foreign, naming_of, origin_of}
use Rattle.js_text.specs.declared.value.Value.{Value}
use Rattle.js_text.specs.declared.value.Value.TheVariants as value
use Rattle.js_desc.specs.declared.ask.Ask.{Ask}
use Rattle.js_desc.specs.declared.ask.Ask.TheVariants as ask
use Rattle.js_store.specs.Objects.{object_at}
use Rattle.js_store.specs.declared.slot.Slot.TheVariants as slot
use Rattle.js_ordinary.specs.Origins.{object_of}
use Rattle.js_run.specs.Acts.{Act}
use Rattle.js_run.specs.Asking.{see_there}
use Rattle.js_run.specs.Decisions.{decides, decides_by_slot}
use Rattle.js_run.specs.Hosts.{calls_outside, number_there, outside_answers, printed_all, printed_marks}
use Rattle.js_run.specs.Journal.{Application, env_of}
use Rattle.js_run.specs.Local.{serves, serves_at}
use Rattle.js_run.specs.Outside.{OutsideCall}
use Rattle.js_run.specs.Parties.{Party}
use Rattle.js_run.specs.Runs.{Asks, Env, Move, Stop, answered, at_steps, marks_there as marks_from, run, run_for, settle}
use Rattle.js_host_laws.specs.Calls.{marks_seen, printed}
use Rattle.js_host_laws.proofs.Things.{HostError, HostObject, bare_at, host_with, marks_are, things}

module _ (app : Application) (marks : Ref → Marks) (errors : ℕ) (es : List HostError) (count : length es ≡ errors) (calls : List OutsideCall) (depth : ℕ) where
  abbrev env : Env Ref
  env = env_of app marks 0

  abbrev pub host : Party Ref MadeSymbol
  host = host_with es calls depth

  -- PRINTING

  module _ (go : List (List ℕ) → Act Ref MadeSymbol) where
    abbrev shown : List (Value Ref MadeSymbol) → List (List ℕ)
    shown vs = map (printed app.shared errors marks) vs

    abbrev Prints : List (Value Ref MadeSymbol) → List (List ℕ) → Type 0
    Prints vs done = answered (naming_of 0) env (printed_all (naming_of 0) app.shared vs done host go) ≡ answered (naming_of 0) env (go (done ++ shown vs))

    one_more : (v : Value Ref MadeSymbol) (vs : List (Value Ref MadeSymbol)) (done : List (List ℕ)) → Prints vs (done ++ printed app.shared errors marks v ∷ [])
        → answered (naming_of 0) env (printed_all (naming_of 0) app.shared vs (done ++ printed app.shared errors marks v ∷ []) host go) ≡ answered (naming_of 0) env (go (done ++ shown (v ∷ vs)))
    one_more v vs done h = h ∙ ap (λ l. answered (naming_of 0) env (go l)) (append_assoc done (printed app.shared errors marks v ∷ []) (shown vs))

    -- the marks of an object are seen
    seen_at : (r : Ref) (at : Origin) → origin_of 0 r ≡ at → (f : Marks → Act Ref MadeSymbol)
        → answered (naming_of 0) env (see_there (naming_of 0) app.shared at r host f) ≡ answered (naming_of 0) env (f (marks_seen app.shared errors marks r at))
    seen_at r (Own i) e f = ap (λ m. answered (naming_of 0) env (f m)) (marks_are errors es i count)
    seen_at r (Common c) e f = refl
    seen_at r Foreign e f = ap (λ at. answered (naming_of 0) env (f (marks_from marks r at))) e

    prints : (vs : List (Value Ref MadeSymbol)) (done : List (List ℕ)) → Prints vs done
    prints [] done = ap (λ l. answered (naming_of 0) env (go l)) (sym (append-nil done))
    prints (value.Ref r ∷ vs) done =
        seen_at r (origin_of 0 r) refl (λ m. printed_all (naming_of 0) app.shared vs (done ++ printed_marks m ∷ []) host go)
        ∙ one_more (value.Ref r) vs done (prints vs (done ++ printed app.shared errors marks (value.Ref r) ∷ []))
    prints (value.Undefined ∷ vs) done = one_more value.Undefined vs done (prints vs (done ++ printed app.shared errors marks value.Undefined ∷ []))
    prints (value.Null ∷ vs) done = one_more value.Null vs done (prints vs (done ++ printed app.shared errors marks value.Null ∷ []))
    prints (value.Bool b ∷ vs) done = one_more (value.Bool b) vs done (prints vs (done ++ printed app.shared errors marks (value.Bool b) ∷ []))
    prints (value.Int n ∷ vs) done = one_more (value.Int n) vs done (prints vs (done ++ printed app.shared errors marks (value.Int n) ∷ []))
    prints (value.Text t ∷ vs) done = one_more (value.Text t) vs done (prints vs (done ++ printed app.shared errors marks (value.Text t) ∷ []))
    prints (value.Symbol s ∷ vs) done = one_more (value.Symbol s) vs done (prints vs (done ++ printed app.shared errors marks (value.Symbol s) ∷ []))

  -- A CALL

  module _ (r : Ref) (i : ℕ) (from : origin_of 0 r ≡ Own i) where
    abbrev here : HostObject
    here = object_at (things es) i

    -- it decides with nothing kept
    decides_bare : (x : Ask Ref MadeSymbol) → decides (naming_of 0) app.shared (value.Ref r) x host ≡ decides_by_slot (naming_of 0) app.shared r slot.Plain here.marks.callable x host
    decides_bare x =
        ap (λ at. let o = object_of (naming_of 0).common host.objects app.shared.objects at in decides_by_slot (naming_of 0) app.shared r o.slot o.marks.callable x host) from
        ∙ ap (λ s. decides_by_slot (naming_of 0) app.shared r s here.marks.callable x host) (bare_at es i)

    abbrev pub the_call : List (Value Ref MadeSymbol) → OutsideCall
    the_call args = record { function = i; arguments = map (printed app.shared errors marks) args }

    abbrev pub host_called : OutsideCall → Party Ref MadeSymbol
    host_called c = host_with es (c ∷ calls) depth

    -- a function of the host asks the outside
    function_does : (this : Value Ref MadeSymbol) (args : List (Value Ref MadeSymbol)) → here.marks.callable ≡ true
        → answered (naming_of 0) env (decides (naming_of 0) app.shared (value.Ref r) (ask.Call this args) host) ≡ answered (naming_of 0) env (outside_answers (naming_of 0) app.shared (host_called (the_call args)) (app.outside (the_call args ∷ calls)))
    function_does this args c =
        let called : OutsideCall → Act Ref MadeSymbol = λ k. calls_outside (naming_of 0) app.shared k host in
        ap (answered (naming_of 0) env) (decides_bare (ask.Call this args))
        ∙ ap (λ b. answered (naming_of 0) env (decides_by_slot (naming_of 0) app.shared r slot.Plain b (ask.Call this args) host)) c
        ∙ prints (λ l. called (record { function = number_there (naming_of 0) app.shared (origin_of 0 r); arguments = l })) args []
        ∙ ap (λ at. answered (naming_of 0) env (called (record { function = number_there (naming_of 0) app.shared at; arguments = map (printed app.shared errors marks) args }))) from

    -- THE RUN OF THE HOST

    abbrev pub stop_after : ℕ → Move Ref MadeSymbol → Stop Ref MadeSymbol
    stop_after n m = at_steps n (run_for (naming_of 0) app.shared env 999 1000 1 (settle (naming_of 0) app.shared env [] m))

    pub call_runs : (limit n : ℕ) (this : Value Ref MadeSymbol) (args : List (Value Ref MadeSymbol)) → here.marks.callable ≡ true
        → run (naming_of 0) app.shared env limit n (serves (naming_of 0) app.shared env host (Asks r (ask.Call this args)))
        ≡ stop_after n (answered (naming_of 0) env (outside_answers (naming_of 0) app.shared (host_called (the_call args)) (app.outside (the_call args ∷ calls))))
    call_runs limit n this args c =
        ap (λ at. run (naming_of 0) app.shared env limit n (serves_at at r (ask.Call this args) host)) from
        ∙ ap (stop_after n) (function_does this args c)
