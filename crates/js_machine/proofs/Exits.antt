-- What comes out of scopes and labels.
use Rattle.std.proofs.Common.{◌≡◌, ℕ, Bool, true, false, None, replicate, refl, sym, ap, ◌∙◌, subst, Result, Ok, Err, IfOk, if◌then◌else◌}
use Rattle.js_text.specs.Texts.{same_units}
use Rattle.js_text.specs.declared.value.Value.TheVariants as value
use Rattle.js_code.specs.Decoded.{term_at, text_at}
use Rattle.js_operation.specs.js_run.Acts.{End, Give, give}
use Rattle.js_operation.specs.js_run.Completions.{Breaks, Continues}
use Rattle.js_operation.specs.js_run.Control.{inside}
use Rattle.js_operation.specs.js_run.Parties.{refreshed}
use Rattle.js_operation.specs.js_run.Runs.{Ended}
use Rattle.js_machine.specs.Bodies.{scope_of, stood_in}
use Rattle.js_machine.specs.Halts.{halt_coded, halt_number}
use Rattle.js_machine.specs.Steps.{IsDelivered, LeadsTo, Waits}
use Rattle.js_machine.specs.Views.{halt_of, View, is_completion, party_of, with_copy, with_scope}
use Rattle.js_machine.specs.declared.frame.Frame.TheVariants as frame
use Rattle.js_machine.specs.declared.frame.Halt.{Halt}
use Rattle.js_machine.specs.declared.frame.Halt.TheVariants as halt
use Rattle.js_machine.specs.declared.frame.Mode.{Mode}
use Rattle.js_machine.specs.declared.frame.Mode.TheVariants as mode

exits_by : (s : ℕ) (m : Mode) (old : View) → is_completion m ≡ true → IsDelivered (frame.ScopeExit s) m old (record old { bodies = stood_in s old.bodies }) m
exits_by s (mode.Eval at) old c = cc
exits_by s mode.Ask old c = cc
exits_by s mode.Answer old c = cc
exits_by s mode.Value old c = record { stands = λ a. refl; keeps = (refl, (refl, (refl, (refl, refl)))) }
exits_by s mode.Throw old c = record { stands = λ a. refl; keeps = (refl, (refl, (refl, (refl, refl)))) }
exits_by s mode.Return old c = record { stands = λ a. refl; keeps = (refl, (refl, (refl, (refl, refl)))) }
exits_by s (mode.Break l) old c = record { stands = λ a. refl; keeps = (refl, (refl, (refl, (refl, refl)))) }
exits_by s (mode.Continue l) old c = record { stands = λ a. refl; keeps = (refl, (refl, (refl, (refl, refl)))) }
exits_by s (mode.End h) old c = cc
exits_by s (mode.Pay i) old c = cc
exits_by s (mode.Serve i) old c = cc
exits_by s mode.Import old c = cc
exits_by s mode.Outside old c = cc

pub exits : (s : ℕ) (m : Mode) (old new : View) → is_completion m ≡ true → new ≡ record old { bodies = stood_in s old.bodies } → IsDelivered (frame.ScopeExit s) m old new m
exits s m old new c e = subst (λ w. IsDelivered (frame.ScopeExit s) m old w m) (sym e) (exits_by s m old c)

-- a scope is entered
pub scoped : {E : Type 0} (r : Result Mode E) (n back at : ℕ) (old mid new : View) → back ≡ scope_of old.bodies → mid ≡ with_scope (replicate n None) old → IfOk r (Waits (frame.ScopeExit back) at mid new)
    → IfOk r (LeadsTo (λ a. inside (replicate n None) (term_at old.code at) (party_of a old) Give) old new)
scoped (Ok m) n back at old mid new s e h =
    let w = subst (λ x. Waits (frame.ScopeExit back) at x new m) e h in
    let v = subst (λ k. Waits (frame.ScopeExit k) at (with_scope (replicate n None) old) new m) s w in
    record { leads = λ a. v.leads a; keeps = v.keeps }
scoped (Err x) n back at old mid new s e h = tt

pub refreshes : {E : Type 0} (r : Result Mode E) (old mid new : View) → mid ≡ with_copy old → IfOk r (LeadsTo (λ a. give value.Undefined (party_of a mid)) mid new)
    → IfOk r (LeadsTo (λ a. give value.Undefined (refreshed (party_of a old))) old new)
refreshes (Ok m) old mid new e h = let w = subst (λ x. LeadsTo (λ a. give value.Undefined (party_of a x)) x new m) e h in record { leads = λ a. w.leads a; keeps = w.keeps }
refreshes (Err x) old mid new e h = tt

-- LABELS

passes_by : (l : ℕ) (m : Mode) (old : View) → is_completion m ≡ true → ((to : ℕ) → m ≡ mode.Break to → ⊥) → IsDelivered (frame.Label l) m old old m
passes_by l (mode.Eval at) old c n = cc
passes_by l mode.Ask old c n = cc
passes_by l mode.Answer old c n = cc
passes_by l mode.Value old c n = record { stands = λ a. refl; keeps = (refl, (refl, (refl, (refl, refl)))) }
passes_by l mode.Throw old c n = record { stands = λ a. refl; keeps = (refl, (refl, (refl, (refl, refl)))) }
passes_by l mode.Return old c n = record { stands = λ a. refl; keeps = (refl, (refl, (refl, (refl, refl)))) }
passes_by l (mode.Break to) old c n = absurd (n to refl)
passes_by l (mode.Continue to) old c n = record { stands = λ a. refl; keeps = (refl, (refl, (refl, (refl, refl)))) }
passes_by l (mode.End h) old c n = cc
passes_by l (mode.Pay i) old c n = cc
passes_by l (mode.Serve i) old c n = cc
passes_by l mode.Import old c n = cc
passes_by l mode.Outside old c n = cc

pub passes_label : (l : ℕ) (m : Mode) (old : View) → is_completion m ≡ true → ((to : ℕ) → m ≡ mode.Break to → ⊥) → IsDelivered (frame.Label l) m old old m
passes_label l m old c n = passes_by l m old c n

-- where a break leads, by whether the label is its own
abbrev Broken : Bool → ℕ → View → View → Mode → Type 0
Broken b to old new m = LeadsTo (λ a. if b then give value.Undefined (party_of a old) else Give (Breaks (text_at old.code to)) (party_of a old)) old new m

broken : {E : Type 0} (r : Result Mode E) (l to : ℕ) (old new : View) → IfOk r (Broken (same_units (text_at old.code to) (text_at old.code l)) to old new) → IfOk r (IsDelivered (frame.Label l) (mode.Break to) old new)
broken (Ok m) l to old new h = record { stands = λ a. h.leads a; keeps = h.keeps }
broken (Err x) l to old new h = tt

pub ends_there : {E : Type 0} (r : Result Mode E) (l to : ℕ) (b : Bool) (old new : View) → b ≡ same_units (text_at old.code to) (text_at old.code l) → b ≡ true → IfOk r (LeadsTo (λ a. give value.Undefined (party_of a old)) old new)
    → IfOk r (IsDelivered (frame.Label l) (mode.Break to) old new)
ends_there r l to b old new e t h = broken r l to old new (subst (λ x. IfOk r (Broken x to old new)) (sym t ∙ e) h)

pub goes_past : (l to : ℕ) (b : Bool) (old : View) → b ≡ same_units (text_at old.code to) (text_at old.code l) → b ≡ false → IsDelivered (frame.Label l) (mode.Break to) old old (mode.Break to)
goes_past l to b old e f =
    let past : Broken false to old old (mode.Break to) = record { leads = λ a. refl; keeps = (refl, (refl, (refl, (refl, refl)))) } in
    let done = subst (λ x. Broken x to old old (mode.Break to)) (sym f ∙ e) past in
    record { stands = λ a. done.leads a; keeps = done.keeps }

pub breaks_out : (l : ℕ) (old : View) → LeadsTo (λ a. Give (Breaks (text_at old.code l)) (party_of a old)) old old (mode.Break l)
breaks_out l old = record { leads = λ a. refl; keeps = (refl, (refl, (refl, (refl, refl)))) }

pub continues_out : (l : ℕ) (old : View) → LeadsTo (λ a. Give (Continues (text_at old.code l)) (party_of a old)) old old (mode.Continue l)
continues_out l old = record { leads = λ a. refl; keeps = (refl, (refl, (refl, (refl, refl)))) }

coded : (h : Halt) → halt_coded (halt_number h) ≡ h
coded halt.Number = refl
coded halt.Text = refl
coded halt.Depth = refl
coded halt.Meter = refl
coded halt.Outside = refl

pub halts : (h : Halt) (n : ℕ) (old : View) → n ≡ halt_number h → LeadsTo (λ a. End (halt_of h)) old old (mode.End n)
halts h n old e =
    let there : halt_coded n ≡ h = ap halt_coded e ∙ coded h in
    record { leads = λ a. ap (λ k. Ended (halt_of k)) there; keeps = (refl, (refl, (refl, (refl, refl)))) }
