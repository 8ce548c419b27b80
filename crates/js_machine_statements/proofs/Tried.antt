-- `try`, with what follows it.
use Rattle.std.proofs.Common.{◌≡◌, ℕ, true, List, [], ◌∷◌, ◌++◌, length, Option, Some, None, refl, sym, ap, ◌∙◌, subst, replicate, Result, Ok, Err, IfOk}
use Rattle.std.proofs.Math.Seq.{set-append_seam, get_or-append_seam}
use Rattle.std.specs.Option.{option_map}
use Rattle.lava_base.specs.declared.ids.MadeSymbol.{MadeSymbol}
use Rattle.lava_base.specs.declared.ids.Ref.{Ref}
use Rattle.js_text.specs.Naming.{naming_of}
use Rattle.js_text.specs.declared.value.Value.{Value}
use Rattle.js_code.specs.Decoded.{term_at}
use Rattle.js_code.specs.Tables.{Tables}
use Rattle.js_code.specs.declared.node.GuardedRow.{GuardedRow}
use Rattle.js_machine.specs.js_run.Control.{finishes, inside, try_ends}
use Rattle.js_machine.specs.js_run.Parties.{Party}
use Rattle.js_machine.specs.js_run.Runs.{answered}
use Rattle.js_state.specs.Scopes.{Scope, no_scope, with_slot, with_value}
use Rattle.js_term.specs.declared.term.Term.{Term}
use Rattle.js_machine.specs.Bodies.{scope_of, stood_in}
use Rattle.js_machine.specs.Steps.{Follows, GoesOn, IsDelivered, LeadsTo, Waits, comes, deed_with, point_of, settles, under}
use Rattle.js_machine.specs.Views.{Around, View, below, completion_with, values_without, finalizer_of, fitting, guarded_at, handler_of, is_completion, party_of, top, with_scope}
use Rattle.js_machine.specs.declared.frame.Frame.TheVariants as frame
use Rattle.js_machine.specs.declared.frame.Mode.{Mode}
use Rattle.js_machine.specs.declared.frame.Mode.TheVariants as mode

-- what stands last, as the row has it
abbrev Finishes : Option ℕ → Mode → View → View → Mode → Type 0
Finishes last m old new after = Follows (λ a. finishes (option_map (term_at old.code) last)) m old new after

waits_last : {E : Type 0} (r : Result Mode E) (m : Mode) (at : ℕ) (old new : View) → is_completion m ≡ true → IfOk r (Waits (frame.Finally m) at old new) → IfOk r (Finishes (Some at) m old new)
waits_last (Ok k) (mode.Eval x) at old new c h = cc
waits_last (Ok k) mode.Ask at old new c h = cc
waits_last (Ok k) mode.Answer at old new c h = cc
waits_last (Ok k) mode.Value at old new c h = record { leads = λ a. h.leads a; keeps = h.keeps }
waits_last (Ok k) mode.Throw at old new c h = record { leads = λ a. h.leads a; keeps = h.keeps }
waits_last (Ok k) mode.Return at old new c h = record { leads = λ a. h.leads a; keeps = h.keeps }
waits_last (Ok k) (mode.Break l) at old new c h = record { leads = λ a. h.leads a; keeps = h.keeps }
waits_last (Ok k) (mode.Continue l) at old new c h = record { leads = λ a. h.leads a; keeps = h.keeps }
waits_last (Ok k) (mode.End x) at old new c h = cc
waits_last (Ok k) (mode.Pay i) at old new c h = cc
waits_last (Ok k) (mode.Serve i) at old new c h = cc
waits_last (Ok k) mode.Import at old new c h = cc
waits_last (Ok k) mode.Outside at old new c h = cc
waits_last (Err x) m at old new c h = tt

no_last : (m : Mode) (old : View) → is_completion m ≡ true → Finishes None m old old m
no_last (mode.Eval x) old c = cc
no_last mode.Ask old c = cc
no_last mode.Answer old c = cc
no_last mode.Value old c = record { leads = λ a. refl; keeps = (refl, (refl, (refl, (refl, refl)))) }
no_last mode.Throw old c = record { leads = λ a. refl; keeps = (refl, (refl, (refl, (refl, refl)))) }
no_last mode.Return old c = record { leads = λ a. refl; keeps = (refl, (refl, (refl, (refl, refl)))) }
no_last (mode.Break l) old c = record { leads = λ a. refl; keeps = (refl, (refl, (refl, (refl, refl)))) }
no_last (mode.Continue l) old c = record { leads = λ a. refl; keeps = (refl, (refl, (refl, (refl, refl)))) }
no_last (mode.End x) old c = cc
no_last (mode.Pay i) old c = cc
no_last (mode.Serve i) old c = cc
no_last mode.Import old c = cc
no_last mode.Outside old c = cc

pub last_waits : {E : Type 0} (r : Result Mode E) (m : Mode) (g at : ℕ) (o : Option ℕ) (old new : View) → is_completion m ≡ true → o ≡ (guarded_at old.code g).finalizer → o ≡ Some at
    → IfOk r (Waits (frame.Finally m) at old new) → IfOk r (Follows (λ a. finishes (finalizer_of old.code g)) m old new)
last_waits r m g at o old new c s e h = subst (λ x. IfOk r (Finishes x m old new)) (sym e ∙ s) (waits_last r m at old new c h)

pub last_missing : (m : Mode) (g : ℕ) (o : Option ℕ) (old : View) → is_completion m ≡ true → o ≡ (guarded_at old.code g).finalizer → o ≡ None → Follows (λ a. finishes (finalizer_of old.code g)) m old old m
last_missing m g o old c s e = subst (λ x. Finishes x m old old m) (sym e ∙ s) (no_last m old c)

-- HANDLERS

abbrev Scopes : Type 0
Scopes = List (Scope Ref MadeSymbol)

slot_given : (ss : Scopes) (s : Scope Ref MadeSymbol) (v : Value Ref MadeSymbol) → with_slot (ss ++ s ∷ []) (length ss) 0 v ≡ ss ++ with_value s 0 v ∷ []
slot_given ss s v = set-append_seam ss s [] (with_value _ 0 v) ∙ ap (λ x. ss ++ with_value x 0 v ∷ []) (get_or-append_seam ss s [] no_scope)

-- a scope with one slot is entered, once the slot is written
pub entered_with : (v : Value Ref MadeSymbol) (back id : ℕ) (was old : View) (ss ts : Scopes) → was ≡ old → back ≡ scope_of old.bodies → ss ≡ was.scopes ++ record { outer = back; slots = replicate 1 None } ∷ [] → id ≡ length was.scopes
    → ts ≡ with_slot ss id 0 v → record was { scopes = ts; bodies = stood_in id was.bodies } ≡ with_scope (Some v ∷ []) old
entered_with v back id was old ss ts u s e d w =
    let done : ts ≡ was.scopes ++ record { outer = scope_of old.bodies; slots = Some v ∷ [] } ∷ [] =
    w ∙ (λ j. with_slot (e j) (d j) 0 v) ∙ slot_given was.scopes (record { outer = back; slots = replicate 1 None }) v ∙ ap (λ k. was.scopes ++ record { outer = k; slots = Some v ∷ [] } ∷ []) s in
    (λ j. record was { scopes = done j; bodies = stood_in (d j) was.bodies }) ∙ (λ j. record (u j) { scopes = (u j).scopes ++ record { outer = scope_of old.bodies; slots = Some v ∷ [] } ∷ []; bodies = stood_in (length (u j).scopes) (u j).bodies })

abbrev Handles : Option Term → ℕ → View → View → Mode → Type 0
Handles last at old new m = GoesOn (λ a v p. inside (Some v ∷ []) (term_at old.code at) p (finishes last)) old new m

pub handled : {E : Type 0} (r : Result Mode E) (g at back : ℕ) (v : Value Ref MadeSymbol) (old low mid new : View) → v ≡ top old.values → low ≡ record old { values = below old.values } → back ≡ scope_of low.bodies
    → mid ≡ with_scope (Some v ∷ []) low → IfOk r (Waits (frame.Handled g back) at mid new) → IfOk r (Handles (finalizer_of old.code g) at old new)
handled (Ok m) g at back v old low mid new t l s e h =
    let s' : back ≡ scope_of old.bodies = s ∙ ap (λ (w : View). scope_of w.bodies) l in
    let e' : mid ≡ with_scope (Some (top old.values) ∷ []) (record old { values = below old.values }) = e ∙ (λ j. with_scope (Some (t j) ∷ []) (l j)) in
    let w = subst (λ x. Waits (frame.Handled g back) at x new m) e' h in
    let u = subst (λ k. Waits (frame.Handled g k) at (with_scope (Some (top old.values) ∷ []) (record old { values = below old.values })) new m) s' w in
    record { leads = λ a. u.leads a; keeps = u.keeps }
handled (Err x) g at back v old low mid new t l s e h = tt

-- WHAT COMES OUT OF A `try`

-- a completion comes
comes_by : (a : Around) (w : View) (m : Mode) → is_completion m ≡ true → point_of a w m ≡ comes a w m
comes_by a w (mode.Eval x) c = cc
comes_by a w mode.Ask c = cc
comes_by a w mode.Answer c = cc
comes_by a w mode.Value c = refl
comes_by a w mode.Throw c = refl
comes_by a w mode.Return c = refl
comes_by a w (mode.Break l) c = refl
comes_by a w (mode.Continue l) c = refl
comes_by a w (mode.End x) c = cc
comes_by a w (mode.Pay i) c = cc
comes_by a w (mode.Serve i) c = cc
comes_by a w mode.Import c = cc
comes_by a w mode.Outside c = cc

module _ (c : Tables) (v : Value Ref MadeSymbol) (last : Option Term) (p : Party Ref MadeSymbol) where
  not_caught : (h : Option Term) (m : Mode) → (m ≡ mode.Throw → ⊥) → try_ends h last (completion_with c m v) p ≡ finishes last (completion_with c m v) p
  not_caught None m t = refl
  not_caught (Some h) (mode.Eval x) t = refl
  not_caught (Some h) mode.Ask t = refl
  not_caught (Some h) mode.Answer t = refl
  not_caught (Some h) mode.Value t = refl
  not_caught (Some h) mode.Throw t = absurd (t refl)
  not_caught (Some h) mode.Return t = refl
  not_caught (Some h) (mode.Break l) t = refl
  not_caught (Some h) (mode.Continue l) t = refl
  not_caught (Some h) (mode.End x) t = refl
  not_caught (Some h) (mode.Pay i) t = refl
  not_caught (Some h) (mode.Serve i) t = refl
  not_caught (Some h) mode.Import t = refl
  not_caught (Some h) mode.Outside t = refl

-- where no handler takes it, what stands last follows
abbrev Ends : Option Term → ℕ → Mode → View → View → Mode → Type 0
Ends h g m old new after = Follows (λ a. try_ends h (finalizer_of old.code g)) m old new after

tried : (g : ℕ) (m after : Mode) (old new : View) → is_completion m ≡ true → Ends (handler_of old.code g) g m old new after → IsDelivered (frame.Guarded g) m old new after
tried g m after old new c h = record { stands = λ a. h.leads a ∙ sym (comes_by (fitting old a) (record old { frames = frame.Guarded g ∷ old.frames }) m c); keeps = h.keeps }

finished : (h : Option Term) (g : ℕ) (m after : Mode) (old new : View) → Follows (λ a. finishes (finalizer_of old.code g)) m old new after
    → ((a : Around) → try_ends h (finalizer_of old.code g) (completion_with old.code m (top old.values)) (party_of a old) ≡ finishes (finalizer_of old.code g) (completion_with old.code m (top old.values)) (party_of a old))
    → Ends h g m old new after
finished h g m after old new f e =
    record { leads = λ a. (let b = fitting old a in f.leads a ∙ ap (λ x. settles b old (values_without m old.values) (answered (naming_of old.me) b.env x)) (sym (e b))); keeps = f.keeps }

-- what is no throw
pub passes_handler : {E : Type 0} (r : Result Mode E) (g : ℕ) (m : Mode) (old new : View) → is_completion m ≡ true → (m ≡ mode.Throw → ⊥) → IfOk r (Follows (λ a. finishes (finalizer_of old.code g)) m old new) → IfOk r (IsDelivered (frame.Guarded g) m old new)
passes_handler (Ok k) g m old new c n f = tried g m k old new c (finished (handler_of old.code g) g m k old new f (λ a. not_caught old.code (top old.values) (finalizer_of old.code g) (party_of a old) (handler_of old.code g) m n))
passes_handler (Err x) g m old new c n f = tt

pub no_handler : {E : Type 0} (r : Result Mode E) (g : ℕ) (row : GuardedRow) (old new : View) → row ≡ guarded_at old.code g → row.handler ≡ None → IfOk r (Follows (λ a. finishes (finalizer_of old.code g)) mode.Throw old new)
    → IfOk r (IsDelivered (frame.Guarded g) mode.Throw old new)
no_handler (Ok k) g row old new e n f =
    let ended = finished None g mode.Throw k old new f (λ a. refl) in
    tried g mode.Throw k old new refl (subst (λ o. Ends (option_map (term_at old.code) o) g mode.Throw old new k) (sym n ∙ ap (λ (x : GuardedRow). x.handler) e) ended)
no_handler (Err x) g row old new e n f = tt

pub has_handler : {E : Type 0} (r : Result Mode E) (g at : ℕ) (row : GuardedRow) (old new : View) → row ≡ guarded_at old.code g → row.handler ≡ Some at → IfOk r (Handles (finalizer_of old.code g) at old new)
    → IfOk r (IsDelivered (frame.Guarded g) mode.Throw old new)
has_handler (Ok k) g at row old new e n h =
    let ended : Ends (option_map (term_at old.code) (Some at)) g mode.Throw old new k = record { leads = λ a. h.leads a; keeps = h.keeps } in
    tried g mode.Throw k old new refl (subst (λ o. Ends (option_map (term_at old.code) o) g mode.Throw old new k) (sym n ∙ ap (λ (x : GuardedRow). x.handler) e) ended)
has_handler (Err x) g at row old new e n h = tt

pub out_of_handler : {E : Type 0} (r : Result Mode E) (g s : ℕ) (m : Mode) (old mid new : View) → is_completion m ≡ true → mid ≡ record old { bodies = stood_in s old.bodies } → IfOk r (Follows (λ a. finishes (finalizer_of mid.code g)) m mid new)
    → IfOk r (IsDelivered (frame.Handled g s) m old new)
out_of_handler (Ok k) g s m old mid new c e f =
    let w = subst (λ x. Follows (λ a. finishes (finalizer_of x.code g)) m x new k) e f in
    record { stands = λ a. w.leads a ∙ sym (comes_by (fitting old a) (record old { frames = frame.Handled g s ∷ old.frames }) m c); keeps = w.keeps }
out_of_handler (Err x) g s m old mid new c e f = tt

-- WHAT STANDS LAST

pub stays : (m : Mode) (v : Value Ref MadeSymbol) (old : View) → is_completion m ≡ true → LeadsTo (deed_with (frame.Finally m) v old) (under (frame.Finally m) old) old m
stays (mode.Eval x) v old c = cc
stays mode.Ask v old c = cc
stays mode.Answer v old c = cc
stays mode.Value v old c = record { leads = λ a. refl; keeps = (refl, (refl, (refl, (refl, refl)))) }
stays mode.Throw v old c = record { leads = λ a. refl; keeps = (refl, (refl, (refl, (refl, refl)))) }
stays mode.Return v old c = record { leads = λ a. refl; keeps = (refl, (refl, (refl, (refl, refl)))) }
stays (mode.Break l) v old c = record { leads = λ a. refl; keeps = (refl, (refl, (refl, (refl, refl)))) }
stays (mode.Continue l) v old c = record { leads = λ a. refl; keeps = (refl, (refl, (refl, (refl, refl)))) }
stays (mode.End x) v old c = cc
stays (mode.Pay i) v old c = cc
stays (mode.Serve i) v old c = cc
stays mode.Import v old c = cc
stays mode.Outside v old c = cc
