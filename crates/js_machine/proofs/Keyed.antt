-- Methods whose key is a form.
use Rattle.std.proofs.Common.{◌≡◌, ℕ, false, ◌∷◌, Option, Some, sym, ◌∙◌, subst, Result, Ok, Err, IfOk}
use Rattle.lava_base.specs.declared.ids.MadeSymbol.{MadeSymbol}
use Rattle.lava_base.specs.declared.ids.Ref.{Ref}
use Rattle.js_text.specs.Naming.{naming_of}
use Rattle.js_text.specs.declared.value.Key.{Key}
use Rattle.js_text.specs.declared.value.Value.{Value}
use Rattle.js_code.specs.Decoded.{arguments_at, term_at}
use Rattle.js_desc.specs.declared.ask.Ask.TheVariants as ask
use Rattle.js_term.specs.declared.term.Arguments.{Arguments}
use Rattle.js_operation.specs.js_run.Acts.{asks_value, with_value}
use Rattle.js_operation.specs.js_run.Calls.{calls_with}
use Rattle.js_operation.specs.js_run.Rows.{call_on_key}
use Rattle.js_operation.specs.js_run.Truth.{is_nullish}
use Rattle.js_operation.specs.js_run.Properties.{to_key}
use Rattle.js_machine.specs.Conversions.{BecomesKey, KeyReaches, ReadsMethod}
use Rattle.js_machine.specs.Keys.{plain_key}
use Rattle.js_machine.specs.Steps.{LeadsTo, WaitsForValue, with_top, without_top}
use Rattle.js_machine.specs.Views.{View, below, fitting, key_deed, party_of, top}
use Rattle.js_machine.specs.declared.frame.Frame.TheVariants as frame
use Rattle.js_machine.specs.declared.frame.KeyGoal.TheVariants as key_goal
use Rattle.js_machine.specs.declared.frame.Mode.{Mode}
use Rattle.js_machine.proofs.Referenced.{reference_known, reference_made, same_deed}

abbrev V : Type 0
V = Value Ref MadeSymbol

abbrev Calls : (at : ℕ) → (object key : V) → View → View → Mode → Type 0
Calls at o v old new m = LeadsTo (λ a. call_on_key (naming_of old.me) a.shared (arguments_at old.code (term_at old.code) at) o v (party_of a old)) old new m

pub method_asked : {E : Type 0} (r : Result Mode E) (at : ℕ) (o t s : V) (k : Key MadeSymbol) (old mid new : View) → t ≡ o → s ≡ o → mid ≡ with_top o old
    → IfOk r (WaitsForValue (frame.CallMethod at) t (ask.Get k s) mid new) → IfOk r (ReadsMethod at o k old new)
method_asked (Ok m) at o t s k old mid new d i w h =
    let h = subst (λ (z : View). WaitsForValue (frame.CallMethod at) t (ask.Get k s) z new m) w h in
    let h = subst (λ z. WaitsForValue (frame.CallMethod at) z (ask.Get k s) (with_top o old) new m) d h in
    let h = subst (λ z. WaitsForValue (frame.CallMethod at) o (ask.Get k z) (with_top o old) new m) i h in
    record { leads = λ a. h.leads a; keeps = h.keeps }
method_asked (Err x) at o t s k old mid new d i w h = tt

module _ (at : ℕ) (o v : V) (old : View) (e : is_nullish o ≡ false) where
  abbrev args : Arguments
  args = arguments_at old.code (term_at old.code) at

  pub method_known : {E : Type 0} (r : Result Mode E) (x : Option (Key MadeSymbol)) (k : Key MadeSymbol) (new : View) → x ≡ plain_key v → x ≡ Some k → IfOk r (ReadsMethod at o k old new) → IfOk r (Calls at o v old new)
  method_known r x k new g s h =
      same_deed r (λ a. asks_value (naming_of old.me) o (ask.Get k o) (party_of a old) (with_value (calls_with (naming_of old.me) a.shared o args))) (λ a. call_on_key (naming_of old.me) a.shared args o v (party_of a old)) old new
      (λ a. reference_known (naming_of old.me) (fitting old a).shared o v k (party_of (fitting old a) old) (λ name q. asks_value (naming_of old.me) o (ask.Get name o) q (with_value (calls_with (naming_of old.me) (fitting old a).shared o args))) e (sym g ∙ s))
      h

  pub method_later : {E : Type 0} (r : Result Mode E) (mid new : View) → mid ≡ with_top o old → IfOk r (BecomesKey v (key_goal.Method at) mid new) → IfOk r (Calls at o v old new)
  method_later (Ok m) mid new s h =
      let w = subst (λ (x : View). BecomesKey v (key_goal.Method at) x new m) s h in
      let made : LeadsTo (λ a. to_key (naming_of old.me) a.shared v (party_of a old) (key_deed (naming_of old.me) a.shared old.code (key_goal.Method at) (o ∷ old.values))) old new m = record { leads = λ a. w.leads a; keeps = w.keeps } in
      same_deed {E = ℕ} (Ok m) (λ a. to_key (naming_of old.me) a.shared v (party_of a old) (key_deed (naming_of old.me) a.shared old.code (key_goal.Method at) (o ∷ old.values))) (λ a. call_on_key (naming_of old.me) a.shared args o v (party_of a old)) old new
      (λ a. (let b = fitting old a in reference_made (naming_of old.me) b.shared o v (party_of b old) (key_deed (naming_of old.me) b.shared old.code (key_goal.Method at) (o ∷ old.values)) e)) made
  method_later (Err x) mid new s h = tt

pub key_calls : {E : Type 0} (r : Result Mode E) (at : ℕ) (o : V) (k : Key MadeSymbol) (old mid new : View) → o ≡ top old.values → mid ≡ without_top old → IfOk r (ReadsMethod at o k mid new) → IfOk r (KeyReaches (key_goal.Method at) k old new)
key_calls (Ok m) at o k old mid new e s h =
    let w = subst (λ (x : View). ReadsMethod at o k x new m) s h in
    let u = subst (λ x. ReadsMethod at x k (without_top old) new m) e w in
    record { leads = λ a. u.leads a; keeps = u.keeps }
key_calls (Err x) at o k old mid new e s h = tt

pub method_key_led : {E : Type 0} (r : Result Mode E) (at : ℕ) (o k : V) (old mid new : View) → o ≡ top old.values → mid ≡ without_top old → IfOk r (Calls at o k mid new)
    → IfOk r (LeadsTo (λ a. call_on_key (naming_of old.me) a.shared (arguments_at old.code (term_at old.code) at) (top old.values) k (party_of a old)) (record old { values = below old.values }) new)
method_key_led (Ok m) at o k old mid new e s h =
    let w = subst (λ x. Calls at o k x new m) s h in
    let u = subst (λ x. Calls at x k (without_top old) new m) e w in
    record { leads = λ a. u.leads a; keeps = u.keeps }
method_key_led (Err x) at o k old mid new e s h = tt
