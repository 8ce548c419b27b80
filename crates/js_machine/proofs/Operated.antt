-- What operators do.
use Rattle.std.proofs.Common.{◌≡◌, ℕ, suc, ◌≤◌, ◌/◌, Bool, true, false, List, length, drop, refl, sym, ap, ◌∙◌, subst, Result, Ok, Err, IfOk, if◌then◌else◌}
use Rattle.std.proofs.lemmas.Bool.{le-ltb}
use Rattle.lava_base.specs.declared.ids.MadeSymbol.{MadeSymbol}
use Rattle.lava_base.specs.declared.ids.Ref.{Ref}
use Rattle.lava_base.specs.declared.marks.Marks.{Marks}
use Rattle.js_text.specs.Naming.{naming_of}
use Rattle.js_text.specs.declared.text.TheConstants.{MAX_UNITS}
use Rattle.js_text.specs.declared.value.Value.{Value}
use Rattle.js_text.specs.declared.value.Value.TheVariants as value
use Rattle.js_native.specs.declared.costs.TheConstants.{UNITS_A_STEP}
use Rattle.js_tree.specs.declared.operator.BinaryOperator.{BinaryOperator}
use Rattle.js_operation.specs.js_run.Acts.{Act, End, Pay, Then, give}
use Rattle.js_operation.specs.js_run.Asking.{see_callable}
use Rattle.js_operation.specs.js_run.Completions as halt
use Rattle.js_operation.specs.js_run.Operators.{binary_value, given_text, pays}
use Rattle.js_operation.specs.js_run.Parties.{Party, Shared}
use Rattle.js_operation.specs.js_run.Runs.{answered}
use Rattle.js_operation.specs.Deeds.{Does, MachineAct, MachineNaming, MachineParty, act_of}
use Rattle.js_operation.specs.declared.operation.Operation.{Operation}
use Rattle.js_machine.specs.Looks.{marks_in}
use Rattle.js_machine.specs.Steps.{IsDelivered, LeadsTo, Pays, deed_with, settles, under, with_top, without_top}
use Rattle.js_machine.specs.Views.{Around, View, fitting, has_value, is_completion, party_of, top}
use Rattle.js_machine.specs.declared.frame.Frame.TheVariants as frame
use Rattle.js_machine.specs.declared.frame.Mode.{Mode}
use Rattle.js_machine.specs.declared.frame.Mode.TheVariants as mode
use Rattle.js_machine.proofs.Looked.{looked}
use Rattle.js_machine.proofs.Referenced.{same_deed}

abbrev V : Type 0
V = Value Ref MadeSymbol

-- OPERATIONS

-- what an operation is for is done
pub does_so : {E : Type 0} (r : Result Mode E) (deed : MachineNaming → Shared → MachineParty → MachineAct) (o : Operation) (old new : View) → Does deed o
    → IfOk r (LeadsTo (λ a. act_of (naming_of old.me) a.shared o (party_of a old)) old new) → IfOk r (LeadsTo (λ a. deed (naming_of old.me) a.shared (party_of a old)) old new)
does_so r deed o old new d h =
    same_deed r (λ a. act_of (naming_of old.me) a.shared o (party_of a old)) (λ a. deed (naming_of old.me) a.shared (party_of a old)) old new
    (λ a. (let b = fitting old a in sym (d.does old.me b.shared b.numbers (party_of b old)))) h

-- the left operand was taken off
pub left_taken : {E : Type 0} (r : Result Mode E) (o : BinaryOperator) (v w : V) (old mid new : View) → v ≡ top old.values → mid ≡ without_top old
    → IfOk r (LeadsTo (λ a. binary_value (naming_of mid.me) a.shared o v w (party_of a mid)) mid new) → IfOk r (LeadsTo (deed_with (frame.BinaryRight o) w old) (under (frame.BinaryRight o) old) new)
left_taken (Ok m) o v w old mid new e s h =
    let x = subst (λ (x : View). LeadsTo (λ a. binary_value (naming_of x.me) a.shared o v w (party_of a x)) x new m) s h in
    let u = subst (λ x. LeadsTo (λ a. binary_value (naming_of old.me) a.shared o x w (party_of a (without_top old))) (without_top old) new m) e x in
    record { leads = λ a. u.leads a; keeps = u.keeps }
left_taken (Err x) o v w old mid new e s h = tt

-- TEXTS THAT ARE MADE

module _ (t : List ℕ) (k : ℕ) (l : length t ≤ MAX_UNITS) (e : k ≡ length t / UNITS_A_STEP) where
  abbrev gives : Party Ref MadeSymbol → Act Ref MadeSymbol
  gives q = give (value.Text t) q

  made : (p : Party Ref MadeSymbol) → given_text t p ≡ pays k p gives
  made p = ap (λ b. if b then End halt.Text else pays (length t / UNITS_A_STEP) p gives) (le-ltb MAX_UNITS (length t) l) ∙ ap (λ n. pays n p gives) (sym e)

  pub short_given : {E : Type 0} (r : Result Mode E) (old new : View) → k ≡ 0 → IfOk r (LeadsTo (λ a. give (value.Text t) (party_of a old)) old new) → IfOk r (LeadsTo (λ a. given_text t (party_of a old)) old new)
  short_given r old new z h =
      same_deed r (λ a. give (value.Text t) (party_of a old)) (λ a. given_text t (party_of a old)) old new (λ a. (let p = party_of (fitting old a) old in made p ∙ ap (λ n. pays n p gives) z)) h

  pub long_given : {E : Type 0} (r : Result Mode E) (n : ℕ) (old mid new : View) → k ≡ suc n → mid ≡ with_top (value.Text t) old → IfOk r (Pays n frame.Paid mid new) → IfOk r (LeadsTo (λ a. given_text t (party_of a old)) old new)
  long_given (Ok m) n old mid new z s h =
      let w = subst (λ (x : View). Pays n frame.Paid x new m) s h in
      let paid : LeadsTo (λ a. Pay n (party_of a old) (Then (λ c q. give (value.Text t) q))) old new m = record { leads = λ a. w.leads a; keeps = w.keeps } in
      same_deed {E = ℕ} (Ok m) (λ a. Pay n (party_of a old) (Then (λ c q. give (value.Text t) q))) (λ a. given_text t (party_of a old)) old new (λ a. (let p = party_of (fitting old a) old in made p ∙ ap (λ i. pays i p gives) z)) paid
  long_given (Err x) n old mid new z s h = tt

-- what was charged for is paid
paid_by : (m : Mode) (old : View) → is_completion m ≡ true → IsDelivered frame.Paid m old (record old { values = drop (if has_value m then 1 else 0) old.values }) mode.Value
paid_by (mode.Eval at) old c = cc
paid_by mode.Ask old c = cc
paid_by mode.Answer old c = cc
paid_by mode.Value old c = record { stands = λ a. refl; keeps = (refl, (refl, (refl, (refl, refl)))) }
paid_by mode.Throw old c = record { stands = λ a. refl; keeps = (refl, (refl, (refl, (refl, refl)))) }
paid_by mode.Return old c = record { stands = λ a. refl; keeps = (refl, (refl, (refl, (refl, refl)))) }
paid_by (mode.Break l) old c = record { stands = λ a. refl; keeps = (refl, (refl, (refl, (refl, refl)))) }
paid_by (mode.Continue l) old c = record { stands = λ a. refl; keeps = (refl, (refl, (refl, (refl, refl)))) }
paid_by (mode.End h) old c = cc
paid_by (mode.Pay i) old c = cc
paid_by (mode.Serve i) old c = cc
paid_by mode.Import old c = cc
paid_by mode.Outside old c = cc

paid : (m : Mode) (b : Bool) (old new : View) → is_completion m ≡ true → has_value m ≡ b → new ≡ record old { values = drop (if b then 1 else 0) old.values } → IsDelivered frame.Paid m old new mode.Value
paid m b old new c e s = subst (λ w. IsDelivered frame.Paid m old w mode.Value) (sym (s ∙ ap (λ i. record old { values = drop (if i then 1 else 0) old.values }) (sym e))) (paid_by m old c)

pub paid_with : (m : Mode) (b : Bool) (old new : View) → is_completion m ≡ true → b ≡ has_value m → b ≡ true → new ≡ without_top old → IsDelivered frame.Paid m old new mode.Value
paid_with m b old new c e t s = paid m true old new c (sym e ∙ t) s

pub paid_without : (m : Mode) (b : Bool) (old : View) → is_completion m ≡ true → b ≡ has_value m → b ≡ false → IsDelivered frame.Paid m old old mode.Value
paid_without m b old c e t = paid m false old old c (sym e ∙ t) refl

-- LOOKS

pub seen_callable : {E : Type 0} (r : Result Mode E) (n : Marks) (f : Ref) (go : Around → Bool → Act Ref MadeSymbol) (old new : View) → n ≡ marks_in old f → IfOk r (LeadsTo (λ a. go a n.callable) old new)
    → IfOk r (LeadsTo (λ a. see_callable (naming_of old.me) a.shared (value.Ref f) (party_of a old) (go a)) old new)
seen_callable (Ok m) n f go old new e h =
    record {
      leads = λ a. (let b = fitting old a in
          h.leads a ∙ ap (λ x. settles b old old.values x) (ap (λ (i : Marks). answered (naming_of old.me) b.env (go b i.callable)) e ∙ sym (looked f old a (λ (i : Marks). go b i.callable))));
      keeps = h.keeps;
    }
seen_callable (Err x) n f go old new e h = tt
