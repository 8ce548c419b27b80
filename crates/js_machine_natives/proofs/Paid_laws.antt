-- Texts that are made are charged, and then given.
use Rattle.std.proofs.Common.{◌≡◌, ℕ, suc, ◌≤◌, ◌/◌, Bool, true, false, List, ◌∷◌, length, refl, sym, ap, ◌∙◌, subst, nat_lt, Result, Ok, Err, IfOk, if◌then◌else◌}
use Rattle.std.proofs.lemmas.Bool.{le-ltb}
use Rattle.lava_base.specs.declared.ids.MadeSymbol.{MadeSymbol}
use Rattle.lava_base.specs.declared.ids.Ref.{Ref}
use Rattle.js_text.specs.declared.text.TheConstants.{MAX_UNITS}
use Rattle.js_text.specs.declared.value.Value.TheVariants as value
use Rattle.js_native.specs.declared.costs.TheConstants.{UNITS_A_STEP}
use Rattle.js_machine.specs.js_run.Acts.{Act, End, give}
use Rattle.js_machine.specs.js_run.Completions as halt
use Rattle.js_machine.specs.js_run.Operators.{given_text, pays}
use Rattle.js_machine.specs.js_run.Parties.{Party}
use Rattle.js_machine.specs.Steps.{IsDelivered, LeadsTo, Pays, without_top}
use Rattle.js_machine.specs.Views.{View, party_of}
use Rattle.js_machine.specs.declared.frame.Frame.TheVariants as frame
use Rattle.js_machine.specs.declared.frame.Mode.{Mode}
use Rattle.js_machine.specs.declared.frame.Mode.TheVariants as mode

-- a text is given where it is no longer than the limit, and costs so much
abbrev text_by : Bool → ℕ → List ℕ → Party Ref MadeSymbol → Act Ref MadeSymbol
text_by b n t p = if b then End halt.Text else pays n p (λ q. give (value.Text t) q)

abbrev By : Bool → ℕ → List ℕ → View → View → Mode → Type 0
By b n t old new m = LeadsTo (λ a. text_by b n t (party_of a old)) old new m

abbrev pub Given : List ℕ → View → View → Mode → Type 0
Given t old new m = LeadsTo (λ a. given_text t (party_of a old)) old new m

given_by : (t : List ℕ) (n : ℕ) (old new : View) (m : Mode) → length t ≤ MAX_UNITS → n ≡ length t / UNITS_A_STEP → By false n t old new m → Given t old new m
given_by t n old new m l e h =
    let w = subst (λ k. By false k t old new m) e h in
    let u = subst (λ b. By b (length t / UNITS_A_STEP) t old new m) (sym (le-ltb MAX_UNITS (length t) l)) w in
    record { leads = λ a. u.leads a; keeps = u.keeps }

-- a short text costs nothing
pub text_free : {E : Type 0} (r : Result Mode E) (t : List ℕ) (n : ℕ) (old new : View) → length t ≤ MAX_UNITS → n ≡ length t / UNITS_A_STEP → n ≡ 0
    → IfOk r (LeadsTo (λ a. give (value.Text t) (party_of a old)) old new) → IfOk r (Given t old new)
text_free (Ok m) t n old new l e z h = given_by t n old new m l e (subst (λ k. By false k t old new m) (sym z) (record { leads = λ a. h.leads a; keeps = h.keeps }))
text_free (Err x) t n old new l e z h = tt

pub text_paid : {E : Type 0} (r : Result Mode E) (t : List ℕ) (n k : ℕ) (old mid new : View) → length t ≤ MAX_UNITS → n ≡ length t / UNITS_A_STEP → n ≡ suc k → mid ≡ record old { values = value.Text t ∷ old.values }
    → IfOk r (Pays k frame.Made mid new) → IfOk r (Given t old new)
text_paid (Ok m) t n k old mid new l e s d h =
    let w = subst (λ x. Pays k frame.Made x new m) d h in
    given_by t n old new m l e (subst (λ j. By false j t old new m) (sym s) (record { leads = λ a. w.leads a; keeps = w.keeps }))
text_paid (Err x) t n k old mid new l e s d h = tt

-- what was charged for comes
pub made_comes : (old new : View) → new ≡ without_top old → IsDelivered frame.Made mode.Value old new mode.Value
made_comes old new e =
    let given : IsDelivered frame.Made mode.Value old (without_top old) mode.Value = record { stands = λ a. refl; keeps = (refl, (refl, (refl, (refl, refl)))) } in
    subst (λ w. IsDelivered frame.Made mode.Value old w mode.Value) (sym e) given
