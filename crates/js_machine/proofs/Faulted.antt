-- Errors that are thrown.
use Rattle.std.proofs.Common.{◌≡◌, ℕ, ◌<◌, ◌≤◌, ◌↔◌, Bool, true, false, List, [], ◌∷◌, ◌++◌, length, refl, sym, ap, ◌∙◌, subst, nat_eq, not, Result, Ok, Err, arith, if◌then◌else◌, OnOk, IfOk, Some}
use Rattle.std.proofs.lemmas.Bool.{lt-ltb, le-ltb}
use Rattle.std.proofs.lemmas.List.{length-append}
use Rattle.std.proofs.Math.Seq.{set-append_seam, get_or-append_seam}
use Rattle.lava_base.specs.declared.ids.MadeSymbol.{MadeSymbol}
use Rattle.lava_base.specs.declared.ids.Ref.{Ref}
use Rattle.js_text.specs.Naming.{naming_of}
use Rattle.js_text.specs.declared.text.TheConstants.{MAX_UNITS}
use Rattle.js_text.specs.declared.value.Value.TheVariants as value
use Rattle.js_desc.specs.Faults.{fault_error, fault_text}
use Rattle.js_desc.specs.declared.fault.FaultText.{FaultText}
use Rattle.js_desc.specs.declared.fault.NativeError.{NativeError}
use Rattle.js_text.specs.declared.fault.TextFault.TheVariants as fault
use Rattle.std.specs.Result.{IsErrOf}
use Rattle.js_operation.specs.js_run.Acts.{Act, End, throws}
use Rattle.js_operation.specs.js_run.Completions as halt_kind
use Rattle.js_operation.specs.js_run.Faults.{error_marks, error_object, error_prototype, faults}
use Rattle.js_operation.specs.js_run.Parties.{made}
use Rattle.lava_base.specs.Ids.{same_made_symbol}
use Rattle.js_text.specs.declared.value.Key.{Key}
use Rattle.js_desc.specs.declared.descriptor.Change.TheVariants as change
use Rattle.js_desc.specs.declared.descriptor.Descriptor.TheVariants.{Data}
use Rattle.js_store.specs.Objects.{Object, at_place, fresh, not_extensible, object_at, with_change}
use Rattle.js_store.specs.declared.slot.Slot.TheVariants as slot
use Rattle.js_machine.specs.Halts.{halt_number}
use Rattle.js_machine.specs.Steps.{LeadsTo, bare_error, error_with, message_key, with_error}
use Rattle.js_machine.proofs.Leads.{led}
use Rattle.js_machine.specs.Views.{Around, View, party_of}
use Rattle.js_machine.specs.declared.frame.Halt.TheVariants as halt
use Rattle.js_machine.specs.declared.frame.Mode.{Mode}
use Rattle.js_machine.specs.declared.frame.Mode.TheVariants as mode

-- the newest object is changed
pub last_changed : (os : List (Object Ref MadeSymbol)) (o : Object Ref MadeSymbol) (f : Object Ref MadeSymbol → Object Ref MadeSymbol) → at_place (os ++ o ∷ []) (length os) f ≡ os ++ f o ∷ []
last_changed os o f = set-append_seam os o [] (f (object_at (os ++ o ∷ []) (length os))) ∙ ap (λ x. os ++ f x ∷ []) (get_or-append_seam os o [] _)

pub last_within : (os : List (Object Ref MadeSymbol)) (o : Object Ref MadeSymbol) → length os < length (os ++ o ∷ [])
last_within os o = omega (arith, length-append os (o ∷ []))

pub bare_made : (os ns ms : List (Object Ref MadeSymbol)) (b : Bool) (p : Ref) (i : ℕ) → b ≡ true → ns ≡ os ++ fresh (Some p) error_marks slot.Plain ∷ [] → i ≡ length os → ms ≡ at_place ns i not_extensible → ms ≡ os ++ bare_error b p ∷ []
bare_made os ns ms b p i e n l m =
    m ∙ (λ j. at_place (n j) (l j) not_extensible) ∙ last_changed os (fresh (Some p) error_marks slot.Plain) not_extensible ∙ ap (λ frozen. os ++ bare_error frozen p ∷ []) (sym e)

pub added_error : (os ns ms : List (Object Ref MadeSymbol)) (b c : Bool) (p : Ref) (k : Key MadeSymbol) (t : List ℕ) (i : ℕ) → k ≡ message_key → b ≡ c → ns ≡ os ++ bare_error b p ∷ [] → i ≡ length os
    → ms ≡ at_place ns i (with_change same_made_symbol k (change.Write (Data (value.Text t) (not b) false (not b)))) → ms ≡ os ++ error_with c p t ∷ []
added_error os ns ms b c p k t i e f n l m =
    m
    ∙ (λ j. at_place (n j) (l j) (with_change same_made_symbol (e j) (change.Write (Data (value.Text t) (not b) false (not b)))))
    ∙ last_changed os (bare_error b p) (with_change same_made_symbol message_key (change.Write (Data (value.Text t) (not b) false (not b))))
    ∙ ap (λ frozen. os ++ error_with frozen p t ∷ []) f

-- what is thrown, by whether its text is too long
abbrev act : Bool → FaultText → View → Around → Act Ref MadeSymbol
act b f w a =
    if b then End halt_kind.Text else throws (value.Ref ((naming_of w.me).own (length w.objects))) (made (party_of a w) (error_object (naming_of w.me) (nat_eq w.me 0) (error_prototype (fault_error f)) (fault_text f)))

abbrev Acts : Bool → FaultText → View → View → Mode → Type 0
Acts b f old new m = LeadsTo (act b f old) old new m

-- the text is too long
pub too_long : (f : FaultText) (old : View) (m : Mode) → MAX_UNITS < length (fault_text f) → m ≡ mode.End (halt_number halt.Text) → LeadsTo (λ a. faults (naming_of old.me) f (party_of a old)) old old m
too_long f old m l e =
    let ended : Acts true f old old (mode.End (halt_number halt.Text)) = record { leads = λ a. refl; keeps = (refl, (refl, (refl, (refl, refl)))) } in
    subst (λ b. Acts b f old old m) (sym (lt-ltb _ _ l)) (subst (λ k. Acts true f old old k) (sym e) ended)

pub faulted : (f : FaultText) (old new : View) (m : Mode) → length (fault_text f) ≤ MAX_UNITS
    → new ≡ with_error (fault_error f) (fault_text f) old → m ≡ mode.Throw → LeadsTo (λ a. faults (naming_of old.me) f (party_of a old)) old new m
faulted f old new m l e d =
    let thrown : Acts false f old (with_error (fault_error f) (fault_text f) old) mode.Throw = record { leads = λ a. refl; keeps = (refl, (refl, (refl, (refl, refl)))) } in
    subst (λ b. Acts b f old new m) (sym (le-ltb _ _ l)) (led (act false f old) old (with_error (fault_error f) (fault_text f) old) new mode.Throw m thrown e d)

pub fits : (t : List ℕ) (n : ℕ) → IsErrOf (Ok t) fault.TooLong ↔ (MAX_UNITS < n) → n ≤ MAX_UNITS
fits t n h = let no : MAX_UNITS < n → ⊥ = λ l. (let e : IsErrOf (Ok t) fault.TooLong = h.1 l in cc) in omega (arith, no)

pub faulted_ok : {E : Type 0} (r : Result Mode E) (f : FaultText) (t : List ℕ) (old new : View) → t ≡ fault_text f → length (fault_text f) ≤ MAX_UNITS → {e : NativeError} → e ≡ fault_error f
    → OnOk r (new ≡ with_error e t old) → IfOk r (λ m. m ≡ mode.Throw) → IfOk r (LeadsTo (λ a. faults (naming_of old.me) f (party_of a old)) old new)
faulted_ok (Ok m) f t old new s l {e = e} k w d = faulted f old new m l (w ∙ (λ j. with_error (k j) (s j) old)) d
faulted_ok (Err x) f t old new s l {e = e} k w d = tt
