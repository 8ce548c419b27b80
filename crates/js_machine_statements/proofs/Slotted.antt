-- Slots that are read.
use Rattle.std.proofs.Common.{◌≡◌, ℕ, ◌∷◌, Bool, true, false, is_some, Option, Some, None, refl, sym, subst, ◌∙◌, Result, Ok, Err, OnOk, IfOk}
use Rattle.lava_base.specs.declared.ids.MadeSymbol.{MadeSymbol}
use Rattle.lava_base.specs.declared.ids.Ref.{Ref}
use Rattle.js_text.specs.Naming.{naming_of}
use Rattle.js_text.specs.declared.value.Value.{Value}
use Rattle.js_text.specs.declared.value.Value.TheVariants as value
use Rattle.js_desc.specs.declared.fault.FaultText.TheVariants as fault
use Rattle.js_machine.specs.js_run.Faults.{faults}
use Rattle.js_machine.specs.js_run.Acts.{give}
use Rattle.js_machine.specs.js_run.Properties.{get_slot, init_slot, read_slot, set_slot, write_slot}
use Rattle.js_state.specs.Scopes.{outwards, slot_of}
use Rattle.js_machine.specs.Bodies.{scope_of}
use Rattle.js_machine.specs.Steps.{LeadsTo}
use Rattle.js_machine.specs.Views.{View, party_of, with_local}
use Rattle.js_machine.specs.declared.frame.Mode.{Mode}
use Rattle.js_machine.specs.declared.frame.Mode.TheVariants as mode
use Rattle.js_machine.proofs.Leads.{led}

abbrev Read : Option (Value Ref MadeSymbol) → View → View → Mode → Type 0
Read o old new m = LeadsTo (λ a. read_slot (naming_of old.me) o (party_of a old)) old new m

pub found : (h i : ℕ) (o : Option (Value Ref MadeSymbol)) (v : Value Ref MadeSymbol) (old new : View) (m : Mode) → o ≡ slot_of old.scopes (outwards old.scopes h (scope_of old.bodies)) i → o ≡ Some v
    → new ≡ record old { values = v ∷ old.values } → m ≡ mode.Value → LeadsTo (λ a. get_slot (naming_of old.me) h i (party_of a old)) old new m
found h i o v old new m s t e d = led _ old (record old { values = v ∷ old.values }) new mode.Value m (subst (λ x. Read x old (record old { values = v ∷ old.values }) mode.Value) (sym t ∙ s) (record { leads = λ a. refl; keeps = (refl, (refl, (refl, (refl, refl)))) })) e d

pub not_found : (h i : ℕ) (o : Option (Value Ref MadeSymbol)) (old new : View) (m : Mode) → o ≡ slot_of old.scopes (outwards old.scopes h (scope_of old.bodies)) i → o ≡ None
    → LeadsTo (λ a. faults (naming_of old.me) fault.NotInitialised (party_of a old)) old new m → LeadsTo (λ a. get_slot (naming_of old.me) h i (party_of a old)) old new m
not_found h i o old new m s t l = subst (λ x. Read x old new m) (sym t ∙ s) l

pub found_ok : {E : Type 0} (r : Result Mode E) (h i : ℕ) (o : Option (Value Ref MadeSymbol)) (v : Value Ref MadeSymbol) (old new : View) → o ≡ slot_of old.scopes (outwards old.scopes h (scope_of old.bodies)) i → o ≡ Some v
    → OnOk r (new ≡ record old { values = v ∷ old.values }) → IfOk r (λ m. m ≡ mode.Value) → IfOk r (LeadsTo (λ a. get_slot (naming_of old.me) h i (party_of a old)) old new)
found_ok (Ok m) h i o v old new s t e d = found h i o v old new m s t e d
found_ok (Err x) h i o v old new s t e d = tt

-- A SLOT THAT IS WRITTEN

abbrev Writes : Bool → ℕ → ℕ → Value Ref MadeSymbol → Option (Value Ref MadeSymbol) → View → View → Mode → Type 0
Writes c h i v o old new m = LeadsTo (λ a. write_slot (naming_of old.me) c (outwards old.scopes h (scope_of old.bodies)) i v o (party_of a old)) old new m

missing : {E : Type 0} (r : Result Mode E) (c : Bool) (h i : ℕ) (v : Value Ref MadeSymbol) (o : Option (Value Ref MadeSymbol)) (old new : View) → is_some o ≡ false
    → IfOk r (LeadsTo (λ a. faults (naming_of old.me) fault.NotInitialised (party_of a old)) old new) → IfOk r (Writes c h i v o old new)
missing r c h i v None old new s l = l
missing r c h i v (Some x) old new s l = cc

fixed : {E : Type 0} (r : Result Mode E) (c : Bool) (h i : ℕ) (v : Value Ref MadeSymbol) (o : Option (Value Ref MadeSymbol)) (old new : View) → is_some o ≡ true → c ≡ true
    → IfOk r (LeadsTo (λ a. faults (naming_of old.me) fault.Constant (party_of a old)) old new) → IfOk r (Writes c h i v o old new)
fixed r c h i v None old new s k l = cc
fixed r c h i v (Some x) old new s k l = subst (λ b. IfOk r (Writes b h i v (Some x) old new)) (sym k) l

changed : {E : Type 0} (r : Result Mode E) (c : Bool) (h i : ℕ) (v : Value Ref MadeSymbol) (o : Option (Value Ref MadeSymbol)) (old mid new : View) → is_some o ≡ true → c ≡ false → mid ≡ record old { scopes = with_local old h i v }
    → IfOk r (LeadsTo (λ a. give v (party_of a mid)) mid new) → IfOk r (Writes c h i v o old new)
changed r c h i v None old mid new s k e l = cc
changed (Ok m) c h i v (Some x) old mid new s k e l =
    let w = subst (λ y. LeadsTo (λ a. give v (party_of a y)) y new m) e l in
    let done : Writes false h i v (Some x) old new m = record { leads = λ a. w.leads a; keeps = w.keeps } in
    subst (λ b. Writes b h i v (Some x) old new m) (sym k) done
changed (Err x) c h i v (Some y) old mid new s k e l = tt

pub set_missing : {E : Type 0} (r : Result Mode E) (c : Bool) (h i : ℕ) (v : Value Ref MadeSymbol) (old new : View) (b : Bool) → b ≡ is_some (slot_of old.scopes (outwards old.scopes h (scope_of old.bodies)) i) → b ≡ false
    → IfOk r (LeadsTo (λ a. faults (naming_of old.me) fault.NotInitialised (party_of a old)) old new) → IfOk r (LeadsTo (λ a. set_slot (naming_of old.me) h i c v (party_of a old)) old new)
set_missing r c h i v old new b s f l = missing r c h i v (slot_of old.scopes (outwards old.scopes h (scope_of old.bodies)) i) old new (sym s ∙ f) l

pub set_fixed : {E : Type 0} (r : Result Mode E) (c : Bool) (h i : ℕ) (v : Value Ref MadeSymbol) (old new : View) (b : Bool) → b ≡ is_some (slot_of old.scopes (outwards old.scopes h (scope_of old.bodies)) i) → b ≡ true → c ≡ true
    → IfOk r (LeadsTo (λ a. faults (naming_of old.me) fault.Constant (party_of a old)) old new) → IfOk r (LeadsTo (λ a. set_slot (naming_of old.me) h i c v (party_of a old)) old new)
set_fixed r c h i v old new b s f k l = fixed r c h i v (slot_of old.scopes (outwards old.scopes h (scope_of old.bodies)) i) old new (sym s ∙ f) k l

pub set_changed : {E : Type 0} (r : Result Mode E) (c : Bool) (h i : ℕ) (v : Value Ref MadeSymbol) (old mid new : View) (b : Bool) → b ≡ is_some (slot_of old.scopes (outwards old.scopes h (scope_of old.bodies)) i) → b ≡ true → c ≡ false
    → mid ≡ record old { scopes = with_local old h i v } → IfOk r (LeadsTo (λ a. give v (party_of a mid)) mid new) → IfOk r (LeadsTo (λ a. set_slot (naming_of old.me) h i c v (party_of a old)) old new)
set_changed r c h i v old mid new b s f k e l = changed r c h i v (slot_of old.scopes (outwards old.scopes h (scope_of old.bodies)) i) old mid new (sym s ∙ f) k e l

pub initialised : {E : Type 0} (r : Result Mode E) (h i : ℕ) (v : Value Ref MadeSymbol) (old mid new : View) → mid ≡ record old { scopes = with_local old h i v } → IfOk r (LeadsTo (λ a. give value.Undefined (party_of a mid)) mid new)
    → IfOk r (LeadsTo (λ a. init_slot (naming_of old.me) h i v (party_of a old)) old new)
initialised (Ok m) h i v old mid new e l = let w = subst (λ y. LeadsTo (λ a. give value.Undefined (party_of a y)) y new m) e l in record { leads = λ a. w.leads a; keeps = w.keeps }
initialised (Err x) h i v old mid new e l = tt
