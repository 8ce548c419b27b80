-- Get and Set on the way up along prototypes.
use Rattle.std.proofs.Common.{◌≡◌, ℕ, zero, suc, ◌<◌, false, List, length, Option, Some, None, sym, ap, ◌∙◌, subst, if◌then◌else◌}
use Rattle.std.proofs.lemmas.Bool.{lt-ltb}
use Rattle.js_text.specs.Naming.{Naming, Origin, Own}
use Rattle.js_text.specs.declared.value.Key.{Key}
use Rattle.js_text.specs.declared.value.Value.{Value}
use Rattle.js_desc.specs.declared.ask.Ask as a
use Rattle.js_desc.specs.declared.ask.Ask.TheVariants as ask
use Rattle.js_desc.specs.declared.descriptor.Descriptor.{Descriptor}
use Rattle.js_desc.specs.declared.descriptor.Descriptor.TheVariants.{Data, Accessor}
use Rattle.js_store.specs.Frozen.{CommonObject}
use Rattle.js_store.specs.Objects.{Object, object_at}
use Rattle.js_ordinary.specs.Decided.{decided, decided_there, verdict}
use Rattle.js_ordinary.specs.Laws.{Getters_get_the_receiver, Setters_get_the_receiver, IsNotSettable, Fixed_properties_are_not_set, Prototypes_are_asked, Inherits, Leads, Get_leads_up, Set_leads_up}
use Rattle.js_ordinary.specs.OrdinaryGet.{ordinary_get, get_own}
use Rattle.js_ordinary.specs.OrdinarySet.{ordinary_set, ordinary_set_with_own_descriptor, set_data, set_by_setter}
use Rattle.js_ordinary.specs.OrdinarySetPrototypeOf.{makes_cycle}
use Rattle.js_ordinary.specs.Origins.{there}
use Rattle.js_ordinary.specs.Verdicts.{own_property, flag}

pub getters_get_the_receiver : (R S : Type 0) → Getters_get_the_receiver R S
getters_get_the_receiver R S names o key receiver getter set e c h = ap (get_own key receiver o.prototype) h

pub setters_get_the_receiver : (R S : Type 0) → Setters_get_the_receiver R S
setters_get_the_receiver R S names o key v receiver get setter e c h = ap (ordinary_set_with_own_descriptor key v receiver o.prototype) h

not_set : {R S : Type 0} (key : Key S) (v receiver : Value R S) (prototype : Option R) (d : Option (Descriptor R S)) → IsNotSettable d → ordinary_set_with_own_descriptor key v receiver prototype d ≡ flag false
not_set key v receiver prototype None h = absurd h
not_set key v receiver prototype (Some (Data old w e c)) h = ap (set_data key v receiver) h
not_set key v receiver prototype (Some (Accessor g s e c)) h = ap (set_by_setter v receiver) h

pub fixed_properties_are_not_set : (R S : Type 0) → Fixed_properties_are_not_set R S
fixed_properties_are_not_set R S names o key v receiver h = not_set key v receiver o.prototype (own_property names o key) h

pub prototypes_are_asked : (R S : Type 0) → Prototypes_are_asked R S
prototypes_are_asked R S names o p key none above = record {
  get = λ receiver. (λ j. get_own key receiver (above j) (none j));
  set = λ v receiver. (λ j. ordinary_set_with_own_descriptor key v receiver (above j) (none j));
}

module _ {R S : Type 0} (names : Naming R S) (objects : List (Object R S)) (common : List CommonObject) where
  -- an object of the party's own is asked where its reference is
  asked : (p : R) (i : ℕ) (x : a.Ask R S) → names.origin p ≡ Own i → i < length objects → (decided names objects common p x).0 ≡ (verdict names (makes_cycle names objects (Own i)) (object_at objects i) x).0
  asked p i x h lt = ap (λ (o : Option Origin). (decided_there names objects common x o).0) (ap (there objects common) h ∙ ap (λ b. if b then Some (Own i) else None) (lt-ltb i (length objects) lt))

  get_up : (key : Key S) (receiver : Value R S) (steps i k : ℕ) → Inherits names objects key steps i k → Leads names objects common steps (ordinary_get names (object_at objects i) key receiver) (ordinary_get names (object_at objects k) key receiver)
  get_up key receiver zero i k h = ap (λ m. ordinary_get names (object_at objects m) key receiver) h
  get_up key receiver (suc n) i k (none, (p, j, above, own, lt, rest)) =
      (p, ask.Get key receiver, (λ t. get_own key receiver (above t) (none t)), subst (λ d. Leads names objects common n d (ordinary_get names (object_at objects k) key receiver)) (sym (asked p j (ask.Get key receiver) own lt)) (get_up key receiver n j k rest))

  set_up : (key : Key S) (v receiver : Value R S) (steps i k : ℕ) → Inherits names objects key steps i k → Leads names objects common steps (ordinary_set names (object_at objects i) key v receiver) (ordinary_set names (object_at objects k) key v receiver)
  set_up key v receiver zero i k h = ap (λ m. ordinary_set names (object_at objects m) key v receiver) h
  set_up key v receiver (suc n) i k (none, (p, j, above, own, lt, rest)) =
      (p, ask.Set key v receiver, (λ t. ordinary_set_with_own_descriptor key v receiver (above t) (none t)), subst (λ d. Leads names objects common n d (ordinary_set names (object_at objects k) key v receiver)) (sym (asked p j (ask.Set key v receiver) own lt)) (set_up key v receiver n j k rest))

pub get_leads_up : (R S : Type 0) → Get_leads_up R S
get_leads_up R S names objects common key receiver steps i k h = get_up names objects common key receiver steps i k h

pub set_leads_up : (R S : Type 0) → Set_leads_up R S
set_leads_up R S names objects common key v receiver steps i k h = set_up names objects common key v receiver steps i k h
