-- What stays of an object, whatever is asked.
use Rattle.std.proofs.Common.{◌≡◌, Bool, true, false, Option, Some, None, refl, sym, ap, ◌∙◌, subst}
use Rattle.js_text.specs.Naming.{Naming}
use Rattle.js_text.specs.SameKeys.{same_key_decides}
use Rattle.js_text.specs.Values.{IsSameness, same_key}
use Rattle.js_text.specs.declared.value.Key.{Key}
use Rattle.js_desc.specs.Descriptors.{configurable_of, same_option}
use Rattle.js_desc.specs.Laws.{Stays, StaysIfFixed}
use Rattle.js_desc.specs.Validate.{validate_and_apply_property_descriptor}
use Rattle.js_desc.specs.declared.ask.Ask as a
use Rattle.js_desc.specs.declared.ask.Ask.TheVariants as ask
use Rattle.js_desc.specs.declared.descriptor.Change.{Change}
use Rattle.js_desc.specs.declared.descriptor.Change.TheVariants as change
use Rattle.js_desc.specs.declared.descriptor.Descriptor.{Descriptor}
use Rattle.js_desc.specs.declared.descriptor.Descriptor.TheVariants.{Data, Accessor}
use Rattle.js_desc.specs.declared.descriptor.PartialDescriptor.{PartialDescriptor}
use Rattle.js_desc.proofs.Invariants as desc
use Rattle.js_store.specs.Objects.{Object}
use Rattle.js_store.proofs.Own_laws.{written_is_own, writing_leaves_others, removing_leaves_others}
use Rattle.js_ordinary.specs.Decided.{verdict}
use Rattle.js_ordinary.specs.Laws.{object_after, Fixed_properties_stay, Closed_objects_gain_nothing, StaysClosed, Closed_objects_stay_closed}
use Rattle.js_ordinary.specs.OrdinaryDefineOwnProperty.{define_by}
use Rattle.js_ordinary.specs.OrdinaryDelete.{delete_by, delete_if}
use Rattle.js_ordinary.specs.OrdinarySetPrototypeOf.{set_prototype_if}
use Rattle.js_ordinary.specs.Verdicts.{Verdict, own_property, flag, unchanged}
use Rattle.js_ordinary.proofs.Changes_laws.{both}

pub on_test : (b : Bool) (X : Type 0) → (b ≡ true → X) → (b ≡ false → X) → X
on_test true X f g = f refl
on_test false X f g = g refl

-- what holds of the own property of a key holds after each verdict, where it holds of what may be written there, and where nothing that stands there may be taken out
module _ {R S : Type 0} (names : Naming R S) (decides : IsSameness names.same_symbol) (cycle : Option R → Bool) (o : Object R S) (key : Key S) (Q : Option (Descriptor R S) → Type 0) (base : Q (own_property names o key))
    (on_write : (d : PartialDescriptor R S) (new : Descriptor R S) → validate_and_apply_property_descriptor names.same names.same_symbol (own_property names o key) o.extensible d ≡ Some (change.Write new) → Q (Some new))
    (on_delete : (d : Descriptor R S) → own_property names o key ≡ Some d → configurable_of d ≡ true → ⊥) where
  abbrev After : Verdict R S → Type 0
  After v = Q (own_property names (object_after o v) key)

  prototype_set : (p : Option R) (extensible c : Bool) → After (set_prototype_if o p extensible c)
  prototype_set p false c = base
  prototype_set p true true = base
  prototype_set p true false = base

  module _ (other : Key S) where
    key_is : same_key names.same_symbol key other ≡ true → other ≡ key
    key_is h = sym ((same_key_decides decides key other).0 h)

    property_written : (d : PartialDescriptor R S) (c : Change R S) → validate_and_apply_property_descriptor names.same names.same_symbol (own_property names o other) o.extensible d ≡ Some c → After (define_by names o other (Some c))
    property_written d change.Nothing h = base
    property_written d (change.Write new) h =
        on_test (same_key names.same_symbol key other) (After (define_by names o other (Some (change.Write new))))
        (λ is.
        let k : other ≡ key = key_is is in
        let h' : validate_and_apply_property_descriptor names.same names.same_symbol (own_property names o key) o.extensible d ≡ Some (change.Write new) = subst (λ (m : Key S). validate_and_apply_property_descriptor names.same names.same_symbol (own_property names o m) o.extensible d ≡ Some (change.Write new)) k h in
        subst (λ (m : Key S). After (define_by names o m (Some (change.Write new)))) (sym k) (subst Q (sym (written_is_own R S names.same_symbol decides key new o.properties)) (on_write d new h')))
        (λ apart. subst Q (sym (writing_leaves_others R S names.same_symbol decides other key new o.properties apart)) base)

    defined : (d : PartialDescriptor R S) (r : Option (Change R S)) → validate_and_apply_property_descriptor names.same names.same_symbol (own_property names o other) o.extensible d ≡ r → After (define_by names o other r)
    defined d None h = base
    defined d (Some c) h = property_written d c h

    property_taken_out : (d : Descriptor R S) → own_property names o other ≡ Some d → (c : Bool) → configurable_of d ≡ c → After (delete_if names o other c)
    property_taken_out d h false e = base
    property_taken_out d h true e =
        on_test (same_key names.same_symbol key other) (After (delete_if names o other true))
        (λ is. absurd (on_delete d (subst (λ (m : Key S). own_property names o m ≡ Some d) (key_is is) h) e))
        (λ apart. subst Q (sym (removing_leaves_others R S names.same_symbol decides other key o.properties apart)) base)

    deleted : (r : Option (Descriptor R S)) → own_property names o other ≡ r → After (delete_by names o other r)
    deleted None h = base
    deleted (Some d) h = property_taken_out d h (configurable_of d) refl

  each : (x : a.Ask R S) → After (verdict names cycle o x)
  each ask.GetPrototypeOf = base
  each (ask.SetPrototypeOf p) = both After (same_option names.same o.prototype p) (unchanged (flag true)) (set_prototype_if o p o.extensible (cycle p)) base (prototype_set p o.extensible (cycle p))
  each ask.IsExtensible = base
  each ask.PreventExtensions = base
  each (ask.GetOwnProperty k) = base
  each (ask.DefineOwnProperty k d) = defined k d (validate_and_apply_property_descriptor names.same names.same_symbol (own_property names o k) o.extensible d) refl
  each (ask.HasProperty k) = base
  each (ask.Get k receiver) = base
  each (ask.Set k v receiver) = base
  each (ask.Delete k) = deleted k (own_property names o k) refl
  each ask.OwnPropertyKeys = base
  each (ask.Call this args) = base
  each (ask.Construct target args) = base
  each (ask.Import link path) = base
  each (ask.Slot which args) = base
  each (ask.Make globals modules) = base
  each ask.Queue = base
  each ask.Turn = base

stays_itself : {R S : Type 0} (d : Descriptor R S) → Stays d (Some d)
stays_itself (Data v true e c) = (v, true, refl)
stays_itself (Data v false e c) = refl
stays_itself (Accessor g s e c) = refl

not_both : {R S : Type 0} (own : Option (Descriptor R S)) (d d' : Descriptor R S) → own ≡ Some d → configurable_of d ≡ false → own ≡ Some d' → configurable_of d' ≡ true → ⊥
not_both own d d' h fixed e c = let same : Some d' ≡ Some d = sym e ∙ h in let k : d' ≡ d = cc in cc (sym fixed ∙ (sym (ap configurable_of k) ∙ c))

pub fixed_properties_stay : (R S : Type 0) → Fixed_properties_stay R S
fixed_properties_stay R S names decides decides_made cycle o x key d h fixed =
    each names decides_made cycle o key (Stays d) (subst (Stays d) (sym h) (stays_itself d))
    (λ f new e.
    let w : StaysIfFixed (own_property names o key) (Some new) = desc.fixed_properties_stay R S names.same names.same_symbol decides decides_made (own_property names o key) o.extensible f (change.Write new) e in
    subst (λ (m : Option (Descriptor R S)). StaysIfFixed m (Some new)) h w fixed)
    (λ d' e c. not_both (own_property names o key) d d' h fixed e c)
    x

none_some : {A : Type 0} {a : A} → None ≡ Some a → ⊥
none_some h = cc

pub closed_objects_gain_nothing : (R S : Type 0) → Closed_objects_gain_nothing R S
closed_objects_gain_nothing R S names decides decides_made cycle o x key closed h =
    each names decides_made cycle o key (λ m. m ≡ None) h
    (λ f new e.
    let w : validate_and_apply_property_descriptor names.same names.same_symbol None false f ≡ Some (change.Write new) = (λ j. validate_and_apply_property_descriptor names.same names.same_symbol (sym h j) (sym closed j) f) ∙ e in
    absurd (none_some w))
    (λ d' e c. none_some (sym h ∙ e))
    x

module _ {R S : Type 0} (names : Naming R S) (cycle : Option R → Bool) (o : Object R S) (closed : o.extensible ≡ false) where
  abbrev Closed : Verdict R S → Type 0
  Closed v = StaysClosed o (object_after o v)

  still : StaysClosed o o
  still = record { closed = closed; prototype = refl }

  still_defined : (k : Key S) (r : Option (Change R S)) → Closed (define_by names o k r)
  still_defined k None = still
  still_defined k (Some c) = record { closed = closed; prototype = refl }

  still_there : (k : Key S) (c : Bool) → Closed (delete_if names o k c)
  still_there k true = record { closed = closed; prototype = refl }
  still_there k false = still

  still_deleted : (k : Key S) (r : Option (Descriptor R S)) → Closed (delete_by names o k r)
  still_deleted k None = still
  still_deleted k (Some d) = still_there k (configurable_of d)

  each_closed : (x : a.Ask R S) → Closed (verdict names cycle o x)
  each_closed ask.GetPrototypeOf = still
  each_closed (ask.SetPrototypeOf p) = both Closed (same_option names.same o.prototype p) (unchanged (flag true)) (set_prototype_if o p o.extensible (cycle p)) still (subst (λ b. Closed (set_prototype_if o p b (cycle p))) (sym closed) still)
  each_closed ask.IsExtensible = still
  each_closed ask.PreventExtensions = record { closed = refl; prototype = refl }
  each_closed (ask.GetOwnProperty k) = still
  each_closed (ask.DefineOwnProperty k d) = still_defined k (validate_and_apply_property_descriptor names.same names.same_symbol (own_property names o k) o.extensible d)
  each_closed (ask.HasProperty k) = still
  each_closed (ask.Get k receiver) = still
  each_closed (ask.Set k v receiver) = still
  each_closed (ask.Delete k) = still_deleted k (own_property names o k)
  each_closed ask.OwnPropertyKeys = still
  each_closed (ask.Call this args) = still
  each_closed (ask.Construct target args) = still
  each_closed (ask.Import link path) = still
  each_closed (ask.Slot which args) = still
  each_closed (ask.Make globals modules) = still
  each_closed ask.Queue = still
  each_closed ask.Turn = still

pub closed_objects_stay_closed : (R S : Type 0) → Closed_objects_stay_closed R S
closed_objects_stay_closed R S names cycle o x closed = each_closed names cycle o closed x
