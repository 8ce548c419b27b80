-- Properties and items that are defined.
use Rattle.std.proofs.Common.{◌≡◌, ℕ, suc, Bool, false, Option, Some, None, is_some, refl, sym, ap, ◌∙◌, subst, Result, Ok, Err, IfOk, OnOk, if◌then◌else◌, codes}
use Rattle.lava_base.specs.declared.ids.MadeSymbol.{MadeSymbol}
use Rattle.lava_base.specs.declared.ids.Ref.{Ref}
use Rattle.js_text.specs.Naming.{Naming, Origin, Own, naming_of}
use Rattle.js_text.specs.declared.value.Key.{Key}
use Rattle.js_text.specs.declared.value.Key.TheVariants as key
use Rattle.js_text.specs.declared.value.Value.{Value}
use Rattle.js_desc.specs.Validate.{validate_and_apply_property_descriptor}
use Rattle.js_desc.specs.declared.descriptor.Change.{Change}
use Rattle.js_desc.specs.declared.descriptor.PartialDescriptor.{PartialDescriptor}
use Rattle.js_desc.specs.declared.fault.FaultText.TheVariants as fault
use Rattle.js_ordinary.specs.Origins.{object_of}
use Rattle.js_store.specs.Objects.{ordinary_get_own_property}
use Rattle.js_operation.specs.js_run.Acts.{Act}
use Rattle.js_operation.specs.js_run.Faults.{faults}
use Rattle.js_operation.specs.js_run.Functions.{length_read, own_data}
use Rattle.js_operation.specs.js_run.Parties.{Party}
use Rattle.js_operation.specs.js_run.Parts.{adds_hole, adds_item, defined, defines, with_count, with_item, with_property}
use Rattle.js_machine.specs.Definitions as w
use Rattle.js_machine.specs.Definitions.{HasHole, HasItem, HasOtherObjects, IsDefined, definition, with_changed, with_hole}
use Rattle.js_machine.specs.Views.{Around, View, fitting, party_of}

-- AN ITEM MORE

module _ (a : Around) (old : View) where
  abbrev names : Naming Ref MadeSymbol
  names = naming_of old.me

  abbrev p : Party Ref MadeSymbol
  p = party_of (fitting old a) old

  -- how many items there are at an origin
  abbrev count : Origin → ℕ
  count q = length_read (own_data names (object_of names.common old.objects (fitting old a).shared.objects q) (key.Text (codes "length")))

  hole_at : (o : Ref) (i : ℕ) → names.origin o ≡ Own i → party_of (fitting old a) (with_hole i old) ≡ adds_hole names (fitting old a).shared o p
  hole_at o i e = ap (λ q. with_count names (fitting old a).shared q (suc (count q)) p) (sym e)

  item_at : (o : Ref) (v : Value Ref MadeSymbol) (i : ℕ) → names.origin o ≡ Own i → party_of (fitting old a) (w.with_item i v old) ≡ adds_item names (fitting old a).shared o v p
  item_at o v i e = ap (λ q. with_count names (fitting old a).shared q (suc (count q)) (with_item names (fitting old a).shared q (count q) v p)) (sym e)

pub has_hole : {A E : Type 0} (r : Result A E) (o : Ref) (i : ℕ) (old new : View) → (naming_of old.me).origin o ≡ Own i → OnOk r (new ≡ with_hole i old) → OnOk r (HasHole o old new)
has_hole (Ok u) o i old new e h = λ a. ap (λ (x : View). party_of (fitting old a) x) h ∙ hole_at a old o i e
has_hole (Err x) o i old new e h = tt

pub has_item : {A E : Type 0} (r : Result A E) (o : Ref) (v : Value Ref MadeSymbol) (i : ℕ) (old new : View) → (naming_of old.me).origin o ≡ Own i → OnOk r (new ≡ w.with_item i v old) → OnOk r (HasItem o v old new)
has_item (Ok u) o v i old new e h = λ a. ap (λ (x : View). party_of (fitting old a) x) h ∙ item_at a old o v i e
has_item (Err x) o v i old new e h = tt

changed_alone : (i : ℕ) (k : Key MadeSymbol) (c : Option (Change Ref MadeSymbol)) (old : View) → HasOtherObjects old (with_changed i k c old)
changed_alone i k None old = refl
changed_alone i k (Some c) old = refl

pub others : {A E : Type 0} (r : Result A E) (i : ℕ) (k : Key MadeSymbol) (c : Option (Change Ref MadeSymbol)) (old new : View) → OnOk r (new ≡ with_changed i k c old) → OnOk r (HasOtherObjects old new)
others (Ok u) i k c old new h = subst (λ x. HasOtherObjects old x) (sym h) (changed_alone i k c old)
others (Err x) i k c old new h = tt

pub others_hole : {A E : Type 0} (r : Result A E) (i : ℕ) (old new : View) → OnOk r (new ≡ with_hole i old) → OnOk r (HasOtherObjects old new)
others_hole (Ok u) i old new h = subst (λ x. HasOtherObjects old x) (sym h) refl
others_hole (Err x) i old new h = tt

pub others_item : {A E : Type 0} (r : Result A E) (v : Value Ref MadeSymbol) (i : ℕ) (old new : View) → OnOk r (new ≡ w.with_item i v old) → OnOk r (HasOtherObjects old new)
others_item (Ok u) v i old new h = subst (λ x. HasOtherObjects old x) (sym h) refl
others_item (Err x) v i old new h = tt

-- A PROPERTY

module _ (a : Around) (old : View) (o : Ref) (k : Key MadeSymbol) (d : PartialDescriptor Ref MadeSymbol) (go : Party Ref MadeSymbol → Act Ref MadeSymbol) where
  -- what a definition makes of the object at an origin
  abbrev made_at : Origin → Option (Change Ref MadeSymbol)
  made_at q =
      let x = object_of (naming_of old.me).common old.objects (fitting old a).shared.objects q in
      validate_and_apply_property_descriptor (naming_of old.me).same (naming_of old.me).same_symbol (ordinary_get_own_property (naming_of old.me).same_symbol k x.properties) x.extensible d

  abbrev Becomes : Bool → Option (Change Ref MadeSymbol) → View → Type 0
  Becomes done c new = defined (naming_of old.me) (fitting old a).shared o k c (party_of (fitting old a) old) go ≡ (if done then go (party_of (fitting old a) new) else faults (naming_of old.me) fault.CannotDefine (party_of (fitting old a) old))

  becomes : (i : ℕ) (c : Option (Change Ref MadeSymbol)) → (naming_of old.me).origin o ≡ Own i → Becomes (is_some c) c (with_changed i k c old)
  becomes i None e = refl
  becomes i (Some c) e = ap (λ q. go (with_property (naming_of old.me) (fitting old a).shared q k c (party_of (fitting old a) old))) e

  defined_at : (i : ℕ) (done : Bool) (new : View) → (naming_of old.me).origin o ≡ Own i → done ≡ is_some (definition old i k d) → new ≡ with_changed i k (definition old i k d) old
      → defines (naming_of old.me) (fitting old a).shared o k d (party_of (fitting old a) old) go ≡ (if done then go (party_of (fitting old a) new) else faults (naming_of old.me) fault.CannotDefine (party_of (fitting old a) old))
  defined_at i done new e s h =
      ap (λ q. defined (naming_of old.me) (fitting old a).shared o k (made_at q) (party_of (fitting old a) old) go) e
      ∙ subst (λ (x : View). Becomes done (definition old i k d) x) (sym h) (subst (λ b. Becomes b (definition old i k d) (with_changed i k (definition old i k d) old)) (sym s) (becomes i (definition old i k d) e))

pub is_defined : {E : Type 0} (r : Result Bool E) (o : Ref) (k : Key MadeSymbol) (d : PartialDescriptor Ref MadeSymbol) (i : ℕ) (old new : View) → (naming_of old.me).origin o ≡ Own i
    → IfOk r (λ b. b ≡ is_some (definition old i k d)) → OnOk r (new ≡ with_changed i k (definition old i k d) old) → IfOk r (λ b. IsDefined o k d b old new)
is_defined (Ok b) o k d i old new e s h = λ a go. defined_at a old o k d go i b new e s h
is_defined (Err x) o k d i old new e s h = tt

unchanged : (i : ℕ) (k : Key MadeSymbol) (c : Option (Change Ref MadeSymbol)) (old : View) → is_some c ≡ false → with_changed i k c old ≡ old
unchanged i k None old e = refl
unchanged i k (Some c) old e = cc

pub refused : {E : Type 0} (r : Result Bool E) (i : ℕ) (k : Key MadeSymbol) (c : Option (Change Ref MadeSymbol)) (old new : View) → IfOk r (λ b. b ≡ is_some c) → OnOk r (new ≡ with_changed i k c old) → IfOk r (λ b. b ≡ false → new ≡ old)
refused (Ok b) i k c old new s h = λ e. h ∙ unchanged i k c old (sym s ∙ e)
refused (Err x) i k c old new s h = tt
