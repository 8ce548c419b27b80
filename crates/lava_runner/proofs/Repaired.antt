-- What the host's objects inherit, in the common part that a run has.
use Rattle.std.proofs.Common.{◌≡◌, ℕ, zero, suc, ◌+◌, arith, Bool, true, false, cond, nat_eq, List, [], ◌∷◌, map, slice_get, Option, Some, None, refl, sym, ap, ◌∙◌, subst, ◌||◌}
use Rattle.std.specs.Cmp.{unsigned_Decides}
use Rattle.std.specs.List.{AllByRecursion}
use Rattle.lava_base.specs.declared.ids.MadeSymbol.{MadeSymbol}
use Rattle.lava_base.specs.declared.ids.Ref.{Ref}
use Rattle.lava_base.specs.declared.ids.Ref.TheVariants as reference
use Rattle.lava_base.specs.declared.marks.Class.{Class}
use Rattle.lava_base.specs.declared.marks.Class.TheVariants as class
use Rattle.js_text.specs.CommonPaths.{common_paths}
use Rattle.js_text.specs.declared.value.Key.{Key}
use Rattle.js_desc.specs.declared.descriptor.Descriptor.{Descriptor}
use Rattle.js_desc.specs.declared.descriptor.Descriptor.TheVariants.{Data, Accessor}
use Rattle.js_store.specs.Frozen.{CommonObject, as_read, common_at, common_ref}
use Rattle.js_store.specs.Objects.{Object, object_at}
use Rattle.js_store.specs.declared.slot.Slot.{Slot}
use Rattle.js_store.specs.declared.slot.Slot.TheVariants as slot
use Rattle.js_host_laws.specs.js_ordinary.OrdinarySetPrototypeOf.{is_proxy}
use Rattle.lava_driver.specs.js_run.js_exotic.ArrayDefineOwnProperty.{is_array}
use Rattle.js_host_laws.specs.Prototypes.{HasRepairs, InheritsSo, IsHostPrototype, KeepsGetter, KeepsSetter, host_prototypes, is_host_prototype, is_place_in, kept_at}
use Rattle.lava_packages.specs.ses_lockdown.Accessors.{CallsRepairs, HasRepairGetter, HasRepairSetter, IsRepairedIfAny, is_locked_slot, is_plain_class, slot_at}
use Rattle.lava_packages.specs.ses_lockdown.Repairs.{is_among, is_repaired, repaired_paths}

-- WHICH OBJECTS THESE ARE

abbrev all_repaired : List ℕ → Bool
all_repaired [] = true
all_repaired (p ∷ ps) = cond (is_repaired p) (all_repaired ps) false

they_are_repaired : all_repaired host_prototypes ≡ true
unfolding is_repaired common_paths
they_are_repaired = refl

both_hold : (a b : Bool) → cond a b false ≡ true → (a ≡ true) × (b ≡ true)
both_hold true b h = (refl, h)
both_hold false b h = absurd cc

repaired_in : (ps : List ℕ) (place : ℕ) → all_repaired ps ≡ true → is_place_in ps place ≡ true → is_repaired place ≡ true
repaired_in [] place all h = absurd cc
repaired_in (p ∷ ps) place all h = by (nat_eq p place) refl h (both_hold (is_repaired p) (all_repaired ps) all) (repaired_in ps place)
  where
    by : (b : Bool) → nat_eq p place ≡ b → (b || is_place_in ps place) ≡ true → (is_repaired p ≡ true) × (all_repaired ps ≡ true) → (all_repaired ps ≡ true → is_place_in ps place ≡ true → is_repaired place ≡ true) → is_repaired place ≡ true
    by true e h parts next = subst (λ n. is_repaired n ≡ true) ((unsigned_Decides p place).0 e) parts.0
    by false e h parts next = next parts.1 h

is_repaired_there : (place : ℕ) → is_host_prototype place ≡ true → is_repaired place ≡ true
is_repaired_there place h = repaired_in host_prototypes place they_are_repaired h

-- and there are no others
abbrev none_other : ℕ → List (List ℕ) → Bool
none_other n [] = true
none_other n (path ∷ paths) = cond (cond (is_among (Some path) repaired_paths) (is_host_prototype n) true) (none_other (suc n) paths) false

no_others : none_other 0 common_paths ≡ true
unfolding common_paths
no_others = refl

plus_zero : (n : ℕ) → n ≡ n + 0
plus_zero n = omega arith

plus_suc : (n k : ℕ) → suc n + k ≡ n + suc k
plus_suc n k = omega arith

row_others : (paths : List (List ℕ)) (n k : ℕ) → none_other n paths ≡ true → is_among (slice_get paths k) repaired_paths ≡ true → is_host_prototype (n + k) ≡ true
row_others [] n k all h = absurd cc
row_others (path ∷ paths) n zero all h =
    let parts = both_hold (cond (is_among (Some path) repaired_paths) (is_host_prototype n) true) (none_other (suc n) paths) all in
    subst (λ m. is_host_prototype m ≡ true) (plus_zero n) (ap (λ b. cond b (is_host_prototype n) true) (sym h) ∙ parts.0)
row_others (path ∷ paths) n (suc k) all h =
    let parts = both_hold (cond (is_among (Some path) repaired_paths) (is_host_prototype n) true) (none_other (suc n) paths) all in
    subst (λ m. is_host_prototype m ≡ true) (plus_suc n k) (row_others paths (suc n) k parts.1 h)

zero_plus : (n : ℕ) → 0 + n ≡ n
zero_plus n = omega arith

is_host : (place : ℕ) → is_repaired place ≡ true → is_host_prototype place ≡ true
unfolding is_repaired
is_host place h = subst (λ m. is_host_prototype m ≡ true) (zero_plus place) (row_others common_paths 0 place no_others h)

inherited : (o : Option Ref) → IsRepairedIfAny o → IsHostPrototype o
inherited None h = tt
inherited (Some (reference.Common c)) h = is_host c.0 h
inherited (Some (reference.Own p i)) h = h

-- WHAT THEY CALL

no_proxy : (s : Slot Ref MadeSymbol) → is_locked_slot s ≡ true → is_proxy s ≡ false
no_proxy slot.Plain h = refl
no_proxy (slot.Closure body home lexical) h = refl
no_proxy (slot.Held f) h = refl
no_proxy (slot.Bound target this args) h = absurd cc
no_proxy (slot.Proxy p) h = absurd cc
no_proxy (slot.Table es) h = absurd cc
no_proxy (slot.Chamber global) h = absurd cc
no_proxy (slot.Promised p) h = absurd cc
no_proxy (slot.Namespace scope exports) h = absurd cc

no_array : (c : Class) → is_plain_class c ≡ true → is_array c ≡ false
no_array class.Object h = refl
no_array class.Array h = absurd cc
no_array class.Function h = refl
no_array class.Error h = absurd cc
no_array class.Map h = absurd cc
no_array class.Set h = absurd cc
no_array class.WeakMap h = absurd cc
no_array class.Compartment h = absurd cc
no_array class.Global h = absurd cc
no_array class.Proxy h = absurd cc
no_array class.Promise h = absurd cc
no_array class.Module h = absurd cc

abbrev Thing : Type 0
Thing = Object Ref MadeSymbol

abbrev read : List CommonObject → List Thing
read cs = map (as_read common_ref) cs

common_is : (cs : List CommonObject) (place : ℕ) → object_at (read cs) place ≡ common_at cs place
common_is [] place = refl
common_is (c ∷ cs) zero = refl
common_is (c ∷ cs) (suc place) = common_is cs place

slot_is : (cs : List CommonObject) (r : Ref) → slot_at (read cs) r ≡ kept_at cs r
slot_is cs (reference.Common c) = ap (λ (o : Thing). o.slot) (common_is cs c.0)
slot_is cs (reference.Own p i) = refl

getter_is : (cs : List CommonObject) (d : Descriptor Ref MadeSymbol) → HasRepairGetter (read cs) d → KeepsGetter cs d
getter_is cs (Data v w e c) h = tt
getter_is cs (Accessor None s e c) h = tt
getter_is cs (Accessor (Some g) s e c) h = (h.0, sym (slot_is cs g) ∙ h.1)

setter_is : (cs : List CommonObject) (d : Descriptor Ref MadeSymbol) → HasRepairSetter (read cs) d → KeepsSetter cs d
setter_is cs (Data v w e c) h = tt
setter_is cs (Accessor g None e c) h = tt
setter_is cs (Accessor g (Some s) e c) h = (h.0, h.1, sym (slot_is cs s) ∙ h.2)

each_is : (P Q : Descriptor Ref MadeSymbol → Type 0) → ((d : Descriptor Ref MadeSymbol) → P d → Q d) → (ps : List (Key MadeSymbol × Descriptor Ref MadeSymbol)) → AllByRecursion (λ p. P p.1) ps → AllByRecursion (λ p. Q p.1) ps
each_is P Q f [] h = tt
each_is P Q f (p ∷ ps) h = (f p.1 h.0, each_is P Q f ps h.1)

pub has_repairs : (cs : List CommonObject) → CallsRepairs (read cs) → HasRepairs cs
has_repairs cs calls = record {
  prototypes = λ place h.
      let is : is_repaired place ≡ true = is_repaired_there place h in
      let o : Thing = object_at (read cs) place in
      subst (InheritsSo cs) (common_is cs place) (record { prototype = inherited o.prototype (calls.prototypes place is); getters = each_is (HasRepairGetter (read cs)) (KeepsGetter cs) (getter_is cs) o.properties (calls.getters place is) });
  setters = λ place.
      subst (λ (o : Thing). AllByRecursion (λ p. KeepsSetter cs p.1) o.properties) (common_is cs place)
      (each_is (HasRepairSetter (read cs)) (KeepsSetter cs) (setter_is cs) (object_at (read cs) place).properties (calls.setters place));
  proxies = λ place. subst (λ (o : Thing). is_proxy o.slot ≡ false) (common_is cs place) (no_proxy (object_at (read cs) place).slot (calls.slots place));
  arrays = λ place. subst (λ (o : Thing). is_array o.marks.class ≡ false) (common_is cs place) (no_array (object_at (read cs) place).marks.class (calls.classes place));
}
