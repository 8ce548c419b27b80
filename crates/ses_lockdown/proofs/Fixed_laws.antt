-- What lockdown makes is frozen.
use Rattle.std.proofs.Common.{◌≡◌, ℕ, Bool, true, false, cond, List, [], ◌∷◌, ◌++◌, map, Option, Some, None, refl, sym, subst}
use Rattle.std.specs.Prelude.{◌&&◌}
use Rattle.std.specs.List.{All, AllByRecursion, range_with_len}
use Rattle.std.specs.Option.{option_map}
use Rattle.std.proofs.lemmas.Bool.{ltb-true}
use Rattle.std.proofs.lemmas.List.Elements.{All-nil, All-cons, All-map, All-head, All-tail}
use Rattle.std.proofs.lemmas.List.FromFn.{length-map-range_with_len}
use Rattle.lava_base.specs.Ids.{same_made_symbol}
use Rattle.lava_base.specs.declared.ids.MadeSymbol.{MadeSymbol}
use Rattle.lava_base.specs.declared.ids.Ref.{Ref}
use Rattle.lava_base.specs.declared.ids.Ref.TheVariants as reference
use Rattle.js_text.specs.Identities.{Identity, symbol_identities, key_identities, value_identities}
use Rattle.js_text.specs.Values.{same_key}
use Rattle.js_text.specs.declared.value.Key.{Key}
use Rattle.js_text.specs.declared.value.Key.TheVariants as key
use Rattle.js_text.specs.declared.value.Symbol.{Symbol}
use Rattle.js_text.specs.declared.value.Symbol.TheVariants as symbol
use Rattle.js_text.specs.declared.value.Value.{Value}
use Rattle.js_text.specs.declared.value.Value.TheVariants as value
use Rattle.js_desc.specs.Identities.{all_identities, option_identities, ref_identities, descriptor_identities}
use Rattle.js_desc.specs.declared.descriptor.Descriptor.TheVariants.{Data, Accessor}
use Rattle.js_store.specs.Frozen.{IsCommonBelow, IsFixed, IsFrozen, IsFrozenObject}
use Rattle.js_store.specs.Identities.{held_identities, slot_identities, property_identities}
use Rattle.js_store.specs.Objects.{goes_before, written, object_at}
use Rattle.js_store.specs.declared.slot.Held.{Held}
use Rattle.js_store.specs.declared.slot.Held.TheVariants as held
use Rattle.js_store.specs.declared.slot.Slot.{Slot}
use Rattle.js_store.specs.declared.slot.Slot.TheVariants as slot
use Rattle.ses_lockdown.specs.Lockdown.{Obj, Property, Properties, locked_property, tamed, repaired, fixed, common_only, if_common, own_at, locked_at, defined, with_permit, with_permits, common_slot, common_prototype, held_or, kept_by, role_at, locked_as, locked_object, locked}
use Rattle.ses_lockdown.specs.Permits.{Permit, permits, count, key_of, is_for, is_common, is_common_if_any, is_shared_symbol, is_common_value, is_common_property, is_shared_key, is_common_slot}
use Rattle.ses_lockdown.specs.declared.table.KeySort.{KeySort}
use Rattle.ses_lockdown.specs.declared.table.KeySort.TheVariants.{Named, Iterator}

abbrev Inside : List (Identity Ref MadeSymbol) → Type 0
Inside xs = AllByRecursion (IsCommonBelow count) xs

join : (xs ys : List (Identity Ref MadeSymbol)) → Inside xs → Inside ys → Inside (xs ++ ys)
join [] ys h k = k
join (x ∷ xs) ys h k = (h.0, join xs ys h.1 k)

before : (xs ys : List (Identity Ref MadeSymbol)) → Inside (xs ++ ys) → Inside xs
before [] ys h = tt
before (x ∷ xs) ys h = (h.0, before xs ys h.1)

behind : (xs ys : List (Identity Ref MadeSymbol)) → Inside (xs ++ ys) → Inside ys
behind [] ys h = h
behind (x ∷ xs) ys h = behind xs ys h.1

-- WHAT IS COMMON

ref_in : (r : Ref) → is_common r ≡ true → Inside (ref_identities r)
ref_in (reference.Common c) h = (ltb-true c.0 count h, tt)
ref_in (reference.Own p i) h = absurd cc

refs_in : (r : Option Ref) → is_common_if_any r ≡ true → Inside (option_identities ref_identities r)
refs_in None h = tt
refs_in (Some r) h = ref_in r h

symbol_in : (s : Symbol MadeSymbol) → is_shared_symbol s ≡ true → Inside (symbol_identities s)
symbol_in symbol.Iterator h = tt
symbol_in (symbol.Registered t) h = tt
symbol_in (symbol.Made s) h = absurd cc

key_in : (k : Key MadeSymbol) → is_shared_key k ≡ true → Inside (key_identities k)
key_in (key.Index n) h = tt
key_in (key.Text t) h = tt
key_in (key.Symbol s) h = symbol_in s h

value_in : (v : Value Ref MadeSymbol) → is_common_value v ≡ true → Inside (value_identities v)
value_in value.Undefined h = tt
value_in value.Null h = tt
value_in (value.Bool b) h = tt
value_in (value.Int n) h = tt
value_in (value.Text t) h = tt
value_in (value.Symbol s) h = symbol_in s h
value_in (value.Ref r) h = ref_in r h

first_true : (a b : Bool) → (a && b) ≡ true → a ≡ true
first_true true b h = refl
first_true false b h = absurd cc

second_true : (a b : Bool) → (a && b) ≡ true → b ≡ true
second_true true b h = h
second_true false b h = absurd cc

property_in : (d : Property) → is_common_property d ≡ true → Inside (descriptor_identities d)
property_in (Data v w e c) h = value_in v h
property_in (Accessor g s e c) h = join (option_identities ref_identities g) (option_identities ref_identities s) (refs_in g (first_true (is_common_if_any g) (is_common_if_any s) h)) (refs_in s (second_true (is_common_if_any g) (is_common_if_any s) h))

-- A PROPERTY

fixed_fixed : (d : Property) → IsFixed (fixed d)
fixed_fixed (Data v w e c) = (refl, refl)
fixed_fixed (Accessor g s e c) = refl

-- what a property of a locked object is
record IsLocked (d : Property) : Type 0 where
  pub fixed : IsFixed d
  pub inside : Inside (descriptor_identities d)

abbrev IfLocked : Option Property → Type 0
IfLocked None = Unit {0}
IfLocked (Some d) = IsLocked d

only : (d : Property) → IsFixed d → IfLocked (common_only d)
only d f = by_test (is_common_property d) refl
  where
    by_test : (b : Bool) → is_common_property d ≡ b → IfLocked (cond b (Some d) None)
    by_test true h = record { fixed = f; inside = property_in d h }
    by_test false h = tt

if_locked : (r : Permit) (o : Option Property) → IfLocked (if_common (option_map (locked_property r) o))
if_locked r None = tt
if_locked r (Some d) = only (locked_property r d) (fixed_fixed (repaired r.override (tamed r.stands d)))

-- ALL PROPERTIES

record IsEach (ps : Properties) : Type 0 where
  pub fixed : All (λ p. IsFixed p.1) ps
  pub inside : Inside (all_identities property_identities ps)

permit_key_in : (s : KeySort) (w : List ℕ) → Inside (key_identities (key_of s w))
permit_key_in Named w = tt
permit_key_in Iterator w = tt

-- one more property is written
written_each : (k : Key MadeSymbol) (d : Property) (ps : Properties) → Inside (key_identities k) → IsLocked d → IsEach ps → IsEach (written same_made_symbol k d ps)
written_each k d [] kin l each = record { fixed = All-cons (λ p. IsFixed p.1) (k, d) [] l.fixed (All-nil (λ p. IsFixed p.1)); inside = join (key_identities k ++ descriptor_identities d) [] (join (key_identities k) (descriptor_identities d) kin l.inside) tt }
written_each k d (p ∷ ps) kin l each = by_tests (same_key same_made_symbol k p.0) (goes_before k p.0) (written_each k d ps kin l tail)
  where
    front : Inside (property_identities p)
    front = before (property_identities p) (all_identities property_identities ps) each.inside

    tail : IsEach ps
    tail = record { fixed = All-tail (λ q. IsFixed q.1) p ps each.fixed; inside = behind (property_identities p) (all_identities property_identities ps) each.inside }

    put : (q : Key MadeSymbol × Property) (qs : Properties) → IsFixed q.1 → Inside (property_identities q) → IsEach qs → IsEach (q ∷ qs)
    put q qs f i e = record { fixed = All-cons (λ x. IsFixed x.1) q qs f e.fixed; inside = join (property_identities q) (all_identities property_identities qs) i e.inside }

    by_tests : (is first : Bool) → IsEach (written same_made_symbol k d ps) → IsEach (cond is ((p.0, d) ∷ ps) (cond first ((k, d) ∷ p ∷ ps) (p ∷ written same_made_symbol k d ps)))
    by_tests true first rest = put (p.0, d) ps l.fixed (join (key_identities p.0) (descriptor_identities d) (before (key_identities p.0) (descriptor_identities p.1) front) l.inside) tail
    by_tests false true rest = put (k, d) (p ∷ ps) l.fixed (join (key_identities k) (descriptor_identities d) kin l.inside) each
    by_tests false false rest = put p (written same_made_symbol k d ps) (All-head (λ q. IsFixed q.1) p ps each.fixed) front rest

with_permit_each : (at : Permit → Option Property) → ((r : Permit) → IfLocked (at r)) → (place : ℕ) (callable : Bool) (r : Permit) (ps : Properties) → IsEach ps → IsEach (with_permit at place callable r ps)
with_permit_each at good place callable r ps each = by_test (is_for r.holder place callable) (by_cases (at r) (good r))
  where
    by_cases : (d : Option Property) → IfLocked d → IsEach (defined r d ps)
    by_cases None l = each
    by_cases (Some d) l = written_each (key_of r.sort r.word) d ps (permit_key_in r.sort r.word) l each

    by_test : (b : Bool) → IsEach (defined r (at r) ps) → IsEach (cond b (defined r (at r) ps) ps)
    by_test true h = h
    by_test false h = each

with_permits_each : (at : Permit → Option Property) → ((r : Permit) → IfLocked (at r)) → (place : ℕ) (callable : Bool) (rs : List Permit) (ps : Properties) → IsEach ps → IsEach (with_permits at place callable rs ps)
with_permits_each at good place callable [] ps each = each
with_permits_each at good place callable (r ∷ rs) ps each = with_permits_each at good place callable rs (with_permit at place callable r ps) (with_permit_each at good place callable r ps each)

-- THE SLOT AND THE PROTOTYPE

held_in : (h : Held Ref MadeSymbol) → is_common_slot (slot.Held h) ≡ true → Inside (held_identities h)
held_in (held.Require m) h = absurd cc
held_in held.ModuleMap h = absurd cc
held_in (held.LiveGetter l) h = absurd cc
held_in (held.LiveSetter l) h = absurd cc
held_in (held.RepairGetter v) h = value_in v h
held_in (held.RepairSetter r k) h = join (ref_identities r) (key_identities k) (ref_in r (first_true (is_common r) (is_shared_key k) h)) (key_in k (second_true (is_common r) (is_shared_key k) h))

slot_in : (s : Slot Ref MadeSymbol) → is_common_slot s ≡ true → Inside (slot_identities s)
slot_in (slot.Closure b None None) h = tt
slot_in (slot.Closure b None (Some l)) h = absurd cc
slot_in (slot.Closure b (Some r) None) h = absurd cc
slot_in (slot.Closure b (Some r) (Some l)) h = absurd cc
slot_in (slot.Held h) k = held_in h k
slot_in slot.Plain h = absurd cc
slot_in (slot.Bound t v a) h = absurd cc
slot_in (slot.Proxy p) h = absurd cc
slot_in (slot.Table es) h = absurd cc
slot_in (slot.Chamber g) h = absurd cc
slot_in (slot.Promised p) h = absurd cc
slot_in (slot.Namespace s e) h = absurd cc

common_slot_in : (s : Slot Ref MadeSymbol) → Inside (slot_identities (common_slot s))
common_slot_in s = by_test (is_common_slot s) refl
  where
    by_test : (b : Bool) → is_common_slot s ≡ b → Inside (slot_identities (cond b s slot.Plain))
    by_test true h = slot_in s h
    by_test false h = tt

held_or_in : (h : Option (Held Ref MadeSymbol)) (old : Slot Ref MadeSymbol) → Inside (slot_identities (held_or h old))
held_or_in None old = common_slot_in old
held_or_in (Some h) old = common_slot_in (slot.Held h)

prototype_in : (r : Option Ref) → Inside (option_identities ref_identities (common_prototype r))
prototype_in r = by_test (is_common_if_any r) refl
  where
    by_test : (b : Bool) → is_common_if_any r ≡ b → Inside (option_identities ref_identities (cond b r None))
    by_test true h = refs_in r h
    by_test false h = tt

-- ALL OBJECTS

locked_frozen : (objects : List Obj) (place : ℕ) (o : Obj) → IsFrozenObject count (locked_as objects place o)
locked_frozen objects place o =
    let each : IsEach (with_permits (λ r. locked_at r o) place o.marks.callable permits []) = with_permits_each (λ r. locked_at r o) (λ r. if_locked r (own_at r o)) place o.marks.callable permits [] (record { fixed = All-nil (λ p. IsFixed p.1); inside = tt }) in
    record {
      closed = refl;
      fixed = each.fixed;
      inside = join (option_identities ref_identities (common_prototype o.prototype)) (all_identities property_identities (with_permits (λ r. locked_at r o) place o.marks.callable permits []) ++ slot_identities (held_or (kept_by objects (role_at place)) o.slot)) (prototype_in o.prototype) (join (all_identities property_identities (with_permits (λ r. locked_at r o) place o.marks.callable permits [])) (slot_identities (held_or (kept_by objects (role_at place)) o.slot)) each.inside (held_or_in (kept_by objects (role_at place)) o.slot));
    }

pub is_frozen : (objects : List Obj) → IsFrozen (locked objects)
unfolding locked
is_frozen objects = subst (λ n. All (IsFrozenObject n) (map (locked_object objects) (range_with_len 0 count))) (sym (length-map-range_with_len (locked_object objects) 0 count)) (All-map (IsFrozenObject count) (locked_object objects) (range_with_len 0 count) (all_of (range_with_len 0 count)))
  where
    all_of : (places : List ℕ) → All (λ place. IsFrozenObject count (locked_object objects place)) places
    all_of [] = All-nil (λ place. IsFrozenObject count (locked_object objects place))
    all_of (n ∷ ns) = All-cons (λ place. IsFrozenObject count (locked_object objects place)) n ns (locked_frozen objects n (object_at objects n)) (all_of ns)
