-- What the accessors of a locked list call.
use Rattle.std.proofs.Common.{◌≡◌, ℕ, zero, suc, ◌+◌, ◌<◌, ◌≤◌, Bool, true, false, cond, ltb, List, [], ◌∷◌, get_or, arith, Option, Some, None, refl, sym, ap, ◌∙◌, subst, ltb-true, ltb-false}
use Rattle.std.proofs.lemmas.List.{get_or_past}
use Rattle.std.specs.Cmp.{unsigned_Decides}
use Rattle.std.specs.Map.{lookup}
use Rattle.std.specs.Option.{option_map}
use Rattle.lava_base.specs.declared.ids.MadeSymbol.{MadeSymbol}
use Rattle.lava_base.specs.declared.ids.Ref.{Ref}
use Rattle.lava_base.specs.declared.marks.Marks.{Marks}
use Rattle.js_text.specs.CommonPaths.{common_paths}
use Rattle.js_text.specs.declared.value.Key.{Key}
use Rattle.js_text.specs.declared.value.Value.{Value}
use Rattle.js_desc.specs.declared.descriptor.Descriptor.TheVariants.{Data, Accessor}
use Rattle.js_store.specs.Frozen.{common_ref}
use Rattle.js_store.specs.Objects.{fresh, object_at, plain_marks}
use Rattle.js_store.specs.declared.slot.Held.{Held}
use Rattle.js_store.specs.declared.slot.Slot.{Slot}
use Rattle.js_store.specs.declared.slot.Slot.TheVariants as slot
use Rattle.ses_lockdown.specs.Accessors.{CallsRepairs, HasRepairGetter, HasRepairSetter, HasTableProperties, HoldsValue, IsRepairedIfAny, IsSimple, is_locked_slot, is_plain_class}
use Rattle.ses_lockdown.specs.Entries.{HasTableMarks}
use Rattle.ses_lockdown.specs.Intrinsics.{marks_of}
use Rattle.ses_lockdown.specs.Lockdown.{Obj, Property, Properties, common_only, common_prototype, common_slot, fixed, held_or, if_common, kept_by, locked, locked_at, locked_property, own_at, repaired, role_at, tamed}
use Rattle.ses_lockdown.specs.Permits.{Permit, Place, count, is_common_if_any, is_common_property, is_common_slot, is_common_value, is_for, no_permit, no_place, permit_at, permits, place_at, places}
use Rattle.ses_lockdown.specs.Repairs.{IsRepaired, is_repaired, tamed_value}
use Rattle.ses_lockdown.specs.declared.table.Holder.{Holder}
use Rattle.ses_lockdown.specs.declared.table.Holder.TheVariants.{EachFunction, At}
use Rattle.ses_lockdown.specs.declared.table.Kind.{Kind}
use Rattle.ses_lockdown.specs.declared.table.Kind.TheVariants as kind
use Rattle.ses_lockdown.specs.declared.table.Override.{Override}
use Rattle.ses_lockdown.specs.declared.table.Override.TheVariants as override
use Rattle.ses_lockdown.specs.declared.table.Stands.{Stands}
use Rattle.ses_lockdown.specs.declared.table.Stands.TheVariants as stands
use Rattle.ses_lockdown.proofs.Again_laws.{becomes_accessor}
use Rattle.ses_lockdown.proofs.Counts.{so_many_locked}
use Rattle.ses_lockdown.proofs.Entries_laws.{Writes, both_hold}
use Rattle.ses_lockdown.proofs.Initial_laws.{Each, ForEach, OfAny, all_named, is_named, permits_each, they_are_named}
use Rattle.ses_lockdown.proofs.Locked_laws.{at_locked}
use Rattle.ses_lockdown.proofs.Repair_laws.{is_here, is_place, is_repaired_so, row_here, tamed_is, they_are_here, zero_plus}

-- WHAT IS FOUND

by_test : (P : Property → Type 0) (b : Bool) (d : Property) (found : Option Property) → P d → OfAny P found → OfAny P (cond b (Some d) found)
by_test P true d found h k = h
by_test P false d found h k = k

found_so : (P : Property → Type 0) (test : Key MadeSymbol → Bool) (ps : Properties) → Each P ps → OfAny P (lookup test ps)
found_so P test [] h = tt
found_so P test (p ∷ ps) h = by_test P (test p.0) p.1 (lookup test ps) h.0 (found_so P test ps h.1)

-- THE TABLE

row_named : (rs : List Permit) (n : ℕ) → all_named rs ≡ true → is_named (get_or rs n no_permit).stands ≡ true
row_named [] n h = refl
row_named (r ∷ rs) zero h = (both_hold (is_named r.stands) (all_named rs) h).0
row_named (r ∷ rs) (suc n) h = row_named rs n (both_hold (is_named r.stands) (all_named rs) h).1

-- a value that is tamed is a common one still
tamed_common : (s : Stands) (v : Value Ref MadeSymbol) → is_named s ≡ true → is_common_value v ≡ true → is_common_value (tamed_value s v) ≡ true
tamed_common stands.OwnName v n h = h
tamed_common stands.OwnLength v n h = h
tamed_common (stands.Object p) v n h = h
tamed_common (stands.Tamed p) v n h = n
tamed_common (stands.NameOf p) v n h = h
tamed_common stands.Empty v n h = h
tamed_common (stands.Integer n) v m h = h
tamed_common stands.IteratorSymbol v n h = h
tamed_common (stands.Read p) v n h = h

tamed_accessor : (s : Stands) (g t : Option Ref) (e c : Bool) → tamed s (Accessor g t e c) ≡ Accessor g t e c
tamed_accessor stands.OwnName g t e c = refl
tamed_accessor stands.OwnLength g t e c = refl
tamed_accessor (stands.Object p) g t e c = refl
tamed_accessor (stands.Tamed p) g t e c = refl
tamed_accessor (stands.NameOf p) g t e c = refl
tamed_accessor stands.Empty g t e c = refl
tamed_accessor (stands.Integer n) g t e c = refl
tamed_accessor stands.IteratorSymbol g t e c = refl
tamed_accessor (stands.Read p) g t e c = refl

repaired_accessor : (o : Override) (g t : Option Ref) (e c : Bool) → repaired o (Accessor g t e c) ≡ Accessor g t e c
repaired_accessor override.Stays g t e c = refl
repaired_accessor (override.Accessor get set) g t e c = refl

-- the permit whose property becomes an accessor is for one object
holder_is : (h : Holder) (place : ℕ) (callable : Bool) → is_here h ≡ true → is_for h place callable ≡ true → h ≡ At place
holder_is EachFunction place callable h f = absurd cc
holder_is (At p) place callable h f = ap At ((unsigned_Decides p place).0 f)

-- the seven prototypes inherit from each other
abbrev inherits_so : Option ℕ → Bool
inherits_so None = true
inherits_so (Some p) = is_repaired p

abbrev all_inherit : ℕ → List Place → Bool
all_inherit n [] = true
all_inherit n (p ∷ ps) = cond (cond (is_repaired n) (inherits_so p.1) true) (all_inherit (suc n) ps) false

they_inherit : all_inherit 0 places ≡ true
unfolding places is_repaired common_paths
they_inherit = refl

plus_zero : (n : ℕ) → n + 0 ≡ n
plus_zero n = omega arith

plus_suc : (n k : ℕ) → n + suc k ≡ suc n + k
plus_suc n k = omega arith

row_inherits : (ps : List Place) (n k : ℕ) → all_inherit n ps ≡ true → is_repaired (n + k) ≡ true → inherits_so (get_or ps k no_place).1 ≡ true
row_inherits [] n k h a = refl
row_inherits (p ∷ ps) n zero h a = ap (λ b. cond b (inherits_so p.1) true) (sym (ap is_repaired (sym (plus_zero n)) ∙ a)) ∙ (both_hold (cond (is_repaired n) (inherits_so p.1) true) (all_inherit (suc n) ps) h).0
row_inherits (p ∷ ps) n (suc k) h a = row_inherits ps (suc n) k (both_hold (cond (is_repaired n) (inherits_so p.1) true) (all_inherit (suc n) ps) h).1 (ap is_repaired (sym (plus_suc n k)) ∙ a)

inherited : (o : Option ℕ) → inherits_so o ≡ true → IsRepairedIfAny (common_prototype (option_map common_ref o))
inherited None h = tt
inherited (Some p) h = by (is_common_if_any (Some (common_ref p)))
  where
    by : (b : Bool) → IsRepairedIfAny (cond b (Some (common_ref p)) None)
    by true = h
    by false = tt

-- SLOTS

common_slot_so : (s : Slot Ref MadeSymbol) → is_locked_slot (common_slot s) ≡ true
common_slot_so slot.Plain = refl
common_slot_so (slot.Closure body home lexical) = by (is_common_slot (slot.Closure body home lexical))
  where
    by : (b : Bool) → is_locked_slot (cond b (slot.Closure body home lexical) slot.Plain) ≡ true
    by true = refl
    by false = refl
common_slot_so (slot.Held h) = by (is_common_slot (slot.Held h))
  where
    by : (b : Bool) → is_locked_slot (cond b (slot.Held h) slot.Plain) ≡ true
    by true = refl
    by false = refl
common_slot_so (slot.Bound target this args) = refl
common_slot_so (slot.Proxy p) = refl
common_slot_so (slot.Table es) = refl
common_slot_so (slot.Chamber global) = refl
common_slot_so (slot.Promised p) = refl
common_slot_so (slot.Namespace scope exports) = refl

held_so : (h : Option (Held Ref MadeSymbol)) (s : Slot Ref MadeSymbol) → is_locked_slot (held_or h s) ≡ true
held_so None s = common_slot_so s
held_so (Some h) s = common_slot_so (slot.Held h)

plain_class : (k : Kind) → is_plain_class (marks_of k).class ≡ true
plain_class kind.Ordinary = refl
plain_class kind.Function = refl
plain_class kind.Constructor = refl

-- EACH PROPERTY OF A LOCKED OBJECT

module _ (laws : Writes) (objects : List Obj) (marked : HasTableMarks objects) (table : HasTableProperties objects) where
  abbrev after : List Obj
  after = locked objects

  abbrev callable : ℕ → Bool
  callable place = (object_at objects place).marks.callable

  module _ (n place : ℕ) (lt : place < count) (here : is_for (permit_at n).holder place (callable place) ≡ true) where
    abbrev r : Permit
    r = permit_at n

    repaired_row : (get set : ℕ) (v : Value Ref MadeSymbol) (w e c : Bool) → r.override ≡ override.Accessor get set → own_at r (object_at objects place) ≡ Some (Data v w e c) → is_common_value v ≡ true
        → IsRepaired r place get set (tamed_value r.stands v) e after
    repaired_row get set v w e c turns stood common =
        is_repaired_so laws objects marked n place get set v w e c (holder_is r.holder place (callable place) (row_here permits n they_are_here (ap becomes_accessor turns)) here) turns stood
        (tamed_common r.stands v (row_named permits n they_are_named) common)

    abbrev Both : Property → Type 0
    Both d = HasRepairGetter after d × HasRepairSetter after d

    by_common : (P : Property → Type 0) (b : Bool) (d : Property) → P d → OfAny P (cond b (Some d) None)
    by_common P true d h = h
    by_common P false d h = tt

    value_turned : (v : Value Ref MadeSymbol) (w e c : Bool) (o : Override) → r.override ≡ o → own_at r (object_at objects place) ≡ Some (Data v w e c) → is_common_value v ≡ true
        → OfAny Both (common_only (fixed (repaired o (Data (tamed_value r.stands v) w e c))))
    value_turned v w e c override.Stays turns stood common = let d : Property = Data (tamed_value r.stands v) false e false in by_common Both (is_common_property d) d (tt, tt)
    value_turned v w e c (override.Accessor get set) turns stood common =
        let d : Property = Accessor (Some (common_ref get)) (Some (common_ref set)) e false in
        let x = repaired_row get set v w e c turns stood common in
        by_common Both (is_common_property d) d ((tamed_value r.stands v, x.getter), (common_ref place, _, x.setter))

    value_both : (v : Value Ref MadeSymbol) (w e c : Bool) → own_at r (object_at objects place) ≡ Some (Data v w e c) → is_common_value v ≡ true → OfAny Both (locked_at r (object_at objects place))
    value_both v w e c stood common =
        subst (OfAny Both) (sym (ap (λ d. if_common (option_map (locked_property r) d)) stood ∙ ap (λ d. common_only (fixed (repaired r.override d))) (tamed_is r.stands v w e c)))
        (value_turned v w e c r.override refl stood common)

    read_setter : (g : Option Ref) (e c : Bool) → own_at r (object_at objects place) ≡ Some (Accessor g None e c) → OfAny (HasRepairSetter after) (locked_at r (object_at objects place))
    read_setter g e c stood =
        let d : Property = Accessor g None e false in
        subst (OfAny (HasRepairSetter after))
        (sym (ap (λ d. if_common (option_map (locked_property r) d)) stood ∙ ap (λ d. common_only (fixed (repaired r.override d))) (tamed_accessor r.stands g None e c) ∙ ap (λ d. common_only (fixed d)) (repaired_accessor r.override g None e c)))
        (by_common (HasRepairSetter after) (is_common_property d) d tt)

    nothing : (P : Property → Type 0) → own_at r (object_at objects place) ≡ None → OfAny P (locked_at r (object_at objects place))
    nothing P stood = subst (OfAny P) (sym (ap (λ d. if_common (option_map (locked_property r) d)) stood)) tt

    setter_of : (both : Option Property) → OfAny Both both → OfAny (HasRepairSetter after) both
    setter_of None h = tt
    setter_of (Some d) h = h.1

    getter_of : (both : Option Property) → OfAny Both both → OfAny (HasRepairGetter after) both
    getter_of None h = tt
    getter_of (Some d) h = h.0

    setter_by : (d : Option Property) → own_at r (object_at objects place) ≡ d → OfAny IsSimple d → OfAny (HasRepairSetter after) (locked_at r (object_at objects place))
    setter_by None e h = nothing (HasRepairSetter after) e
    setter_by (Some (Data v w l c)) e h = setter_of (locked_at r (object_at objects place)) (value_both v w l c e h)
    setter_by (Some (Accessor g None l c)) e h = read_setter g l c e
    setter_by (Some (Accessor g (Some s) l c)) e h = absurd h

    getter_by : (d : Option Property) → own_at r (object_at objects place) ≡ d → OfAny IsSimple d → OfAny HoldsValue d → OfAny (HasRepairGetter after) (locked_at r (object_at objects place))
    getter_by None e h k = nothing (HasRepairGetter after) e
    getter_by (Some (Data v w l c)) e h k = getter_of (locked_at r (object_at objects place)) (value_both v w l c e h)
    getter_by (Some (Accessor g s l c)) e h k = absurd k

    simple_there : OfAny IsSimple (own_at r (object_at objects place))
    simple_there = found_so IsSimple _ (object_at objects place).properties (table.simple place lt)

    pub setter_so : OfAny (HasRepairSetter after) (locked_at r (object_at objects place))
    setter_so = setter_by (own_at r (object_at objects place)) refl simple_there

    pub getter_so : is_repaired place ≡ true → OfAny (HasRepairGetter after) (locked_at r (object_at objects place))
    getter_so is = getter_by (own_at r (object_at objects place)) refl simple_there (found_so HoldsValue _ (object_at objects place).properties (table.values place is))

  -- OF ALL PERMITS

  module _ (place : ℕ) (P : Property → Type 0) (row : (n : ℕ) → is_for (permit_at n).holder place (callable place) ≡ true → OfAny P (locked_at (permit_at n) (object_at objects place))) where
    abbrev at : Permit → Option Property
    at r = locked_at r (object_at objects place)

    for_each : (rs : List Permit) (n : ℕ) → ((k : ℕ) → get_or rs k no_permit ≡ permit_at (n + k)) → ForEach P at place (callable place) rs
    for_each [] n h = tt
    for_each (r ∷ rs) n h =
        let e : r ≡ permit_at n = h 0 ∙ ap permit_at (plus_zero n) in
        (λ f. subst (λ q. OfAny P (at q)) (sym e) (row n (subst (λ q. is_for q.holder place (callable place) ≡ true) e f)), for_each rs (suc n) (λ k. h (suc k) ∙ ap permit_at (plus_suc n k)))

    pub locked_each : place < count → Each P (object_at after place).properties
    locked_each lt =
        subst (λ (o : Obj). Each P o.properties) (sym (at_locked objects place lt))
        (permits_each P at place (callable place) permits (for_each permits 0 (λ k. ap permit_at (sym (zero_plus k)))) [] tt)

  -- past the last place there is nothing
  past : (P : Obj → Type 0) → P (fresh None plain_marks slot.Plain) → (place : ℕ) → ((place < count) → P (object_at after place)) → P (object_at after place)
  past P bare place within = by (ltb place count) refl
    where
      by : (b : Bool) → ltb place count ≡ b → P (object_at after place)
      by true e = within (ltb-true place count e)
      by false e =
          let far : count ≤ place = ltb-false place count e in
          subst P (sym (get_or_past after place (fresh None plain_marks slot.Plain) (omega (arith, far, so_many_locked objects)))) bare

  pub call_repairs : CallsRepairs after
  call_repairs = record {
    prototypes = λ place is.
        let lt : place < count = is_place place is in
        subst IsRepairedIfAny (sym (ap (λ (o : Obj). o.prototype) (at_locked objects place lt) ∙ ap common_prototype (table.prototypes place lt)))
        (inherited (place_at place).1 (row_inherits places 0 place they_inherit (ap is_repaired (zero_plus place) ∙ is)));
    getters = λ place is. let lt : place < count = is_place place is in locked_each place (HasRepairGetter after) (λ n f. getter_so n place lt f is) lt;
    setters = λ place. past (λ o. Each (HasRepairSetter after) o.properties) tt place (λ lt. locked_each place (HasRepairSetter after) (λ n f. setter_so n place lt f) lt);
    slots = λ place. past (λ o. is_locked_slot o.slot ≡ true) refl place
        (λ lt. subst (λ (o : Obj). is_locked_slot o.slot ≡ true) (sym (at_locked objects place lt)) (held_so (kept_by objects (role_at place)) (object_at objects place).slot));
    classes = λ place. past (λ o. is_plain_class o.marks.class ≡ true) refl place
        (λ lt. subst (λ (m : Marks). is_plain_class m.class ≡ true) (sym (ap (λ (o : Obj). o.marks) (at_locked objects place lt) ∙ marked place lt)) (plain_class (place_at place).0));
  }
