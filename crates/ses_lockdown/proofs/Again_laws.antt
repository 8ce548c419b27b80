-- A locked list is locked already: its intrinsics are its objects, and lockdown leaves them as they are.
use Rattle.std.proofs.Common.{◌≡◌, ℕ, zero, suc, ◌+◌, ◌<◌, ◌≤◌, Bool, true, false, cond, ltb, List, [], ◌∷◌, length, map, get_or, arith, Option, Some, None, inl, inr, refl, sym, ap, ◌∙◌, ltb-true, eq-eqb}
use Rattle.std.specs.List.{range_with_len}
use Rattle.std.specs.Option.{option_map}
use Rattle.std.proofs.lemmas.List.{get_or-map, length-map}
use Rattle.lava_base.specs.Ids.{same_made_symbol}
use Rattle.lava_base.specs.declared.ids.MadeSymbol.{MadeSymbol}
use Rattle.lava_base.specs.declared.ids.Ref.{Ref}
use Rattle.lava_base.specs.declared.marks.Marks.{Marks}
use Rattle.js_desc.specs.declared.descriptor.Descriptor.TheVariants.{Data, Accessor}
use Rattle.js_store.specs.Frozen.{CommonObject, as_read, common_at, common_ref}
use Rattle.js_store.specs.Objects.{fresh, object_at, ordinary_get_own_property, plain_marks}
use Rattle.js_store.specs.declared.slot.Held.{Held}
use Rattle.js_store.specs.declared.slot.Slot.{Slot}
use Rattle.js_store.specs.declared.slot.Slot.TheVariants as slot
use Rattle.ses_lockdown.specs.Apart.{is_function, all_apart}
use Rattle.ses_lockdown.specs.Entries.{HasTableMarks, StandsInOrder, entries}
use Rattle.ses_lockdown.specs.Intrinsics.{copied, copied_as, copied_object, marks_of}
use Rattle.ses_lockdown.specs.Lockdown.{Obj, Property, Properties, locked_property, tamed, repaired, fixed, common_only, if_common, own_at, locked_at, with_permits, property_of, kept_value, kept_of, kept_place, kept_by, common_slot, common_prototype, held_or, role_at, locked_as, locked_object, locked, holder_place}
use Rattle.ses_lockdown.specs.Permits.{Permit, permits, permit_at, no_permit, places, place_at, no_place, count, key_of, is_for, is_common_if_any, is_common_property, is_common_slot}
use Rattle.ses_lockdown.specs.declared.table.Holder.{Holder}
use Rattle.ses_lockdown.specs.declared.table.Holder.TheVariants.{EachFunction, At}
use Rattle.ses_lockdown.specs.declared.table.Kind.{Kind}
use Rattle.ses_lockdown.specs.declared.table.Kind.TheVariants as kind
use Rattle.ses_lockdown.specs.declared.table.Override.{Override}
use Rattle.ses_lockdown.specs.declared.table.Override.TheVariants as override
use Rattle.ses_lockdown.specs.declared.table.Role.{Role}
use Rattle.ses_lockdown.specs.declared.table.Role.TheVariants as role
use Rattle.ses_lockdown.specs.declared.table.Stands.{Stands}
use Rattle.ses_lockdown.specs.declared.table.Stands.TheVariants as stands
use Rattle.ses_lockdown.proofs.Counts.{so_many_locked}
use Rattle.ses_lockdown.proofs.Entries_laws.{IsIn, Writes, both_hold, in_order, found, alike}
use Rattle.ses_lockdown.proofs.Locked_laws.{at_locked}

-- ONE PROPERTY

tamed_accessor : (s : Stands) (get set : Option Ref) (e c : Bool) → tamed s (Accessor get set e c) ≡ Accessor get set e c
tamed_accessor stands.OwnName get set e c = refl
tamed_accessor stands.OwnLength get set e c = refl
tamed_accessor (stands.Object p) get set e c = refl
tamed_accessor (stands.Tamed p) get set e c = refl
tamed_accessor (stands.NameOf p) get set e c = refl
tamed_accessor stands.Empty get set e c = refl
tamed_accessor (stands.Integer n) get set e c = refl
tamed_accessor stands.IteratorSymbol get set e c = refl
tamed_accessor (stands.Read p) get set e c = refl

tamed_twice : (s : Stands) (d : Property) → tamed s (fixed (tamed s d)) ≡ fixed (tamed s d)
tamed_twice s (Accessor get set e c) = ap (λ d. tamed s (fixed d)) (tamed_accessor s get set e c) ∙ tamed_accessor s get set e false ∙ ap fixed (sym (tamed_accessor s get set e c))
tamed_twice stands.OwnName (Data v w e c) = refl
tamed_twice stands.OwnLength (Data v w e c) = refl
tamed_twice (stands.Object p) (Data v w e c) = refl
tamed_twice (stands.Tamed p) (Data v w e c) = refl
tamed_twice (stands.NameOf p) (Data v w e c) = refl
tamed_twice stands.Empty (Data v w e c) = refl
tamed_twice (stands.Integer n) (Data v w e c) = refl
tamed_twice stands.IteratorSymbol (Data v w e c) = refl
tamed_twice (stands.Read p) (Data v w e c) = refl

fixed_twice : (d : Property) → fixed (fixed d) ≡ fixed d
fixed_twice (Data v w e c) = refl
fixed_twice (Accessor get set e c) = refl

-- a locked property is locked already
locked_once : (s : Stands) (o : Override) (d : Property) → fixed (repaired o (tamed s (fixed (repaired o (tamed s d))))) ≡ fixed (repaired o (tamed s d))
locked_once s override.Stays d = ap fixed (tamed_twice s d) ∙ fixed_twice (tamed s d)
locked_once s (override.Accessor g t) d = by_cases (tamed s d)
  where
    by_cases : (x : Property) → fixed (repaired (override.Accessor g t) (tamed s (fixed (repaired (override.Accessor g t) x)))) ≡ fixed (repaired (override.Accessor g t) x)
    by_cases (Data v w e c) = ap (λ y. fixed (repaired (override.Accessor g t) y)) (tamed_accessor s (Some (common_ref g)) (Some (common_ref t)) e false)
    by_cases (Accessor get set e c) = ap (λ y. fixed (repaired (override.Accessor g t) y)) (tamed_accessor s get set e false)

abbrev lock : Permit → Option Property → Option Property
lock r d = if_common (option_map (locked_property r) d)

lock_twice : (r : Permit) (d : Option Property) → lock r (lock r d) ≡ lock r d
lock_twice r None = refl
lock_twice r (Some d) = by_test (is_common_property (locked_property r d)) refl
  where
    by_test : (b : Bool) → is_common_property (locked_property r d) ≡ b → lock r (cond b (Some (locked_property r d)) None) ≡ cond b (Some (locked_property r d)) None
    by_test false h = refl
    by_test true h = ap common_only (locked_once r.stands r.override d) ∙ ap (λ b. cond b (Some (locked_property r d)) None) h

-- THE SLOT AND THE PROTOTYPE

slot_twice : (s : Slot Ref MadeSymbol) → common_slot (common_slot s) ≡ common_slot s
slot_twice s = by_test (is_common_slot s) refl
  where
    by_test : (b : Bool) → is_common_slot s ≡ b → common_slot (cond b s slot.Plain) ≡ cond b s slot.Plain
    by_test true h = ap (λ b. cond b s slot.Plain) h
    by_test false h = refl

held_twice : (h : Option (Held Ref MadeSymbol)) (old : Slot Ref MadeSymbol) → common_slot (held_or h old) ≡ held_or h old
held_twice None old = slot_twice old
held_twice (Some h) old = slot_twice (slot.Held h)

prototype_twice : (r : Option Ref) → common_prototype (common_prototype r) ≡ common_prototype r
prototype_twice r = by_test (is_common_if_any r) refl
  where
    by_test : (b : Bool) → is_common_if_any r ≡ b → common_prototype (cond b r None) ≡ cond b r None
    by_test true h = ap (λ b. cond b r None) h
    by_test false h = refl

-- THE TABLE

apart : all_apart permits ≡ true
unfolding permits places
apart = refl

abbrev pub becomes_accessor : Override → Bool
becomes_accessor override.Stays = false
becomes_accessor (override.Accessor g t) = true

abbrev is_at_place : Holder → Bool
is_at_place EachFunction = false
is_at_place (At p) = ltb p count

abbrev repairs_at : Permit → Bool
repairs_at r = cond (becomes_accessor r.override) (is_at_place r.holder) false

abbrev repairs : Role → Bool
repairs role.Given = true
repairs (role.Getter n) = repairs_at (permit_at n)
repairs (role.Setter n) = repairs_at (permit_at n)

abbrev all_repair : List (Kind × Option ℕ × Role) → Bool
all_repair [] = true
all_repair (p ∷ ps) = cond (repairs p.2) (all_repair ps) false

-- each function that lockdown makes is of a permit whose property becomes an accessor
they_repair : all_repair places ≡ true
unfolding permits places count
they_repair = refl

row_repairs : (ps : List (Kind × Option ℕ × Role)) → all_repair ps ≡ true → (n : ℕ) → repairs (get_or ps n no_place).2 ≡ true
row_repairs [] h n = refl
row_repairs (p ∷ ps) h zero = (both_hold (repairs p.2) (all_repair ps) h).0
row_repairs (p ∷ ps) h (suc n) = row_repairs ps (both_hold (repairs p.2) (all_repair ps) h).1 n

pub in_table : (rs : List Permit) (n : ℕ) → becomes_accessor (get_or rs n no_permit).override ≡ true → IsIn (get_or rs n no_permit) rs
in_table [] n h = absurd cc
in_table (r ∷ rs) zero h = inl refl
in_table (r ∷ rs) (suc n) h = inr (in_table rs n h)

-- WHAT LOCKDOWN'S FUNCTIONS KEEP

-- nothing of a property that is an accessor already
none_of_locked : (s : Stands) (o : Override) (d : Property) → becomes_accessor o ≡ true → kept_of s (Some (fixed (repaired o (tamed s d)))) ≡ None
none_of_locked s override.Stays d h = absurd cc
none_of_locked s (override.Accessor g t) d h = by_cases (tamed s d)
  where
    by_cases : (x : Property) → kept_value (tamed s (fixed (repaired (override.Accessor g t) x))) ≡ None
    by_cases (Data v w e c) = ap kept_value (tamed_accessor s (Some (common_ref g)) (Some (common_ref t)) e false)
    by_cases (Accessor get set e c) = ap kept_value (tamed_accessor s get set e false)

none_at_locked : (r : Permit) (o : Override) (d : Property) → becomes_accessor o ≡ true → kept_place r (Some (fixed (repaired o d))) ≡ None
none_at_locked r override.Stays d h = absurd cc
none_at_locked r (override.Accessor g t) (Data v w e c) h = refl
none_at_locked r (override.Accessor g t) (Accessor get set e c) h = refl

no_getter : (r : Permit) (d : Option Property) → becomes_accessor r.override ≡ true → kept_of r.stands (lock r d) ≡ None
no_getter r None h = refl
no_getter r (Some d) h = by_test (is_common_property (locked_property r d))
  where
    by_test : (b : Bool) → kept_of r.stands (cond b (Some (locked_property r d)) None) ≡ None
    by_test true = none_of_locked r.stands r.override d h
    by_test false = refl

no_setter : (r : Permit) (d : Option Property) → becomes_accessor r.override ≡ true → kept_place r (lock r d) ≡ None
no_setter r None h = refl
no_setter r (Some d) h = by_test (is_common_property (locked_property r d))
  where
    by_test : (b : Bool) → kept_place r (cond b (Some (locked_property r d)) None) ≡ None
    by_test true = none_at_locked r r.override (tamed r.stands d) h
    by_test false = refl

-- ALL OBJECTS

same_range : (f g : ℕ → Obj) (a n : ℕ) → ((p : ℕ) → a ≤ p → p < a + n → f p ≡ g p) → map f (range_with_len a n) ≡ map g (range_with_len a n)
same_range f g a zero h = refl
same_range f g a (suc n) h = ap (λ o. o ∷ map f (range_with_len (a + 1) n)) (h a (omega arith) (omega arith)) ∙ ap (λ os. g a ∷ os) (same_range f g (a + 1) n (λ p le lt. h p (omega (arith, le)) (omega (arith, lt))))

callable_of : (k : Kind) → (marks_of k).callable ≡ is_function k
callable_of kind.Ordinary = refl
callable_of kind.Function = refl
callable_of kind.Constructor = refl

abbrev pub locked_with : Option Ref → Properties → Slot Ref MadeSymbol → Marks → Obj
locked_with p ps s m = record { prototype = p; extensible = false; properties = ps; slot = s; marks = m }

module _ (laws : Writes) (objects : List Obj) (marked : HasTableMarks objects) where
  abbrev before : ℕ → Obj
  before place = object_at objects place

  abbrev after : ℕ → Obj
  after place = locked_object objects place

  abbrev callable : ℕ → Bool
  callable place = (object_at objects place).marks.callable

  pub kind_at : (place : ℕ) → place < count → callable place ≡ is_function (place_at place).0
  kind_at place lt = ap (λ m. m.callable) (marked place lt) ∙ callable_of (place_at place).0

  all_entries : (place : ℕ) → place < count → (at : Permit → Option Property) → with_permits at place (callable place) permits [] ≡ entries at place (callable place) permits
  all_entries place lt at = in_order place (callable place) (kind_at place lt) laws at permits apart

  -- the properties of a locked object are those of the permits, in their order
  pub by_permits : (place : ℕ) → place < count → (locked_object objects place).properties ≡ entries (λ r. locked_at r (object_at objects place)) place (object_at objects place).marks.callable permits
  by_permits place lt = all_entries place lt (λ r. locked_at r (object_at objects place))

  -- what a locked object has at the key of a permit is what stood there, locked
  pub own_locked : (place : ℕ) → place < count → (r : Permit) → IsIn r permits → is_for r.holder place (callable place) ≡ true → own_at r (locked_object objects place) ≡ locked_at r (object_at objects place)
  own_locked place lt r i f = ap (λ ps. ordinary_get_own_property same_made_symbol (key_of r.sort r.word) ps) (by_permits place lt) ∙ found place (callable place) (kind_at place lt) (λ q. locked_at q (object_at objects place)) r permits apart i f

  -- the properties that permits make of a locked object, where they make the same of what stood there
  same_properties : (place : ℕ) → place < count → (at : Permit → Option Property) → ((r : Permit) → IsIn r permits → is_for r.holder place (callable place) ≡ true → at r ≡ locked_at r (object_at objects place)) → with_permits at place (callable place) permits [] ≡ (locked_object objects place).properties
  same_properties place lt at h = all_entries place lt at ∙ alike place (callable place) (kind_at place lt) at (λ r. locked_at r (object_at objects place)) permits h ∙ sym (by_permits place lt)

  locked_again : (place : ℕ) → place < count → (r : Permit) → IsIn r permits → is_for r.holder place (callable place) ≡ true → locked_at r (locked_object objects place) ≡ locked_at r (object_at objects place)
  locked_again place lt r i f = ap (lock r) (own_locked place lt r i f) ∙ lock_twice r (own_at r (object_at objects place))

  property_there : (r : Permit) (p : ℕ) → r.holder ≡ At p → p < count → IsIn r permits → property_of (locked objects) r ≡ lock r (own_at r (object_at objects p))
  property_there r p e lt i = ap (λ h. own_at r (object_at (locked objects) (holder_place h))) e ∙ ap (own_at r) (at_locked objects p lt) ∙ own_locked p lt r i (ap (λ h. is_for h p (callable p)) e ∙ eq-eqb p p refl)

  property_is : (r : Permit) (h : Holder) → r.holder ≡ h → is_at_place h ≡ true → IsIn r permits → (d : Option Property) × (property_of (locked objects) r ≡ lock r d)
  property_is r EachFunction e t i = absurd cc
  property_is r (At p) e t i = (own_at r (object_at objects p), property_there r p e (ltb-true p count t) i)

  none_got : (r : Permit) → becomes_accessor r.override ≡ true → (d : Option Property) × (property_of (locked objects) r ≡ lock r d) → kept_of r.stands (property_of (locked objects) r) ≡ None
  none_got r h x = ap (kept_of r.stands) x.1 ∙ no_getter r x.0 h

  none_set : (r : Permit) → becomes_accessor r.override ≡ true → (d : Option Property) × (property_of (locked objects) r ≡ lock r d) → kept_place r (property_of (locked objects) r) ≡ None
  none_set r h x = ap (kept_place r) x.1 ∙ no_setter r x.0 h

  -- lockdown's functions have nothing more to keep
  none_kept : (x : Role) → repairs x ≡ true → kept_by (locked objects) x ≡ None
  none_kept role.Given h = refl
  none_kept (role.Getter n) h = with_parts (both_hold (becomes_accessor (permit_at n).override) (is_at_place (permit_at n).holder) h)
    where
      with_parts : (becomes_accessor (permit_at n).override ≡ true) × (is_at_place (permit_at n).holder ≡ true) → kept_of (permit_at n).stands (property_of (locked objects) (permit_at n)) ≡ None
      with_parts x = none_got (permit_at n) x.0 (property_is (permit_at n) (permit_at n).holder refl x.1 (in_table permits n x.0))
  none_kept (role.Setter n) h = with_parts (both_hold (becomes_accessor (permit_at n).override) (is_at_place (permit_at n).holder) h)
    where
      with_parts : (becomes_accessor (permit_at n).override ≡ true) × (is_at_place (permit_at n).holder ≡ true) → kept_place (permit_at n) (property_of (locked objects) (permit_at n)) ≡ None
      with_parts x = none_set (permit_at n) x.0 (property_is (permit_at n) (permit_at n).holder refl x.1 (in_table permits n x.0))

  object_again : (place : ℕ) → place < count → locked_as (locked objects) place (locked_object objects place) ≡ locked_object objects place
  object_again place lt =
      ap (λ p. locked_with p (with_permits (λ r. locked_at r (after place)) place (callable place) permits []) (held_or (kept_by (locked objects) (role_at place)) (after place).slot) (before place).marks) (prototype_twice (before place).prototype)
      ∙ ap (λ ps. locked_with (after place).prototype ps (held_or (kept_by (locked objects) (role_at place)) (after place).slot) (before place).marks) (same_properties place lt (λ r. locked_at r (after place)) (locked_again place lt))
      ∙ ap (λ h. locked_with (after place).prototype (after place).properties (held_or h (after place).slot) (before place).marks) (none_kept (role_at place) (row_repairs places they_repair place))
      ∙ ap (λ s. locked_with (after place).prototype (after place).properties s (before place).marks) (held_twice (kept_by objects (role_at place)) (before place).slot)

  same_locked : (place : ℕ) → place < count → locked_object (locked objects) place ≡ locked_object objects place
  same_locked place lt = ap (locked_as (locked objects) place) (at_locked objects place lt) ∙ object_again place lt

  copied_again : (place : ℕ) → place < count → copied_as place (locked_object objects place) ≡ locked_object objects place
  copied_again place lt =
      ap (λ ps. locked_with (after place).prototype ps (common_slot (after place).slot) (before place).marks) (same_properties place lt (λ r. own_at r (after place)) (own_locked place lt))
      ∙ ap (λ s. locked_with (after place).prototype (after place).properties s (before place).marks) (held_twice (kept_by objects (role_at place)) (before place).slot)

  read_there : (common : List CommonObject) → map (as_read common_ref) common ≡ locked objects → (place : ℕ) → place < count → common_at common place ≡ locked_object objects place
  read_there common e place lt =
      let long : length common ≡ count = sym (length-map common (as_read common_ref)) ∙ ap length e ∙ so_many_locked objects in
      sym (get_or-map (as_read common_ref) common place (fresh None plain_marks slot.Plain) (fresh None plain_marks slot.Plain) (omega (arith, long, lt))) ∙ ap (λ os. object_at os place) e ∙ at_locked objects place lt

  same_read : (common : List CommonObject) → map (as_read common_ref) common ≡ locked objects → (place : ℕ) → place < count → copied_object common place ≡ locked_object objects place
  same_read common e place lt = ap (copied_as place) (read_there common e place lt) ∙ copied_again place lt

-- a list of as many objects, from two functions
from_places : (f g : ℕ → Obj) → ((p : ℕ) → p < count → f p ≡ g p) → map f (range_with_len 0 count) ≡ map g (range_with_len 0 count)
from_places f g h = same_range f g 0 count (λ p le lt. h p (omega (arith, lt)))

-- two lists whose objects lockdown makes the same of
pub locked_alike : (xs ys : List Obj) → ((p : ℕ) → p < count → locked_object xs p ≡ locked_object ys p) → locked xs ≡ locked ys
unfolding locked
locked_alike xs ys h = from_places (locked_object xs) (locked_object ys) h

copied_alike : (common : List CommonObject) (ys : List Obj) → ((p : ℕ) → p < count → copied_object common p ≡ locked_object ys p) → copied common ≡ locked ys
unfolding copied locked
copied_alike common ys h = from_places (copied_object common) (locked_object ys) h

-- lockdown leaves a locked list as it is
pub again : Writes → (objects : List Obj) → HasTableMarks objects → locked (locked objects) ≡ locked objects
again laws objects marked = locked_alike (locked objects) objects (same_locked laws objects marked)

-- the intrinsics of a locked list are its objects
pub same_copied : Writes → (objects : List Obj) → HasTableMarks objects → (common : List CommonObject) → map (as_read common_ref) common ≡ locked objects → copied common ≡ locked objects
same_copied laws objects marked common e = copied_alike common objects (same_read laws objects marked common e)

-- the properties of a locked object stand in the order of the permits
pub all_in_order : Writes → (objects : List Obj) → HasTableMarks objects → StandsInOrder objects (locked objects)
all_in_order laws objects marked place lt = ap (λ o. o.properties) (at_locked objects place lt) ∙ by_permits laws objects marked place lt
