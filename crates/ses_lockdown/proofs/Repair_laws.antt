-- What lockdown makes of the properties that it changes.
use Rattle.std.proofs.Common.{◌≡◌, ℕ, zero, suc, ◌+◌, ◌<◌, Bool, true, false, cond, ltb, not, nat_eq, List, [], ◌∷◌, ◌++◌, get_or, slice_get, arith, Option, Some, None, refl, sym, ap, ◌∙◌, subst, ltb-true, eq-eqb, ◌&&◌, ltb-false, codes, Equal, Less, ◌≤◌}
use Rattle.std.specs.Cmp.{unsigned_Decides}
use Rattle.std.specs.List.{AllByRecursion}
use Rattle.std.specs.Option.{option_map}
use Rattle.lava_base.specs.Ids.{same_made_symbol}
use Rattle.lava_base.specs.declared.ids.MadeSymbol.{MadeSymbol}
use Rattle.lava_base.specs.declared.ids.Ref.{Ref}
use Rattle.js_text.specs.CommonPaths.{common_paths, IsPathOf}
use Rattle.js_text.specs.Search.{order_of_units}
use Rattle.js_text.specs.declared.value.Key.TheVariants as key
use Rattle.js_text.specs.declared.value.Value.{Value}
use Rattle.js_text.specs.declared.value.Value.TheVariants as value
use Rattle.js_desc.specs.declared.descriptor.Descriptor.TheVariants.{Data, Accessor}
use Rattle.js_store.specs.Frozen.{common_ref}
use Rattle.js_store.specs.Objects.{object_at, ordinary_get_own_property}
use Rattle.js_store.specs.declared.slot.Held.TheVariants as held
use Rattle.js_store.specs.declared.slot.Slot.TheVariants as slot
use Rattle.ses_lockdown.specs.Apart.{is_function}
use Rattle.ses_lockdown.specs.Entries.{HasTableMarks, entry, entries}
use Rattle.ses_lockdown.specs.Lockdown.{Obj, Property, Properties, locked_property, tamed, repaired, fixed, if_common, own_at, locked_at, property_of, kept_value, kept_of, kept_place, kept_by, common_slot, held_or, role_at, locked, holder_place}
use Rattle.ses_lockdown.specs.Permits.{Permit, Place, permits, permit_at, no_permit, places, no_place, count, key_of, is_for, is_common_value, is_common_property, is_shared_key}
use Rattle.ses_lockdown.specs.Repairs.{is_among, is_repaired, repaired_paths, IsAccessor, tamed_value, IsRepaired, Repairs}
use Rattle.ses_lockdown.specs.declared.table.Holder.{Holder}
use Rattle.ses_lockdown.specs.declared.table.Holder.TheVariants.{EachFunction, At}
use Rattle.ses_lockdown.specs.declared.table.KeySort.{KeySort}
use Rattle.ses_lockdown.specs.declared.table.KeySort.TheVariants.{Named, Iterator}
use Rattle.ses_lockdown.specs.declared.table.Override.{Override}
use Rattle.ses_lockdown.specs.declared.table.Override.TheVariants as override
use Rattle.ses_lockdown.specs.declared.table.Role.{Role}
use Rattle.ses_lockdown.specs.declared.table.Role.TheVariants as role
use Rattle.ses_lockdown.specs.declared.table.Stands.{Stands}
use Rattle.ses_lockdown.specs.declared.table.Stands.TheVariants as stands
use Rattle.ses_lockdown.proofs.Again_laws.{becomes_accessor, in_table, kind_at, by_permits, own_locked}
use Rattle.ses_lockdown.proofs.Counts.{path_within}
use Rattle.ses_lockdown.proofs.Entries_laws.{Writes, both_hold}
use Rattle.ses_lockdown.proofs.Locked_laws.{at_locked}

-- THE TABLE

not_true : (b : Bool) → not b ≡ true → b ≡ false
not_true true h = absurd cc
not_true false h = refl

abbrev is_getter : ℕ → Role → Bool
is_getter n role.Given = false
is_getter n (role.Getter m) = nat_eq m n
is_getter n (role.Setter m) = false

abbrev is_setter : ℕ → Role → Bool
is_setter n role.Given = false
is_setter n (role.Getter m) = false
is_setter n (role.Setter m) = nat_eq m n

-- the functions of the permit of a number are those that lockdown makes for it
abbrev points : ℕ → Override → Bool
points n override.Stays = true
points n (override.Accessor get set) = cond (cond (is_getter n (role_at get)) (is_setter n (role_at set)) false) (cond (ltb get count) (ltb set count) false) false

abbrev all_point : ℕ → List Permit → Bool
all_point n [] = true
all_point n (r ∷ rs) = cond (points n r.override) (all_point (suc n) rs) false

they_point : all_point 0 permits ≡ true
unfolding permits places count
they_point = refl

plus_zero : (n : ℕ) → n + 0 ≡ n
plus_zero n = omega arith

plus_suc : (n k : ℕ) → n + suc k ≡ suc n + k
plus_suc n k = omega arith

pub zero_plus : (n : ℕ) → 0 + n ≡ n
zero_plus n = omega arith

row_points : (rs : List Permit) (n k : ℕ) → all_point n rs ≡ true → points (n + k) (get_or rs k no_permit).override ≡ true
row_points [] n k h = refl
row_points (r ∷ rs) n zero h = ap (λ m. points m r.override) (plus_zero n) ∙ (both_hold (points n r.override) (all_point (suc n) rs) h).0
row_points (r ∷ rs) n (suc k) h = ap (λ m. points m (get_or rs k no_permit).override) (plus_suc n k) ∙ row_points rs (suc n) k (both_hold (points n r.override) (all_point (suc n) rs) h).1

abbrev pub is_here : Holder → Bool
is_here EachFunction = false
is_here (At p) = ltb p count

-- an object of a permit whose property becomes an accessor is a common one
abbrev pub all_here : List Permit → Bool
all_here [] = true
all_here (r ∷ rs) = cond (cond (becomes_accessor r.override) (is_here r.holder) true) (all_here rs) false

pub they_are_here : all_here permits ≡ true
unfolding permits count
they_are_here = refl

pub row_here : (rs : List Permit) (k : ℕ) → all_here rs ≡ true → becomes_accessor (get_or rs k no_permit).override ≡ true → is_here (get_or rs k no_permit).holder ≡ true
row_here [] k h a = absurd cc
row_here (r ∷ rs) zero h a = ap (λ b. cond b (is_here r.holder) true) (sym a) ∙ (both_hold (cond (becomes_accessor r.override) (is_here r.holder) true) (all_here rs) h).0
row_here (r ∷ rs) (suc k) h a = row_here rs k (both_hold (cond (becomes_accessor r.override) (is_here r.holder) true) (all_here rs) h).1 a

-- of one of the seven prototypes each property becomes an accessor
abbrev here_repairs : Holder → Bool → Bool
here_repairs EachFunction a = true
here_repairs (At p) a = cond (is_repaired p) a true

abbrev all_repaired : List Permit → Bool
all_repaired [] = true
all_repaired (r ∷ rs) = cond (here_repairs r.holder (becomes_accessor r.override)) (all_repaired rs) false

they_are_repaired : all_repaired permits ≡ true
unfolding permits is_repaired common_paths
they_are_repaired = refl

-- and none of them is a function
abbrev pub all_ordinary : ℕ → List Place → Bool
all_ordinary n [] = true
all_ordinary n (p ∷ ps) = cond (cond (is_repaired n) (not (is_function p.0)) true) (all_ordinary (suc n) ps) false

pub they_are_ordinary : all_ordinary 0 places ≡ true
unfolding places is_repaired common_paths
they_are_ordinary = refl

pub row_ordinary : (ps : List Place) (n k : ℕ) → all_ordinary n ps ≡ true → is_repaired (n + k) ≡ true → is_function (get_or ps k no_place).0 ≡ false
row_ordinary [] n k h a = refl
row_ordinary (p ∷ ps) n zero h a = not_true (is_function p.0) (ap (λ b. cond b (not (is_function p.0)) true) (sym (ap is_repaired (sym (plus_zero n)) ∙ a)) ∙ (both_hold (cond (is_repaired n) (not (is_function p.0)) true) (all_ordinary (suc n) ps) h).0)
row_ordinary (p ∷ ps) n (suc k) h a = row_ordinary ps (suc n) k (both_hold (cond (is_repaired n) (not (is_function p.0)) true) (all_ordinary (suc n) ps) h).1 (ap is_repaired (sym (plus_suc n k)) ∙ a)

-- ONE PROPERTY

pub tamed_is : (s : Stands) (v : Value Ref MadeSymbol) (w e c : Bool) → tamed s (Data v w e c) ≡ Data (tamed_value s v) w e c
tamed_is stands.OwnName v w e c = refl
tamed_is stands.OwnLength v w e c = refl
tamed_is (stands.Object p) v w e c = refl
tamed_is (stands.Tamed p) v w e c = refl
tamed_is (stands.NameOf p) v w e c = refl
tamed_is stands.Empty v w e c = refl
tamed_is (stands.Integer n) v w e c = refl
tamed_is stands.IteratorSymbol v w e c = refl
tamed_is (stands.Read p) v w e c = refl

fixed_accessor : (o : Override) (d : Property) → becomes_accessor o ≡ true → IsAccessor (fixed (repaired o d))
fixed_accessor override.Stays d h = absurd cc
fixed_accessor (override.Accessor g t) (Data v w e c) h = tt
fixed_accessor (override.Accessor g t) (Accessor get set e c) h = tt

abbrev AreAccessors : Properties → Type 0
AreAccessors ps = AllByRecursion (λ p. IsAccessor p.1) ps

put : (r : Permit) (d : Option Property) (ps : Properties) → becomes_accessor r.override ≡ true → AreAccessors ps → AreAccessors (entry r (if_common (option_map (locked_property r) d)) ++ ps)
put r None ps h each = each
put r (Some d) ps h each = by_test (is_common_property (locked_property r d))
  where
    by_test : (b : Bool) → AreAccessors (entry r (cond b (Some (locked_property r d)) None) ++ ps)
    by_test true = (fixed_accessor r.override (tamed r.stands d) h, each)
    by_test false = each

for_here : (place : ℕ) (h : Holder) (a : Bool) → is_repaired place ≡ true → here_repairs h a ≡ true → is_for h place false ≡ true → a ≡ true
for_here place EachFunction a is t f = absurd cc
for_here place (At p) a is t f = ap (λ b. cond b a true) (sym (ap is_repaired ((unsigned_Decides p place).0 f) ∙ is)) ∙ t

all_accessors : (o : Obj) (place : ℕ) → is_repaired place ≡ true → (rs : List Permit) → all_repaired rs ≡ true → AreAccessors (entries (λ r. locked_at r o) place false rs)
all_accessors o place is [] h = tt
all_accessors o place is (r ∷ rs) h = by_test (is_for r.holder place false) (for_here place r.holder (becomes_accessor r.override) is (both_hold (here_repairs r.holder (becomes_accessor r.override)) (all_repaired rs) h).0) (all_accessors o place is rs (both_hold (here_repairs r.holder (becomes_accessor r.override)) (all_repaired rs) h).1)
  where
    by_test : (b : Bool) → (b ≡ true → becomes_accessor r.override ≡ true) → AreAccessors (entries (λ q. locked_at q o) place false rs) → AreAccessors (cond b (entry r (locked_at r o)) [] ++ entries (λ q. locked_at q o) place false rs)
    by_test true a rest = put r (own_at r o) (entries (λ q. locked_at q o) place false rs) (a refl) rest
    by_test false a rest = rest

-- a prototype that is repaired is a common object
pub is_place : (place : ℕ) → is_repaired place ≡ true → place < count
unfolding is_repaired
is_place place h = by_cases (slice_get common_paths place) refl h
  where
    by_cases : (o : Option (List ℕ)) → slice_get common_paths place ≡ o → is_among o repaired_paths ≡ true → place < count
    by_cases None e h = absurd cc
    by_cases (Some path) e h = path_within path place e

getter_is : (n : ℕ) (x : Role) → is_getter n x ≡ true → x ≡ role.Getter n
getter_is n role.Given h = absurd cc
getter_is n (role.Getter m) h = ap role.Getter ((unsigned_Decides m n).0 h)
getter_is n (role.Setter m) h = absurd cc

setter_is : (n : ℕ) (x : Role) → is_setter n x ≡ true → x ≡ role.Setter n
setter_is n role.Given h = absurd cc
setter_is n (role.Getter m) h = absurd cc
setter_is n (role.Setter m) h = ap role.Setter ((unsigned_Decides m n).0 h)

shared : (s : KeySort) (w : List ℕ) → is_shared_key (key_of s w) ≡ true
shared Named w = refl
shared Iterator w = refl

-- a setter names a common object and no made symbol
kept_setter : (place : ℕ) (s : KeySort) (w : List ℕ) → ltb place count ≡ true → common_slot (slot.Held (held.RepairSetter (common_ref place) (key_of s w))) ≡ slot.Held (held.RepairSetter (common_ref place) (key_of s w))
kept_setter place s w h =
    ap (λ b. cond (b && is_shared_key (key_of s w)) (slot.Held (held.RepairSetter (common_ref place) (key_of s w))) slot.Plain) h
    ∙ ap (λ b. cond b (slot.Held (held.RepairSetter (common_ref place) (key_of s w))) slot.Plain) (shared s w)

-- what the table says of the row of a permit whose property becomes an accessor
record IsRow (n get set : ℕ) : Type 0 where
  pub getter : role_at get ≡ role.Getter n
  pub setter : role_at set ≡ role.Setter n
  pub get_common : ltb get count ≡ true
  pub set_common : ltb set count ≡ true

row_is : (n get set : ℕ) → (permit_at n).override ≡ override.Accessor get set → IsRow n get set
row_is n get set e = with_tests (both_hold (cond (is_getter n (role_at get)) (is_setter n (role_at set)) false) (cond (ltb get count) (ltb set count) false) (ap (points n) (sym e) ∙ ap (λ m. points m (permit_at n).override) (sym (zero_plus n)) ∙ row_points permits 0 n they_point))
  where
    with_tests : (cond (is_getter n (role_at get)) (is_setter n (role_at set)) false ≡ true) × (cond (ltb get count) (ltb set count) false ≡ true) → IsRow n get set
    with_tests x =
        let roles : (is_getter n (role_at get) ≡ true) × (is_setter n (role_at set) ≡ true) = both_hold (is_getter n (role_at get)) (is_setter n (role_at set)) x.0 in
        let counts : (ltb get count ≡ true) × (ltb set count ≡ true) = both_hold (ltb get count) (ltb set count) x.1 in
        record { getter = getter_is n (role_at get) roles.0; setter = setter_is n (role_at set) roles.1; get_common = counts.0; set_common = counts.1 }

module _ (laws : Writes) (objects : List Obj) (marked : HasTableMarks objects) where
  prototypes : (place : ℕ) → is_repaired place ≡ true → AllByRecursion (λ p. IsAccessor p.1) (object_at (locked objects) place).properties
  prototypes place h =
      let lt : place < count = is_place place h in
      let ordinary : (object_at objects place).marks.callable ≡ false = kind_at laws objects marked place lt ∙ row_ordinary places 0 place they_are_ordinary (ap is_repaired (zero_plus place) ∙ h) in
      subst (λ ps. AllByRecursion (λ p. IsAccessor p.1) ps)
      (ap (λ c. entries (λ r. locked_at r (object_at objects place)) place c permits) (sym ordinary) ∙ sym (by_permits laws objects marked place lt) ∙ ap (λ o. o.properties) (sym (at_locked objects place lt)))
      (all_accessors (object_at objects place) place h permits they_are_repaired)

  module _ (n place get set : ℕ) (v : Value Ref MadeSymbol) (w e c : Bool)
      (holder : (permit_at n).holder ≡ At place) (turns : (permit_at n).override ≡ override.Accessor get set)
      (stood : own_at (permit_at n) (object_at objects place) ≡ Some (Data v w e c)) (common : is_common_value (tamed_value (permit_at n).stands v) ≡ true) where
    accessor_row : becomes_accessor (permit_at n).override ≡ true
    accessor_row = ap becomes_accessor turns

    here : ltb place count ≡ true
    here = ap is_here (sym holder) ∙ row_here permits n they_are_here accessor_row

    rows : IsRow n get set
    rows = row_is n get set turns

    is_accessor : own_at (permit_at n) (object_at (locked objects) place) ≡ Some (Accessor (Some (common_ref get)) (Some (common_ref set)) e false)
    is_accessor =
        ap (own_at (permit_at n)) (at_locked objects place (ltb-true place count here))
        ∙ own_locked laws objects marked place (ltb-true place count here) (permit_at n) (in_table permits n accessor_row) (ap (λ h. is_for h place (object_at objects place).marks.callable) holder ∙ eq-eqb place place refl)
        ∙ ap (λ d. if_common (option_map (locked_property (permit_at n)) d)) stood
        ∙ ap (λ d. if_common (Some (fixed (repaired (permit_at n).override d)))) (tamed_is (permit_at n).stands v w e c)
        ∙ ap (λ o. if_common (Some (fixed (repaired o (Data (tamed_value (permit_at n).stands v) w e c))))) turns
        ∙ ap (λ b. cond (b && ltb set count) (Some (Accessor (Some (common_ref get)) (Some (common_ref set)) e false)) None) rows.get_common
        ∙ ap (λ b. cond b (Some (Accessor (Some (common_ref get)) (Some (common_ref set)) e false)) None) rows.set_common

    there : property_of objects (permit_at n) ≡ Some (Data v w e c)
    there = ap (λ h. own_at (permit_at n) (object_at objects (holder_place h))) holder ∙ stood

    getter_slot : (object_at (locked objects) get).slot ≡ slot.Held (held.RepairGetter (tamed_value (permit_at n).stands v))
    getter_slot =
        ap (λ o. o.slot) (at_locked objects get (ltb-true get count rows.get_common))
        ∙ ap (λ x. held_or (kept_by objects x) (object_at objects get).slot) rows.getter
        ∙ ap (λ d. held_or (kept_of (permit_at n).stands d) (object_at objects get).slot) there
        ∙ ap (λ d. held_or (kept_value d) (object_at objects get).slot) (tamed_is (permit_at n).stands v w e c)
        ∙ ap (λ b. cond b (slot.Held (held.RepairGetter (tamed_value (permit_at n).stands v))) slot.Plain) common

    setter_slot : (object_at (locked objects) set).slot ≡ slot.Held (held.RepairSetter (common_ref place) (key_of (permit_at n).sort (permit_at n).word))
    setter_slot =
        ap (λ o. o.slot) (at_locked objects set (ltb-true set count rows.set_common))
        ∙ ap (λ x. held_or (kept_by objects x) (object_at objects set).slot) rows.setter
        ∙ ap (λ d. held_or (kept_place (permit_at n) d) (object_at objects set).slot) there
        ∙ ap (λ h. common_slot (slot.Held (held.RepairSetter (common_ref (holder_place h)) (key_of (permit_at n).sort (permit_at n).word)))) holder
        ∙ kept_setter place (permit_at n).sort (permit_at n).word here

    pub is_repaired_so : IsRepaired (permit_at n) place get set (tamed_value (permit_at n).stands v) e (locked objects)
    is_repaired_so = record { accessor = is_accessor; getter = getter_slot; setter = setter_slot }

-- THE CONSTRUCTOR OF FUNCTIONS

-- the paths stand in byte order
abbrev pub Rise : Type 0
Rise = (i j : ℕ) (a b : List ℕ) → i < j → IsPathOf a i → IsPathOf b j → order_of_units a b ≡ Less

not_both : Equal ≡ Less → ⊥
not_both h = absurd cc

-- so that none stands at two places
same_place : Rise → (path : List ℕ) → order_of_units path path ≡ Equal → (i j : ℕ) → IsPathOf path i → IsPathOf path j → i ≡ j
same_place rise path e i j a b = by_tests (ltb i j) (ltb j i) refl refl
  where
    by_tests : (x y : Bool) → ltb i j ≡ x → ltb j i ≡ y → i ≡ j
    by_tests true y p q = absurd (not_both (sym e ∙ rise i j path path (ltb-true i j p) a b))
    by_tests false true p q = absurd (not_both (sym e ∙ rise j i path path (ltb-true j i q) b a))
    by_tests false false p q =
        let le : j ≤ i = ltb-false i j p in
        let ge : i ≤ j = ltb-false j i q in
        omega (arith, le, ge)

-- what the table says of it
record IsFunctionRow (n function prototype getter setter : ℕ) : Type 0 where
  pub is_function : IsPathOf (codes "Function") function
  pub is_prototype : IsPathOf (codes "Function.prototype") prototype
  pub is_got : IsPathOf (codes "get Function.prototype.constructor") getter
  pub holder : (permit_at n).holder ≡ At prototype
  pub turns : (permit_at n).override ≡ override.Accessor getter setter
  pub tames : (permit_at n).stands ≡ stands.Tamed function
  pub named : key_of (permit_at n).sort (permit_at n).word ≡ key.Text (codes "constructor")
  pub common : ltb function count ≡ true

function_row : IsFunctionRow 45 38 39 181 207
unfolding common_paths permits count
function_row = record { is_function = refl; is_prototype = refl; is_got = refl; holder = refl; turns = refl; tames = refl; named = refl; common = refl }

tamed_constructor : Writes → (objects : List Obj) → HasTableMarks objects → (n function prototype getter setter : ℕ) → IsFunctionRow n function prototype getter setter → (v : Value Ref MadeSymbol) (w e c : Bool) → ordinary_get_own_property same_made_symbol (key.Text (codes "constructor")) (object_at objects prototype).properties ≡ Some (Data v w e c) → (object_at (locked objects) getter).slot ≡ slot.Held (held.RepairGetter (value.Ref (common_ref function)))
tamed_constructor laws objects marked n function prototype getter setter row v w e c stood =
    getter_slot laws objects marked n prototype getter setter v w e c row.holder row.turns
    (ap (λ k. ordinary_get_own_property same_made_symbol k (object_at objects prototype).properties) row.named ∙ stood)
    (ap (λ s. is_common_value (tamed_value s v)) row.tames ∙ row.common)
    ∙ ap (λ s. slot.Held (held.RepairGetter (tamed_value s v))) row.tames

abbrev Tames : List Obj → (function prototype getter : ℕ) → Type 0
Tames objects function prototype getter = (v : Value Ref MadeSymbol) (w e c : Bool) → ordinary_get_own_property same_made_symbol (key.Text (codes "constructor")) (object_at objects prototype).properties ≡ Some (Data v w e c) → (object_at (locked objects) getter).slot ≡ slot.Held (held.RepairGetter (value.Ref (common_ref function)))

constructor_tamed : Writes → Rise → (objects : List Obj) → HasTableMarks objects → (function prototype getter : ℕ) → IsPathOf (codes "Function") function → IsPathOf (codes "Function.prototype") prototype → IsPathOf (codes "get Function.prototype.constructor") getter → Tames objects function prototype getter
constructor_tamed laws rise objects marked function prototype getter a b g =
    subst (λ f. Tames objects f prototype getter) (same_place rise (codes "Function") refl 38 function function_row.is_function a)
    (subst (λ p. Tames objects 38 p getter) (same_place rise (codes "Function.prototype") refl 39 prototype function_row.is_prototype b)
    (subst (λ q. Tames objects 38 39 q) (same_place rise (codes "get Function.prototype.constructor") refl 181 getter function_row.is_got g)
    (tamed_constructor laws objects marked 45 38 39 181 207 function_row)))

pub they_repair : Writes → Rise → (objects : List Obj) → HasTableMarks objects → Repairs objects (locked objects)
they_repair laws rise objects marked = record {
  prototypes = prototypes laws objects marked;
  properties = is_repaired_so laws objects marked;
  constructor_of_functions = λ function prototype getter v w e c a b g. constructor_tamed laws rise objects marked function prototype getter a b g v w e c;
}
