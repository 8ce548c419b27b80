-- The properties and prototypes of the common objects before lockdown, and after a function comes.
use Rattle.std.proofs.Common.{◌≡◌, ℕ, zero, suc, ◌<◌, Bool, true, false, cond, ltb, List, [], ◌∷◌, arith, Option, Some, None, refl, sym, ap, ◌∙◌, subst}
use Rattle.std.proofs.lemmas.List.FromFn.{get_or-map-range_with_len}
use Rattle.std.specs.Cmp.{unsigned_Decides}
use Rattle.std.specs.List.{AllByRecursion}
use Rattle.std.specs.Option.{option_map}
use Rattle.std.specs.Prelude.{⊤}
use Rattle.lava_base.specs.Ids.{same_made_symbol}
use Rattle.lava_base.specs.declared.ids.MadeSymbol.{MadeSymbol}
use Rattle.js_text.specs.CommonPaths.{common_paths}
use Rattle.js_text.specs.Length.{length_key}
use Rattle.js_text.specs.Values.{same_key}
use Rattle.js_text.specs.declared.value.Key.{Key}
use Rattle.js_store.specs.Frozen.{common_ref}
use Rattle.js_store.specs.Objects.{at_place, fresh, goes_before, object_at, plain_marks, replaced, written}
use Rattle.js_store.specs.declared.slot.Slot.TheVariants as slot
use Rattle.ses_lockdown.specs.Accessors.{HasTableProperties, HoldsValue, IsSimple, PropertiesStay}
use Rattle.ses_lockdown.specs.Apart.{is_function}
use Rattle.ses_lockdown.specs.Intrinsics.{initial_at, initial_object, initial_objects, initial_property, marks_of, with_body}
use Rattle.ses_lockdown.specs.Lockdown.{Obj, Property, Properties, defined, with_permits}
use Rattle.ses_lockdown.specs.Permits.{Permit, count, is_for, key_of, permits, place_at, places}
use Rattle.ses_lockdown.specs.Repairs.{is_repaired}
use Rattle.ses_lockdown.specs.declared.table.Holder.{Holder}
use Rattle.ses_lockdown.specs.declared.table.Holder.TheVariants.{EachFunction, At}
use Rattle.ses_lockdown.specs.declared.table.Kind.{Kind}
use Rattle.ses_lockdown.specs.declared.table.Kind.TheVariants as kind
use Rattle.ses_lockdown.specs.declared.table.Stands.{Stands}
use Rattle.ses_lockdown.specs.declared.table.Stands.TheVariants as stands
use Rattle.ses_lockdown.proofs.Entries_laws.{both_hold}
use Rattle.ses_lockdown.proofs.Repair_laws.{is_place, row_ordinary, they_are_ordinary, zero_plus}

-- WHAT HOLDS OF EACH PROPERTY

module _ (P : Property → Type 0) where
  abbrev pub Each : Properties → Type 0
  Each ps = AllByRecursion (λ p. P p.1) ps

  abbrev pub OfAny : Option Property → Type 0
  OfAny None = ⊤
  OfAny (Some d) = P d

  pub written_each : (k : Key MadeSymbol) (d : Property) (ps : Properties) → P d → Each ps → Each (written same_made_symbol k d ps)
  written_each k d [] h each = (h, tt)
  written_each k d (p ∷ ps) h each = by (same_key same_made_symbol k p.0) (goes_before k p.0) (written_each k d ps h each.1)
    where
      by : (a b : Bool) → Each (written same_made_symbol k d ps) → Each (cond a ((p.0, d) ∷ ps) (cond b ((k, d) ∷ p ∷ ps) (p ∷ written same_made_symbol k d ps)))
      by true b rest = (h, each.1)
      by false true rest = (h, each)
      by false false rest = (each.0, rest)

  pub replaced_each : (k : Key MadeSymbol) (d : Property) (ps : Properties) → P d → Each ps → Each (replaced same_made_symbol k d ps)
  replaced_each k d [] h each = tt
  replaced_each k d (p ∷ ps) h each = by (same_key same_made_symbol k p.0) (replaced_each k d ps h each.1)
    where
      by : (a : Bool) → Each (replaced same_made_symbol k d ps) → Each (cond a ((p.0, d) ∷ ps) (p ∷ replaced same_made_symbol k d ps))
      by true rest = (h, each.1)
      by false rest = (each.0, rest)

  defined_each : (r : Permit) (d : Option Property) (ps : Properties) → OfAny d → Each ps → Each (defined r d ps)
  defined_each r None ps h each = each
  defined_each r (Some d) ps h each = written_each (key_of r.sort r.word) d ps h each

  module _ (at : Permit → Option Property) (place : ℕ) (callable : Bool) where
    -- it holds of what each of these permits gives the object
    abbrev pub ForEach : List Permit → Type 0
    ForEach [] = ⊤
    ForEach (r ∷ rs) = (is_for r.holder place callable ≡ true → OfAny (at r)) × ForEach rs

    pub permits_each : (rs : List Permit) → ForEach rs → (ps : Properties) → Each ps → Each (with_permits at place callable rs ps)
    permits_each [] h ps each = each
    permits_each (r ∷ rs) h ps each = by (is_for r.holder place callable) h.0 (permits_each rs h.1)
      where
        by : (b : Bool) → (b ≡ true → OfAny (at r)) → ((qs : Properties) → Each qs → Each (with_permits at place callable rs qs)) → Each (with_permits at place callable rs (cond b (defined r (at r) ps) ps))
        by true g next = next (defined r (at r) ps) (defined_each r (at r) ps (g refl) each)
        by false g next = next ps each

-- THE TABLE

-- what stands at a permit is a common object
abbrev pub is_named : Stands → Bool
is_named stands.OwnName = true
is_named stands.OwnLength = true
is_named (stands.Object p) = ltb p count
is_named (stands.Tamed p) = ltb p count
is_named (stands.NameOf p) = true
is_named stands.Empty = true
is_named (stands.Integer n) = true
is_named stands.IteratorSymbol = true
is_named (stands.Read p) = true

abbrev pub all_named : List Permit → Bool
all_named [] = true
all_named (r ∷ rs) = cond (is_named r.stands) (all_named rs) false

pub they_are_named : all_named permits ≡ true
unfolding permits count
they_are_named = refl

-- on one of the seven prototypes a value stands
abbrev is_value : Stands → Bool
is_value stands.OwnName = true
is_value stands.OwnLength = true
is_value (stands.Object p) = true
is_value (stands.Tamed p) = true
is_value (stands.NameOf p) = true
is_value stands.Empty = true
is_value (stands.Integer n) = true
is_value stands.IteratorSymbol = true
is_value (stands.Read p) = false

abbrev holds_here : Holder → Bool → Bool
holds_here EachFunction v = true
holds_here (At p) v = cond (is_repaired p) v true

abbrev all_hold : List Permit → Bool
all_hold [] = true
all_hold (r ∷ rs) = cond (holds_here r.holder (is_value r.stands)) (all_hold rs) false

they_hold : all_hold permits ≡ true
unfolding permits is_repaired common_paths
they_hold = refl

-- BEFORE ANY FUNCTION COMES

simple_by : (place : ℕ) (s : Stands) → is_named s ≡ true → IsSimple (initial_property place s)
simple_by place stands.OwnName h = refl
simple_by place stands.OwnLength h = refl
simple_by place (stands.Object p) h = h
simple_by place (stands.Tamed p) h = h
simple_by place (stands.NameOf p) h = refl
simple_by place stands.Empty h = refl
simple_by place (stands.Integer n) h = refl
simple_by place stands.IteratorSymbol h = refl
simple_by place (stands.Read p) h = tt

each_simple : (place : ℕ) (callable : Bool) (rs : List Permit) → all_named rs ≡ true → ForEach IsSimple (initial_at place) place callable rs
each_simple place callable [] h = tt
each_simple place callable (r ∷ rs) h =
    let parts = both_hold (is_named r.stands) (all_named rs) h in
    (λ f. simple_by place r.stands parts.0, each_simple place callable rs parts.1)

value_by : (place : ℕ) (s : Stands) → is_value s ≡ true → HoldsValue (initial_property place s)
value_by place stands.OwnName h = tt
value_by place stands.OwnLength h = tt
value_by place (stands.Object p) h = tt
value_by place (stands.Tamed p) h = tt
value_by place (stands.NameOf p) h = tt
value_by place stands.Empty h = tt
value_by place (stands.Integer n) h = tt
value_by place stands.IteratorSymbol h = tt
value_by place (stands.Read p) h = absurd cc

value_here : (place : ℕ) (h : Holder) (v : Bool) → is_repaired place ≡ true → holds_here h v ≡ true → is_for h place false ≡ true → v ≡ true
value_here place EachFunction v is t f = absurd cc
value_here place (At p) v is t f = ap (λ b. cond b v true) (sym (ap is_repaired ((unsigned_Decides p place).0 f) ∙ is)) ∙ t

each_value : (place : ℕ) → is_repaired place ≡ true → (rs : List Permit) → all_hold rs ≡ true → ForEach HoldsValue (initial_at place) place false rs
each_value place is [] h = tt
each_value place is (r ∷ rs) h =
    let parts = both_hold (holds_here r.holder (is_value r.stands)) (all_hold rs) h in
    (λ f. value_by place r.stands (value_here place r.holder (is_value r.stands) is parts.0 f), each_value place is rs parts.1)

no_function : (k : Kind) → is_function k ≡ false → (marks_of k).callable ≡ false
no_function kind.Ordinary h = refl
no_function kind.Function h = absurd cc
no_function kind.Constructor h = absurd cc

at_initial : (place : ℕ) → place < count → object_at initial_objects place ≡ initial_object place
unfolding initial_objects
at_initial place lt = get_or-map-range_with_len initial_object 0 count place place (fresh None plain_marks slot.Plain) lt (omega arith)

initial_values : (place : ℕ) → is_repaired place ≡ true → Each HoldsValue (initial_object place).properties
initial_values place is =
    let ordinary : (marks_of (place_at place).0).callable ≡ false = no_function (place_at place).0 (row_ordinary places 0 place they_are_ordinary (ap is_repaired (zero_plus place) ∙ is)) in
    subst (λ c. Each HoldsValue (with_permits (initial_at place) place c permits [])) (sym ordinary) (permits_each HoldsValue (initial_at place) place false permits (each_value place is permits they_hold) [] tt)

initially : HasTableProperties initial_objects
initially = record {
  simple = λ place lt. subst (λ (o : Obj). Each IsSimple o.properties) (sym (at_initial place lt))
      (permits_each IsSimple (initial_at place) place (marks_of (place_at place).0).callable permits (each_simple place (marks_of (place_at place).0).callable permits they_are_named) [] tt);
  values = λ place is. subst (λ (o : Obj). Each HoldsValue o.properties) (sym (at_initial place (is_place place is))) (initial_values place is);
  prototypes = λ place lt. ap (λ (o : Obj). o.prototype) (at_initial place lt);
}

-- A FUNCTION COMES

kept_at : (f : Obj → Obj) (P : Obj → Type 0) → ((o : Obj) → P o → P (f o)) → (xs : List Obj) (i j : ℕ) → P (object_at xs j) → P (object_at (at_place xs i f) j)
kept_at f P h [] i j p = p
kept_at f P h (x ∷ xs) zero zero p = h x p
kept_at f P h (x ∷ xs) zero (suc j) p = p
kept_at f P h (x ∷ xs) (suc i) zero p = p
kept_at f P h (x ∷ xs) (suc i) (suc j) p = kept_at f P h xs i j p

given_still : (at number parameters : ℕ) (objects : List Obj) → HasTableProperties objects → HasTableProperties (at_place objects at (with_body number parameters))
given_still at number parameters objects h = record {
  simple = λ place lt. kept_at (with_body number parameters) (λ o. Each IsSimple o.properties) (λ o p. replaced_each IsSimple length_key _ o.properties refl p) objects at place (h.simple place lt);
  values = λ place is. kept_at (with_body number parameters) (λ o. Each HoldsValue o.properties) (λ o p. replaced_each HoldsValue length_key _ o.properties tt p) objects at place (h.values place is);
  prototypes = λ place lt. kept_at (with_body number parameters) (λ o. o.prototype ≡ option_map common_ref (place_at place).1) (λ o p. p) objects at place (h.prototypes place lt);
}

pub properties_stay : PropertiesStay
properties_stay = record { initial = initially; given = given_still }
