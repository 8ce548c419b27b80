-- What holds of a party's objects at every moment holds after each decision.
use Rattle.std.proofs.Common.{◌≡◌, ℕ, ℤ, pos, negsuc, ◌<◌, ◌≤◌, Bool, true, false, not, ◌&&◌, cond, nat_eq, nat_lt, nat_le, codes, List, length, slice_set, Option, Some, None, refl, sym, ap, ◌∙◌, subst, arith, if◌then◌else◌}
use Rattle.std.specs.List.{AllByRecursion}
use Rattle.std.specs.Option.{unwrap_or}
use Rattle.std.proofs.lemmas.Bool.{eqb-true, eqb-false, ltb-true}
use Rattle.std.proofs.lemmas.Bool.Decides.{nat_tests}
use Rattle.std.proofs.lemmas.List.{length-set, get_or-set_same, get_or-set_other}
use Rattle.js_text.specs.Length.{length_key}
use Rattle.js_text.specs.Naming.{Naming, Origin, Own, Common, Foreign}
use Rattle.js_text.specs.SameKeys.{same_key_decides, same_units_equiv}
use Rattle.js_text.specs.Texts.{same_units}
use Rattle.js_text.specs.Values.{IsSameness, same_key}
use Rattle.js_text.specs.WellFormed.{IsWellFormedKey}
use Rattle.js_text.specs.declared.index.TheConstants.{MAX_INDEX}
use Rattle.js_text.specs.declared.value.Key.{Key}
use Rattle.js_text.specs.declared.value.Key.TheVariants as key
use Rattle.js_text.specs.declared.value.Value.{Value}
use Rattle.js_text.specs.declared.value.Value.TheVariants as value
use Rattle.js_desc.specs.Descriptors.{configurable_of, same_option}
use Rattle.js_desc.specs.declared.ask.Ask as asks
use Rattle.js_desc.specs.declared.ask.Ask.TheVariants as ask
use Rattle.js_desc.specs.declared.descriptor.Change.{Change}
use Rattle.js_desc.specs.declared.descriptor.Descriptor.{Descriptor}
use Rattle.js_desc.specs.declared.descriptor.PartialDescriptor.{PartialDescriptor}
use Rattle.js_desc.specs.declared.reply.Reply.{Reply}
use Rattle.js_desc.specs.declared.reply.Reply.TheVariants as reply
use Rattle.js_store.specs.Frozen.{CommonObject}
use Rattle.js_store.specs.Objects.{Object, after, object_at, ordinary_get_own_property, with_change, with_prototype}
use Rattle.js_ordinary.specs.Chains.{ChainsEnd}
use Rattle.js_ordinary.specs.Decided.{verdict}
use Rattle.js_ordinary.specs.OrdinaryDefineOwnProperty.{define_by}
use Rattle.js_ordinary.specs.OrdinaryDelete.{delete_by, delete_if}
use Rattle.js_ordinary.specs.OrdinarySetPrototypeOf.{makes_cycle, set_prototype_if}
use Rattle.js_ordinary.specs.Origins.{there, with_object}
use Rattle.js_ordinary.specs.Verdicts.{Verdict, own_property, flag, unchanged}
use Rattle.js_ordinary.proofs.Changes_laws.{both}
use Rattle.js_ordinary.proofs.Ends_laws as ends
use Rattle.js_ordinary.proofs.Invariants_laws.{on_test}
use Rattle.js_exotic.specs.ArrayDefineOwnProperty as define
use Rattle.js_exotic.specs.ArrayDefineOwnProperty.{change_at, is_array, open_length, stays_writable, with_number}
use Rattle.js_exotic.specs.ArrayLengths.{array_length, array_length_of, is_below, length_in_range}
use Rattle.js_exotic.specs.Decided.{decided_there, exotic_resumed, exotic_verdict, length_set_there}
use Rattle.js_exotic.specs.Laws.{Deciding_keeps_soundness, Resuming_keeps_soundness}
use Rattle.js_exotic.specs.SetImmutablePrototype.{is_immutable, set_prototype_by}
use Rattle.js_exotic.specs.Soundness.{HasKey, HasLength, IsSound, IsSoundObject}
use Rattle.js_exotic.specs.Verdicts.{ExoticVerdict}
use Rattle.js_exotic.specs.declared.array_length.ArrayLength.{ArrayLength}
use Rattle.js_exotic.specs.declared.array_length.TheConstants.{LENGTH_LIMIT}
use Rattle.js_exotic.specs.declared.next.Next.{Next}
use Rattle.js_exotic.specs.declared.next.Next.TheVariants as next
use Rattle.js_exotic.proofs.Length_laws.{own_is, length_beside, length_without, length_appended, length_defined, length_lowered}

not_none : {X : Type 0} (x : X) → None ≡ Some x → ⊥
not_none x h = cc

not_both : (b : Bool) → b ≡ true → b ≡ false → ⊥
not_both b t f = cc

-- a number that is a length
in_range : (n : ℤ) (k : ℕ) → length_in_range n ≡ Some k → (n ≡ pos k) × (nat_lt k LENGTH_LIMIT ≡ true)
in_range (negsuc n) k h = absurd cc
in_range (pos n) k h = by_test (nat_lt n LENGTH_LIMIT) refl h
  where
    by_test : (b : Bool) → nat_lt n LENGTH_LIMIT ≡ b → cond b (Some n) None ≡ Some k → (pos n ≡ pos k) × (nat_lt k LENGTH_LIMIT ≡ true)
    by_test true e h' = let same : n ≡ k = cc in (ap (λ m. pos m) same, subst (λ m. nat_lt m LENGTH_LIMIT ≡ true) same e)
    by_test false e h' = absurd cc

module _ {R S : Type 0} (names : Naming R S) (decides : IsSameness names.same) (decides_made : IsSameness names.same_symbol) (o : Object R S) (sound : IsSoundObject names o) where
  -- an object after a decision that leaves its prototype and its slot
  pub record IsKept (r : Option (Object R S)) : Type 0 where
    pub object : IsSoundObject names (unwrap_or r o)
    pub prototype : (unwrap_or r o).prototype ≡ o.prototype
    pub slot : (unwrap_or r o).slot ≡ o.slot

  as_it_is : IsKept None
  as_it_is = record { object = sound; prototype = refl; slot = refl }

  -- other properties, which keep the length where the object is an array
  changed : (ps : List (Key S × Descriptor R S)) → (is_array o.marks.class ≡ true → HasLength names (record o { properties = ps })) → IsKept (Some (record o { properties = ps }))
  changed ps f = record { object = record { array = f; slot_fits = sound.slot_fits; callable = sound.callable }; prototype = refl; slot = refl }

  -- DELETE

  taken_out : (k : Key S) (d : Descriptor R S) → own_property names o k ≡ Some d → (c : Bool) → configurable_of d ≡ c → IsKept (delete_if names o k c).1
  taken_out k d own false e = as_it_is
  taken_out k d own true e = changed _ (λ arr.
      let len = sound.array arr in
      on_test (same_key names.same_symbol length_key k) (HasLength names _)
      (λ is. absurd (
      let k_is : length_key ≡ k = (same_key_decides decides_made length_key k).0 is in
      let found : Some d ≡ Some _ = sym (subst (λ m. own_property names o m ≡ Some d) (sym k_is) own) ∙ (own_is names decides decides_made o len).property in
      let d_is : d ≡ _ = some_same found in
      not_both (configurable_of d) e (ap configurable_of d_is ∙ len.is_fixed)))
      (λ apart. length_without names decides decides_made o len k apart))
    where
      some_same : {X : Type 0} {a b : X} → Some a ≡ Some b → a ≡ b
      some_same h = cc

  deleted : (k : Key S) (r : Option (Descriptor R S)) → own_property names o k ≡ r → IsKept (delete_by names o k r).1
  deleted k None own = as_it_is
  deleted k (Some d) own = taken_out k d own (configurable_of d) refl

  -- DEFINE

  -- as of an ordinary object, where what becomes of an array's length is known
  defined : (k : Key S) (r : Option (Change R S)) → ((c : Change R S) → r ≡ Some c → is_array o.marks.class ≡ true → HasLength names (record o { properties = after names.same_symbol k c o.properties })) → IsKept (define_by names o k r).1
  defined k None f = as_it_is
  defined k (Some c) f = changed _ (f c refl)

  -- an element
  element : (n : ℕ) (l : ArrayLength) → n ≤ MAX_INDEX → array_length names o ≡ Some l → (r : Option (Change R S)) → IsKept (define.element_defined names o n l r).1
  element n l le own None = as_it_is
  element n l le own (Some c) = by_test (nat_lt n l.count) refl
    where
      by_test : (b : Bool) → nat_lt n l.count ≡ b → IsKept (Some (if b then with_change names.same_symbol (key.Index n) c o else define.element_appended names n c l o))
      by_test true e = changed _ (λ arr.
          let len = sound.array arr in
          let same : Some len.number ≡ Some l = sym len.is_own ∙ own in
          length_beside names decides decides_made o len (key.Index n) c refl (subst (λ (x : ArrayLength). nat_lt n x.count ≡ true) (let s : l ≡ len.number = cc in s) e))
      by_test false e = changed _ (λ arr.
          let len = sound.array arr in
          length_appended names decides decides_made o len l n c (sym len.is_own ∙ own) (grind (arith, nat_tests)) (grind (arith, nat_tests)))

  element_by : (n : ℕ) (d : PartialDescriptor R S) → n ≤ MAX_INDEX → (l : Option ArrayLength) → array_length names o ≡ l → IsKept (define.define_element_by names o n d l).1
  element_by n d le None own = defined (key.Index n) (change_at names o (key.Index n) d) (λ c e arr. absurd (not_none _ (sym own ∙ (sound.array arr).is_own)))
  element_by n d le (Some l) own = both (λ (v : ExoticVerdict R S). IsKept v.1) (nat_le l.count n && not l.writable) (define.element_defined names o n l None) (define.element_defined names o n l (change_at names o (key.Index n) d)) as_it_is (element n l le own (change_at names o (key.Index n) d))

  -- the length
  lowered : (d : PartialDescriptor R S) (k : ℕ) (l : ArrayLength) → array_length names o ≡ Some l → k ≤ l.count → (r : Option (Change R S)) → change_at names o length_key (open_length d) ≡ r → IsKept (define.lower_by names o d k l r).1
  lowered d k l own le None e = as_it_is
  lowered d k l own le (Some c) e = changed _ (λ arr.
      let len = sound.array arr in
      length_lowered names decides decides_made o len l (open_length d) c k (stays_writable d.writable) (sym len.is_own ∙ own) e le)

  set_by : (d : PartialDescriptor R S) (k : ℕ) → d.value ≡ Some (value.Int (pos k)) → nat_lt k LENGTH_LIMIT ≡ true → (l : Option ArrayLength) → array_length names o ≡ l → IsKept (define.set_length_by names o d k l).1
  set_by d k given within None own = defined length_key (change_at names o length_key d) (λ c e arr. absurd (not_none _ (sym own ∙ (sound.array arr).is_own)))
  set_by d k given within (Some l) own = by_test (nat_le l.count k) refl
    where
      by_test : (b : Bool) → nat_le l.count k ≡ b → IsKept (if b then define.ordinary_verdict names o length_key d else define.lower_length names o d k l).1
      by_test true e = defined length_key (change_at names o length_key d) (λ c taken arr.
          let len = sound.array arr in
          let same : Some len.number ≡ Some l = sym len.is_own ∙ own in
          let past : len.number.count ≤ k = let s : len.number ≡ l = cc in let q : len.number.count ≡ l.count = ap (λ (x : ArrayLength). x.count) s in grind (arith, nat_tests) in
          length_defined names decides decides_made o len d c k taken (ap (λ v. unwrap_or v (value.Int (pos len.number.count))) given) past within)
      by_test false e = both (λ (v : ExoticVerdict R S). IsKept v.1) l.writable (define.lower_open names o d k l) (define.lower_by names o d k l None) (lowered d k l own (grind (arith, nat_tests)) (change_at names o length_key (open_length d)) refl) as_it_is

  pub set_to : (d : PartialDescriptor R S) (n : ℤ) → IsKept (define.array_set_length_to names o d n).1
  set_to d n = by_range (length_in_range n) refl
    where
      by_range : (r : Option ℕ) → length_in_range n ≡ r → IsKept (define.set_length_if names o (with_number d n) r).1
      by_range None e = as_it_is
      by_range (Some k) e = let range = in_range n k e in set_by (with_number d n) k (ap (λ m. Some (value.Int m)) range.0) range.1 (array_length names o) refl

  number_of : (me : R) (d : PartialDescriptor R S) (v : Value R S) → IsKept (define.number_of_length names me o d v).1
  number_of me d (value.Int n) = set_to d n
  number_of me d value.Undefined = as_it_is
  number_of me d value.Null = as_it_is
  number_of me d (value.Bool b) = as_it_is
  number_of me d (value.Text t) = as_it_is
  number_of me d (value.Symbol s) = as_it_is
  number_of me d (value.Ref r) = as_it_is

  length_set : (me : R) (d : PartialDescriptor R S) (v : Option (Value R S)) → d.value ≡ v → IsKept (define.array_set_length_by names me o d v).1
  length_set me d None e = defined length_key (change_at names o length_key d) (λ c taken arr.
      let len = sound.array arr in
      length_defined names decides decides_made o len d c len.number.count taken (ap (λ v. unwrap_or v (value.Int (pos len.number.count))) e) (omega arith) (own_is names decides decides_made o len).within)
  length_set me d (Some v) e = number_of me d v

  named : (me : R) (t : List ℕ) (d : PartialDescriptor R S) (b : Bool) → same_units t (codes "length") ≡ b → IsKept (define.define_named names me o (key.Text t) d b).1
  named me t d true e = length_set me d d.value refl
  named me t d false e = defined (key.Text t) (change_at names o (key.Text t) d) (λ c taken arr.
      length_beside names decides decides_made o (sound.array arr) (key.Text t) c (same_units_equiv.symm (codes "length") t ∙ e) refl)

  of_array : (me : R) (k : Key S) (d : PartialDescriptor R S) → IsWellFormedKey k → IsKept (define.array_define_own_property names me o k d).1
  of_array me (key.Index n) d well = element_by n d well (array_length names o) refl
  of_array me (key.Text t) d well = named me t d (same_units t (codes "length")) refl
  of_array me (key.Symbol s) d well = defined (key.Symbol s) (change_at names o (key.Symbol s) d) (λ c taken arr.
      length_beside names decides decides_made o (sound.array arr) (key.Symbol s) c refl refl)

  pub by_class : (me : R) (k : Key S) (d : PartialDescriptor R S) → IsWellFormedKey k → (b : Bool) → is_array o.marks.class ≡ b → IsKept (define.define_by_class names me o k d b).1
  by_class me k d well true e = of_array me k d well
  by_class me k d well false e = defined k (change_at names o k d) (λ c taken arr. absurd (not_both (is_array o.marks.class) arr e))

  -- ALL ASKS

  abbrev Sound : Option (Object R S) → Type 0
  Sound r = IsSoundObject names (unwrap_or r o)

  -- the same properties
  same_length : (new : Object R S) → new.properties ≡ o.properties → HasLength names o → HasLength names new
  same_length new e h = record { number = h.number; is_own = ap (λ ps. array_length_of (ordinary_get_own_property names.same_symbol length_key ps)) e ∙ h.is_own; is_fixed = h.is_fixed; is_above = subst (λ ps. AllByRecursion (λ p. is_below h.number.count p.0 ≡ true) ps) (sym e) h.is_above }

  prototype_set : (p : Option R) (extensible c : Bool) → Sound (set_prototype_if o p extensible c).1
  prototype_set p false c = sound
  prototype_set p true true = sound
  prototype_set p true false = record { array = λ arr. same_length (with_prototype p o) refl (sound.array arr); slot_fits = sound.slot_fits; callable = sound.callable }

  ordinary_prototype : (cycle : Option R → Bool) (p : Option R) → Sound (verdict names cycle o (ask.SetPrototypeOf p)).1
  ordinary_prototype cycle p = both (λ (v : Verdict R S). Sound v.1) (same_option names.same o.prototype p) (unchanged (flag true)) (set_prototype_if o p o.extensible (cycle p)) sound (prototype_set p o.extensible (cycle p))

  immutable : (cycle : Option R → Bool) (p : Option R) (b : Bool) → Sound (set_prototype_by names cycle o p b).1
  immutable cycle p true = sound
  immutable cycle p false = ordinary_prototype cycle p

  pub each : (cycle : Option R → Bool) (me : R) (x : asks.Ask R S) → HasKey x → Sound (exotic_verdict names cycle me o x).1
  each cycle me ask.GetPrototypeOf k = sound
  each cycle me (ask.SetPrototypeOf p) k = immutable cycle p (is_immutable o.marks.class)
  each cycle me ask.IsExtensible k = sound
  each cycle me ask.PreventExtensions k = record { array = λ arr. same_length _ refl (sound.array arr); slot_fits = sound.slot_fits; callable = sound.callable }
  each cycle me (ask.GetOwnProperty key') k = sound
  each cycle me (ask.DefineOwnProperty key' d) k = (by_class me key' d k (is_array o.marks.class) refl).object
  each cycle me (ask.HasProperty key') k = sound
  each cycle me (ask.Get key' receiver) k = sound
  each cycle me (ask.Set key' v receiver) k = sound
  each cycle me (ask.Delete key') k = (deleted key' (own_property names o key') refl).object
  each cycle me ask.OwnPropertyKeys k = sound
  each cycle me (ask.Call this args) k = sound
  each cycle me (ask.Construct target args) k = sound
  each cycle me (ask.Import link path) k = sound
  each cycle me (ask.Slot which args) k = sound
  each cycle me (ask.Make globals modules) k = sound
  each cycle me ask.Queue k = sound
  each cycle me ask.Turn k = sound

-- THE PARTY'S OBJECTS

module _ {R S : Type 0} (names : Naming R S) (decides : IsSameness names.same) (decides_made : IsSameness names.same_symbol) (objects : List (Object R S)) (h : IsSound names objects) (i : ℕ) (lt : i < length objects) where
  abbrev me_object : Object R S
  me_object = object_at objects i

  abbrev sound_me : IsSoundObject names me_object
  sound_me = h.each i lt

  -- each object is sound where the one that has changed is
  each_sound : (r : Option (Object R S)) → IsSoundObject names (unwrap_or r me_object) → (j : ℕ) → j < length (with_object objects i r) → IsSoundObject names (object_at (with_object objects i r) j)
  each_sound None s j lt' = h.each j lt'
  each_sound (Some new) s j lt' =
      on_test (nat_eq j i) (IsSoundObject names (object_at (slice_set objects i new) j))
      (λ e. subst (λ m. IsSoundObject names (object_at (slice_set objects i new) m)) (sym (eqb-true j i e)) (subst (λ x. IsSoundObject names x) (sym (get_or-set_same objects i new _ lt)) s))
      (λ e. subst (λ x. IsSoundObject names x) (sym (get_or-set_other objects i j new _ (eqb-false j i e))) (h.each j (subst (λ n. j < n) (length-set objects i new) lt')))

  ways_kept : (r : Option (Object R S)) → (unwrap_or r me_object).prototype ≡ me_object.prototype → (unwrap_or r me_object).slot ≡ me_object.slot → ChainsEnd names (with_object objects i r)
  ways_kept None p s = h.ways
  ways_kept (Some new) p s = ends.kept names objects h.ways i lt new p s

  ways_immutable : (p : Option R) (b : Bool) → ChainsEnd names (with_object objects i (set_prototype_by names (makes_cycle names objects (Own i)) me_object p b).1)
  ways_immutable p true = h.ways
  ways_immutable p false = ends.each names objects h.ways i lt (ask.SetPrototypeOf p)

  ways_defined : (me : R) (k : Key S) (d : PartialDescriptor R S) → IsWellFormedKey k → ChainsEnd names (with_object objects i (define.define_own_property names me me_object k d).1)
  ways_defined me k d well = let kept = by_class names decides decides_made me_object sound_me me k d well (is_array me_object.marks.class) refl in ways_kept (define.define_own_property names me me_object k d).1 kept.prototype kept.slot

  ways : (me : R) (x : asks.Ask R S) → HasKey x → ChainsEnd names (with_object objects i (exotic_verdict names (makes_cycle names objects (Own i)) me me_object x).1)
  ways me ask.GetPrototypeOf k = h.ways
  ways me (ask.SetPrototypeOf p) k = ways_immutable p (is_immutable me_object.marks.class)
  ways me ask.IsExtensible k = h.ways
  ways me ask.PreventExtensions k = ends.each names objects h.ways i lt ask.PreventExtensions
  ways me (ask.GetOwnProperty key') k = h.ways
  ways me (ask.DefineOwnProperty key' d) k = ways_defined me key' d k
  ways me (ask.HasProperty key') k = h.ways
  ways me (ask.Get key' receiver) k = h.ways
  ways me (ask.Set key' v receiver) k = h.ways
  ways me (ask.Delete key') k = ends.each names objects h.ways i lt (ask.Delete key')
  ways me ask.OwnPropertyKeys k = h.ways
  ways me (ask.Call this args) k = h.ways
  ways me (ask.Construct target args) k = h.ways
  ways me (ask.Import link path) k = h.ways
  ways me (ask.Slot which args) k = h.ways
  ways me (ask.Make globals modules) k = h.ways
  ways me ask.Queue k = h.ways
  ways me ask.Turn k = h.ways

  pub sound_after : (me : R) (x : asks.Ask R S) → HasKey x → IsSound names (with_object objects i (exotic_verdict names (makes_cycle names objects (Own i)) me me_object x).1)
  sound_after me x k = record {
    ways = ways me x k;
    each = each_sound (exotic_verdict names (makes_cycle names objects (Own i)) me me_object x).1 (each names decides decides_made me_object sound_me (makes_cycle names objects (Own i)) me x k);
  }

  pub sound_set : (d : PartialDescriptor R S) (n : ℤ) → IsSound names (with_object objects i (define.array_set_length_to names me_object d n).1)
  sound_set d n = let kept = set_to names decides decides_made me_object sound_me d n in record {
    ways = ways_kept (define.array_set_length_to names me_object d n).1 kept.prototype kept.slot;
    each = each_sound (define.array_set_length_to names me_object d n).1 kept.object;
  }

module _ {R S : Type 0} (names : Naming R S) (decides : IsSameness names.same) (decides_made : IsSameness names.same_symbol) (objects : List (Object R S)) (common : List CommonObject) (h : IsSound names objects) where
  deciding : (me : R) (x : asks.Ask R S) → HasKey x → (o : Origin) → IsSound names (decided_there names objects common me x (there objects common o)).1
  deciding me x k (Own i) =
      on_test (nat_lt i (length objects)) (IsSound names (decided_there names objects common me x (there objects common (Own i))).1)
      (λ e. subst (λ t. IsSound names (decided_there names objects common me x t).1) (sym (ap (λ b. if b then Some (Own i) else None) e)) (sound_after names decides decides_made objects h i (ltb-true i (length objects) e) me x k))
      (λ e. subst (λ t. IsSound names (decided_there names objects common me x t).1) (sym (ap (λ b. if b then Some (Own i) else None) e)) h)
  deciding me x k (Common c) = both (λ t. IsSound names (decided_there names objects common me x t).1) (nat_lt c (length common)) (Some (Common c)) None h h
  deciding me x k Foreign = h

  set_there : (d : PartialDescriptor R S) (n : ℤ) (o : Origin) → IsSound names (length_set_there names objects common d (value.Int n) (there objects common o)).1
  set_there d n (Own i) =
      on_test (nat_lt i (length objects)) (IsSound names (length_set_there names objects common d (value.Int n) (there objects common (Own i))).1)
      (λ e. subst (λ t. IsSound names (length_set_there names objects common d (value.Int n) t).1) (sym (ap (λ b. if b then Some (Own i) else None) e)) (sound_set names decides decides_made objects h i (ltb-true i (length objects) e) d n))
      (λ e. subst (λ t. IsSound names (length_set_there names objects common d (value.Int n) t).1) (sym (ap (λ b. if b then Some (Own i) else None) e)) h)
  set_there d n (Common c) = both (λ t. IsSound names (length_set_there names objects common d (value.Int n) t).1) (nat_lt c (length common)) (Some (Common c)) None h h
  set_there d n Foreign = h

  other_there : (d : PartialDescriptor R S) (v : Value R S) (t : Option Origin) → ((n : ℤ) → v ≡ value.Int n → IsSound names (length_set_there names objects common d v t).1) → IsSound names (length_set_there names objects common d v t).1
  other_there d v None f = h
  other_there d (value.Int n) (Some o) f = f n refl
  other_there d value.Undefined (Some o) f = h
  other_there d value.Null (Some o) f = h
  other_there d (value.Bool b) (Some o) f = h
  other_there d (value.Text t) (Some o) f = h
  other_there d (value.Symbol s) (Some o) f = h
  other_there d (value.Ref r) (Some o) f = h

  resuming : (n : Next R S) (r : Reply R S) → IsSound names (exotic_resumed names objects common n r).1
  resuming (next.Ordinary n) r = h
  resuming (next.Length me d) (reply.Value v) = other_there d v (there objects common (names.origin me)) (λ n e. subst (λ x. IsSound names (length_set_there names objects common d x (there objects common (names.origin me))).1) (sym e) (set_there d n (names.origin me)))
  resuming (next.Length me d) (reply.Throw e) = h
  resuming (next.Length me d) (reply.Proto p) = h
  resuming (next.Length me d) (reply.Flag b) = h
  resuming (next.Length me d) (reply.Desc p) = h
  resuming (next.Length me d) (reply.Keys ks) = h

pub deciding_keeps_soundness : (R S : Type 0) → Deciding_keeps_soundness R S
deciding_keeps_soundness R S names decides decides_made objects common me x k h = deciding names decides decides_made objects common h me x k (names.origin me)

pub resuming_keeps_soundness : (R S : Type 0) → Resuming_keeps_soundness R S
resuming_keeps_soundness R S names decides decides_made objects common n r h = resuming names decides decides_made objects common h n r
