-- The way up from each object ends, whatever is asked.
use Rattle.std.proofs.Common.{◌≡◌, ◌≢◌, ℕ, zero, suc, ◌<◌, Bool, true, false, not, nat_eq, nat_lt, List, length, slice_set, Option, Some, None, refl, sym, ap, ◌∙◌, subst, if◌then◌else◌}
use Rattle.std.proofs.lemmas.Bool.{eqb-true, eqb-false, ltb-true}
use Rattle.std.proofs.lemmas.List.{length-set, get_or-set_same, get_or-set_other}
use Rattle.js_text.specs.Naming.{Naming, Origin, Own, Common, Foreign}
use Rattle.js_text.specs.declared.value.Key.{Key}
use Rattle.js_desc.specs.Descriptors.{configurable_of, same_option}
use Rattle.js_desc.specs.Validate.{validate_and_apply_property_descriptor}
use Rattle.js_desc.specs.declared.ask.Ask as asks
use Rattle.js_desc.specs.declared.ask.Ask.TheVariants as ask
use Rattle.js_desc.specs.declared.descriptor.Change.{Change}
use Rattle.js_desc.specs.declared.descriptor.Descriptor.{Descriptor}
use Rattle.js_store.specs.Frozen.{CommonObject}
use Rattle.js_store.specs.Objects.{Object, object_at, with_prototype}
use Rattle.js_ordinary.specs.Chains.{goes_by, ends_within, ChainsEnd}
use Rattle.js_ordinary.specs.Decided.{decided_there, verdict}
use Rattle.js_ordinary.specs.Laws.{Ways_up_keep_ending}
use Rattle.js_ordinary.specs.OrdinaryDefineOwnProperty.{define_by}
use Rattle.js_ordinary.specs.OrdinaryDelete.{delete_by, delete_if}
use Rattle.js_ordinary.specs.OrdinarySetPrototypeOf.{is_proxy, own_id, own_prototype, ends_by, ends_without, makes_cycle, set_prototype_if}
use Rattle.js_ordinary.specs.Origins.{there, with_object}
use Rattle.js_ordinary.specs.Verdicts.{Verdict, own_property, flag, unchanged}
use Rattle.js_ordinary.proofs.Changes_laws.{both}
use Rattle.js_ordinary.proofs.Invariants_laws.{on_test}

-- what holds of an `if` by its test
if_true : {X : Type 0} {b : Bool} (x y : X) → b ≡ true → (if b then x else y) ≡ x
if_true x y h = ap (λ b. if b then x else y) h

if_false : {X : Type 0} {b : Bool} (x y : X) → b ≡ false → (if b then x else y) ≡ y
if_false x y h = ap (λ b. if b then x else y) h

not_true : false ≡ true → ⊥
not_true h = cc

module _ {R S : Type 0} (names : Naming R S) (old new : List (Object R S)) (long : length new ≡ length old) where
  -- which objects are the party's own is told by how many there are
  id_same : (o : Origin) → own_id new o ≡ own_id old o
  id_same (Own i) = ap (λ n. if nat_lt i n then Some i else None) long
  id_same (Common c) = refl
  id_same Foreign = refl

  prototype_same : (p : Option R) → own_prototype names new p ≡ own_prototype names old p
  prototype_same None = refl
  prototype_same (Some p) = id_same (names.origin p)

  -- where prototypes and slots are as they were
  module _ (prototypes : (i : ℕ) → (object_at new i).prototype ≡ (object_at old i).prototype) (slots : (i : ℕ) → (object_at new i).slot ≡ (object_at old i).slot) where
    goes_same : (n : ℕ) → ((p : Option R) → ends_within names new n p ≡ ends_within names old n p) → (o : Option ℕ) → goes_by new (ends_within names new n) o ≡ goes_by old (ends_within names old n) o
    goes_same n rec None = refl
    goes_same n rec (Some i) = (λ j. if is_proxy (slots i j) then true else ends_within names new n (prototypes i j)) ∙ ap (λ b. if is_proxy (object_at old i).slot then true else b) (rec (object_at old i).prototype)

    ends_same : (n : ℕ) (p : Option R) → ends_within names new n p ≡ ends_within names old n p
    ends_same zero p = refl
    ends_same (suc n) p = ap (goes_by new (ends_within names new n)) (prototype_same p) ∙ goes_same n (ends_same n) (own_prototype names old p)

    ends_kept : ChainsEnd names old → ChainsEnd names new
    ends_kept h i lt =
        let e = h i (subst (λ n. i < n) long lt) in
        (e.0, (λ j. ends_within names new e.0 (prototypes i j)) ∙ (ends_same e.0 (object_at old i).prototype ∙ e.1))

  -- where one object has another prototype, from which the way up does not come to it
  module _ (me : ℕ) (p : Option R) (at_me : (object_at new me).prototype ≡ p) (others : (i : ℕ) → i ≢ me → object_at new i ≡ object_at old i) where
    free_step : (n : ℕ) → ((q : Option R) → ends_without names old me n q ≡ true → ends_within names new n q ≡ true) → (o : Option ℕ) → ends_by old me (ends_without names old me n) o ≡ true → goes_by new (ends_within names new n) o ≡ true
    free_step n rec None h = refl
    free_step n rec (Some i) h =
        on_test (nat_eq i me) (goes_by new (ends_within names new n) (Some i) ≡ true)
        (λ e. absurd (not_true (sym (if_true false (if is_proxy (object_at old i).slot then true else ends_without names old me n (object_at old i).prototype) e) ∙ h)))
        (λ e.
        let h' : (if is_proxy (object_at old i).slot then true else ends_without names old me n (object_at old i).prototype) ≡ true = sym (if_false false (if is_proxy (object_at old i).slot then true else ends_without names old me n (object_at old i).prototype) e) ∙ h in
        ap (λ (o : Object R S). if is_proxy o.slot then true else ends_within names new n o.prototype) (others i (eqb-false i me e))
        ∙ on_test (is_proxy (object_at old i).slot) ((if is_proxy (object_at old i).slot then true else ends_within names new n (object_at old i).prototype) ≡ true)
        (λ x. if_true true (ends_within names new n (object_at old i).prototype) x)
        (λ x. if_false true (ends_within names new n (object_at old i).prototype) x ∙ rec (object_at old i).prototype (sym (if_false true (ends_without names old me n (object_at old i).prototype) x) ∙ h')))

    free : (n : ℕ) (q : Option R) → ends_without names old me n q ≡ true → ends_within names new n q ≡ true
    free zero q h = absurd (not_true h)
    free (suc n) q h = ap (goes_by new (ends_within names new n)) (prototype_same q) ∙ free_step n (free n) (own_prototype names old q) h

    module _ (k : ℕ) (from_p : ends_without names old me k p ≡ true) where
      abbrev Ends : Option R → Type 0
      Ends q = (n : ℕ) × (ends_within names new n q ≡ true)

      -- the object itself, as it is now
      from_me : Ends (object_at new me).prototype
      from_me = (k, ap (ends_within names new k) at_me ∙ free k p from_p)

      one_more : (q : Option R) (i : ℕ) → own_prototype names old q ≡ Some i → Ends (object_at new i).prototype → Ends q
      one_more q i e (n, h) =
          (suc n, ap (goes_by new (ends_within names new n)) (prototype_same q ∙ e) ∙ both (λ b. b ≡ true) (is_proxy (object_at new i).slot) true (ends_within names new n (object_at new i).prototype) refl h)

      rest_step : (n : ℕ) → ((q : Option R) → ends_within names old n q ≡ true → Ends q) → (q : Option R) (o : Option ℕ) → own_prototype names old q ≡ o → goes_by old (ends_within names old n) o ≡ true → Ends q
      rest_step n rec q None e h = (suc zero, ap (goes_by new (ends_within names new zero)) (prototype_same q ∙ e))
      rest_step n rec q (Some i) e h =
          on_test (nat_eq i me) (Ends q)
          (λ x. one_more q i e (subst (λ (m : ℕ). Ends (object_at new m).prototype) (sym (eqb-true i me x)) from_me))
          (λ x.
          let same : object_at new i ≡ object_at old i = others i (eqb-false i me x) in
          on_test (is_proxy (object_at old i).slot) (Ends q)
          (λ y. (suc zero, ap (goes_by new (ends_within names new zero)) (prototype_same q ∙ e) ∙ (ap (λ (o : Object R S). if is_proxy o.slot then true else false) same ∙ if_true true false y)))
          (λ y. one_more q i e (subst (λ (o : Object R S). Ends o.prototype) (sym same) (rec (object_at old i).prototype (sym (if_false true (ends_within names old n (object_at old i).prototype) y) ∙ h)))))

      rest : (n : ℕ) (q : Option R) → ends_within names old n q ≡ true → Ends q
      rest zero q h = absurd (not_true h)
      rest (suc n) q h = rest_step n (rest n) q (own_prototype names old q) refl h

      ends_changed : ChainsEnd names old → ChainsEnd names new
      ends_changed h i lt =
          on_test (nat_eq i me) (Ends (object_at new i).prototype)
          (λ x. subst (λ (m : ℕ). Ends (object_at new m).prototype) (sym (eqb-true i me x)) from_me)
          (λ x.
          let e = h i (subst (λ n. i < n) long lt) in
          subst (λ (o : Object R S). Ends o.prototype) (sym (others i (eqb-false i me x))) (rest e.0 (object_at old i).prototype e.1))

module _ {R S : Type 0} (names : Naming R S) (objects : List (Object R S)) (h : ChainsEnd names objects) (i : ℕ) (lt : i < length objects) where
  abbrev After : Verdict R S → Type 0
  After v = ChainsEnd names (with_object objects i v.1)

  abbrev me : Object R S
  me = object_at objects i

  -- another object in its place, with the same prototype and slot
  pub kept : (o : Object R S) → o.prototype ≡ me.prototype → o.slot ≡ me.slot → ChainsEnd names (slice_set objects i o)
  kept o prototype slot =
      ends_kept names objects (slice_set objects i o) (length-set objects i o)
      (λ j. on_test (nat_eq j i) ((object_at (slice_set objects i o) j).prototype ≡ (object_at objects j).prototype)
      (λ x. subst (λ (m : ℕ). (object_at (slice_set objects i o) m).prototype ≡ (object_at objects m).prototype) (sym (eqb-true j i x)) (ap (λ (y : Object R S). y.prototype) (get_or-set_same objects i o _ lt) ∙ prototype))
      (λ x. ap (λ (y : Object R S). y.prototype) (get_or-set_other objects i j o _ (eqb-false j i x))))
      (λ j. on_test (nat_eq j i) ((object_at (slice_set objects i o) j).slot ≡ (object_at objects j).slot)
      (λ x. subst (λ (m : ℕ). (object_at (slice_set objects i o) m).slot ≡ (object_at objects m).slot) (sym (eqb-true j i x)) (ap (λ (y : Object R S). y.slot) (get_or-set_same objects i o _ lt) ∙ slot))
      (λ x. ap (λ (y : Object R S). y.slot) (get_or-set_other objects i j o _ (eqb-false j i x))))
      h

  prototype_set : (p : Option R) (extensible c : Bool) → makes_cycle names objects (Own i) p ≡ c → After (set_prototype_if me p extensible c)
  prototype_set p false c e = h
  prototype_set p true true e = h
  prototype_set p true false e =
      let o : Object R S = with_prototype p me in
      ends_changed names objects (slice_set objects i o) (length-set objects i o) i p
      (ap (λ (y : Object R S). y.prototype) (get_or-set_same objects i o _ lt))
      (λ j apart. get_or-set_other objects i j o _ apart)
      (length objects) (not_false (ends_without names objects i (length objects) p) e) h
    where
      not_false : (b : Bool) → not b ≡ false → b ≡ true
      not_false true e = refl
      not_false false e = sym e

  defined : (key : Key S) (r : Option (Change R S)) → After (define_by names me key r)
  defined key None = h
  defined key (Some c) = kept _ refl refl

  taken_out : (key : Key S) (c : Bool) → After (delete_if names me key c)
  taken_out key true = kept _ refl refl
  taken_out key false = h

  deleted : (key : Key S) (r : Option (Descriptor R S)) → After (delete_by names me key r)
  deleted key None = h
  deleted key (Some d) = taken_out key (configurable_of d)

  pub each : (x : asks.Ask R S) → After (verdict names (makes_cycle names objects (Own i)) me x)
  each ask.GetPrototypeOf = h
  each (ask.SetPrototypeOf p) = both After (same_option names.same me.prototype p) (unchanged (flag true)) (set_prototype_if me p me.extensible (makes_cycle names objects (Own i) p)) h (prototype_set p me.extensible (makes_cycle names objects (Own i) p) refl)
  each ask.IsExtensible = h
  each ask.PreventExtensions = kept _ refl refl
  each (ask.GetOwnProperty k) = h
  each (ask.DefineOwnProperty k d) = defined k (validate_and_apply_property_descriptor names.same names.same_symbol (own_property names me k) me.extensible d)
  each (ask.HasProperty k) = h
  each (ask.Get k receiver) = h
  each (ask.Set k v receiver) = h
  each (ask.Delete k) = deleted k (own_property names me k)
  each ask.OwnPropertyKeys = h
  each (ask.Call this args) = h
  each (ask.Construct target args) = h
  each (ask.Import link path) = h
  each (ask.Slot which args) = h
  each (ask.Make globals modules) = h
  each ask.Queue = h
  each ask.Turn = h

module _ {R S : Type 0} (names : Naming R S) (objects : List (Object R S)) (common : List CommonObject) (x : asks.Ask R S) (h : ChainsEnd names objects) where
  ends : (o : Origin) → ChainsEnd names (decided_there names objects common x (there objects common o)).1
  ends (Own i) =
      on_test (nat_lt i (length objects)) (ChainsEnd names (decided_there names objects common x (there objects common (Own i))).1)
      (λ e. subst (λ t. ChainsEnd names (decided_there names objects common x t).1) (sym (if_true (Some (Own i)) None e)) (each names objects h i (ltb-true i (length objects) e) x))
      (λ e. subst (λ t. ChainsEnd names (decided_there names objects common x t).1) (sym (if_false (Some (Own i)) None e)) h)
  ends (Common c) = both (λ t. ChainsEnd names (decided_there names objects common x t).1) (nat_lt c (length common)) (Some (Common c)) None h h
  ends Foreign = h

pub ways_up_keep_ending : (R S : Type 0) → Ways_up_keep_ending R S
ways_up_keep_ending R S names objects common me x h = ends names objects common x h (names.origin me)
