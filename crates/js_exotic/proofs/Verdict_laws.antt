-- What stays of an object, exotic or not, whatever is asked.
use Rattle.std.proofs.Common.{◌≡◌, ℕ, ℤ, pos, ◌+◌, ◌≤◌, Bool, true, false, not, ◌&&◌, cond, nat_le, nat_lt, filter, [], ◌∷◌, Option, Some, None, refl, sym, ap, ◌∙◌, subst, arith, if◌then◌else◌}
use Rattle.std.specs.Option.{unwrap_or}
use Rattle.std.specs.Prelude.{max}
use Rattle.std.proofs.lemmas.Bool.Decides.{nat_tests}
use Rattle.js_text.specs.Length.{is_length, length_key}
use Rattle.js_text.specs.Naming.{Naming}
use Rattle.js_text.specs.SameKeys.{same_key_decides}
use Rattle.js_text.specs.Values.{IsSameness, same_key}
use Rattle.js_text.specs.declared.value.Key.{Key}
use Rattle.js_text.specs.declared.value.Key.TheVariants as key
use Rattle.js_text.specs.declared.value.Value.{Value}
use Rattle.js_text.specs.declared.value.Value.TheVariants as value
use Rattle.js_desc.specs.Descriptors.{configurable_of}
use Rattle.js_desc.specs.Laws.{after_change, Stays, StaysIfFixed}
use Rattle.js_desc.specs.declared.ask.Ask as a
use Rattle.js_desc.specs.declared.ask.Ask.TheVariants as ask
use Rattle.js_desc.specs.declared.descriptor.Change.{Change}
use Rattle.js_desc.specs.declared.descriptor.Change.TheVariants as change
use Rattle.js_desc.specs.declared.descriptor.Descriptor.{Descriptor}
use Rattle.js_desc.specs.declared.descriptor.Descriptor.TheVariants.{Data, Accessor}
use Rattle.js_desc.specs.declared.descriptor.PartialDescriptor.{PartialDescriptor}
use Rattle.js_desc.proofs.Invariants as desc
use Rattle.js_store.specs.Laws.{Properties}
use Rattle.js_store.specs.Objects.{Object, ordinary_get_own_property, replaced, with_change, with_replaced}
use Rattle.js_store.proofs.Own_laws.{writing_leaves_others}
use Rattle.js_ordinary.specs.Decided.{verdict}
use Rattle.js_ordinary.specs.Laws.{StaysClosed}
use Rattle.js_ordinary.specs.OrdinaryDefineOwnProperty.{define_by}
use Rattle.js_ordinary.specs.Verdicts.{own_property}
use Rattle.js_ordinary.proofs.Invariants_laws as ordinary
use Rattle.js_ordinary.proofs.Invariants_laws.{on_test}
use Rattle.js_exotic.specs.ArrayDefineOwnProperty as define
use Rattle.js_exotic.specs.ArrayDefineOwnProperty.{change_at, changed_length, element_appended, final_length, is_array, open_length, stays_writable, with_number}
use Rattle.js_exotic.specs.ArrayLengths.{array_length, element_end, end_by, is_below, kept_length, length_in_range, length_property, without_elements}
use Rattle.js_exotic.specs.Decided.{exotic_verdict}
use Rattle.js_exotic.specs.Laws.{AfterEachVerdict, Exotic_closed_objects_gain_nothing, Exotic_closed_objects_stay_closed, Exotic_fixed_properties_stay}
use Rattle.js_exotic.specs.SetImmutablePrototype.{is_immutable, set_prototype_by}
use Rattle.js_exotic.specs.declared.array_length.ArrayLength.{ArrayLength}
use Rattle.js_exotic.proofs.Array_laws.{found_replaced, read, weaker}

-- WHAT IS FOUND

same_both : {X : Type 0} (x : X) (b : Bool) → cond b x x ≡ x
same_both x true = refl
same_both x false = refl

module _ {R S : Type 0} (made : S → S → Bool) (decides : IsSameness made) where
  -- all but the property of a key are found where that is replaced
  replacing_leaves_others : (k other : Key S) (d : Descriptor R S) (ps : Properties R S) → same_key made other k ≡ false → ordinary_get_own_property made other (replaced made k d ps) ≡ ordinary_get_own_property made other ps
  replacing_leaves_others k other d [] apart = refl
  replacing_leaves_others k other d (p ∷ ps) apart = by_test (same_key made k p.0) refl (replacing_leaves_others k other d ps apart)
    where
      by_test : (is : Bool) → same_key made k p.0 ≡ is → ordinary_get_own_property made other (replaced made k d ps) ≡ ordinary_get_own_property made other ps → ordinary_get_own_property made other (cond is ((p.0, d) ∷ ps) (p ∷ replaced made k d ps)) ≡ ordinary_get_own_property made other (p ∷ ps)
      by_test true h rest =
          let away : same_key made other p.0 ≡ false = subst (λ x. same_key made other x ≡ false) ((same_key_decides decides k p.0).0 h) apart in
          ap (λ b. cond b (Some d) (ordinary_get_own_property made other ps)) away ∙ sym (ap (λ b. cond b (Some p.1) (ordinary_get_own_property made other ps)) away)
      by_test false h rest = ap (λ o. cond (same_key made other p.0) (Some p.1) o) rest

  abbrev left : ℕ → Properties R S → Properties R S
  left n ps = filter (λ p. is_below n p.0) ps

  -- what is found where the elements at or past a length are gone
  own_left : (n : ℕ) (k : Key S) (ps : Properties R S) → ordinary_get_own_property made k (left n ps) ≡ cond (is_below n k) (ordinary_get_own_property made k ps) None
  own_left n k [] = sym (same_both None (is_below n k))
  own_left n k (p ∷ ps) = by_tests (is_below n p.0) refl (same_key made k p.0) refl (own_left n k ps)
    where
      by_tests : (b : Bool) → is_below n p.0 ≡ b → (s : Bool) → same_key made k p.0 ≡ s → ordinary_get_own_property made k (left n ps) ≡ cond (is_below n k) (ordinary_get_own_property made k ps) None → ordinary_get_own_property made k (cond b (p ∷ left n ps) (left n ps)) ≡ cond (is_below n k) (cond s (Some p.1) (ordinary_get_own_property made k ps)) None
      by_tests true below true same rest =
          let h : is_below n k ≡ true = subst (λ x. is_below n x ≡ true) (sym ((same_key_decides decides k p.0).0 same)) below in
          ap (λ x. cond x (Some p.1) (ordinary_get_own_property made k (left n ps))) same ∙ sym (ap (λ x. cond x (Some p.1) None) h)
      by_tests true below false same rest = ap (λ x. cond x (Some p.1) (ordinary_get_own_property made k (left n ps))) same ∙ rest
      by_tests false below true same rest =
          let h : is_below n k ≡ false = subst (λ x. is_below n x ≡ false) (sym ((same_key_decides decides k p.0).0 same)) below in
          rest ∙ (ap (λ x. cond x (ordinary_get_own_property made k ps) None) h ∙ sym (ap (λ x. cond x (Some p.1) None) h))
      by_tests false below false same rest = rest

  -- a property that stays is below where lowering stops
  fixed_is_below : (least : ℕ) (k : Key S) (d : Descriptor R S) (ps : Properties R S) → ordinary_get_own_property made k ps ≡ Some d → configurable_of d ≡ false → is_below (kept_length least ps) k ≡ true
  fixed_is_below least k d [] h fixed = absurd cc
  fixed_is_below least k d (p ∷ ps) h fixed = by_test (same_key made k p.0) refl h (λ e. fixed_is_below least k d ps e fixed)
    where
      ends : (k' : Key S) (c : Bool) (m : ℕ) → c ≡ false → is_below (max (end_by k' c) m) k' ≡ true
      ends (key.Index i) true m e = absurd cc
      ends (key.Index i) false m e = grind (arith, nat_tests)
      ends (key.Text t) c m e = refl
      ends (key.Symbol s) c m e = refl

      by_test : (is : Bool) → same_key made k p.0 ≡ is → cond is (Some p.1) (ordinary_get_own_property made k ps) ≡ Some d → (ordinary_get_own_property made k ps ≡ Some d → is_below (kept_length least ps) k ≡ true) → is_below (max (element_end p) (kept_length least ps)) k ≡ true
      by_test true same e rest =
          let is : p.1 ≡ d = cc in
          subst (λ x. is_below (max (element_end p) (kept_length least ps)) x ≡ true) (sym ((same_key_decides decides k p.0).0 same)) (ends p.0 (configurable_of p.1) (kept_length least ps) (ap configurable_of is ∙ fixed))
      by_test false same e rest = weaker (kept_length least ps) (max (element_end p) (kept_length least ps)) k (omega arith) (rest e)

-- EACH VERDICT

-- what holds of an object holds after each verdict, where it holds after those of an ordinary object, after an element is appended, and after the length is lowered
module _ {R S : Type 0} (names : Naming R S) (o : Object R S) (P : Object R S → Type 0) (as_it_is : P o)
    (ordinary_after : (cycle : Option R → Bool) (x : a.Ask R S) → P (unwrap_or (verdict names cycle o x).1 o))
    (appended : (n : ℕ) (l : ArrayLength) (d : PartialDescriptor R S) (c : Change R S) → array_length names o ≡ Some l → l.writable ≡ true → change_at names o (key.Index n) d ≡ Some c → P (element_appended names n c l o))
    (lowered : (least : ℕ) (w : Bool) (l : ArrayLength) (d : PartialDescriptor R S) (c : Change R S) → array_length names o ≡ Some l → l.writable ≡ true → change_at names o length_key d ≡ Some c → P (with_replaced names.same_symbol length_key (final_length (kept_length least o.properties) w (changed_length l c)) (without_elements (kept_length least o.properties) o))) where
  abbrev After : Option (Object R S) → Type 0
  After r = P (unwrap_or r o)

  defined : (k : Key S) (d : PartialDescriptor R S) → After (define.ordinary_verdict names o k d).1
  defined k d = ordinary_after (λ p. false) (ask.DefineOwnProperty k d)

  element : (n : ℕ) (l : ArrayLength) (d : PartialDescriptor R S) → array_length names o ≡ Some l → (l.count ≤ n → l.writable ≡ true) → (r : Option (Change R S)) → change_at names o (key.Index n) d ≡ r → After (define.element_defined names o n l r).1
  element n l d own open' None taken = as_it_is
  element n l d own open' (Some c) taken =
      on_test (nat_lt n l.count) (P (if nat_lt n l.count then with_change names.same_symbol (key.Index n) c o else element_appended names n c l o))
      (λ e. subst (λ b. P (if b then with_change names.same_symbol (key.Index n) c o else element_appended names n c l o)) (sym e) (subst (λ r. After (define_by names o (key.Index n) r).1) taken (defined (key.Index n) d)))
      (λ e. subst (λ b. P (if b then with_change names.same_symbol (key.Index n) c o else element_appended names n c l o)) (sym e) (appended n l d c own (open' (grind (arith, nat_tests))) taken))

  element_by : (n : ℕ) (d : PartialDescriptor R S) (r : Option ArrayLength) → array_length names o ≡ r → After (define.define_element_by names o n d r).1
  element_by n d None own = defined (key.Index n) d
  element_by n d (Some l) own = by_tests (nat_le l.count n) refl l.writable refl
    where
      by_tests : (past : Bool) → nat_le l.count n ≡ past → (w : Bool) → l.writable ≡ w → After (if past && not w then define.element_defined names o n l None else define.element_defined names o n l (change_at names o (key.Index n) d)).1
      by_tests true p true w = element n l d own (λ le. w) (change_at names o (key.Index n) d) refl
      by_tests true p false w = as_it_is
      by_tests false p w' w = element n l d own (λ le. absurd (grind (arith, nat_tests))) (change_at names o (key.Index n) d) refl

  lowered_by : (d : PartialDescriptor R S) (k : ℕ) (l : ArrayLength) → array_length names o ≡ Some l → l.writable ≡ true → (r : Option (Change R S)) → change_at names o length_key (open_length d) ≡ r → After (define.lower_by names o d k l r).1
  lowered_by d k l own w None taken = as_it_is
  lowered_by d k l own w (Some c) taken = lowered k (stays_writable d.writable) l (open_length d) c own w taken

  set_by : (d : PartialDescriptor R S) (k : ℕ) (r : Option ArrayLength) → array_length names o ≡ r → After (define.set_length_by names o d k r).1
  set_by d k None own = defined length_key d
  set_by d k (Some l) own = by_tests (nat_le l.count k) l.writable refl
    where
      by_tests : (past w : Bool) → l.writable ≡ w → After (if past then define.ordinary_verdict names o length_key d else (if w then define.lower_open names o d k l else define.lower_by names o d k l None)).1
      by_tests true w' w = defined length_key d
      by_tests false true w = lowered_by d k l own w (change_at names o length_key (open_length d)) refl
      by_tests false false w = as_it_is

  set_to : (d : PartialDescriptor R S) (n : ℤ) → After (define.array_set_length_to names o d n).1
  set_to d n = in_range (length_in_range n)
    where
      in_range : (r : Option ℕ) → After (define.set_length_if names o (with_number d n) r).1
      in_range None = as_it_is
      in_range (Some k) = set_by (with_number d n) k (array_length names o) refl

  length_set : (me : R) (d : PartialDescriptor R S) (v : Option (Value R S)) → After (define.array_set_length_by names me o d v).1
  length_set me d None = defined length_key d
  length_set me d (Some (value.Int n)) = set_to d n
  length_set me d (Some value.Undefined) = as_it_is
  length_set me d (Some value.Null) = as_it_is
  length_set me d (Some (value.Bool b)) = as_it_is
  length_set me d (Some (value.Text t)) = as_it_is
  length_set me d (Some (value.Symbol s)) = as_it_is
  length_set me d (Some (value.Ref r)) = as_it_is

  named : (me : R) (k : Key S) (d : PartialDescriptor R S) (b : Bool) → After (define.define_named names me o k d b).1
  named me k d true = length_set me d d.value
  named me k d false = defined k d

  of_array : (me : R) (k : Key S) (d : PartialDescriptor R S) → After (define.array_define_own_property names me o k d).1
  of_array me (key.Index n) d = element_by n d (array_length names o) refl
  of_array me (key.Text t) d = named me (key.Text t) d (is_length {S = S} (key.Text t))
  of_array me (key.Symbol s) d = named me (key.Symbol s) d (is_length {S = S} (key.Symbol s))

  by_class : (me : R) (k : Key S) (d : PartialDescriptor R S) (b : Bool) → After (define.define_by_class names me o k d b).1
  by_class me k d true = of_array me k d
  by_class me k d false = defined k d

  by_immutable : (cycle : Option R → Bool) (p : Option R) (b : Bool) → After (set_prototype_by names cycle o p b).1
  by_immutable cycle p true = as_it_is
  by_immutable cycle p false = ordinary_after cycle (ask.SetPrototypeOf p)

  on_ask : (cycle : Option R → Bool) (me : R) (x : a.Ask R S) → After (exotic_verdict names cycle me o x).1
  on_ask cycle me (ask.SetPrototypeOf p) = by_immutable cycle p (is_immutable o.marks.class)
  on_ask cycle me (ask.DefineOwnProperty k d) = by_class me k d (is_array o.marks.class)
  on_ask cycle me (ask.Call this args) = as_it_is
  on_ask cycle me (ask.Construct target args) = as_it_is
  on_ask cycle me ask.GetPrototypeOf = as_it_is
  on_ask cycle me ask.IsExtensible = as_it_is
  on_ask cycle me ask.PreventExtensions = ordinary_after cycle ask.PreventExtensions
  on_ask cycle me (ask.GetOwnProperty k) = as_it_is
  on_ask cycle me (ask.HasProperty k) = as_it_is
  on_ask cycle me (ask.Get k receiver) = as_it_is
  on_ask cycle me (ask.Set k v receiver) = as_it_is
  on_ask cycle me (ask.Delete k) = ordinary_after cycle (ask.Delete k)
  on_ask cycle me ask.OwnPropertyKeys = as_it_is
  on_ask cycle me (ask.Import link path) = as_it_is
  on_ask cycle me (ask.Slot which args) = as_it_is
  on_ask cycle me (ask.Make globals modules) = as_it_is
  on_ask cycle me ask.Queue = as_it_is
  on_ask cycle me ask.Turn = as_it_is

  after_each : AfterEachVerdict names o P
  after_each = (on_ask, set_to)

-- THE PROPERTY OF A KEY

-- what holds of the own property of a key holds after each verdict, where it holds of what may stand there then
module _ {R S : Type 0} (names : Naming R S) (decides_made : IsSameness names.same_symbol) (o : Object R S) (k : Key S) (Q : Option (Descriptor R S) → Type 0) (base : Q (own_property names o k))
    (ordinary_after : (cycle : Option R → Bool) (x : a.Ask R S) → Q (own_property names (unwrap_or (verdict names cycle o x).1 o) k))
    (on_left : (least : ℕ) → Q (cond (is_below (kept_length least o.properties) k) (own_property names o k) None))
    (on_count : (l : ArrayLength) (n : ℕ) → own_property names o k ≡ Some (length_property l l.count) → l.writable ≡ true → Q (Some (length_property l n)))
    (on_cut : (l : ArrayLength) (d : PartialDescriptor R S) (c : Change R S) (n : ℕ) (w : Bool) → own_property names o k ≡ Some (length_property l l.count) → l.writable ≡ true → change_at names o k d ≡ Some c → Q (Some (final_length n w (changed_length l c)))) where
  abbrev own_of : Properties R S → Option (Descriptor R S)
  own_of ps = ordinary_get_own_property names.same_symbol k ps

  length_is : (l : ArrayLength) → array_length names o ≡ Some l → own_property names o length_key ≡ Some (length_property l l.count)
  length_is l own = (read (own_property names o length_key) l own).property

  -- the length is another property, or the one that is looked at
  by_key : (ps : Properties R S) (d old : Descriptor R S) → ordinary_get_own_property names.same_symbol length_key ps ≡ Some old → Q (own_of ps) → (k ≡ length_key → Q (Some d)) → Q (own_of (replaced names.same_symbol length_key d ps))
  by_key ps d old there other this =
      on_test (same_key names.same_symbol k length_key) (Q (own_of (replaced names.same_symbol length_key d ps)))
      (λ e. let is : k ≡ length_key = (same_key_decides decides_made k length_key).0 e in
      subst Q (sym (ap (λ m. ordinary_get_own_property names.same_symbol m (replaced names.same_symbol length_key d ps)) is ∙ found_replaced names.same_symbol length_key d old ps there)) (this is))
      (λ e. subst Q (sym (replacing_leaves_others names.same_symbol decides_made length_key k d ps e)) other)

  own_at : (l : ArrayLength) → array_length names o ≡ Some l → k ≡ length_key → own_property names o k ≡ Some (length_property l l.count)
  own_at l own is = ap (λ m. own_property names o m) is ∙ length_is l own

  appended : (n : ℕ) (l : ArrayLength) (d : PartialDescriptor R S) (c : Change R S) → array_length names o ≡ Some l → l.writable ≡ true → change_at names o (key.Index n) d ≡ Some c → Q (own_property names (element_appended names n c l o) k)
  appended n l d c own w taken =
      by_key (with_change names.same_symbol (key.Index n) c o).properties (length_property l (n + 1)) (length_property l l.count)
      (beside c ∙ length_is l own)
      (subst (λ r. Q (own_property names (unwrap_or (define_by names o (key.Index n) r).1 o) k)) taken (ordinary_after (λ p. false) (ask.DefineOwnProperty (key.Index n) d)))
      (λ is. on_count l (n + 1) (own_at l own is) w)
    where
      beside : (c' : Change R S) → own_property names (with_change names.same_symbol (key.Index n) c' o) length_key ≡ own_property names o length_key
      beside change.Nothing = refl
      beside (change.Write new) = writing_leaves_others R S names.same_symbol decides_made (key.Index n) length_key new o.properties refl

  lowered : (least : ℕ) (w : Bool) (l : ArrayLength) (d : PartialDescriptor R S) (c : Change R S) → array_length names o ≡ Some l → l.writable ≡ true → change_at names o length_key d ≡ Some c → Q (own_property names (with_replaced names.same_symbol length_key (final_length (kept_length least o.properties) w (changed_length l c)) (without_elements (kept_length least o.properties) o)) k)
  lowered least w l d c own open' taken =
      let stop : ℕ = kept_length least o.properties in
      by_key (without_elements stop o).properties (final_length stop w (changed_length l c)) (length_property l l.count)
      (own_left names.same_symbol decides_made stop length_key o.properties ∙ length_is l own)
      (subst Q (sym (own_left names.same_symbol decides_made stop k o.properties)) (on_left least))
      (λ is. on_cut l d c stop w (own_at l own is) open' (ap (λ m. change_at names o m d) is ∙ taken))

  own_after_each : AfterEachVerdict names o (λ new. Q (own_property names new k))
  own_after_each = after_each names o (λ new. Q (own_property names new k)) base ordinary_after appended lowered

-- INVARIANTS

stays_itself : {R S : Type 0} (d : Descriptor R S) → Stays d (Some d)
stays_itself (Data v true e c) = (v, true, refl)
stays_itself (Data v false e c) = refl
stays_itself (Accessor g s e c) = refl

-- a value that may change, and may become fixed
changes : {R S : Type 0} (v new : Value R S) (w w' e c : Bool) → w ≡ true → Stays (Data v w e c) (Some (Data new w' e c))
changes v new true w' e c h = (new, w', refl)
changes v new false w' e c h = absurd cc

-- and the length that is left then
finally : {R S : Type 0} (v : Value R S) (w e c : Bool) (p : Descriptor R S) (n : ℕ) (w' : Bool) → w ≡ true → Stays (Data v w e c) (Some p) → Stays (Data v w e c) (Some (final_length n w' p))
finally v false e c p n w' h s = absurd cc
finally v true e c (Accessor g s e' c') n w' h (new, w'', is) = absurd cc
finally v true e c (Data v' x e' c') n w' h (new, w'', is) = let same : e' ≡ e = cc in let same' : c' ≡ c = cc in (value.Int (pos n), w', cc)

after_is : {R S : Type 0} (l : ArrayLength) (c : Change R S) → after_change (Some (length_property l l.count)) c ≡ Some (changed_length l c)
after_is l change.Nothing = refl
after_is l (change.Write p) = refl

some_same : {X : Type 0} {x y : X} → Some x ≡ Some y → x ≡ y
some_same h = cc

none_some : {X : Type 0} {x : X} → None ≡ Some x → ⊥
none_some h = cc

pub fixed_properties_stay : (R S : Type 0) → Exotic_fixed_properties_stay R S
fixed_properties_stay R S names decides decides_made o k d h fixed =
    own_after_each names decides_made o k (Stays d) base
    (λ cycle x. ordinary.fixed_properties_stay R S names decides decides_made cycle o x k d h fixed)
    (λ least. subst (λ b. Stays d (cond b (own_property names o k) None)) (sym (fixed_is_below names.same_symbol decides_made least k d o.properties h fixed)) base)
    (λ l n own w. subst (λ x. Stays x (Some (length_property l n))) (sym (is l own)) (changes (value.Int (pos l.count)) (value.Int (pos n)) l.writable l.writable l.enumerable l.configurable w))
    (λ l f c n w' own w taken.
    let stays : StaysIfFixed (own_property names o k) (after_change (own_property names o k) c) = desc.fixed_properties_stay R S names.same names.same_symbol decides decides_made (own_property names o k) o.extensible f c taken in
    let stays' : StaysIfFixed (Some (length_property l l.count)) (after_change (Some (length_property l l.count)) c) = subst (λ m. StaysIfFixed m (after_change m c)) own stays in
    let known : Stays (length_property l l.count) (Some (changed_length l c)) = subst (Stays (length_property l l.count)) (after_is l c) (stays' (sym (ap configurable_of (is l own)) ∙ fixed)) in
    subst (λ x. Stays x (Some (final_length n w' (changed_length l c)))) (sym (is l own)) (finally (value.Int (pos l.count)) l.writable l.enumerable l.configurable (changed_length l c) n w' w known))
  where
    base : Stays d (own_property names o k)
    base = subst (Stays d) (sym h) (stays_itself d)

    is : (l : ArrayLength) → own_property names o k ≡ Some (length_property l l.count) → d ≡ length_property l l.count
    is l own = some_same (sym h ∙ own)

pub closed_objects_gain_nothing : (R S : Type 0) → Exotic_closed_objects_gain_nothing R S
closed_objects_gain_nothing R S names decides decides_made o k closed h =
    own_after_each names decides_made o k (λ m. m ≡ None) h
    (λ cycle x. ordinary.closed_objects_gain_nothing R S names decides decides_made cycle o x k closed h)
    (λ least. subst (λ m. cond (is_below (kept_length least o.properties) k) m None ≡ None) (sym h) (same_both None (is_below (kept_length least o.properties) k)))
    (λ l n own w. absurd (none_some (sym h ∙ own)))
    (λ l d c n w' own w taken. absurd (none_some (sym h ∙ own)))

pub closed_objects_stay_closed : (R S : Type 0) → Exotic_closed_objects_stay_closed R S
closed_objects_stay_closed R S names o closed =
    after_each names o (StaysClosed o) (record { closed = closed; prototype = refl })
    (λ cycle x. ordinary.closed_objects_stay_closed R S names cycle o x closed)
    (λ n l d c own w taken. record { closed = closed; prototype = refl })
    (λ least w l d c own open' taken. record { closed = closed; prototype = refl })
