-- An array keeps a length above each of its indices, whatever is defined or deleted.
use Rattle.std.proofs.Common.{◌≡◌, ℕ, pos, ◌+◌, ◌≤◌, Bool, true, false, not, ◌&&◌, cond, nat_lt, codes, Option, Some, None, refl, sym, ap, ◌∙◌, subst, arith}
use Rattle.std.specs.Bool.{beq}
use Rattle.std.specs.Option.{unwrap_or}
use Rattle.std.proofs.lemmas.Bool.{and_parts}
use Rattle.std.proofs.lemmas.Bool.Decides.{nat_tests}
use Rattle.js_text.specs.Length.{length_key}
use Rattle.js_text.specs.Naming.{Naming}
use Rattle.js_text.specs.SameKeys.{beq_sound}
use Rattle.js_text.specs.Values.{IsSameness, same_key}
use Rattle.js_text.specs.declared.value.Key.{Key}
use Rattle.js_text.specs.declared.value.Key.TheVariants as key
use Rattle.js_text.specs.declared.value.Value.TheVariants as value
use Rattle.js_desc.specs.Descriptors.{is_accessor_descriptor, data_with, accessor_with}
use Rattle.js_desc.specs.Laws.{after_change}
use Rattle.js_desc.specs.Validate.{keeps, keeps_data, keeps_kind, validate_and_apply_property_descriptor}
use Rattle.js_desc.specs.declared.descriptor.Change.{Change}
use Rattle.js_desc.specs.declared.descriptor.Change.TheVariants as change
use Rattle.js_desc.specs.declared.descriptor.Descriptor.{Descriptor}
use Rattle.js_desc.specs.declared.descriptor.Descriptor.TheVariants.{Data}
use Rattle.js_desc.specs.declared.descriptor.PartialDescriptor.{PartialDescriptor}
use Rattle.js_desc.proofs.Wholes.{accepted}
use Rattle.js_store.specs.Objects.{Object, after, ordinary_get_own_property, with_change, with_replaced, without_property}
use Rattle.js_store.proofs.Own_laws.{written_is_own, writing_leaves_others, removing_leaves_others}
use Rattle.js_ordinary.specs.Verdicts.{own_property}
use Rattle.js_exotic.specs.ArrayDefineOwnProperty.{change_at, changed_length, element_appended, final_length}
use Rattle.js_exotic.specs.ArrayLengths.{array_length_of, is_below, kept_length, length_property, without_elements}
use Rattle.js_exotic.specs.Soundness.{HasLength}
use Rattle.js_exotic.specs.declared.array_length.ArrayLength.{ArrayLength}
use Rattle.js_exotic.specs.declared.array_length.TheConstants.{LENGTH_LIMIT}
use Rattle.js_exotic.proofs.Array_laws.{AllBelow, IsRead, read, says, below_after, below_without, below_replaced, below_more, below_left, kept_below, found_left, found_replaced}

not_false : (b : Bool) → not b ≡ true → b ≡ false
not_false true h = absurd cc
not_false false h = refl

some_same : {X : Type 0} {a b : X} → Some a ≡ Some b → a ≡ b
some_same h = cc

truth_kept : (o : Option Bool) (there : Bool) → keeps beq o there ≡ true → unwrap_or o there ≡ there
truth_kept None there h = refl
truth_kept (Some x) there h = beq_sound x there h

module _ {R S : Type 0} (names : Naming R S) (decides : IsSameness names.same) (decides_made : IsSameness names.same_symbol) (o : Object R S) (h : HasLength names o) where
  pub own_is : IsRead (own_property names o length_key) h.number
  own_is = read (own_property names o length_key) h.number h.is_own

  -- ANOTHER KEY

  other_own : (k : Key S) (c : Change R S) → same_key names.same_symbol length_key k ≡ false → ordinary_get_own_property names.same_symbol length_key (after names.same_symbol k c o.properties) ≡ own_property names o length_key
  other_own k change.Nothing apart = refl
  other_own k (change.Write d) apart = writing_leaves_others R S names.same_symbol decides_made k length_key d o.properties apart

  pub length_beside : (k : Key S) (c : Change R S) → same_key names.same_symbol length_key k ≡ false → is_below h.number.count k ≡ true → HasLength names (with_change names.same_symbol k c o)
  length_beside k c apart under = record {
    number = h.number;
    is_own = ap array_length_of (other_own k c apart) ∙ h.is_own;
    is_fixed = h.is_fixed;
    is_above = below_after names.same_symbol h.number.count k c o.properties under h.is_above;
  }

  pub length_without : (k : Key S) → same_key names.same_symbol length_key k ≡ false → HasLength names (without_property names.same_symbol k o)
  length_without k apart = record {
    number = h.number;
    is_own = ap array_length_of (removing_leaves_others R S names.same_symbol decides_made k length_key o.properties apart) ∙ h.is_own;
    is_fixed = h.is_fixed;
    is_above = below_without names.same_symbol h.number.count k o.properties h.is_above;
  }

  -- AN ELEMENT AT OR PAST THE LENGTH

  pub length_appended : (l : ArrayLength) (n : ℕ) (c : Change R S) → Some h.number ≡ Some l → l.count ≤ n → nat_lt (n + 1) LENGTH_LIMIT ≡ true → HasLength names (element_appended names n c l o)
  length_appended l n c same past within =
      let sl : h.number ≡ l = cc in
      let other : same_key names.same_symbol length_key (key.Index n) ≡ false = refl in
      let ps = after names.same_symbol (key.Index n) c o.properties in
      let there : ordinary_get_own_property names.same_symbol length_key ps ≡ Some (length_property h.number h.number.count) = other_own (key.Index n) c other ∙ own_is.property in
      let more : AllBelow (n + 1) o.properties = below_more names.same_symbol h.number.count (n + 1) o.properties (let e : h.number.count ≡ l.count = ap (λ (x : ArrayLength). x.count) sl in omega arith) h.is_above in
      record {
        number = record l { count = n + 1 };
        is_own = ap array_length_of (found_replaced names.same_symbol length_key (length_property l (n + 1)) (length_property h.number h.number.count) ps there) ∙ says R S (n + 1) l.writable l.enumerable l.configurable within;
        is_fixed = sym (ap (λ (x : ArrayLength). x.configurable) sl) ∙ h.is_fixed;
        is_above = below_replaced names.same_symbol (n + 1) length_key (length_property l (n + 1)) ps (below_after names.same_symbol (n + 1) (key.Index n) c o.properties (grind (arith, nat_tests)) more);
      }

  -- THE LENGTH ITSELF

  own_after : (c : Change R S) → ordinary_get_own_property names.same_symbol length_key (after names.same_symbol length_key c o.properties) ≡ after_change (own_property names o length_key) c
  own_after change.Nothing = refl
  own_after (change.Write d) = written_is_own R S names.same_symbol decides_made length_key d o.properties

  abbrev w : Bool
  w = h.number.writable

  abbrev e : Bool
  e = h.number.enumerable

  abbrev there : Descriptor R S
  there = length_property h.number h.number.count

  -- what an accepted definition leaves: a property that is not configurable
  left_fixed : (d : PartialDescriptor R S) (c : Change R S) → change_at names o length_key d ≡ Some c
      → (after_change (Some there) c ≡ Some (Data (unwrap_or d.value (value.Int (pos h.number.count))) (unwrap_or d.writable w) (unwrap_or d.enumerable e) false))
  left_fixed d c taken =
      let fixed : length_property {R = R} {S = S} h.number h.number.count ≡ Data (value.Int (pos h.number.count)) w e false = ap (λ b. Data (value.Int (pos h.number.count)) w e b) h.is_fixed in
      let taken' = subst (λ x. validate_and_apply_property_descriptor names.same names.same_symbol x o.extensible d ≡ Some c) (own_is.property ∙ ap (λ x. Some x) fixed) taken in
      let a = accepted decides decides_made (Data (value.Int (pos h.number.count)) w e false) o.extensible d c taken' in
      let one = and_parts (keeps beq d.configurable false) (keeps beq d.enumerable e && keeps_kind names.same names.same_symbol (Data (value.Int (pos h.number.count)) w e false) d) a.0 in
      let two = and_parts (keeps beq d.enumerable e) (keeps_kind names.same names.same_symbol (Data (value.Int (pos h.number.count)) w e false) d) one.1 in
      let three = and_parts (not (is_accessor_descriptor d)) (keeps_data names.same names.same_symbol (value.Int (pos h.number.count)) w d) two.1 in
      ap (λ x. after_change (Some x) c) fixed
      ∙ (a.1
      ∙ (ap (λ b. Some (cond b (accessor_with d None None e false) (data_with d (value.Int (pos h.number.count)) w e false))) (not_false (is_accessor_descriptor d) three.0)
      ∙ ap (λ b. Some (Data (unwrap_or d.value (value.Int (pos h.number.count))) (unwrap_or d.writable w) (unwrap_or d.enumerable e) b)) (truth_kept d.configurable false one.0)))

  -- a definition of the length that is accepted, and gives this number or none
  pub length_defined : (d : PartialDescriptor R S) (c : Change R S) (n : ℕ) → change_at names o length_key d ≡ Some c
      → unwrap_or d.value (value.Int (pos h.number.count)) ≡ value.Int (pos n) → h.number.count ≤ n → nat_lt n LENGTH_LIMIT ≡ true
      → HasLength names (with_change names.same_symbol length_key c o)
  length_defined d c n taken given past within =
      record {
        number = record { count = n; writable = unwrap_or d.writable w; enumerable = unwrap_or d.enumerable e; configurable = false };
        is_own =
            ap array_length_of (own_after c ∙ (ap (λ x. after_change x c) own_is.property ∙ (left_fixed d c taken ∙ ap (λ v. Some (Data v (unwrap_or d.writable w) (unwrap_or d.enumerable e) false)) given)))
            ∙ says R S n (unwrap_or d.writable w) (unwrap_or d.enumerable e) false within;
        is_fixed = refl;
        is_above = below_after names.same_symbol n length_key c o.properties refl (below_more names.same_symbol h.number.count n o.properties past h.is_above);
      }

  -- what the property is after a change
  now_is : (l : ArrayLength) (c : Change R S) → Some h.number ≡ Some l → after_change (Some there) c ≡ Some (changed_length l c)
  now_is l change.Nothing same = let sl : h.number ≡ l = cc in ap (λ (x : ArrayLength). Some (length_property x x.count)) sl
  now_is l (change.Write p) same = refl

  pub length_lowered : (l : ArrayLength) (d : PartialDescriptor R S) (c : Change R S) (least : ℕ) (writable : Bool) → Some h.number ≡ Some l
      → change_at names o length_key d ≡ Some c → least ≤ l.count
      → HasLength names (with_replaced names.same_symbol length_key (final_length (kept_length least o.properties) writable (changed_length l c)) (without_elements (kept_length least o.properties) o))
  length_lowered l d c least writable same taken le =
      let sl : h.number ≡ l = cc in
      let stop : ℕ = kept_length least o.properties in
      let le' : least ≤ h.number.count = (let q : h.number.count ≡ l.count = ap (λ (x : ArrayLength). x.count) sl in omega arith) in
      let bound : stop ≤ h.number.count = kept_below names.same_symbol least h.number.count o.properties le' h.is_above in
      let inside = own_is.within in
      let within : nat_lt stop LENGTH_LIMIT ≡ true = grind (arith, nat_tests) in
      let now : Some (changed_length l c) ≡ Some (Data (unwrap_or d.value (value.Int (pos h.number.count))) (unwrap_or d.writable w) (unwrap_or d.enumerable e) false) = sym (now_is l c same) ∙ left_fixed d c taken in
      let is_data : changed_length l c ≡ Data (unwrap_or d.value (value.Int (pos h.number.count))) (unwrap_or d.writable w) (unwrap_or d.enumerable e) false = some_same now in
      let found = found_replaced names.same_symbol length_key (final_length stop writable (changed_length l c)) there (without_elements stop o).properties (found_left names.same_symbol stop (codes "length") o.properties ∙ own_is.property) in
      record {
        number = record { count = stop; writable = writable; enumerable = unwrap_or d.enumerable e; configurable = false };
        is_own = ap array_length_of (found ∙ ap (λ x. Some (final_length stop writable x)) is_data) ∙ says R S stop writable (unwrap_or d.enumerable e) false within;
        is_fixed = refl;
        is_above = below_replaced names.same_symbol stop length_key (final_length stop writable (changed_length l c)) (without_elements stop o).properties (below_left names.same_symbol stop o.properties);
      }
