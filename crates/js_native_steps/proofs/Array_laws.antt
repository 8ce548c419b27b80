-- The array of js_operations is that of the rows.
use Rattle.std.proofs.Common.{◌≡◌, ℕ, suc, ◌+◌, ◌<◌, Bool, true, false, List, [], ◌∷◌, ◌++◌, length, Some, eqb, ltb, if◌then◌else◌, refl, sym, ap, ◌∙◌, subst, arith, append-nil, append_assoc, length-append, Result, OnOk}
use Rattle.std.proofs.lemmas.Bool.{eqb-true, le-ltb}
use Rattle.lava_base.specs.Ids.{same_made_symbol}
use Rattle.lava_base.specs.declared.ids.MadeSymbol.{MadeSymbol}
use Rattle.lava_base.specs.declared.ids.Ref.{Ref}
use Rattle.js_text.specs.Naming.{naming_of}
use Rattle.js_text.specs.declared.value.Key.{Key}
use Rattle.js_text.specs.declared.value.Key.TheVariants as key
use Rattle.js_text.specs.declared.value.Value.{Value}
use Rattle.js_desc.specs.declared.descriptor.Descriptor.{Descriptor}
use Rattle.js_desc.specs.declared.descriptor.Descriptor.TheVariants.{Data}
use Rattle.js_run.specs.js_operations.MadeObjects as operations
use Rattle.js_run.specs.js_operations.MadeObjects.{with_elements}
use Rattle.js_store.specs.Frozen.{common_ref}
use Rattle.js_store.specs.Objects.{Object, written}
use Rattle.js_store.specs.declared.slot.Slot.TheVariants as slot
use Rattle.js_run.specs.Functions.{array_length_entry, array_marks, array_of, elements_from, open_property}
use Rattle.js_run.specs.declared.intrinsics.TheConstants.{ARRAY_PROTOTYPE}

abbrev V : Type 0
V = Value Ref MadeSymbol

abbrev Values : Type 0
Values = List V

unequal : (n k : ℕ) (b : Bool) → eqb n k ≡ b → k < n → b ≡ false
unequal n k true e l = absurd (omega (arith, l, eqb-true n k e))
unequal n k false e l = refl

module _ {R S : Type 0} (same : S → S → Bool) (m : ℕ) where
  -- a new last element stands before the length
  last_put : (k n : ℕ) (us : List (Value R S)) (v : Value R S) → k + length us ≡ n
      → written same (key.Index n) (Data v true true true) (elements_from k us ++ array_length_entry m ∷ []) ≡ elements_from k (us ++ v ∷ []) ++ array_length_entry m ∷ []
  last_put k n [] v e = let at : n ≡ k = omega (arith, e) in ap (λ i. open_property (key.Index i) v ∷ array_length_entry m ∷ []) at
  last_put k n (u ∷ us) v e =
      let less : k < n = omega (arith, e) in
      let other : eqb n k ≡ false = unequal n k (eqb n k) refl less in
      let behind : ltb n k ≡ false = le-ltb n k (omega (arith, less)) in
      let d : Descriptor R S = Data v true true true in
      let rest : List (Key S × Descriptor R S) = elements_from (suc k) us ++ array_length_entry m ∷ [] in
      (λ i. if other i then (key.Index k, d) ∷ rest else (if behind i then (key.Index n, d) ∷ open_property (key.Index k) u ∷ rest else open_property (key.Index k) u ∷ written same (key.Index n) d rest))
      ∙ ap (λ ps. open_property (key.Index k) u ∷ ps) (last_put (suc k) n us v (omega (arith, e)))

abbrev array_with : List (Key MadeSymbol × Descriptor Ref MadeSymbol) → Object Ref MadeSymbol
array_with ps = record { prototype = Some (common_ref ARRAY_PROTOTYPE); extensible = true; properties = ps; slot = slot.Plain; marks = array_marks }

elements_put : (m n : ℕ) (us vs : Values) → length us ≡ n
    → with_elements same_made_symbol n vs (array_with (elements_from 0 us ++ array_length_entry m ∷ [])) ≡ array_with (elements_from 0 (us ++ vs) ++ array_length_entry m ∷ [])
elements_put m n us [] e = ap (λ xs. array_with (elements_from 0 xs ++ array_length_entry m ∷ [])) (sym (append-nil us))
elements_put m n us (v ∷ vs) e =
    let more : length (us ++ v ∷ []) ≡ n + 1 = length-append us (v ∷ []) ∙ omega (arith, e) in
    ap (λ ps. with_elements same_made_symbol (n + 1) vs (array_with ps)) (last_put same_made_symbol m 0 n us v (omega (arith, e)))
    ∙ elements_put m (n + 1) (us ++ v ∷ []) vs more
    ∙ ap (λ xs. array_with (elements_from 0 xs ++ array_length_entry m ∷ [])) (append_assoc us (v ∷ []) vs)

-- the array of js_operations is that of the rows
array_same : (me : ℕ) (vs : Values) → operations.array_of same_made_symbol common_ref vs ≡ array_of (naming_of me) vs
array_same me vs = elements_put (length vs) 0 [] vs refl

pub array_made : {A E : Type 0} (r : Result A E) (me : ℕ) (vs : Values) (os ns : List (Object Ref MadeSymbol)) → OnOk r (ns ≡ os ++ operations.array_of same_made_symbol common_ref vs ∷ []) → OnOk r (ns ≡ os ++ array_of (naming_of me) vs ∷ [])
array_made r me vs os ns h = subst (λ o. OnOk r (ns ≡ os ++ o ∷ [])) (array_same me vs) h
