-- What is found at the place of a key, and what a change of it makes of the list of places.
use Rattle.std.proofs.Common.{◌≡◌, ℕ, suc, ◌<◌, Bool, true, false, cond, List, [], ◌∷◌, ◌++◌, length, get_or, Some, None, Option, refl, ap, ◌∙◌, arith}
use Rattle.std.specs.Prelude.{slice_set}
use Rattle.std.specs.Option.{option_map}
use Rattle.js_text.specs.declared.value.Value.{Value}
use Rattle.js_text.specs.declared.value.Value.TheVariants as value
use Rattle.js_slots.specs.Tables.{dead_entry, has_key, live_entry, map_delete, map_get, map_set, place_of, with_value}
use Rattle.js_slots.specs.declared.entry.TableEntry.{TableEntry}

-- BY CASES

pub kept_by : {A : Type 0} (b : Bool) (x y z : A) → b ≡ false → y ≡ z → cond b x y ≡ z
kept_by true x y z h e = cc
kept_by false x y z h e = e

pub missing_by : (b : Bool) (o : Option ℕ) → cond b (Some 0) (option_map suc o) ≡ None → (b ≡ false) × (o ≡ None)
missing_by true o h = cc
missing_by false None h = (refl, refl)
missing_by false (Some j) h = cc

within_by : (b : Bool) (o : Option ℕ) (n i : ℕ) → ((j : ℕ) → o ≡ Some j → j < n) → cond b (Some 0) (option_map suc o) ≡ Some i → i < suc n
within_by true o n i f h = let e : 0 ≡ i = cc in omega arith
within_by false None n i f h = cc
within_by false (Some j) n i f h = let e : suc j ≡ i = cc in let l : j < n = f j refl in omega arith

module _ {R S : Type 0} where
  value_by : (b : Bool) (o : Option ℕ) (e d : TableEntry R S) (es : List (TableEntry R S)) (v : Value R S) (i : ℕ) → ((j : ℕ) → o ≡ Some j → v ≡ (get_or es j d).value)
      → cond b (Some 0) (option_map suc o) ≡ Some i → cond b e.value v ≡ (get_or (e ∷ es) i d).value
  value_by true o e d es v i f h = let p : 0 ≡ i = cc in ap (λ n. (get_or (e ∷ es) n d).value) p
  value_by false None e d es v i f h = cc
  value_by false (Some j) e d es v i f h = let p : suc j ≡ i = cc in f j refl ∙ ap (λ n. (get_or (e ∷ es) n d).value) p

  changed_by : (x : TableEntry R S → TableEntry R S) (b : Bool) (o : Option ℕ) (e d : TableEntry R S) (es rest : List (TableEntry R S)) (i : ℕ)
      → ((j : ℕ) → o ≡ Some j → rest ≡ slice_set es j (x (get_or es j d)))
      → cond b (Some 0) (option_map suc o) ≡ Some i → cond b (x e ∷ es) (e ∷ rest) ≡ slice_set (e ∷ es) i (x (get_or (e ∷ es) i d))
  changed_by x true o e d es rest i f h = let p : 0 ≡ i = cc in ap (λ n. slice_set (e ∷ es) n (x (get_or (e ∷ es) n d))) p
  changed_by x false None e d es rest i f h = cc
  changed_by x false (Some j) e d es rest i f h = let p : suc j ≡ i = cc in ap (λ l. e ∷ l) (f j refl) ∙ ap (λ n. slice_set (e ∷ es) n (x (get_or (e ∷ es) n d))) p

-- WHERE THE KEY IS

pub found_within : {R S : Type 0} (same : Value R S → Value R S → Bool) (k : Value R S) (es : List (TableEntry R S)) (i : ℕ) → place_of same k es ≡ Some i → i < length es
found_within same k [] i h = cc
found_within same k (e ∷ es) i h = within_by (has_key same k e) (place_of same k es) (length es) i (λ j p. found_within same k es j p) h

pub value_found : {R S : Type 0} (same : Value R S → Value R S → Bool) (k : Value R S) (es : List (TableEntry R S)) (i : ℕ) (d : TableEntry R S)
    → place_of same k es ≡ Some i → map_get same k es ≡ (get_or es i d).value
value_found same k [] i d h = cc
value_found same k (e ∷ es) i d h = value_by (has_key same k e) (place_of same k es) e d es (map_get same k es) i (λ j p. value_found same k es j d p) h

pub set_found : {R S : Type 0} (same : Value R S → Value R S → Bool) (k v : Value R S) (es : List (TableEntry R S)) (i : ℕ) (d : TableEntry R S)
    → place_of same k es ≡ Some i → map_set same k v es ≡ slice_set es i (with_value v (get_or es i d))
set_found same k v [] i d h = cc
set_found same k v (e ∷ es) i d h = changed_by (with_value v) (has_key same k e) (place_of same k es) e d es (map_set same k v es) i (λ j p. set_found same k v es j d p) h

pub delete_found : {R S : Type 0} (same : Value R S → Value R S → Bool) (k : Value R S) (es : List (TableEntry R S)) (i : ℕ)
    → place_of same k es ≡ Some i → map_delete same k es ≡ slice_set es i dead_entry
delete_found same k [] i h = cc
delete_found same k (e ∷ es) i h = changed_by (λ _. dead_entry) (has_key same k e) (place_of same k es) e e es (map_delete same k es) i (λ j p. delete_found same k es j p) h

-- WHERE IT IS NOT

pub value_missing : {R S : Type 0} (same : Value R S → Value R S → Bool) (k : Value R S) (es : List (TableEntry R S)) → place_of same k es ≡ None → map_get same k es ≡ value.Undefined
value_missing same k [] h = refl
value_missing same k (e ∷ es) h =
    let m = missing_by (has_key same k e) (place_of same k es) h in
    kept_by (has_key same k e) e.value (map_get same k es) value.Undefined m.0 (value_missing same k es m.1)

pub set_missing : {R S : Type 0} (same : Value R S → Value R S → Bool) (k v : Value R S) (es : List (TableEntry R S)) → place_of same k es ≡ None → map_set same k v es ≡ es ++ live_entry k v ∷ []
set_missing same k v [] h = refl
set_missing same k v (e ∷ es) h =
    let m = missing_by (has_key same k e) (place_of same k es) h in
    kept_by (has_key same k e) (with_value v e ∷ es) (e ∷ map_set same k v es) (e ∷ (es ++ live_entry k v ∷ [])) m.0 (ap (λ l. e ∷ l) (set_missing same k v es m.1))

pub delete_missing : {R S : Type 0} (same : Value R S → Value R S → Bool) (k : Value R S) (es : List (TableEntry R S)) → place_of same k es ≡ None → map_delete same k es ≡ es
delete_missing same k [] h = refl
delete_missing same k (e ∷ es) h =
    let m = missing_by (has_key same k e) (place_of same k es) h in
    kept_by (has_key same k e) (dead_entry ∷ es) (e ∷ map_delete same k es) (e ∷ es) m.0 (ap (λ l. e ∷ l) (delete_missing same k es m.1))
