-- The place of a key, and what is found there.
use Rattle.std.proofs.Common.{◌≡◌, ℕ, zero, suc, ◌+◌, ◌<◌, ◌≤◌, Bool, true, false, cond, List, [], ◌∷◌, length, get_or, drop, map, Some, None, Option, refl, ap, ◌∙◌, arith}
use Rattle.std.specs.Option.{option_map}
use Rattle.js_text.specs.declared.value.Value.{Value}
use Rattle.js_text.specs.declared.value.Value.TheVariants as value
use Rattle.js_store.specs.declared.slot.Entry.{Entry}
use Rattle.js_slots.specs.Tables.{has_key, map_get, place_of}
use Rattle.js_store.specs.Tables.{table_entry}

plus_suc : (n : ℕ) (o : Option ℕ) → option_map (λ i. suc n + i) o ≡ option_map (λ i. n + i) (option_map suc o)
plus_suc n None = refl
plus_suc n (Some i) = ap (λ m. Some m) (omega arith)

passed_by : (b : Bool) (n : ℕ) (o : Option ℕ) → b ≡ false → option_map (λ i. suc n + i) o ≡ option_map (λ i. n + i) (cond b (Some 0) (option_map suc o))
passed_by true n o h = cc
passed_by false n o h = plus_suc n o

stopped_by : (b : Bool) (n : ℕ) (o : Option ℕ) → b ≡ true → option_map (λ i. n + i) (cond b (Some 0) o) ≡ Some n
stopped_by true n o h = ap (λ m. Some m) (omega arith)
stopped_by false n o h = cc

from_start : (o : Option ℕ) → option_map (λ i. 0 + i) o ≡ o
from_start None = refl
from_start (Some i) = ap Some (omega arith)

pub kept_by : {A : Type 0} (b : Bool) (x y z : A) → b ≡ false → y ≡ z → cond b x y ≡ z
kept_by true x y z h e = cc
kept_by false x y z h e = e

pub missing_by : (b : Bool) (o : Option ℕ) → cond b (Some 0) (option_map suc o) ≡ None → (b ≡ false) × (o ≡ None)
missing_by true o h = cc
missing_by false None h = (refl, refl)
missing_by false (Some j) h = cc

within_by : (b : Bool) (o : Option ℕ) (n i : ℕ) → ((j : ℕ) → o ≡ Some j → j < n) → cond b (Some 0) (option_map suc o) ≡ Some i → i < suc n
within_by true o n i f h = let e : 0 ≡ i = cc in omega arith
within_by false None n i f h = cc
within_by false (Some j) n i f h = let e : suc j ≡ i = cc in let l : j < n = f j refl in omega arith

module _ {R S : Type 0} (same : Value R S → Value R S → Bool) (k : Value R S) where
  -- the place of the key from one on
  abbrev pub found_from : ℕ → List (Entry R S) → Option ℕ
  found_from at es = option_map (λ i. at + i) (place_of same k (map table_entry (drop at es)))

  -- a search that began further on: `from` counts the places that were passed before
  passes_from : (from at : ℕ) (es : List (Entry R S)) (d : Entry R S) → at < length es → has_key same k (table_entry (get_or es at d)) ≡ false
      → option_map (λ i. suc from + i) (place_of same k (map table_entry (drop (suc at) es))) ≡ option_map (λ i. from + i) (place_of same k (map table_entry (drop at es)))
  passes_from from at [] d l h = absurd (omega arith)
  passes_from from zero (e ∷ es) d l h = passed_by (has_key same k (table_entry e)) from (place_of same k (map table_entry es)) h
  passes_from from (suc at) (e ∷ es) d l h = passes_from from at es d (omega arith) h

  stops_from : (from at : ℕ) (es : List (Entry R S)) (d : Entry R S) → at < length es → has_key same k (table_entry (get_or es at d)) ≡ true
      → option_map (λ i. from + i) (place_of same k (map table_entry (drop at es))) ≡ Some from
  stops_from from at [] d l h = absurd (omega arith)
  stops_from from zero (e ∷ es) d l h = stopped_by (has_key same k (table_entry e)) from (option_map suc (place_of same k (map table_entry es))) h
  stops_from from (suc at) (e ∷ es) d l h = stops_from from at es d (omega arith) h

  ends_at : (from at : ℕ) (es : List (Entry R S)) → length es ≤ at → option_map (λ i. from + i) (place_of same k (map table_entry (drop at es))) ≡ None
  ends_at from zero [] l = refl
  ends_at from (suc at) [] l = refl
  ends_at from zero (e ∷ es) l = absurd (omega arith)
  ends_at from (suc at) (e ∷ es) l = ends_at from at es (omega arith)

  pub passes : (at : ℕ) (es : List (Entry R S)) (d : Entry R S) → at < length es → has_key same k (table_entry (get_or es at d)) ≡ false → found_from (at + 1) es ≡ found_from at es
  passes at es d l h = let e : at + 1 ≡ suc at = omega arith in ap (λ n. found_from n es) e ∙ passes_from at at es d l h

  pub stops : (at : ℕ) (es : List (Entry R S)) (d : Entry R S) → at < length es → has_key same k (table_entry (get_or es at d)) ≡ true → found_from at es ≡ Some at
  stops at es d l h = stops_from at at es d l h

  pub ends : (at : ℕ) (es : List (Entry R S)) → length es ≤ at → found_from at es ≡ None
  ends at es l = ends_at at at es l

  pub begins : (es : List (Entry R S)) → found_from 0 es ≡ place_of same k (map table_entry es)
  begins es = from_start (place_of same k (map table_entry es))

  -- WHERE THE KEY IS

  value_by : (b : Bool) (o : Option ℕ) (e d : Entry R S) (es : List (Entry R S)) (v : Value R S) (i : ℕ) → ((j : ℕ) → o ≡ Some j → v ≡ (get_or es j d).value)
      → cond b (Some 0) (option_map suc o) ≡ Some i → cond b e.value v ≡ (get_or (e ∷ es) i d).value
  value_by true o e d es v i f h = let p : 0 ≡ i = cc in ap (λ n. (get_or (e ∷ es) n d).value) p
  value_by false None e d es v i f h = cc
  value_by false (Some j) e d es v i f h = let p : suc j ≡ i = cc in f j refl ∙ ap (λ n. (get_or (e ∷ es) n d).value) p

  pub found_within : (es : List (Entry R S)) (i : ℕ) → place_of same k (map table_entry es) ≡ Some i → i < length es
  found_within [] i h = cc
  found_within (e ∷ es) i h = within_by (has_key same k (table_entry e)) (place_of same k (map table_entry es)) (length es) i (λ j p. found_within es j p) h

  pub value_found : (es : List (Entry R S)) (i : ℕ) (d : Entry R S) → place_of same k (map table_entry es) ≡ Some i → map_get same k (map table_entry es) ≡ (get_or es i d).value
  value_found [] i d h = cc
  value_found (e ∷ es) i d h = value_by (has_key same k (table_entry e)) (place_of same k (map table_entry es)) e d es (map_get same k (map table_entry es)) i (λ j p. value_found es j d p) h

  pub value_missing : (es : List (Entry R S)) → place_of same k (map table_entry es) ≡ None → map_get same k (map table_entry es) ≡ value.Undefined
  value_missing [] h = refl
  value_missing (e ∷ es) h =
      let m = missing_by (has_key same k (table_entry e)) (place_of same k (map table_entry es)) h in
      kept_by (has_key same k (table_entry e)) e.value (map_get same k (map table_entry es)) value.Undefined m.0 (value_missing es m.1)
