-- Walks over places: the next live one, and the key at one.
use Rattle.std.proofs.Common.{◌≡◌, ℕ, zero, suc, ◌+◌, ◌<◌, ◌≤◌, Bool, true, false, cond, List, [], ◌∷◌, length, get_or, drop, map, Some, None, Option, refl, ap, ◌∙◌, arith}
use Rattle.std.specs.Option.{option_map}
use Rattle.js_text.specs.declared.value.Value.TheVariants as value
use Rattle.js_store.specs.declared.slot.Entry.{Entry}
use Rattle.js_slots.specs.Tables.{first_live, map_key_at, map_next}
use Rattle.js_store.specs.Tables.{table_entry}

plus_suc : (n : ℕ) (o : Option ℕ) → option_map (λ i. suc n + i) o ≡ option_map (λ i. n + i) (option_map suc o)
plus_suc n None = refl
plus_suc n (Some i) = ap (λ m. Some m) (omega arith)

passed_by : (b : Bool) (n : ℕ) (o : Option ℕ) → b ≡ false → option_map (λ i. suc n + i) o ≡ option_map (λ i. n + i) (cond b (Some 0) (option_map suc o))
passed_by true n o h = cc
passed_by false n o h = plus_suc n o

stopped_by : (b : Bool) (n : ℕ) (o : Option ℕ) → b ≡ true → option_map (λ i. n + i) (cond b (Some 0) o) ≡ Some n
stopped_by true n o h = ap (λ m. Some m) (omega arith)
stopped_by false n o h = cc

module _ {R S : Type 0} where
  -- a search that began further on: `from` counts the places that were passed before
  passes_from : (from at : ℕ) (es : List (Entry R S)) (d : Entry R S) → at < length es → (get_or es at d).live ≡ false
      → option_map (λ i. suc from + i) (first_live (drop (suc at) (map table_entry es))) ≡ option_map (λ i. from + i) (first_live (drop at (map table_entry es)))
  passes_from from at [] d l h = absurd (omega arith)
  passes_from from zero (e ∷ es) d l h = passed_by e.live from (first_live (map table_entry es)) h
  passes_from from (suc at) (e ∷ es) d l h = passes_from from at es d (omega arith) h

  stops_from : (from at : ℕ) (es : List (Entry R S)) (d : Entry R S) → at < length es → (get_or es at d).live ≡ true
      → option_map (λ i. from + i) (first_live (drop at (map table_entry es))) ≡ Some from
  stops_from from at [] d l h = absurd (omega arith)
  stops_from from zero (e ∷ es) d l h = stopped_by e.live from (option_map suc (first_live (map table_entry es))) h
  stops_from from (suc at) (e ∷ es) d l h = stops_from from at es d (omega arith) h

  ends_at : (from at : ℕ) (es : List (Entry R S)) → length es ≤ at → option_map (λ i. from + i) (first_live (drop at (map table_entry es))) ≡ None
  ends_at from zero [] l = refl
  ends_at from (suc at) [] l = refl
  ends_at from zero (e ∷ es) l = absurd (omega arith)
  ends_at from (suc at) (e ∷ es) l = ends_at from at es (omega arith)

  pub passes : (at : ℕ) (es : List (Entry R S)) (d : Entry R S) → at < length es → (get_or es at d).live ≡ false → map_next (at + 1) (map table_entry es) ≡ map_next at (map table_entry es)
  passes at es d l h = let e : at + 1 ≡ suc at = omega arith in ap (λ n. map_next n (map table_entry es)) e ∙ passes_from at at es d l h

  pub stops : (at : ℕ) (es : List (Entry R S)) (d : Entry R S) → at < length es → (get_or es at d).live ≡ true → map_next at (map table_entry es) ≡ Some at
  stops at es d l h = stops_from at at es d l h

  pub ends : (at : ℕ) (es : List (Entry R S)) → length es ≤ at → map_next at (map table_entry es) ≡ None
  ends at es l = ends_at at at es l

  pub key_within : (at : ℕ) (es : List (Entry R S)) (d : Entry R S) → at < length es → map_key_at at (map table_entry es) ≡ cond (get_or es at d).live (get_or es at d).key value.Undefined
  key_within at [] d l = absurd (omega arith)
  key_within zero (e ∷ es) d l = refl
  key_within (suc at) (e ∷ es) d l = key_within at es d (omega arith)

  pub key_past : (at : ℕ) (es : List (Entry R S)) → length es ≤ at → map_key_at at (map table_entry es) ≡ value.Undefined
  key_past at [] l = refl
  key_past zero (e ∷ es) l = absurd (omega arith)
  key_past (suc at) (e ∷ es) l = key_past at es (omega arith)
