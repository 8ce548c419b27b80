-- What a change of one place makes of a table and of the index beside it.
use Rattle.std.proofs.Common.{◌≡◌, ℕ, zero, suc, ◌+◌, ◌<◌, ◌≤◌, ◌^◌, Bool, true, false, cond, List, [], ◌∷◌, ◌++◌, length, get_or, take, map, Some, None, Option, is_some, Result, Ok, Err, IfOk, OnOk, refl, sym, ap, subst, ◌∙◌, arith, ◌&&◌, length-append}
use Rattle.std.specs.Bool.{Decides}
use Rattle.std.specs.Cmp.{first_so, second_so}
use Rattle.std.specs.HashMap.{IsUnchanged}
use Rattle.std.specs.Map.{lookup}
use Rattle.std.specs.Option.{option_map}
use Rattle.std.specs.Prelude.{slice_set}
use Rattle.lava_base.specs.Ids.{same_ref, same_made_symbol}
use Rattle.lava_base.specs.declared.ids.MadeSymbol.{MadeSymbol}
use Rattle.lava_base.specs.declared.ids.Ref.{Ref}
use Rattle.js_text.specs.Values.{same_value}
use Rattle.js_text.specs.declared.native.Native.{Native}
use Rattle.js_text.specs.declared.value.Value.{Value}
use Rattle.js_text.specs.declared.value.Value.TheVariants as value
use Rattle.js_slots.proofs.Kept_laws.{kept_append, kept_clear, kept_delete, kept_set, machine_decides, size_within, some_live}
use Rattle.js_slots.proofs.Places_laws.{delete_found, delete_missing, found_within, set_found, set_missing, value_found, value_missing}
use Rattle.js_slots.specs.TableAnswers.{table_answer}
use Rattle.js_slots.specs.TableKeys.{same_table_key}
use Rattle.js_slots.specs.Tables.{IsKept, IsOnlyOne, IsTable, dead_entry, has_key, live_entry, map_clear, map_delete, map_get, map_set, map_size, place_of, with_value}
use Rattle.js_slots.specs.declared.entry.TableEntry.{TableEntry}
use Rattle.js_store.specs.Indexed.{IsIndexOf, noted}
use Rattle.js_store.specs.Objects.{Object, with_slot}
use Rattle.js_store.specs.Tables.{entries_of, store_entry, table_entry, with_places}
use Rattle.js_store.specs.declared.slot.Entry.{Entry}
use Rattle.js_store.specs.declared.slot.Slot.TheVariants as slot
use Rattle.js_store.specs.declared.table_index.TableIndex.{TableIndex}

-- BY CASES

pub none_of : (o : Option ℕ) → is_some o ≡ false → o ≡ None
none_of None h = refl
none_of (Some n) h = cc

pub ok_so : {A E P Q : Type 0} (r : Result A E) → (P → Q) → OnOk r P → OnOk r Q
ok_so (Ok x) f p = f p
ok_so (Err e) f p = tt

-- PLACES AS THOSE OF A TABLE

module _ {R S : Type 0} where
  -- and back
  pub there_back : (es : List (Entry R S)) → map store_entry (map table_entry es) ≡ es
  there_back [] = refl
  there_back (e ∷ es) = ap (λ l. e ∷ l) (there_back es)

  pub length_places : (es : List (Entry R S)) → length (map table_entry es) ≡ length es
  length_places [] = refl
  length_places (e ∷ es) = ap suc (length_places es)

  map_joined : (es fs : List (Entry R S)) → map table_entry (es ++ fs) ≡ map table_entry es ++ map table_entry fs
  map_joined [] fs = refl
  map_joined (e ∷ es) fs = ap (λ t. table_entry e ∷ t) (map_joined es fs)

  pub map_set_at : (es : List (Entry R S)) (i : ℕ) (y : Entry R S) → map table_entry (slice_set es i y) ≡ slice_set (map table_entry es) i (table_entry y)
  map_set_at [] i y = refl
  map_set_at (e ∷ es) zero y = refl
  map_set_at (e ∷ es) (suc i) y = ap (λ t. table_entry e ∷ t) (map_set_at es i y)

  get_at : (es : List (Entry R S)) (i : ℕ) (d : Entry R S) → get_or (map table_entry es) i (table_entry d) ≡ table_entry (get_or es i d)
  get_at [] i d = refl
  get_at (e ∷ es) zero d = refl
  get_at (e ∷ es) (suc i) d = get_at es i d

  -- the first ones of a longer list
  pub first_ones : (es : List (Entry R S)) (e : Entry R S) → take (length es) (es ++ e ∷ []) ≡ es
  first_ones [] e = refl
  first_ones (x ∷ es) e = ap (λ t. x ∷ t) (first_ones es e)

-- THE PLACE OF A KEY

module _ {R S : Type 0} {same : Value R S → Value R S → Bool} (decides : (a b : Value R S) → Decides (same a b) (a ≡ b)) where
  here_live : (k v : Value R S) (e : TableEntry R S) → has_key same k e ≡ true → with_value v e ≡ live_entry k v
  here_live k v e h =
      let live = first_so e.live (same k e.key) h in
      let key = (decides k e.key).0 (second_so e.live (same k e.key) h) in
      cc

  live_by : (b : Bool) (o : Option ℕ) (k v : Value R S) (e d : TableEntry R S) (es : List (TableEntry R S)) (i : ℕ) → has_key same k e ≡ b
      → ((j : ℕ) → o ≡ Some j → with_value v (get_or es j d) ≡ live_entry k v) → cond b (Some 0) (option_map suc o) ≡ Some i → with_value v (get_or (e ∷ es) i d) ≡ live_entry k v
  live_by true o k v e d es i t f h = let p : 0 ≡ i = cc in ap (λ n. with_value v (get_or (e ∷ es) n d)) (sym p) ∙ here_live k v e t
  live_by false None k v e d es i t f h = cc
  live_by false (Some j) k v e d es i t f h = let p : suc j ≡ i = cc in ap (λ n. with_value v (get_or (e ∷ es) n d)) (sym p) ∙ f j refl

  -- the place where a key is found is live and has that key
  live_there : (k v : Value R S) (es : List (TableEntry R S)) (i : ℕ) (d : TableEntry R S) → place_of same k es ≡ Some i → with_value v (get_or es i d) ≡ live_entry k v
  live_there k v [] i d h = cc
  live_there k v (e ∷ es) i d h = live_by (has_key same k e) (place_of same k es) k v e d es i refl (λ j p. live_there k v es j d p) h

-- WITH AN INDEX

abbrev Keyed : Type 0
Keyed = Value Ref MadeSymbol

abbrev Places : Type 0
Places = List (Entry Ref MadeSymbol)

abbrev pub alike : Keyed → Keyed → Bool
alike = same_value same_ref same_made_symbol

module _ (ix : TableIndex) (es : Places) (kept : IsIndexOf ix es) where
  pub found_place : (k : Keyed) (i : ℕ) → noted ix k ≡ Some i → place_of alike k (map table_entry es) ≡ Some i
  found_place k i h = sym (kept.indexed k) ∙ h

  pub missing_place : (k : Keyed) → noted ix k ≡ None → place_of alike k (map table_entry es) ≡ None
  missing_place k h = sym (kept.indexed k) ∙ h

  pub noted_within : (k : Keyed) (i : ℕ) → noted ix k ≡ Some i → i < length es
  noted_within k i h = subst (λ n. i < n) (length_places es) (found_within alike k (map table_entry es) i (found_place k i h))

  pub value_noted : (k : Keyed) (i : ℕ) (d : Entry Ref MadeSymbol) → noted ix k ≡ Some i → map_get alike k (map table_entry es) ≡ (get_or es i d).value
  value_noted k i d h = value_found alike k (map table_entry es) i (table_entry d) (found_place k i h) ∙ ap (λ (e : TableEntry Ref MadeSymbol). e.value) (get_at es i d)

  pub value_unnoted : (k : Keyed) → noted ix k ≡ None → map_get alike k (map table_entry es) ≡ value.Undefined
  value_unnoted k h = value_missing alike k (map table_entry es) (missing_place k h)

  pub few_places : length es < 2 ^ 32
  few_places = subst (λ n. n < 2 ^ 32) (length_places es) kept.few

  pub some_noted : (k : Keyed) (i : ℕ) → noted ix k ≡ Some i → 0 < ix.live
  some_noted k i h = subst (λ n. 0 < n) (sym kept.count) (some_live alike machine_decides k (map table_entry es) i (found_place k i h))

  -- A VALUE IS PUT AT A KEY

  set_noted : (k v : Keyed) (i : ℕ) (e : Entry Ref MadeSymbol) → noted ix k ≡ Some i → table_entry e ≡ live_entry k v → map table_entry (slice_set es i e) ≡ map_set alike k v (map table_entry es)
  set_noted k v i e h p =
      let found = found_place k i h in
      map_set_at es i e ∙ ap (λ t. slice_set (map table_entry es) i t) (p ∙ sym (live_there machine_decides k v (map table_entry es) i dead_entry found))
      ∙ sym (set_found alike k v (map table_entry es) i dead_entry found)

  pub set_there : (k v : Keyed) (i : ℕ) (e : Entry Ref MadeSymbol) (new : Places) → new ≡ slice_set es i e → noted ix k ≡ Some i → table_entry e ≡ live_entry k v → map table_entry new ≡ map_set alike k v (map table_entry es)
  set_there k v i e new n h p = ap (λ (l : Places). map table_entry l) n ∙ set_noted k v i e h p

  pub set_kept : (k v : Keyed) (i : ℕ) (e : Entry Ref MadeSymbol) (new : Places) → new ≡ slice_set es i e → noted ix k ≡ Some i → table_entry e ≡ live_entry k v → IsIndexOf ix new
  set_kept k v i e new n h p = kept_set kept k v i (found_place k i h) (map table_entry new) (set_there k v i e new n h p)

  pub appended : (k v : Keyed) (e : Entry Ref MadeSymbol) (new : Places) → new ≡ es ++ e ∷ [] → table_entry e ≡ live_entry k v → map table_entry new ≡ map table_entry es ++ live_entry k v ∷ []
  appended k v e new n p = ap (λ (l : Places). map table_entry l) n ∙ map_joined es (e ∷ []) ∙ ap (λ t. map table_entry es ++ t ∷ []) p

  pub set_new : (k v : Keyed) (new : Places) → noted ix k ≡ None → map table_entry new ≡ map table_entry es ++ live_entry k v ∷ [] → map table_entry new ≡ map_set alike k v (map table_entry es)
  set_new k v new h n = n ∙ sym (set_missing alike k v (map table_entry es) (missing_place k h))

  pub append_kept : (k v : Keyed) (e : Entry Ref MadeSymbol) (new : Places) → new ≡ es ++ e ∷ [] → table_entry e ≡ live_entry k v → noted ix k ≡ None → length es + 1 < 2 ^ 32
      → (ix' : TableIndex) → ((q : Keyed) → noted ix' q ≡ cond (alike k q) (Some (length es)) (noted ix q)) → ix'.live ≡ ix.live + 1 → IsIndexOf ix' new
  append_kept k v e new n p h l ix' f c =
      subst (λ m. IsKept alike (map table_entry new) m (noted ix')) (sym c)
      (kept_append kept machine_decides k v (missing_place k h) (subst (λ m. m + 1 < 2 ^ 32) (sym (length_places es)) l) (map table_entry new) (appended k v e new n p) (noted ix')
      (λ q. f q ∙ ap (λ m. cond (alike k q) (Some m) (noted ix q)) (sym (length_places es))))

  -- after a refusal
  pub unchanged_kept : (ix' : TableIndex) → IsUnchanged ix.places ix'.places → ix'.live ≡ ix.live → (new : Places) → new ≡ es → IsIndexOf ix' new
  unchanged_kept ix' u c new n = record {
    few = subst (λ (l : Places). length (map table_entry l) < 2 ^ 32) (sym n) kept.few;
    count = c ∙ kept.count ∙ ap (λ (l : Places). map_size (map table_entry l)) (sym n);
    table = subst (λ (l : Places). IsTable alike (map table_entry l)) (sym n) kept.table;
    indexed = λ q. ap (λ l. lookup (same_table_key same_ref same_made_symbol (record { 0 = q })) l) u ∙ kept.indexed q ∙ ap (λ (l : Places). place_of alike q (map table_entry l)) (sym n);
  }

  -- A KEY GOES

  pub delete_there : (k : Keyed) (i : ℕ) (new : Places) → new ≡ slice_set es i (store_entry dead_entry) → noted ix k ≡ Some i → map table_entry new ≡ map_delete alike k (map table_entry es)
  delete_there k i new n h = ap (λ (l : Places). map table_entry l) n ∙ map_set_at es i (store_entry dead_entry) ∙ sym (delete_found alike k (map table_entry es) i (found_place k i h))

  pub delete_nowhere : (k : Keyed) → noted ix k ≡ None → map table_entry es ≡ map_delete alike k (map table_entry es)
  delete_nowhere k h = sym (delete_missing alike k (map table_entry es) (missing_place k h))

  pub delete_kept : (k : Keyed) (i : ℕ) (new : Places) → new ≡ slice_set es i (store_entry dead_entry) → noted ix k ≡ Some i
      → (ix' : TableIndex) → ((q : Keyed) → noted ix' q ≡ cond (alike k q) None (noted ix q)) → ix'.live + 1 ≡ ix.live → IsIndexOf ix' new
  delete_kept k i new n h ix' f c = kept_delete kept machine_decides k i (found_place k i h) (map table_entry new) (delete_there k i new n h) (noted ix') f ix'.live c

  -- ALL GO

  pub clear_kept : (new : Places) → map table_entry new ≡ map_clear (map table_entry es) → (ix' : TableIndex) → ix'.places.entries ≡ [] → ix'.live ≡ 0 → IsIndexOf ix' new
  clear_kept new n ix' u c =
      subst (λ m. IsKept alike (map table_entry new) m (noted ix')) (sym c)
      (kept_clear kept (map table_entry new) n (noted ix') (λ q. ap (λ l. lookup (same_table_key same_ref same_made_symbol (record { 0 = q })) l) u))

-- A PLACE IS MADE DEAD

pub set_dead : (es new : Places) (i : ℕ) (y : Entry Ref MadeSymbol) (old : List (TableEntry Ref MadeSymbol)) → new ≡ slice_set es i y → y ≡ store_entry dead_entry → map table_entry es ≡ old → map table_entry new ≡ slice_set old i dead_entry
set_dead es new i y old n d o =
    ap (λ (l : Places). map table_entry l) n ∙ map_set_at es i y ∙ ap (λ (e : Entry Ref MadeSymbol). slice_set (map table_entry es) i (table_entry e)) d ∙ ap (λ l. slice_set l i dead_entry) o

-- PLACES ARE NOTED ONE BY ONE

abbrev placed : Keyed → Keyed → Bool → TableEntry Ref MadeSymbol
placed k v l = record { key = k; value = v; live = l }

one_more : (i : ℕ) (es : Places) (d : Entry Ref MadeSymbol) → i < length es → take (suc i) es ≡ take i es ++ get_or es i d ∷ []
one_more i [] d l = absurd (omega arith)
one_more zero (e ∷ es) d l = refl
one_more (suc i) (e ∷ es) d l = ap (λ t. e ∷ t) (one_more i es d (omega arith))

pub next_place : (i : ℕ) (es : Places) (d : Entry Ref MadeSymbol) → i < length es → take (i + 1) es ≡ take i es ++ get_or es i d ∷ []
next_place i es d l = let e : i + 1 ≡ suc i = omega arith in ap (λ n. take n es) e ∙ one_more i es d l

pub length_first : (i : ℕ) (es : Places) → i ≤ length es → length (take i es) ≡ i
length_first zero es l = refl
length_first (suc i) [] l = absurd (omega arith)
length_first (suc i) (e ∷ es) l = ap suc (length_first i es (omega arith))

pub all_places : (i : ℕ) (es : Places) → length es ≤ i → take i es ≡ es
all_places zero [] l = refl
all_places (suc i) [] l = refl
all_places zero (e ∷ es) l = absurd (omega arith)
all_places (suc i) (e ∷ es) l = ap (λ t. e ∷ t) (all_places i es (omega arith))

-- a dead place has no key
dead_nowhere : (q : Keyed) (es : List (TableEntry Ref MadeSymbol)) (e : TableEntry Ref MadeSymbol) → e.live ≡ false → place_of alike q (es ++ e ∷ []) ≡ place_of alike q es
dead_nowhere q [] e h = ap (λ b. cond (b && alike q e.key) (Some 0) None) h
dead_nowhere q (x ∷ es) e h = ap (λ p. cond (has_key alike q x) (Some 0) (option_map suc p)) (dead_nowhere q es e h)

dead_uncounted : (es : List (TableEntry Ref MadeSymbol)) (e : TableEntry Ref MadeSymbol) → e.live ≡ false → map_size (es ++ e ∷ []) ≡ map_size es
dead_uncounted [] e h = ap (λ b. cond b 1 0 + 0) h
dead_uncounted (x ∷ es) e h = ap (λ n. cond x.live 1 0 + n) (dead_uncounted es e h)

only_dead : (live : Bool) (k : Keyed) (es : List (TableEntry Ref MadeSymbol)) (e : TableEntry Ref MadeSymbol) → e.live ≡ false → IsOnlyOne alike live k es → IsOnlyOne alike live k (es ++ e ∷ [])
only_dead true k es e h o = dead_nowhere k es e h ∙ o
only_dead false k es e h o = tt

only_last : (live : Bool) (k : Keyed) → IsOnlyOne alike live k []
only_last true k = refl
only_last false k = tt

dead_table : (es : List (TableEntry Ref MadeSymbol)) (e : TableEntry Ref MadeSymbol) → e.live ≡ false → IsTable alike es → IsTable alike (es ++ e ∷ [])
dead_table [] e h t = (only_last e.live e.key, tt)
dead_table (x ∷ es) e h t = (only_dead x.live x.key es e h t.0, dead_table es e h t.1)

module _ (ix : TableIndex) (es : Places) (kept : IsIndexOf ix es) where
  pub dead_kept : (e : Entry Ref MadeSymbol) (new : Places) → new ≡ es ++ e ∷ [] → e.live ≡ false → length es + 1 < 2 ^ 32 → IsIndexOf ix new
  dead_kept e new n h l =
      let m : map table_entry new ≡ map table_entry es ++ table_entry e ∷ [] = ap (λ (k : Places). map table_entry k) n ∙ map_joined es (e ∷ []) in
      subst (λ t. IsKept alike t ix.live (noted ix)) (sym m) (record {
        few = subst (λ k. k < 2 ^ 32) (sym (length-append (map table_entry es) (table_entry e ∷ []) ∙ ap (λ k. k + 1) (length_places es))) l;
        count = kept.count ∙ sym (dead_uncounted (map table_entry es) (table_entry e) h);
        table = dead_table (map table_entry es) (table_entry e) h kept.table;
        indexed = λ q. kept.indexed q ∙ sym (dead_nowhere q (map table_entry es) (table_entry e) h);
      })

  pub live_kept : (e : Entry Ref MadeSymbol) (new : Places) → new ≡ es ++ e ∷ [] → e.live ≡ true → noted ix e.key ≡ None → length es + 1 < 2 ^ 32
      → (ix' : TableIndex) → ((q : Keyed) → noted ix' q ≡ cond (alike e.key q) (Some (length es)) (noted ix q)) → ix'.live ≡ ix.live + 1 → IsIndexOf ix' new
  live_kept e new n h m l ix' f c = append_kept ix es kept e.key e.value e new n (ap (λ (b : Bool). placed e.key e.value b) h) m l ix' f c

  pub live_within : ix.live ≤ length es
  live_within = let w = size_within (map table_entry es) in let p = length_places es in let c = kept.count in omega (arith, w, p, c)

-- AN OBJECT WITH A TABLE

-- what a native made of the places of an object's table
pub collected : {E : Type 0} (which : Native) (args : List Keyed) (r : Result (Option Keyed) E) (o new : Object Ref MadeSymbol) (es fs : Places) → o.slot ≡ slot.Table es → new ≡ with_slot (slot.Table fs) o
    → IfOk r (λ v. (v, map table_entry fs) ≡ table_answer alike which args (map table_entry es)) → OnOk r (new ≡ with_places (table_answer alike which args (map table_entry (entries_of o.slot))).1 o)
collected which args (Ok v) o new es fs s n h =
    let here : es ≡ entries_of o.slot = ap entries_of (sym s) in
    n ∙ ap (λ (l : Places). with_slot (slot.Table l) o) (sym (there_back fs) ∙ ap (map store_entry) (ap (λ (t : Option Keyed × List (TableEntry Ref MadeSymbol)). t.1) h))
    ∙ ap (λ (l : Places). with_places (table_answer alike which args (map table_entry l)).1 o) here
collected which args (Err e) o new es fs s n h = tt
