-- What holds of a table as it is kept holds after each change.
use Rattle.std.proofs.Common.{◌≡◌, ℕ, suc, ◌+◌, ◌<◌, ◌≤◌, ◌^◌, Bool, true, false, cond, ◌&&◌, List, [], ◌∷◌, ◌++◌, length, Some, None, Option, refl, ap, sym, subst, ◌∙◌, arith, length-append}
use Rattle.std.proofs.lemmas.Bool.{true≢false}
use Rattle.std.specs.Bool.{Decides}
use Rattle.std.specs.Cmp.{first_so, second_so}
use Rattle.std.specs.Option.{option_map}
use Rattle.lava_base.specs.Ids.{same_ref, same_made_symbol}
use Rattle.lava_base.specs.SameRefs.{same_ref_decides}
use Rattle.lava_base.specs.SameSymbols.{same_made_symbol_decides}
use Rattle.lava_base.specs.declared.ids.MadeSymbol.{MadeSymbol}
use Rattle.lava_base.specs.declared.ids.Ref.{Ref}
use Rattle.js_text.specs.SameKeys.{same_value_decides}
use Rattle.js_text.specs.Values.{same_value}
use Rattle.js_text.specs.declared.value.Value.{Value}
use Rattle.js_slots.proofs.Places_laws.{kept_by, missing_by}
use Rattle.js_slots.proofs.Cleared_laws.{length-map_clear}
use Rattle.js_slots.specs.Tables.{dead_entry, has_key, IsKept, IsOnlyOne, IsTable, live_entry, map_clear, map_delete, map_set, map_size, place_of, with_value}
use Rattle.js_slots.specs.declared.entry.TableEntry.{TableEntry}

-- BY CASES

pub false_of : (b : Bool) → (b ≡ true → ⊥) → b ≡ false
false_of true f = absurd (f refl)
false_of false f = refl

append_by : (s b : Bool) (o : Option ℕ) (n : ℕ) → (s ≡ true → b ≡ false)
    → cond b (Some 0) (option_map suc (cond s (Some n) o)) ≡ cond s (Some (suc n)) (cond b (Some 0) (option_map suc o))
append_by true true o n f = absurd (true≢false (f refl))
append_by true false o n f = refl
append_by false true o n f = refl
append_by false false o n f = refl

here_by : (s b : Bool) (o : Option ℕ) → (s ≡ true → o ≡ None) → (s ≡ false → b ≡ false) → option_map suc o ≡ cond s None (cond b (Some 0) (option_map suc o))
here_by true b o f g = ap (λ p. option_map suc p) (f refl)
here_by false true o f g = absurd (true≢false (g refl))
here_by false false o f g = refl

there_by : (s b : Bool) (o : Option ℕ) → (s ≡ true → b ≡ false)
    → cond b (Some 0) (option_map suc (cond s None o)) ≡ cond s None (cond b (Some 0) (option_map suc o))
there_by true true o f = absurd (true≢false (f refl))
there_by true false o f = refl
there_by false true o f = refl
there_by false false o f = refl

none_by : (s : Bool) (o : Option ℕ) → o ≡ None → cond s None o ≡ None
none_by true o h = refl
none_by false o h = h

one_more : (l : Bool) (m n : ℕ) → m ≡ suc n → cond l 1 0 + m ≡ suc (cond l 1 0 + n)
one_more l m n h = omega arith

one_less : (l : Bool) (n : ℕ) → l ≡ true → cond l 1 0 + n ≡ suc (0 + n)
one_less true n h = omega arith
one_less false n h = cc

at_most : (l : Bool) (m n : ℕ) → m ≤ n → cond l 1 0 + m ≤ suc n
at_most true m n h = omega arith
at_most false m n h = omega arith

pub size_within : {R S : Type 0} (es : List (TableEntry R S)) → map_size es ≤ length es
size_within [] = omega arith
size_within (e ∷ es) = at_most e.live (map_size es) (length es) (size_within es)

-- A VALUE IS CHANGED

module _ {R S : Type 0} (same : Value R S → Value R S → Bool) where
  only_kept : (live : Bool) (k : Value R S) (old new : List (TableEntry R S)) → place_of same k new ≡ place_of same k old → IsOnlyOne same live k old → IsOnlyOne same live k new
  only_kept true k old new p h = p ∙ h
  only_kept false k old new p h = tt

  set_place_by : (b : Bool) (o : Option ℕ) (i : ℕ) (q v : Value R S) (e : TableEntry R S) (es rest : List (TableEntry R S)) → cond b (Some 0) (option_map suc o) ≡ Some i
      → ((j : ℕ) → o ≡ Some j → place_of same q rest ≡ place_of same q es)
      → place_of same q (cond b (with_value v e ∷ es) (e ∷ rest)) ≡ place_of same q (e ∷ es)
  set_place_by true o i q v e es rest h f = refl
  set_place_by false None i q v e es rest h f = cc
  set_place_by false (Some j) i q v e es rest h f = ap (λ p. cond (has_key same q e) (Some 0) (option_map suc p)) (f j refl)

  pub set_place : (q k v : Value R S) (es : List (TableEntry R S)) (i : ℕ) → place_of same k es ≡ Some i → place_of same q (map_set same k v es) ≡ place_of same q es
  set_place q k v [] i h = cc
  set_place q k v (e ∷ es) i h = set_place_by (has_key same k e) (place_of same k es) i q v e es (map_set same k v es) h (λ j p. set_place q k v es j p)

  set_table_by : (b : Bool) (o : Option ℕ) (i : ℕ) (v : Value R S) (e : TableEntry R S) (es rest : List (TableEntry R S)) → cond b (Some 0) (option_map suc o) ≡ Some i
      → IsTable same (e ∷ es) → ((j : ℕ) → o ≡ Some j → IsTable same rest × (place_of same e.key rest ≡ place_of same e.key es))
      → IsTable same (cond b (with_value v e ∷ es) (e ∷ rest))
  set_table_by true o i v e es rest h t f = t
  set_table_by false None i v e es rest h t f = cc
  set_table_by false (Some j) i v e es rest h t f = let r = f j refl in (only_kept e.live e.key es rest r.1 t.0, r.0)

  set_table : (k v : Value R S) (es : List (TableEntry R S)) (i : ℕ) → place_of same k es ≡ Some i → IsTable same es → IsTable same (map_set same k v es)
  set_table k v [] i h t = cc
  set_table k v (e ∷ es) i h t = set_table_by (has_key same k e) (place_of same k es) i v e es (map_set same k v es) h t (λ j p. (set_table k v es j p t.1, set_place e.key k v es j p))

  set_size_by : (b : Bool) (o : Option ℕ) (i : ℕ) (v : Value R S) (e : TableEntry R S) (es rest : List (TableEntry R S)) → cond b (Some 0) (option_map suc o) ≡ Some i
      → ((j : ℕ) → o ≡ Some j → map_size rest ≡ map_size es) → map_size (cond b (with_value v e ∷ es) (e ∷ rest)) ≡ map_size (e ∷ es)
  set_size_by true o i v e es rest h f = refl
  set_size_by false None i v e es rest h f = cc
  set_size_by false (Some j) i v e es rest h f = ap (λ n. cond e.live 1 0 + n) (f j refl)

  set_size : (k v : Value R S) (es : List (TableEntry R S)) (i : ℕ) → place_of same k es ≡ Some i → map_size (map_set same k v es) ≡ map_size es
  set_size k v [] i h = cc
  set_size k v (e ∷ es) i h = set_size_by (has_key same k e) (place_of same k es) i v e es (map_set same k v es) h (λ j p. set_size k v es j p)

-- A KEY IS ADDED OR GOES

module _ {R S : Type 0} {same : Value R S → Value R S → Bool} (decides : (a b : Value R S) → Decides (same a b) (a ≡ b)) where
  pub turned : (a b : Value R S) → same a b ≡ same b a
  turned a b = both (same a b) (same b a) (λ h. (decides b a).1 (sym ((decides a b).0 h))) (λ h. (decides a b).1 (sym ((decides b a).0 h))) where
    both : (x y : Bool) → (x ≡ true → y ≡ true) → (y ≡ true → x ≡ true) → x ≡ y
    both true y f g = sym (f refl)
    both false true f g = g refl
    both false false f g = refl

  -- a place that has not one key has not the same key
  pub other_has : (k q : Value R S) (e : TableEntry R S) → has_key same k e ≡ false → same k q ≡ true → has_key same q e ≡ false
  other_has k q e h s = subst (λ v. has_key same v e ≡ false) ((decides k q).0 s) h

  pub append_place : (q k v : Value R S) (es : List (TableEntry R S)) → place_of same k es ≡ None
      → place_of same q (es ++ live_entry k v ∷ []) ≡ cond (same k q) (Some (length es)) (place_of same q es)
  append_place q k v [] h = ap (λ b. cond b (Some 0) None) (turned q k)
  append_place q k v (e ∷ es) h =
      let m = missing_by (has_key same k e) (place_of same k es) h in
      ap (λ p. cond (has_key same q e) (Some 0) (option_map suc p)) (append_place q k v es m.1)
      ∙ append_by (same k q) (has_key same q e) (place_of same q es) (length es) (other_has k q e m.0)

  only_append : (live : Bool) (key k v : Value R S) (es : List (TableEntry R S)) → (live && same k key) ≡ false → place_of same k es ≡ None
      → IsOnlyOne same live key es → IsOnlyOne same live key (es ++ live_entry k v ∷ [])
  only_append true key k v es s h o = append_place key k v es h ∙ kept_by (same k key) (Some (length es)) (place_of same key es) None s o
  only_append false key k v es s h o = tt

  append_table : (k v : Value R S) (es : List (TableEntry R S)) → place_of same k es ≡ None → IsTable same es → IsTable same (es ++ live_entry k v ∷ [])
  append_table k v [] h t = (refl, tt)
  append_table k v (e ∷ es) h t =
      let m = missing_by (has_key same k e) (place_of same k es) h in
      (only_append e.live e.key k v es m.0 m.1 t.0, append_table k v es m.1 t.1)

  delete_here : (q k : Value R S) (e : TableEntry R S) (es : List (TableEntry R S)) → has_key same k e ≡ true → IsOnlyOne same e.live e.key es
      → option_map suc (place_of same q es) ≡ cond (same k q) None (cond (has_key same q e) (Some 0) (option_map suc (place_of same q es)))
  delete_here q k e es h o =
      let live = first_so e.live (same k e.key) h in
      let key = (decides k e.key).0 (second_so e.live (same k e.key) h) in
      let none : place_of same e.key es ≡ None = subst (λ l. IsOnlyOne same l e.key es) live o in
      here_by (same k q) (has_key same q e) (place_of same q es)
      (λ s. ap (λ v. place_of same v es) (sym ((decides k q).0 s) ∙ key) ∙ none)
      (λ s. false_of (has_key same q e) (λ t. true≢false (sym ((decides k q).1 (key ∙ sym ((decides q e.key).0 (second_so e.live (same q e.key) t)))) ∙ s)))

  delete_place_by : (b : Bool) (q k : Value R S) (e : TableEntry R S) (es rest : List (TableEntry R S)) → has_key same k e ≡ b → IsOnlyOne same e.live e.key es
      → place_of same q rest ≡ cond (same k q) None (place_of same q es)
      → place_of same q (cond b (dead_entry ∷ es) (e ∷ rest)) ≡ cond (same k q) None (place_of same q (e ∷ es))
  delete_place_by true q k e es rest h o p = delete_here q k e es h o
  delete_place_by false q k e es rest h o p =
      ap (λ r. cond (has_key same q e) (Some 0) (option_map suc r)) p ∙ there_by (same k q) (has_key same q e) (place_of same q es) (other_has k q e h)

  delete_place : (q k : Value R S) (es : List (TableEntry R S)) → IsTable same es → place_of same q (map_delete same k es) ≡ cond (same k q) None (place_of same q es)
  delete_place q k [] t = sym (none_by (same k q) None refl)
  delete_place q k (e ∷ es) t = delete_place_by (has_key same k e) q k e es (map_delete same k es) refl t.0 (delete_place q k es t.1)

  only_delete : (live : Bool) (key k : Value R S) (es : List (TableEntry R S)) → IsTable same es → IsOnlyOne same live key es → IsOnlyOne same live key (map_delete same k es)
  only_delete true key k es t o = delete_place key k es t ∙ none_by (same k key) (place_of same key es) o
  only_delete false key k es t o = tt

  delete_table_by : (b : Bool) (k : Value R S) (e : TableEntry R S) (es : List (TableEntry R S)) → IsTable same (e ∷ es) → IsTable same (map_delete same k es)
      → IsTable same (cond b (dead_entry ∷ es) (e ∷ map_delete same k es))
  delete_table_by true k e es t r = (tt, t.1)
  delete_table_by false k e es t r = (only_delete e.live e.key k es t.1 t.0, r)

  delete_table : (k : Value R S) (es : List (TableEntry R S)) → IsTable same es → IsTable same (map_delete same k es)
  delete_table k [] t = tt
  delete_table k (e ∷ es) t = delete_table_by (has_key same k e) k e es t (delete_table k es t.1)

  delete_size_by : (b : Bool) (o : Option ℕ) (i : ℕ) (k : Value R S) (e : TableEntry R S) (es rest : List (TableEntry R S)) → has_key same k e ≡ b → cond b (Some 0) (option_map suc o) ≡ Some i
      → ((j : ℕ) → o ≡ Some j → map_size es ≡ suc (map_size rest)) → map_size (e ∷ es) ≡ suc (map_size (cond b (dead_entry ∷ es) (e ∷ rest)))
  delete_size_by true o i k e es rest b h f = one_less e.live (map_size es) (first_so e.live (same k e.key) b)
  delete_size_by false None i k e es rest b h f = cc
  delete_size_by false (Some j) i k e es rest b h f = one_more e.live (map_size es) (map_size rest) (f j refl)

  delete_size : (k : Value R S) (es : List (TableEntry R S)) (i : ℕ) → place_of same k es ≡ Some i → map_size es ≡ suc (map_size (map_delete same k es))
  delete_size k [] i h = cc
  delete_size k (e ∷ es) i h = delete_size_by (has_key same k e) (place_of same k es) i k e es (map_delete same k es) refl h (λ j p. delete_size k es j p)

append_size : {R S : Type 0} (k v : Value R S) (es : List (TableEntry R S)) → map_size (es ++ live_entry k v ∷ []) ≡ suc (map_size es)
append_size k v [] = refl
append_size k v (e ∷ es) = one_more e.live (map_size (es ++ live_entry k v ∷ [])) (map_size es) (append_size k v es)

length_by : {R S : Type 0} (b : Bool) (x e : TableEntry R S) (es rest : List (TableEntry R S)) → length rest ≡ length es → length (cond b (x ∷ es) (e ∷ rest)) ≡ suc (length es)
length_by true x e es rest h = refl
length_by false x e es rest h = ap suc h

length_delete : {R S : Type 0} (same : Value R S → Value R S → Bool) (k : Value R S) (es : List (TableEntry R S)) → length (map_delete same k es) ≡ length es
length_delete same k [] = refl
length_delete same k (e ∷ es) = length_by (has_key same k e) dead_entry e es (map_delete same k es) (length_delete same k es)

set_length_by : {R S : Type 0} (b : Bool) (o : Option ℕ) (i : ℕ) (x e : TableEntry R S) (es rest : List (TableEntry R S)) → cond b (Some 0) (option_map suc o) ≡ Some i
    → ((j : ℕ) → o ≡ Some j → length rest ≡ length es) → length (cond b (x ∷ es) (e ∷ rest)) ≡ suc (length es)
set_length_by true o i x e es rest h f = refl
set_length_by false None i x e es rest h f = cc
set_length_by false (Some j) i x e es rest h f = ap suc (f j refl)

set_length : {R S : Type 0} (same : Value R S → Value R S → Bool) (k v : Value R S) (es : List (TableEntry R S)) (i : ℕ) → place_of same k es ≡ Some i → length (map_set same k v es) ≡ length es
set_length same k v [] i h = cc
set_length same k v (e ∷ es) i h = set_length_by (has_key same k e) (place_of same k es) i (with_value v e) e es (map_set same k v es) h (λ j p. set_length same k v es j p)

clear_place : {R S : Type 0} (same : Value R S → Value R S → Bool) (q : Value R S) (es : List (TableEntry R S)) → place_of same q (map_clear es) ≡ None
clear_place same q [] = refl
clear_place same q (e ∷ es) = ap (λ p. option_map suc p) (clear_place same q es)

clear_table : {R S : Type 0} (same : Value R S → Value R S → Bool) (es : List (TableEntry R S)) → IsTable same (map_clear es)
clear_table same [] = tt
clear_table same (e ∷ es) = (tt, clear_table same es)

pub clear_size : {R S : Type 0} (es : List (TableEntry R S)) → map_size (map_clear es) ≡ 0
clear_size [] = refl
clear_size (e ∷ es) = let h = clear_size es in omega arith

-- AS IT IS KEPT

module _ {R S : Type 0} {same : Value R S → Value R S → Bool} {es : List (TableEntry R S)} {n : ℕ} {index : Value R S → Option ℕ} (kept : IsKept same es n index) where
  pub kept_set : (k v : Value R S) (i : ℕ) → place_of same k es ≡ Some i → (new : List (TableEntry R S)) → new ≡ map_set same k v es → IsKept same new n index
  kept_set k v i h new e = record {
    few = subst (λ m. m < 2 ^ 32) (sym (ap length e ∙ set_length same k v es i h)) kept.few;
    count = kept.count ∙ sym (ap map_size e ∙ set_size same k v es i h);
    table = subst (λ l. IsTable same l) (sym e) (set_table same k v es i h kept.table);
    indexed = λ q. kept.indexed q ∙ sym (ap (λ l. place_of same q l) e ∙ set_place same q k v es i h);
  }

  pub kept_clear : (new : List (TableEntry R S)) → new ≡ map_clear es → (index' : Value R S → Option ℕ) → ((q : Value R S) → index' q ≡ None) → IsKept same new 0 index'
  kept_clear new e index' none = record {
    few = subst (λ m. m < 2 ^ 32) (sym (ap length e ∙ length-map_clear es)) kept.few;
    count = sym (ap map_size e ∙ clear_size es);
    table = subst (λ l. IsTable same l) (sym e) (clear_table same es);
    indexed = λ q. none q ∙ sym (ap (λ l. place_of same q l) e ∙ clear_place same q es);
  }

  module _ (decides : (a b : Value R S) → Decides (same a b) (a ≡ b)) where
    pub kept_append : (k v : Value R S) → place_of same k es ≡ None → length es + 1 < 2 ^ 32 → (new : List (TableEntry R S)) → new ≡ es ++ live_entry k v ∷ []
        → (index' : Value R S → Option ℕ) → ((q : Value R S) → index' q ≡ cond (same k q) (Some (length es)) (index q)) → IsKept same new (n + 1) index'
    kept_append k v h l new e index' f = record {
      few = subst (λ m. m < 2 ^ 32) (sym (ap length e ∙ length-append es (live_entry k v ∷ []))) l;
      count = let c = kept.count in let s : map_size new ≡ suc (map_size es) = ap map_size e ∙ append_size k v es in omega (arith, s);
      table = subst (λ t. IsTable same t) (sym e) (append_table decides k v es h kept.table);
      indexed = λ q. f q ∙ ap (λ o. cond (same k q) (Some (length es)) o) (kept.indexed q) ∙ sym (ap (λ t. place_of same q t) e ∙ append_place decides q k v es h);
    }

    pub kept_delete : (k : Value R S) (i : ℕ) → place_of same k es ≡ Some i → (new : List (TableEntry R S)) → new ≡ map_delete same k es
        → (index' : Value R S → Option ℕ) → ((q : Value R S) → index' q ≡ cond (same k q) None (index q)) → (m : ℕ) → m + 1 ≡ n → IsKept same new m index'
    kept_delete k i h new e index' f m p = record {
      few = subst (λ m. m < 2 ^ 32) (sym (ap length e ∙ length_delete same k es)) kept.few;
      count = let s : map_size es ≡ suc (map_size new) = delete_size decides k es i h ∙ ap (λ t. suc (map_size t)) (sym e) in let c = kept.count in omega (arith, s);
      table = subst (λ t. IsTable same t) (sym e) (delete_table decides k es kept.table);
      indexed = λ q. f q ∙ ap (λ o. cond (same k q) None o) (kept.indexed q) ∙ sym (ap (λ t. place_of same q t) e ∙ delete_place decides q k es kept.table);
    }

-- some place is live where a key is found
pub some_live : {R S : Type 0} (same : Value R S → Value R S → Bool) (decides : (a b : Value R S) → Decides (same a b) (a ≡ b)) (k : Value R S) (es : List (TableEntry R S)) (i : ℕ) → place_of same k es ≡ Some i → 0 < map_size es
some_live same decides k es i h = let s = delete_size decides k es i h in omega (arith, s)

-- the machine's keys
pub machine_decides : (a b : Value Ref MadeSymbol) → Decides (same_value same_ref same_made_symbol a b) (a ≡ b)
machine_decides a b = same_value_decides same_ref_decides same_made_symbol_decides a b
