-- A table is a finite map with an order of insertion.
use Rattle.std.proofs.Common.{◌≡◌, zero, suc, Bool, true, false, cond, List, [], ◌∷◌, None, refl, ap, sym, subst, ◌∙◌, arith}
use Rattle.std.proofs.lemmas.Bool.{true≢false}
use Rattle.std.specs.Cmp.{first_so, second_so}
use Rattle.js_text.specs.declared.value.Value.{Value}
use Rattle.js_text.specs.declared.value.Value.TheVariants as value
use Rattle.js_slots.proofs.Kept_laws.{append_place, clear_size, false_of, other_has, set_place, turned}
use Rattle.js_slots.proofs.Places_laws.{set_missing, value_missing}
use Rattle.js_slots.specs.Laws.{Dead_places_stay_dead, Get_after_delete, Get_after_set, Keys_keep_their_places, New_keys_go_last, Nothing_after_clear, StaysDead, TellsKeys}
use Rattle.js_slots.specs.Tables.{dead_entry, has_key, IsOnlyOne, IsTable, map_clear, map_delete, map_get, map_set, place_of, with_value}
use Rattle.js_slots.specs.declared.entry.TableEntry.{TableEntry}

-- BY CASES

-- at the place of the key: has it, or another key
here_get : {A : Type 0} (s b : Bool) (v x y : A) → (s ≡ true → b ≡ true) → (s ≡ false → b ≡ false) → cond b v x ≡ cond s v (cond b y x)
here_get true true v x y f g = refl
here_get true false v x y f g = absurd (true≢false (sym (f refl)))
here_get false true v x y f g = absurd (true≢false (g refl))
here_get false false v x y f g = refl

-- before it
there_get : {A : Type 0} (s b : Bool) (v x y : A) → (s ≡ true → b ≡ false) → cond b y (cond s v x) ≡ cond s v (cond b y x)
there_get true true v x y f = absurd (true≢false (f refl))
there_get true false v x y f = refl
there_get false true v x y f = refl
there_get false false v x y f = refl

gone_get : {A : Type 0} (s b : Bool) (u x y : A) → (s ≡ true → x ≡ u) → (s ≡ false → b ≡ false) → x ≡ cond s u (cond b y x)
gone_get true b u x y f g = f refl
gone_get false true u x y f g = absurd (true≢false (g refl))
gone_get false false u x y f g = refl

one_of : {A : Type 0} (s : Bool) (u : A) → u ≡ cond s u u
one_of true u = refl
one_of false u = refl

module _ {R S : Type 0} {same : Value R S → Value R S → Bool} (tells : TellsKeys same) where
  same_has : (k q : Value R S) (e : TableEntry R S) → has_key same k e ≡ true → same k q ≡ true → has_key same q e ≡ true
  same_has k q e h s = subst (λ v. has_key same v e ≡ true) ((tells k q).0 s) h

  other_lacks : (k q : Value R S) (e : TableEntry R S) → has_key same k e ≡ true → same k q ≡ false → has_key same q e ≡ false
  other_lacks k q e h s =
      let key = (tells k e.key).0 (second_so e.live (same k e.key) h) in
      false_of (has_key same q e) (λ t. true≢false (sym ((tells k q).1 (key ∙ sym ((tells q e.key).0 (second_so e.live (same q e.key) t)))) ∙ s))

  get_set_by : (b : Bool) (k v q : Value R S) (e : TableEntry R S) (es rest : List (TableEntry R S)) → has_key same k e ≡ b
      → map_get same q rest ≡ cond (same k q) v (map_get same q es)
      → map_get same q (cond b (with_value v e ∷ es) (e ∷ rest)) ≡ cond (same k q) v (map_get same q (e ∷ es))
  get_set_by true k v q e es rest h p = here_get (same k q) (has_key same q e) v (map_get same q es) e.value (same_has k q e h) (other_lacks k q e h)
  get_set_by false k v q e es rest h p =
      ap (λ r. cond (has_key same q e) e.value r) p ∙ there_get (same k q) (has_key same q e) v (map_get same q es) e.value (other_has tells k q e h)

  pub get_after_set : (k v q : Value R S) (es : List (TableEntry R S)) → map_get same q (map_set same k v es) ≡ cond (same k q) v (map_get same q es)
  get_after_set k v q [] = ap (λ b. cond b v value.Undefined) (turned tells q k)
  get_after_set k v q (e ∷ es) = get_set_by (has_key same k e) k v q e es (map_set same k v es) refl (get_after_set k v q es)

  get_none : (q : Value R S) (es : List (TableEntry R S)) → place_of same q es ≡ None → map_get same q es ≡ value.Undefined
  get_none q es h = value_missing same q es h

  get_delete_by : (b : Bool) (k q : Value R S) (e : TableEntry R S) (es rest : List (TableEntry R S)) → has_key same k e ≡ b → IsOnlyOne same e.live e.key es
      → map_get same q rest ≡ cond (same k q) value.Undefined (map_get same q es)
      → map_get same q (cond b (dead_entry ∷ es) (e ∷ rest)) ≡ cond (same k q) value.Undefined (map_get same q (e ∷ es))
  get_delete_by true k q e es rest h o p =
      let live = first_so e.live (same k e.key) h in
      let key = (tells k e.key).0 (second_so e.live (same k e.key) h) in
      let none : place_of same e.key es ≡ None = subst (λ l. IsOnlyOne same l e.key es) live o in
      gone_get (same k q) (has_key same q e) value.Undefined (map_get same q es) e.value
      (λ s. get_none q es (ap (λ v. place_of same v es) (sym ((tells k q).0 s) ∙ key) ∙ none)) (other_lacks k q e h)
  get_delete_by false k q e es rest h o p =
      ap (λ r. cond (has_key same q e) e.value r) p ∙ there_get (same k q) (has_key same q e) value.Undefined (map_get same q es) e.value (other_has tells k q e h)

  pub get_after_delete : (k q : Value R S) (es : List (TableEntry R S)) → IsTable same es → map_get same q (map_delete same k es) ≡ cond (same k q) value.Undefined (map_get same q es)
  get_after_delete k q [] t = one_of (same k q) value.Undefined
  get_after_delete k q (e ∷ es) t = get_delete_by (has_key same k e) k q e es (map_delete same k es) refl t.0 (get_after_delete k q es t.1)

pub all_get_after_set : (R S : Type 0) → Get_after_set R S
all_get_after_set R S same tells k v q es = get_after_set tells k v q es

pub all_get_after_delete : (R S : Type 0) → Get_after_delete R S
all_get_after_delete R S same tells k q es t = get_after_delete tells k q es t

cleared_get : {R S : Type 0} (same : Value R S → Value R S → Bool) (q : Value R S) (es : List (TableEntry R S)) → map_get same q (map_clear es) ≡ value.Undefined
cleared_get same q [] = refl
cleared_get same q (e ∷ es) = cleared_get same q es

pub nothing_after_clear : (R S : Type 0) → Nothing_after_clear R S
nothing_after_clear R S same es = record { nothing = λ q. cleared_get same q es; size = clear_size es }

pub new_keys_go_last : (R S : Type 0) → New_keys_go_last R S
new_keys_go_last R S same tells k v q es h = ap (λ l. place_of same q l) (set_missing same k v es h) ∙ append_place tells q k v es h

pub keys_keep_their_places : (R S : Type 0) → Keys_keep_their_places R S
keys_keep_their_places R S same k v q es at h = set_place same q k v es at h

-- DEAD PLACES

dead_set_by : {R S : Type 0} (b : Bool) (v : Value R S) (e : TableEntry R S) (es rest : List (TableEntry R S)) → StaysDead es rest → StaysDead (e ∷ es) (cond b (with_value v e ∷ es) (e ∷ rest))
dead_set_by true v e es rest f zero l h = h
dead_set_by true v e es rest f (suc at) l h = h
dead_set_by false v e es rest f zero l h = h
dead_set_by false v e es rest f (suc at) l h = f at (omega arith) h

dead_set : {R S : Type 0} (same : Value R S → Value R S → Bool) (k v : Value R S) (es : List (TableEntry R S)) → StaysDead es (map_set same k v es)
dead_set same k v [] at l h = absurd (omega arith)
dead_set same k v (e ∷ es) at l h = dead_set_by (has_key same k e) v e es (map_set same k v es) (dead_set same k v es) at l h

dead_delete_by : {R S : Type 0} (b : Bool) (e : TableEntry R S) (es rest : List (TableEntry R S)) → StaysDead es rest → StaysDead (e ∷ es) (cond b (dead_entry ∷ es) (e ∷ rest))
dead_delete_by true e es rest f zero l h = refl
dead_delete_by true e es rest f (suc at) l h = h
dead_delete_by false e es rest f zero l h = h
dead_delete_by false e es rest f (suc at) l h = f at (omega arith) h

dead_delete : {R S : Type 0} (same : Value R S → Value R S → Bool) (k : Value R S) (es : List (TableEntry R S)) → StaysDead es (map_delete same k es)
dead_delete same k [] at l h = absurd (omega arith)
dead_delete same k (e ∷ es) at l h = dead_delete_by (has_key same k e) e es (map_delete same k es) (dead_delete same k es) at l h

dead_clear : {R S : Type 0} (es : List (TableEntry R S)) → StaysDead es (map_clear es)
dead_clear [] at l h = absurd (omega arith)
dead_clear (e ∷ es) zero l h = refl
dead_clear (e ∷ es) (suc at) l h = dead_clear es at (omega arith) h

pub dead_places_stay_dead : (R S : Type 0) → Dead_places_stay_dead R S
dead_places_stay_dead R S same es = record { set = λ k v. dead_set same k v es; delete = λ k. dead_delete same k es; clear = dead_clear es }
