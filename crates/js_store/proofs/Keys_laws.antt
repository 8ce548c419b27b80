-- The own keys are those that have a property.
use Rattle.std.proofs.Common.{◌≡◌, Bool, true, false, not, cond, filter, List, [], ◌∷◌, refl, sym, ap, subst, ⊎_elim}
use Rattle.std.proofs.lemmas.List.Elements.{All-cons, All-contains, All-contains_itself, All-filter, All-nil, All-weaker, Contains-append_cases, Contains-append_left, Contains-append_right, Contains-push}
use Rattle.std.proofs.lemmas.Map.Views.{Contains-keys_from_lookup, IsSome-lookup_from_Contains}
use Rattle.std.specs.List.{All, Contains}
use Rattle.std.specs.Map.{keys_of}
use Rattle.js_text.specs.SameKeys.{same_key_decides, same_key_equiv}
use Rattle.js_text.specs.declared.value.Key.{Key}
use Rattle.js_store.specs.Laws.{Keys_are_the_own_ones, Properties}
use Rattle.js_store.specs.Objects.{is_symbol, is_text, ordinary_own_property_keys}

module _ {X : Type 0} (p : X → Bool) where
  -- what is kept was there
  from_kept : (xs : List X) (x : X) → Contains (filter p xs) x → Contains xs x
  from_kept xs x here = All-contains (Contains xs) (filter p xs) x (All-filter p (Contains xs) xs (All-contains_itself xs)) here

  head_kept : (x : X) (xs : List X) → p x ≡ true → Contains (filter p (x ∷ xs)) x
  head_kept x xs h = subst (λ b. Contains (cond b (x ∷ filter p xs) (filter p xs)) x) (sym h) (Contains-append_left (x ∷ []) (filter p xs) x (Contains-push [] x))

  tail_kept : (x y : X) (xs : List X) → Contains (filter p xs) y → Contains (filter p (x ∷ xs)) y
  tail_kept x y xs here = by_test (p x)
    where
      by_test : (b : Bool) → Contains (cond b (x ∷ filter p xs) (filter p xs)) y
      by_test true = Contains-append_right (x ∷ []) (filter p xs) y here
      by_test false = here

  all_kept : (xs : List X) → All (λ x. p x ≡ true → Contains (filter p xs) x) xs
  all_kept [] = All-nil (λ x. p x ≡ true → Contains [] x)
  all_kept (x ∷ xs) =
      All-cons (λ y. p y ≡ true → Contains (filter p (x ∷ xs)) y) x xs (head_kept x xs)
      (All-weaker (λ y. p y ≡ true → Contains (filter p xs) y) (λ y. p y ≡ true → Contains (filter p (x ∷ xs)) y) (λ y kept h. tail_kept x y xs (kept h)) xs (all_kept xs))

  -- what was there and passes is kept
  kept : (xs : List X) (x : X) → Contains xs x → p x ≡ true → Contains (filter p xs) x
  kept xs x here = All-contains (λ y. p y ≡ true → Contains (filter p xs) y) xs x (all_kept xs) here

-- texts and symbols are all keys
all_keys : {R S : Type 0} (ps : Properties R S) (k : Key S) → Contains (keys_of ps) k → Contains (ordinary_own_property_keys ps) k
all_keys {R} ps k here = by_test (is_symbol k) refl
  where
    by_test : (b : Bool) → is_symbol k ≡ b → Contains (ordinary_own_property_keys ps) k
    by_test true h = Contains-append_right (filter is_text (keys_of ps)) (filter is_symbol (keys_of ps)) k (kept is_symbol (keys_of ps) k here h)
    by_test false h = Contains-append_left (filter is_text (keys_of ps)) (filter is_symbol (keys_of ps)) k (kept is_text (keys_of ps) k here (ap not h))

no_more : {R S : Type 0} (ps : Properties R S) (k : Key S) → Contains (ordinary_own_property_keys ps) k → Contains (keys_of ps) k
no_more ps k here = ⊎_elim (from_kept is_text (keys_of ps) k) (from_kept is_symbol (keys_of ps) k) (Contains-append_cases (filter is_text (keys_of ps)) (filter is_symbol (keys_of ps)) k here)

pub keys_are_the_own_ones : (R S : Type 0) → Keys_are_the_own_ones R S
keys_are_the_own_ones R S same decides k ps = (
  λ found. all_keys ps k (Contains-keys_from_lookup (λ x y. (same_key_decides decides x y).0) k ps found),
  λ here. IsSome-lookup_from_Contains (same_key_equiv decides) k ps (no_more ps k here),
)
