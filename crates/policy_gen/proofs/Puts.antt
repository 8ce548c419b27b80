-- An entry that is put at a name.
use Rattle.std.proofs.Common.{◌≡◌, ℕ, List, [], ◌∷◌, Bool, true, false, ◌||◌, cond, Option, Some, None, bytes_eq, refl, sym, ap, ◌∙◌}
use Rattle.std.proofs.lemmas.Cmp.{nat_list_cmp_total}
use Rattle.std.proofs.lemmas.Map.Text.{is_eq-slice_cmp}
use Rattle.std.specs.List.{list_all, list_any}
use Rattle.std.specs.Map.{keys_of}
use Rattle.std.specs.Ordering.{is_eq, is_lt, match_ordering, ordering_reverse}
use Rattle.std.specs.declared.cmp.Ordering.{Ordering}
use Rattle.std.specs.declared.cmp.Ordering.TheVariants.{Less, Equal, Greater}
use Rattle.policy_row.specs.Rows.{order_of_names, at_name, with_entry, is_in_order}
use Rattle.policy_gen.proofs.Anys.{same_bytes, and_both, and_first, and_second, clash, not_some, or_first, or_second, unwrapped}

pub equal_names : (m n : List ℕ) → order_of_names m n ≡ Equal → m ≡ n
equal_names m n h = same_bytes m n (sym (is_eq-slice_cmp m n) ∙ ap is_eq h)

is_less : (o : Ordering) → is_lt o ≡ true → o ≡ Less
is_less Less h = refl
is_less Equal h = clash (sym h)
is_less Greater h = clash (sym h)

-- WHAT STANDS AT A NAME

module _ {X : Type 0} (m n : List ℕ) (x : X) where
  found_once : (e : List ℕ × X) (found : Option X) (b c : Bool) → b ≡ c → cond b (Some x) found ≡ cond c (Some x) (cond b (Some e.1) found)
  found_once e found true true h = refl
  found_once e found true false h = clash h
  found_once e found false true h = clash (sym h)
  found_once e found false false h = refl

  found_both : (e : List ℕ × X) (found : Option X) (b c : Bool) → (c ≡ true → b ≡ false) → cond b (Some e.1) (cond c (Some x) found) ≡ cond c (Some x) (cond b (Some e.1) found)
  found_both e found true true apart = clash (apart refl)
  found_both e found true false apart = refl
  found_both e found false c apart = refl

  put_found_by : (e : List ℕ × X) (es put : List (List ℕ × X)) (o : Ordering) → order_of_names n e.0 ≡ o → at_name m put ≡ cond (bytes_eq m n) (Some x) (at_name m es) → at_name m (match_ordering o ((n, x) ∷ e ∷ es) ((e.0, x) ∷ es) (e ∷ put)) ≡ cond (bytes_eq m n) (Some x) (at_name m (e ∷ es))
  put_found_by e es put Less is rest = ap (λ b. cond b (Some x) (at_name m (e ∷ es))) (is_eq-slice_cmp m n)
  put_found_by e es put Equal is rest =
      found_once e (at_name m es) (is_eq (order_of_names m e.0)) (bytes_eq m n) (ap (λ k. is_eq (order_of_names m k)) (sym (equal_names n e.0 is)) ∙ is_eq-slice_cmp m n)
  put_found_by e es put Greater is rest =
      ap (λ found. cond (is_eq (order_of_names m e.0)) (Some e.1) found) rest
      ∙ found_both e (at_name m es) (is_eq (order_of_names m e.0)) (bytes_eq m n) (λ h. ap (λ k. is_eq (order_of_names k e.0)) (same_bytes m n h) ∙ ap is_eq is)

  pub put_found : (es : List (List ℕ × X)) → at_name m (with_entry es n x) ≡ cond (bytes_eq m n) (Some x) (at_name m es)
  put_found [] = ap (λ b. cond b (Some x) None) (is_eq-slice_cmp m n)
  put_found (e ∷ es) = put_found_by e es (with_entry es n x) (order_of_names n e.0) refl (put_found es)

-- what stands at a name is among the entries
module _ {X : Type 0} (n : List ℕ) (x : X) (q : List ℕ × X → Bool) where
  found_by : (e : List ℕ × X) (found : Option X) (rest : Bool) (b : Bool) → is_eq (order_of_names n e.0) ≡ b → cond b (Some e.1) found ≡ Some x → (found ≡ Some x → rest ≡ true) → q (n, x) ≡ true → (q e || rest) ≡ true
  found_by e found rest true is h more here =
      let same : n ≡ e.0 = same_bytes n e.0 (sym (is_eq-slice_cmp n e.0) ∙ is) in
      or_first (q e) rest (sym (ap (λ k. q (k, x)) same ∙ ap (λ v. q (e.0, v)) (sym (unwrapped e.1 x h))) ∙ here)
  found_by e found rest false is h more here = or_second (q e) rest (more h)

  pub found_among : (es : List (List ℕ × X)) → at_name n es ≡ Some x → q (n, x) ≡ true → list_any q es ≡ true
  found_among [] h here = not_some x h
  found_among (e ∷ es) h here = found_by e (at_name n es) (list_any q es) (is_eq (order_of_names n e.0)) refl h (λ is. found_among es is here) here

-- ORDER

less_follows : (k n m : List ℕ) → order_of_names k n ≡ Less → is_lt (order_of_names n m) ≡ true → is_lt (order_of_names k m) ≡ true
less_follows k n m first second = ap is_lt (nat_list_cmp_total.trans k n m first (is_less (order_of_names n m) second))

module _ {X : Type 0} (p : List ℕ → Bool) (n : List ℕ) (x : X) where
  names_by : (e : List ℕ × X) (es put : List (List ℕ × X)) (o : Ordering) → p n ≡ true → p e.0 ≡ true → list_all p (keys_of es) ≡ true → list_all p (keys_of put) ≡ true → list_all p (keys_of (match_ordering o ((n, x) ∷ e ∷ es) ((e.0, x) ∷ es) (e ∷ put))) ≡ true
  names_by e es put Less here first rest there = and_both (p n) _ here (and_both (p e.0) _ first rest)
  names_by e es put Equal here first rest there = and_both (p e.0) _ first rest
  names_by e es put Greater here first rest there = and_both (p e.0) _ first there

  -- what holds of each name holds when one more is put of which it holds
  pub names_put : (es : List (List ℕ × X)) → p n ≡ true → list_all p (keys_of es) ≡ true → list_all p (keys_of (with_entry es n x)) ≡ true
  names_put [] here all = and_both (p n) true here refl
  names_put (e ∷ es) here all =
      let first = and_first (p e.0) (list_all p (keys_of es)) all in
      let rest = and_second (p e.0) (list_all p (keys_of es)) all in
      names_by e es (with_entry es n x) (order_of_names n e.0) here first rest (names_put es here rest)

below_all : (k n : List ℕ) (names : List (List ℕ)) → order_of_names k n ≡ Less → list_all (λ m. is_lt (order_of_names n m)) names ≡ true → list_all (λ m. is_lt (order_of_names k m)) names ≡ true
below_all k n [] less all = refl
below_all k n (m ∷ names) less all =
    and_both _ _ (less_follows k n m less (and_first (is_lt (order_of_names n m)) _ all)) (below_all k n names less (and_second (is_lt (order_of_names n m)) _ all))

module _ {X : Type 0} (n : List ℕ) (x : X) where
  order_by : (e : List ℕ × X) (es put : List (List ℕ × X)) (o : Ordering) → order_of_names n e.0 ≡ o → is_in_order (e ∷ es) ≡ true → is_in_order put ≡ true → (is_lt (order_of_names e.0 n) ≡ true → list_all (λ m. is_lt (order_of_names e.0 m)) (keys_of put) ≡ true) → is_in_order (match_ordering o ((n, x) ∷ e ∷ es) ((e.0, x) ∷ es) (e ∷ put)) ≡ true
  order_by e es put Less is h rest below =
      and_both _ _ (and_both _ _ (ap is_lt is) (below_all n e.0 (keys_of es) is (and_first _ (is_in_order es) h))) h
  order_by e es put Equal is h rest below = h
  order_by e es put Greater is h rest below =
      and_both _ _ (below (ap is_lt (nat_list_cmp_total.antisymm e.0 n ∙ ap ordering_reverse is))) rest

  -- entries stay in order
  pub order_put : (es : List (List ℕ × X)) → is_in_order es ≡ true → is_in_order (with_entry es n x) ≡ true
  order_put [] h = refl
  order_put (e ∷ es) h =
      let all = and_first (list_all (λ m. is_lt (order_of_names e.0 m)) (keys_of es)) (is_in_order es) h in
      let rest = and_second (list_all (λ m. is_lt (order_of_names e.0 m)) (keys_of es)) (is_in_order es) h in
      order_by e es (with_entry es n x) (order_of_names n e.0) refl h (order_put es rest) (λ less. names_put (λ m. is_lt (order_of_names e.0 m)) n x es less all)

-- VALUES

module _ {X : Type 0} (p : X → Bool) (n : List ℕ) (x : X) where
  values_by : (e : List ℕ × X) (es put : List (List ℕ × X)) (o : Ordering) → p x ≡ true → p e.1 ≡ true → list_all (λ e. p e.1) es ≡ true → list_all (λ e. p e.1) put ≡ true → list_all (λ e. p e.1) (match_ordering o ((n, x) ∷ e ∷ es) ((e.0, x) ∷ es) (e ∷ put)) ≡ true
  values_by e es put Less here first rest there = and_both (p x) _ here (and_both (p e.1) _ first rest)
  values_by e es put Equal here first rest there = and_both (p x) _ here rest
  values_by e es put Greater here first rest there = and_both (p e.1) _ first there

  -- what holds of each value holds when one more is put of which it holds
  pub values_put : (es : List (List ℕ × X)) → p x ≡ true → list_all (λ e. p e.1) es ≡ true → list_all (λ e. p e.1) (with_entry es n x) ≡ true
  values_put [] here all = and_both (p x) true here refl
  values_put (e ∷ es) here all =
      let first = and_first (p e.1) (list_all (λ e. p e.1) es) all in
      let rest = and_second (p e.1) (list_all (λ e. p e.1) es) all in
      values_by e es (with_entry es n x) (order_of_names n e.0) here first rest (values_put es here rest)

-- NAMES

module _ {X : Type 0} (p : List ℕ → Bool) (n : List ℕ) (x : X) where
  twice : (b c : Bool) → (b || c) ≡ (b || (b || c))
  twice true c = refl
  twice false c = refl

  swapped : (a b c : Bool) → (a || (b || c)) ≡ (b || (a || c))
  swapped true true c = refl
  swapped true false c = refl
  swapped false b c = refl

  any_by : (e : List ℕ × X) (es put : List (List ℕ × X)) (o : Ordering) → order_of_names n e.0 ≡ o → list_any (λ e. p e.0) put ≡ (p n || list_any (λ e. p e.0) es) → list_any (λ e. p e.0) (match_ordering o ((n, x) ∷ e ∷ es) ((e.0, x) ∷ es) (e ∷ put)) ≡ (p n || list_any (λ e. p e.0) (e ∷ es))
  any_by e es put Less is rest = refl
  any_by e es put Equal is rest = twice (p e.0) (list_any (λ e. p e.0) es) ∙ ap (λ k. p k || (p e.0 || list_any (λ e. p e.0) es)) (sym (equal_names n e.0 is))
  any_by e es put Greater is rest = ap (λ b. p e.0 || b) rest ∙ swapped (p e.0) (p n) (list_any (λ e. p e.0) es)

  -- a test of the names passes one of them, or the one that is put
  pub any_put : (es : List (List ℕ × X)) → list_any (λ e. p e.0) (with_entry es n x) ≡ (p n || list_any (λ e. p e.0) es)
  any_put [] = refl
  any_put (e ∷ es) = any_by e es (with_entry es n x) (order_of_names n e.0) refl (any_put es)
