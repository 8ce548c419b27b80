-- The properties at indices and the others, one after the other, are one list in the normal order.
use Rattle.std.proofs.Common.{◌≡◌, ℕ, Bool, true, false, cond, Option, List, [], ◌∷◌, ◌++◌, map, filter, Some, None, refl, sym, ◌∙◌, ap, nat_eq, nat_lt, arith}
use Rattle.std.proofs.lemmas.Bool.Decides.{nat_tests}
use Rattle.std.specs.BTreeMap.{insert_entry, is_at}
use Rattle.std.specs.List.{AllByRecursion, IsDistinct}
use Rattle.std.specs.List.Sorted.{IsStrictlySortedBy}
use Rattle.std.specs.Map.{keys_of, lookup, remove_entry, set_value}
use Rattle.std.specs.Option.{unwrap_or}
use Rattle.std.specs.Ordering.{is_eq, nat_cmp, match_ordering}
use Rattle.std.specs.declared.cmp.Ordering.TheVariants.{Less}
use Rattle.indexmap.specs.IndexMap.{insert_entry as insert_named}
use Rattle.lava_base.specs.Ids.{same_made_symbol}
use Rattle.lava_base.specs.declared.ids.MadeSymbol.{MadeSymbol}
use Rattle.lava_base.specs.declared.ids.Ref.{Ref}
use Rattle.js_text.specs.Values.{same_key}
use Rattle.js_text.specs.declared.value.Key.{Key}
use Rattle.js_text.specs.declared.value.Key.TheVariants as key
use Rattle.js_desc.specs.declared.descriptor.Descriptor.{Descriptor}
use Rattle.js_store.specs.Dense.{last_of}
use Rattle.js_store.specs.Halves.{index_entry, is_index, joined, IsNamed}
use Rattle.js_store.specs.Order.{PrecedesAll, IsInOrder}
use Rattle.js_store.specs.Objects.{index_before, last_index, replaced, ordinary_get_own_property, goes_before, written, without, is_text, is_symbol, ordinary_own_property_keys}

abbrev Elements : Type 0
Elements = List (ℕ × Descriptor Ref MadeSymbol)

abbrev Named : Type 0
Named = List (Key MadeSymbol × Descriptor Ref MadeSymbol)

-- NUMBERS

at_is : (i j : ℕ) → is_eq (nat_cmp i j) ≡ nat_eq i j
at_is i j = grind (arith, nat_tests)

ranked : {X : Type 0} (i j : ℕ) (a b c : X) → match_ordering (nat_cmp i j) a b c ≡ cond (nat_eq i j) b (cond (nat_lt i j) a c)
ranked i j a b c = grind (arith, nat_tests)

-- A KEY THAT IS NO INDEX

-- it is not an index
no_index : (k : Key MadeSymbol) (i : ℕ) → is_index k ≡ false → same_key same_made_symbol k (key.Index i) ≡ false
no_index (key.Index j) i h = absurd cc
no_index (key.Text t) i h = refl
no_index (key.Symbol s) i h = refl

-- and no index is it
no_name : (k : Key MadeSymbol) (i : ℕ) → is_index k ≡ false → same_key same_made_symbol (key.Index i) k ≡ false
no_name (key.Index j) i h = absurd cc
no_name (key.Text t) i h = refl
no_name (key.Symbol s) i h = refl

-- it goes before no key
goes_last : (k o : Key MadeSymbol) → is_index k ≡ false → goes_before k o ≡ false
goes_last (key.Index j) o h = absurd cc
goes_last (key.Text t) o h = refl
goes_last (key.Symbol s) o h = refl

-- each index goes before it
goes_first : (k : Key MadeSymbol) (i : ℕ) → is_index k ≡ false → goes_before (key.Index i) k ≡ true
goes_first (key.Index j) i h = absurd cc
goes_first (key.Text t) i h = refl
goes_first (key.Symbol s) i h = refl

-- WHAT IS FOUND

absent : (i : ℕ) (ns : Named) → IsNamed ns → ordinary_get_own_property same_made_symbol (key.Index i) ns ≡ None
absent i [] named = refl
absent i (n ∷ ns) named = ap (λ b. cond b (Some n.1) (ordinary_get_own_property same_made_symbol (key.Index i) ns)) (no_name n.0 i named.0) ∙ absent i ns named.1

pub own_index : (i : ℕ) (es : Elements) (ns : Named) → IsNamed ns → ordinary_get_own_property same_made_symbol (key.Index i) (joined es ns) ≡ lookup (is_at (nat_cmp i)) es
own_index i [] ns named = absent i ns named
own_index i (e ∷ es) ns named =
    ap (λ b. cond b (Some e.1) (ordinary_get_own_property same_made_symbol (key.Index i) (joined es ns))) (sym (at_is i e.0))
    ∙ ap (λ r. cond (is_eq (nat_cmp i e.0)) (Some e.1) r) (own_index i es ns named)

pub own_named : (k : Key MadeSymbol) (es : Elements) (ns : Named) → is_index k ≡ false → ordinary_get_own_property same_made_symbol k (joined es ns) ≡ lookup (same_key same_made_symbol k) ns
own_named k [] ns h = refl
own_named k (e ∷ es) ns h = ap (λ b. cond b (Some e.1) (ordinary_get_own_property same_made_symbol k (joined es ns))) (no_index k e.0 h) ∙ own_named k es ns h

-- WHAT IS WRITTEN

put_first : (i : ℕ) (d : Descriptor Ref MadeSymbol) (ns : Named) → IsNamed ns → written same_made_symbol (key.Index i) d ns ≡ (key.Index i, d) ∷ ns
put_first i d [] named = refl
put_first i d (n ∷ ns) named =
    ap (λ b. cond b ((n.0, d) ∷ ns) (cond (goes_before (key.Index i) n.0) ((key.Index i, d) ∷ n ∷ ns) (n ∷ written same_made_symbol (key.Index i) d ns))) (no_name n.0 i named.0)
    ∙ ap (λ b. cond b ((key.Index i, d) ∷ n ∷ ns) (n ∷ written same_made_symbol (key.Index i) d ns)) (goes_first n.0 i named.0)

moved_in : (i : ℕ) (e : ℕ × Descriptor Ref MadeSymbol) (a b c : Elements) (ns : Named)
    → joined (match_ordering (nat_cmp i e.0) a b c) ns ≡ cond (nat_eq i e.0) (joined b ns) (cond (nat_lt i e.0) (joined a ns) (joined c ns))
moved_in i e a b c ns = ap (λ es. joined es ns) (ranked i e.0 a b c) ∙ outside (nat_eq i e.0) (nat_lt i e.0)
  where
    outside : (s t : Bool) → joined (cond s b (cond t a c)) ns ≡ cond s (joined b ns) (cond t (joined a ns) (joined c ns))
    outside true t = refl
    outside false true = refl
    outside false false = refl

pub written_index : (i : ℕ) (d : Descriptor Ref MadeSymbol) (es : Elements) (ns : Named) → IsNamed ns → joined (insert_entry nat_cmp es i d) ns ≡ written same_made_symbol (key.Index i) d (joined es ns)
written_index i d [] ns named = sym (put_first i d ns named)
written_index i d (e ∷ es) ns named =
    moved_in i e ((i, d) ∷ e ∷ es) ((e.0, d) ∷ es) (e ∷ insert_entry nat_cmp es i d) ns
    ∙ ap (λ l. cond (nat_eq i e.0) ((key.Index e.0, d) ∷ joined es ns) (cond (nat_lt i e.0) ((key.Index i, d) ∷ index_entry e ∷ joined es ns) (index_entry e ∷ l))) (written_index i d es ns named)

put_last : (k : Key MadeSymbol) (d : Descriptor Ref MadeSymbol) (ns : Named) → is_index k ≡ false → insert_named (same_key same_made_symbol) ns k d ≡ written same_made_symbol k d ns
put_last k d [] h = refl
put_last k d (n ∷ ns) h =
    ap (λ l. cond (same_key same_made_symbol k n.0) ((n.0, d) ∷ ns) (n ∷ l)) (put_last k d ns h)
    ∙ sym (ap (λ b. cond (same_key same_made_symbol k n.0) ((n.0, d) ∷ ns) (cond b ((k, d) ∷ n ∷ ns) (n ∷ written same_made_symbol k d ns))) (goes_last k n.0 h))

pub written_named : (k : Key MadeSymbol) (d : Descriptor Ref MadeSymbol) (es : Elements) (ns : Named) → is_index k ≡ false → joined es (insert_named (same_key same_made_symbol) ns k d) ≡ written same_made_symbol k d (joined es ns)
written_named k d [] ns h = put_last k d ns h
written_named k d (e ∷ es) ns h =
    ap (λ l. index_entry e ∷ l) (written_named k d es ns h)
    ∙ sym (ap (λ b. cond b ((key.Index e.0, d) ∷ joined es ns) (cond (goes_before k (key.Index e.0)) ((k, d) ∷ index_entry e ∷ joined es ns) (index_entry e ∷ written same_made_symbol k d (joined es ns)))) (no_index k e.0 h)
    ∙ ap (λ b. cond b ((k, d) ∷ index_entry e ∷ joined es ns) (index_entry e ∷ written same_made_symbol k d (joined es ns))) (goes_last k (key.Index e.0) h))

-- no index comes in
pub named_written : (k : Key MadeSymbol) (d : Descriptor Ref MadeSymbol) (ns : Named) → is_index k ≡ false → IsNamed ns → IsNamed (insert_named (same_key same_made_symbol) ns k d)
named_written k d [] h named = (h, cc)
named_written k d (n ∷ ns) h named = by_test (same_key same_made_symbol k n.0) (named_written k d ns h named.1)
  where
    by_test : (b : Bool) → IsNamed (insert_named (same_key same_made_symbol) ns k d) → IsNamed (cond b ((n.0, d) ∷ ns) (n ∷ insert_named (same_key same_made_symbol) ns k d))
    by_test true rest = named
    by_test false rest = (named.0, rest)

-- WHAT IS TAKEN OUT

untouched : (i : ℕ) (ns : Named) → IsNamed ns → without same_made_symbol (key.Index i) ns ≡ ns
untouched i [] named = refl
untouched i (n ∷ ns) named = ap (λ b. cond b ns (n ∷ without same_made_symbol (key.Index i) ns)) (no_name n.0 i named.0) ∙ ap (λ l. n ∷ l) (untouched i ns named.1)

taken_in : (e : ℕ × Descriptor Ref MadeSymbol) (a : Elements) (b : Elements) (ns : Named) (t : Bool) → joined (cond t a (e ∷ b)) ns ≡ cond t (joined a ns) (index_entry e ∷ joined b ns)
taken_in e a b ns true = refl
taken_in e a b ns false = refl

pub without_index : (i : ℕ) (es : Elements) (ns : Named) → IsNamed ns → joined (remove_entry (is_at (nat_cmp i)) es) ns ≡ without same_made_symbol (key.Index i) (joined es ns)
without_index i [] ns named = sym (untouched i ns named)
without_index i (e ∷ es) ns named =
    taken_in e es (remove_entry (is_at (nat_cmp i)) es) ns (is_eq (nat_cmp i e.0))
    ∙ ap (λ b. cond b (joined es ns) (index_entry e ∷ joined (remove_entry (is_at (nat_cmp i)) es) ns)) (at_is i e.0)
    ∙ ap (λ l. cond (nat_eq i e.0) (joined es ns) (index_entry e ∷ l)) (without_index i es ns named)

pub without_named : (k : Key MadeSymbol) (es : Elements) (ns : Named) → is_index k ≡ false → joined es (remove_entry (same_key same_made_symbol k) ns) ≡ without same_made_symbol k (joined es ns)
without_named k [] ns h = refl
without_named k (e ∷ es) ns h =
    ap (λ l. index_entry e ∷ l) (without_named k es ns h)
    ∙ sym (ap (λ b. cond b (joined es ns) (index_entry e ∷ without same_made_symbol k (joined es ns))) (no_index k e.0 h))

-- no index comes in
pub named_without : (k : Key MadeSymbol) (ns : Named) → IsNamed ns → IsNamed (remove_entry (same_key same_made_symbol k) ns)
named_without k [] named = cc
named_without k (n ∷ ns) named = by_test (same_key same_made_symbol k n.0) (named_without k ns named.1)
  where
    by_test : (b : Bool) → IsNamed (remove_entry (same_key same_made_symbol k) ns) → IsNamed (cond b ns (n ∷ remove_entry (same_key same_made_symbol k) ns))
    by_test true rest = named.1
    by_test false rest = (named.0, rest)

-- WHAT IS REPLACED

not_replaced : (i : ℕ) (d : Descriptor Ref MadeSymbol) (ns : Named) → IsNamed ns → replaced same_made_symbol (key.Index i) d ns ≡ ns
not_replaced i d [] named = refl
not_replaced i d (n ∷ ns) named = ap (λ b. cond b ((n.0, d) ∷ ns) (n ∷ replaced same_made_symbol (key.Index i) d ns)) (no_name n.0 i named.0) ∙ ap (λ l. n ∷ l) (not_replaced i d ns named.1)

put_in : (e : ℕ × Descriptor Ref MadeSymbol) (d : Descriptor Ref MadeSymbol) (a : Elements) (b : Elements) (ns : Named) (t : Bool) → joined (cond t ((e.0, d) ∷ a) (e ∷ b)) ns ≡ cond t ((key.Index e.0, d) ∷ joined a ns) (index_entry e ∷ joined b ns)
put_in e d a b ns true = refl
put_in e d a b ns false = refl

pub replaced_index : (i : ℕ) (d : Descriptor Ref MadeSymbol) (es : Elements) (ns : Named) → IsNamed ns → joined (set_value (is_at (nat_cmp i)) es d) ns ≡ replaced same_made_symbol (key.Index i) d (joined es ns)
replaced_index i d [] ns named = sym (not_replaced i d ns named)
replaced_index i d (e ∷ es) ns named =
    put_in e d es (set_value (is_at (nat_cmp i)) es d) ns (is_eq (nat_cmp i e.0))
    ∙ ap (λ b. cond b ((key.Index e.0, d) ∷ joined es ns) (index_entry e ∷ joined (set_value (is_at (nat_cmp i)) es d) ns)) (at_is i e.0)
    ∙ ap (λ l. cond (nat_eq i e.0) ((key.Index e.0, d) ∷ joined es ns) (index_entry e ∷ l)) (replaced_index i d es ns named)

pub replaced_named : (k : Key MadeSymbol) (d : Descriptor Ref MadeSymbol) (es : Elements) (ns : Named) → is_index k ≡ false → joined es (set_value (same_key same_made_symbol k) ns d) ≡ replaced same_made_symbol k d (joined es ns)
replaced_named k d [] ns h = refl
replaced_named k d (e ∷ es) ns h =
    ap (λ l. index_entry e ∷ l) (replaced_named k d es ns h)
    ∙ sym (ap (λ b. cond b ((key.Index e.0, d) ∷ joined es ns) (index_entry e ∷ replaced same_made_symbol k d (joined es ns))) (no_index k e.0 h))

-- the keys stay
pub named_replaced : (test : Key MadeSymbol → Bool) (d : Descriptor Ref MadeSymbol) (ns : Named) → IsNamed ns → IsNamed (set_value test ns d)
named_replaced test d [] named = named
named_replaced test d (n ∷ ns) named = by_test (test n.0) (named_replaced test d ns named.1)
  where
    by_test : (b : Bool) → IsNamed (set_value test ns d) → IsNamed (cond b ((n.0, d) ∷ ns) (n ∷ set_value test ns d))
    by_test true rest = named
    by_test false rest = (named.0, rest)

-- THE LAST INDEX

none_named : (ns : Named) → IsNamed ns → last_index ns ≡ None
none_named [] named = refl
none_named (n ∷ ns) named = passed n.0 (last_index ns) named.0 ∙ none_named ns named.1
  where
    passed : (k : Key MadeSymbol) (later : Option ℕ) → is_index k ≡ false → index_before k later ≡ later
    passed (key.Index i) later h = absurd cc
    passed (key.Text t) later h = refl
    passed (key.Symbol s) later h = refl

pub last_joined : (es : Elements) (ns : Named) → IsNamed ns → last_index (joined es ns) ≡ last_of es
last_joined [] ns named = none_named ns named
last_joined (e ∷ es) ns named = ap (λ o. Some (unwrap_or o e.0)) (last_joined es ns named)

-- THE KEYS

texts_first : (es : Elements) (ns : Named) → filter is_text (keys_of (joined es ns)) ≡ map key.Index (keys_of es) ++ filter is_text (keys_of ns)
texts_first [] ns = refl
texts_first (e ∷ es) ns = ap (λ l. key.Index e.0 ∷ l) (texts_first es ns)

no_symbols_first : (es : Elements) (ns : Named) → filter is_symbol (keys_of (joined es ns)) ≡ filter is_symbol (keys_of ns)
no_symbols_first [] ns = refl
no_symbols_first (e ∷ es) ns = no_symbols_first es ns

pub keys_joined : (es : Elements) (ns : Named) → ordinary_own_property_keys (joined es ns) ≡ (map key.Index (keys_of es) ++ filter is_text (keys_of ns)) ++ filter is_symbol (keys_of ns)
keys_joined es ns = λ j. texts_first es ns j ++ no_symbols_first es ns j

-- THE ORDER

-- an index may stand before each greater one
precedes_elements : (i : ℕ) (es : Elements) (ns : Named) → AllByRecursion (λ j. nat_cmp i j ≡ Less) (keys_of es) → PrecedesAll same_made_symbol (key.Index i) ns → PrecedesAll same_made_symbol (key.Index i) (joined es ns)
precedes_elements i [] ns less named = named
precedes_elements i (e ∷ es) ns less named = (record { other = grind (arith, nat_tests); before = grind (arith, nat_tests) }, precedes_elements i es ns less.1 named)

-- and before each key that is no index
precedes_named : (i : ℕ) (ns : Named) → IsNamed ns → PrecedesAll same_made_symbol (key.Index i) ns
precedes_named i [] named = record {}
precedes_named i (n ∷ ns) named = (record { other = no_name n.0 i named.0; before = goes_last n.0 (key.Index i) named.0 }, precedes_named i ns named.1)

others_precede : (k : Key MadeSymbol) (ns : Named) → AllByRecursion (λ o. same_key same_made_symbol k o ≡ false) (keys_of ns) → IsNamed ns → PrecedesAll same_made_symbol k ns
others_precede k [] distinct named = record {}
others_precede k (n ∷ ns) distinct named = (record { other = distinct.0; before = goes_last n.0 k named.0 }, others_precede k ns distinct.1 named.1)

named_in_order : (ns : Named) → IsDistinct (same_key same_made_symbol) (keys_of ns) → IsNamed ns → IsInOrder same_made_symbol ns
unfolding IsDistinct
named_in_order [] distinct named = record {}
named_in_order (n ∷ ns) distinct named = (others_precede n.0 ns distinct.0 named.1, named_in_order ns distinct.1 named.1)

pub joined_in_order : (es : Elements) (ns : Named) → IsStrictlySortedBy nat_cmp (keys_of es) → IsDistinct (same_key same_made_symbol) (keys_of ns) → IsNamed ns → IsInOrder same_made_symbol (joined es ns)
unfolding IsStrictlySortedBy
joined_in_order [] ns sorted distinct named = named_in_order ns distinct named
joined_in_order (e ∷ es) ns sorted distinct named = (precedes_elements e.0 es ns sorted.0 (precedes_named e.0 ns named), joined_in_order es ns sorted.1 distinct named)
