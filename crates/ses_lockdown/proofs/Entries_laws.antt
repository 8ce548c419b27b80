-- The properties that permits make stand in the order of the permits, since no key stands twice among those of one object.
use Rattle.std.proofs.Common.{◌≡◌, ℕ, Bool, true, false, cond, nat_eq, List, [], ◌∷◌, ◌++◌, Option, Some, None, ◌⊎◌, inl, inr, refl, sym, ap, ◌∙◌, subst, append_assoc, append-nil}
use Rattle.std.specs.Cmp.{unsigned_Decides}
use Rattle.lava_base.specs.Ids.{same_made_symbol}
use Rattle.lava_base.specs.SameSymbols.{same_made_symbol_decides}
use Rattle.lava_base.specs.declared.ids.MadeSymbol.{MadeSymbol}
use Rattle.lava_base.specs.declared.ids.Ref.{Ref}
use Rattle.js_text.specs.SameKeys.{same_key_decides}
use Rattle.js_text.specs.Values.{same_key}
use Rattle.js_text.specs.declared.value.Key.{Key}
use Rattle.js_store.specs.Halves.{is_index}
use Rattle.js_store.specs.Laws.{Writing_leaves_others, New_names_go_last}
use Rattle.js_store.specs.Objects.{ordinary_get_own_property}
use Rattle.ses_lockdown.specs.Apart.{is_function, meet, apart_from, all_apart}
use Rattle.ses_lockdown.specs.Entries.{entry, entries}
use Rattle.ses_lockdown.specs.Lockdown.{Property, Properties, defined, with_permits}
use Rattle.ses_lockdown.specs.Permits.{Permit, key_of, is_for, place_at}
use Rattle.ses_lockdown.specs.declared.table.Holder.{Holder}
use Rattle.ses_lockdown.specs.declared.table.Holder.TheVariants.{EachFunction, At}
use Rattle.ses_lockdown.specs.declared.table.KeySort.{KeySort}
use Rattle.ses_lockdown.specs.declared.table.KeySort.TheVariants.{Named, Iterator}

-- a permit of a table
abbrev pub IsIn : Permit → List Permit → Type 0
IsIn r [] = ⊥
IsIn r (s ∷ ss) = (r ≡ s) ⊎ IsIn r ss

abbrev permit_key : Permit → Key MadeSymbol
permit_key r = key_of r.sort r.word

-- what stands at a key among properties
abbrev own : Key MadeSymbol → Properties → Option Property
own k ps = ordinary_get_own_property same_made_symbol k ps

-- what js_store says of a property that is written
pub record Writes : Type 0 where
  pub last : New_names_go_last Ref MadeSymbol
  pub others : Writing_leaves_others Ref MadeSymbol

no_index : (s : KeySort) (w : List ℕ) → is_index (key_of s w) ≡ false
no_index Named w = refl
no_index Iterator w = refl

same_itself : (k : Key MadeSymbol) → same_key same_made_symbol k k ≡ true
same_itself k = (same_key_decides same_made_symbol_decides k k).1 refl

other_way : (a b : Key MadeSymbol) → same_key same_made_symbol a b ≡ false → same_key same_made_symbol b a ≡ false
other_way a b h = by_test (same_key same_made_symbol b a) refl
  where
    clash : true ≡ false → true ≡ false
    clash e = e

    by_test : (t : Bool) → same_key same_made_symbol b a ≡ t → t ≡ false
    by_test false e = refl
    by_test true e = clash (sym (same_itself a) ∙ ap (λ k. same_key same_made_symbol a k) (sym ((same_key_decides same_made_symbol_decides b a).0 e)) ∙ h)

-- the two parts of a test that holds
pub both_hold : (a b : Bool) → cond a b false ≡ true → (a ≡ true) × (b ≡ true)
both_hold true b h = (refl, h)
both_hold false b h = absurd cc

apart_parts : (m k rest : Bool) → cond m (cond k false rest) rest ≡ true → (m ≡ true → k ≡ false) × (rest ≡ true)
apart_parts true true rest h = absurd cc
apart_parts true false rest h = (λ e. refl, h)
apart_parts false k rest h = (λ e. absurd cc, h)

module _ (place : ℕ) (callable : Bool) (kind : callable ≡ is_function (place_at place).0) where
  there : (p : ℕ) → nat_eq p place ≡ true → p ≡ place
  there p h = (unsigned_Decides p place).0 h

  -- the object is a function, if a permit says that it is for each
  function_there : (p : ℕ) → nat_eq p place ≡ true → callable ≡ true → is_function (place_at p).0 ≡ true
  function_there p h c = ap (λ n. is_function (place_at n).0) (there p h) ∙ sym kind ∙ c

  -- two permits that are for the object meet
  both_for : (g h : Holder) → is_for g place callable ≡ true → is_for h place callable ≡ true → meet g h ≡ true
  both_for EachFunction EachFunction a b = refl
  both_for EachFunction (At q) a b = function_there q b a
  both_for (At p) EachFunction a b = function_there p a b
  both_for (At p) (At q) a b = (unsigned_Decides p q).1 (there p a ∙ sym (there q b))

  -- no permit for the object has this key
  abbrev NoneHas : Key MadeSymbol → List Permit → Type 0
  NoneHas k [] = Unit {0}
  NoneHas k (s ∷ ss) = (is_for s.holder place callable ≡ true → same_key same_made_symbol k (permit_key s) ≡ false) × NoneHas k ss

  none_has : (r : Permit) (rs : List Permit) → is_for r.holder place callable ≡ true → apart_from r rs ≡ true → NoneHas (permit_key r) rs
  none_has r [] f h = tt
  none_has r (s ∷ ss) f h = with_parts (apart_parts (meet r.holder s.holder) (same_key same_made_symbol (permit_key r) (permit_key s)) (apart_from r ss) h) (none_has r ss f)
    where
      with_parts : (meet r.holder s.holder ≡ true → same_key same_made_symbol (permit_key r) (permit_key s) ≡ false) × (apart_from r ss ≡ true) → (apart_from r ss ≡ true → NoneHas (permit_key r) ss) → NoneHas (permit_key r) (s ∷ ss)
      with_parts x rest = (λ g. x.0 (both_for r.holder s.holder f g), rest x.1)

  has_another : (k : Key MadeSymbol) (r : Permit) (rs : List Permit) → IsIn r rs → is_for r.holder place callable ≡ true → NoneHas k rs → same_key same_made_symbol k (permit_key r) ≡ false
  has_another k r [] i f h = absurd i
  has_another k r (s ∷ ss) (inl e) f h = subst (λ x. is_for x.holder place callable ≡ true → same_key same_made_symbol k (permit_key x) ≡ false) (sym e) h.0 f
  has_another k r (s ∷ ss) (inr i) f h = has_another k r ss i f h.1

  -- nothing stands yet at the keys of these permits
  abbrev Free : List Permit → Properties → Type 0
  Free [] ps = Unit {0}
  Free (s ∷ ss) ps = (is_for s.holder place callable ≡ true → own (permit_key s) ps ≡ None) × Free ss ps

  all_free : (rs : List Permit) → Free rs []
  all_free [] = tt
  all_free (s ∷ ss) = (λ f. refl, all_free ss)

  module _ (laws : Writes) where
    free_after : (r : Permit) (d : Option Property) (rs : List Permit) (ps : Properties) → NoneHas (permit_key r) rs → Free rs ps → Free rs (defined r d ps)
    free_after r d [] ps h f = tt
    free_after r d (s ∷ ss) ps h f = (λ g. by_cases d (h.0 g) (f.0 g), free_after r d ss ps h.1 f.1)
      where
        by_cases : (d : Option Property) → same_key same_made_symbol (permit_key r) (permit_key s) ≡ false → own (permit_key s) ps ≡ None → own (permit_key s) (defined r d ps) ≡ None
        by_cases None apart free = free
        by_cases (Some d) apart free = laws.others same_made_symbol same_made_symbol_decides (permit_key r) (permit_key s) d ps (other_way (permit_key r) (permit_key s) apart) ∙ free

    -- a property at a key where nothing stands goes to the end
    at_the_end : (r : Permit) (d : Option Property) (ps : Properties) → own (permit_key r) ps ≡ None → defined r d ps ≡ ps ++ entry r d
    at_the_end r None ps h = sym (append-nil ps)
    at_the_end r (Some d) ps h = laws.last same_made_symbol (permit_key r) d ps h (no_index r.sort r.word)

    pub as_entries : (at : Permit → Option Property) (rs : List Permit) (ps : Properties) → all_apart rs ≡ true → Free rs ps → with_permits at place callable rs ps ≡ ps ++ entries at place callable rs
    as_entries at [] ps a f = sym (append-nil ps)
    as_entries at (r ∷ rs) ps a f = by_test (is_for r.holder place callable) refl (both_hold (apart_from r rs) (all_apart rs) a).0 (λ qs g. as_entries at rs qs (both_hold (apart_from r rs) (all_apart rs) a).1 g)
      where
        by_test : (b : Bool) → is_for r.holder place callable ≡ b → apart_from r rs ≡ true → ((qs : Properties) → Free rs qs → with_permits at place callable rs qs ≡ qs ++ entries at place callable rs) → with_permits at place callable rs (cond b (defined r (at r) ps) ps) ≡ ps ++ (cond b (entry r (at r)) [] ++ entries at place callable rs)
        by_test true e x next = next (defined r (at r) ps) (free_after r (at r) rs ps (none_has r rs e x) f.1) ∙ ap (λ qs. qs ++ entries at place callable rs) (at_the_end r (at r) ps (f.0 e)) ∙ append_assoc ps (entry r (at r)) (entries at place callable rs)
        by_test false e x next = next ps f.1

    pub in_order : (at : Permit → Option Property) (rs : List Permit) → all_apart rs ≡ true → with_permits at place callable rs [] ≡ entries at place callable rs
    in_order at rs a = as_entries at rs [] a (all_free rs)

  -- what is found at a key where no permit stands
  nothing_found : (at : Permit → Option Property) (k : Key MadeSymbol) (rs : List Permit) → NoneHas k rs → own k (entries at place callable rs) ≡ None
  nothing_found at k [] h = refl
  nothing_found at k (s ∷ ss) h = by_test (is_for s.holder place callable) h.0 (nothing_found at k ss h.1)
    where
      by_cases : (d : Option Property) → same_key same_made_symbol k (permit_key s) ≡ false → own k (entries at place callable ss) ≡ None → own k (entry s d ++ entries at place callable ss) ≡ None
      by_cases None apart rest = rest
      by_cases (Some d) apart rest = ap (λ b. cond b (Some d) (own k (entries at place callable ss))) apart ∙ rest

      by_test : (b : Bool) → (b ≡ true → same_key same_made_symbol k (permit_key s) ≡ false) → own k (entries at place callable ss) ≡ None → own k (cond b (entry s (at s)) [] ++ entries at place callable ss) ≡ None
      by_test true apart rest = by_cases (at s) (apart refl) rest
      by_test false apart rest = rest

  -- what is found at the key of a permit for the object is what stands there
  pub found : (at : Permit → Option Property) (r : Permit) (rs : List Permit) → all_apart rs ≡ true → IsIn r rs → is_for r.holder place callable ≡ true → own (permit_key r) (entries at place callable rs) ≡ at r
  found at r [] a i f = absurd i
  found at r (s ∷ ss) a (inl e) f = subst (λ x. own (permit_key x) (entries at place callable (s ∷ ss)) ≡ at x) (sym e) (by_test (is_for s.holder place callable) (subst (λ x. is_for x.holder place callable ≡ true) e f) (at s))
    where
      none : NoneHas (permit_key s) ss
      none = none_has s ss (subst (λ x. is_for x.holder place callable ≡ true) e f) (both_hold (apart_from s ss) (all_apart ss) a).0

      by_cases : (d : Option Property) → own (permit_key s) (entry s d ++ entries at place callable ss) ≡ d
      by_cases None = nothing_found at (permit_key s) ss none
      by_cases (Some d) = ap (λ b. cond b (Some d) (own (permit_key s) (entries at place callable ss))) (same_itself (permit_key s))

      by_test : (b : Bool) → b ≡ true → (d : Option Property) → own (permit_key s) (cond b (entry s d) [] ++ entries at place callable ss) ≡ d
      by_test true h d = by_cases d
      by_test false h d = absurd cc
  found at r (s ∷ ss) a (inr i) f = by_test (is_for s.holder place callable) refl (found at r ss (both_hold (apart_from s ss) (all_apart ss) a).1 i f)
    where
      parts : (apart_from s ss ≡ true) × (all_apart ss ≡ true)
      parts = both_hold (apart_from s ss) (all_apart ss) a

      by_cases : (d : Option Property) → same_key same_made_symbol (permit_key r) (permit_key s) ≡ false → own (permit_key r) (entries at place callable ss) ≡ at r → own (permit_key r) (entry s d ++ entries at place callable ss) ≡ at r
      by_cases None apart rest = rest
      by_cases (Some d) apart rest = ap (λ b. cond b (Some d) (own (permit_key r) (entries at place callable ss))) apart ∙ rest

      by_test : (b : Bool) → is_for s.holder place callable ≡ b → own (permit_key r) (entries at place callable ss) ≡ at r → own (permit_key r) (cond b (entry s (at s)) [] ++ entries at place callable ss) ≡ at r
      by_test true e rest = by_cases (at s) (other_way (permit_key s) (permit_key r) (has_another (permit_key s) r ss i f (none_has s ss e parts.0))) rest
      by_test false e rest = rest

  -- where two functions give the same for each permit for the object
  pub alike : (f g : Permit → Option Property) (rs : List Permit) → ((r : Permit) → IsIn r rs → is_for r.holder place callable ≡ true → f r ≡ g r) → entries f place callable rs ≡ entries g place callable rs
  alike f g [] h = refl
  alike f g (r ∷ rs) h = by_test (is_for r.holder place callable) (h r (inl refl)) ∙ ap (λ qs. cond (is_for r.holder place callable) (entry r (g r)) [] ++ qs) (alike f g rs (λ s i. h s (inr i)))
    where
      by_test : (b : Bool) → (b ≡ true → f r ≡ g r) → cond b (entry r (f r)) [] ++ entries f place callable rs ≡ cond b (entry r (g r)) [] ++ entries f place callable rs
      by_test true e = ap (λ d. entry r d ++ entries f place callable rs) (e refl)
      by_test false e = refl
