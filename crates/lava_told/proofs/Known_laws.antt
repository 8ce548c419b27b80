-- Numbers are given once: what is named keeps its number, numbers are below the count, and no two of a party have one.
use Rattle.std.proofs.Common.{◌≡◌, ℕ, ◌+◌, ◌<◌, ◌==◌, Bool, true, false, ◌&&◌, cond, if◌then◌else◌, nat_lt, List, [], ◌∷◌, ◌++◌, Option, Some, None, refl, ap, ◌∙◌, sym, subst, ◌⊎◌, inl, inr, ⊎_elim, arith, ltb-true, eqb-true}
use Rattle.std.proofs.lemmas.Bool.{and_parts}
use Rattle.std.proofs.lemmas.List.Sums.{fold_push}
use Rattle.std.specs.List.{count_by}
use Rattle.std.specs.Map.{lookup}
use Rattle.std.specs.Option.{option_or}
use Rattle.lava_base.specs.Ids.{same_made_symbol, same_ref}
use Rattle.lava_base.specs.SameRefs.{same_ref_decides}
use Rattle.lava_base.specs.SameSymbols.{same_made_symbol_decides}
use Rattle.lava_base.specs.declared.ids.MadeSymbol.{MadeSymbol}
use Rattle.lava_base.specs.declared.ids.ObjId.{ObjId}
use Rattle.lava_base.specs.declared.ids.PartyId.{PartyId}
use Rattle.lava_base.specs.declared.ids.Ref.{Ref}
use Rattle.lava_base.specs.declared.ids.Ref.TheVariants.{Own}
use Rattle.lava_journal.specs.Sheets.{TraceNames, count_at_start, count_of, known_object, known_symbol, number_at_start, object_is_of, symbol_is_of, with_object, with_symbol}
use Rattle.lava_journal.specs.declared.numbers.TheConstants.{HOST_OBJECTS}

-- ONE MORE

pub found_in : {K X : Type 0} (test : K → Bool) (a c : List (K × X)) → lookup test (a ++ c) ≡ option_or (lookup test a) (lookup test c)
found_in test [] c = refl
found_in test (e ∷ a) c = ap (cond (test e.0) (Some e.1)) (found_in test a c) ∙ in_turn (test e.0) e.1 (lookup test a) (lookup test c)
  where
    in_turn : {X : Type 0} (b : Bool) (x : X) (o p : Option X) → cond b (Some x) (option_or o p) ≡ option_or (cond b (Some x) o) p
    in_turn true x o p = refl
    in_turn false x o p = refl

pub option_or_assoc : {X : Type 0} (a b c : Option X) → option_or a (option_or b c) ≡ option_or (option_or a b) c
option_or_assoc None b c = refl
option_or_assoc (Some x) b c = refl

pub some_same : {X : Type 0} (x y : X) → Some x ≡ Some y → x ≡ y
some_same x y h = cc

-- what is found of some, or of one more
pub old_or_new : (o : Option ℕ) (b : Bool) (n k : ℕ) → option_or o (cond b (Some n) None) ≡ Some k → (o ≡ Some k) ⊎ ((b ≡ true) × (n ≡ k))
old_or_new (Some m) b n k h = inl h
old_or_new None true n k h = inr (refl, some_same n k h)
old_or_new None false n k h = absurd cc

still_found : (o p : Option ℕ) (k : ℕ) → o ≡ Some k → option_or o p ≡ Some k
still_found o p k h = ap (λ x. option_or x p) h

counted_push : {X : Type 0} (test : X → Bool) (xs : List X) (x : X) → count_by test (xs ++ x ∷ []) ≡ count_by test xs + (if test x then 1 else 0)
counted_push test xs x = fold_push (λ a y. a + cond (test y) 1 0) 0 xs x

pub itself : (r : Ref) → same_ref r r ≡ true
itself r = (same_ref_decides r r).1 refl

pub same_symbol : (s : MadeSymbol) → same_made_symbol s s ≡ true
same_symbol s = (same_made_symbol_decides s s).1 refl

-- AN OBJECT MORE

abbrev pub object_more : TraceNames → PartyId → ObjId → TraceNames
object_more names p i = with_object names p i None

abbrev pub symbol_more : TraceNames → MadeSymbol → TraceNames
symbol_more names s = with_symbol names s None

object_found : (names : TraceNames) (p : PartyId) (i : ObjId) (q : PartyId) (j : ObjId)
    → known_object (object_more names p i) q j ≡ option_or (known_object names q j) (cond (same_ref (Own q j) (Own p i)) (Some (count_of names p.0)) None)
object_found names p i q j =
    let new : List (Ref × ℕ) = (Own p i, count_of names p.0) ∷ [] in
    ap (option_or (number_at_start q.0 j.0)) (found_in (same_ref (Own q j)) names.objects new)
    ∙ option_or_assoc (number_at_start q.0 j.0) (lookup (same_ref (Own q j)) names.objects) (lookup (same_ref (Own q j)) new)

symbol_found : (names : TraceNames) (s t : MadeSymbol)
    → known_symbol (symbol_more names s) t ≡ option_or (known_symbol names t) (cond (same_made_symbol t s) (Some (count_of names s.party.0)) None)
symbol_found names s t = found_in (same_made_symbol t) names.symbols ((s, count_of names s.party.0) ∷ [])

-- it is known from then on, by the count that was
pub object_known : (names : TraceNames) (p : PartyId) (i : ObjId) → known_object names p i ≡ None → known_object (object_more names p i) p i ≡ Some (count_of names p.0)
object_known names p i h =
    object_found names p i p i
    ∙ (λ k. option_or (h k) (cond (itself (Own p i) k) (Some (count_of names p.0)) None))

pub symbol_known : (names : TraceNames) (s : MadeSymbol) → known_symbol names s ≡ None → known_symbol (symbol_more names s) s ≡ Some (count_of names s.party.0)
symbol_known names s h = symbol_found names s s ∙ (λ k. option_or (h k) (cond (same_symbol s k) (Some (count_of names s.party.0)) None))

-- and nothing else is
pub object_new : (names : TraceNames) (p : PartyId) (i : ObjId) (q : PartyId) (j : ObjId) (k : ℕ) → known_object (object_more names p i) q j ≡ Some k
    → (known_object names q j ≡ Some k) ⊎ ((same_ref (Own q j) (Own p i) ≡ true) × (count_of names p.0 ≡ k))
object_new names p i q j k h = old_or_new (known_object names q j) (same_ref (Own q j) (Own p i)) (count_of names p.0) k (sym (object_found names p i q j) ∙ h)

pub symbol_new : (names : TraceNames) (s t : MadeSymbol) (k : ℕ) → known_symbol (symbol_more names s) t ≡ Some k
    → (known_symbol names t ≡ Some k) ⊎ ((same_made_symbol t s ≡ true) × (count_of names s.party.0 ≡ k))
symbol_new names s t k h = old_or_new (known_symbol names t) (same_made_symbol t s) (count_of names s.party.0) k (sym (symbol_found names s t) ∙ h)

-- what was known still is
pub object_still : (names : TraceNames) (p : PartyId) (i : ObjId) (q : PartyId) (j : ObjId) (k : ℕ) → known_object names q j ≡ Some k → known_object (object_more names p i) q j ≡ Some k
object_still names p i q j k h = object_found names p i q j ∙ still_found (known_object names q j) (cond (same_ref (Own q j) (Own p i)) (Some (count_of names p.0)) None) k h

pub symbol_still : (names : TraceNames) (s t : MadeSymbol) (k : ℕ) → known_symbol names t ≡ Some k → known_symbol (symbol_more names s) t ≡ Some k
symbol_still names s t k h = symbol_found names s t ∙ still_found (known_symbol names t) (cond (same_made_symbol t s) (Some (count_of names s.party.0)) None) k h

-- and its party has one more
pub object_counts : (names : TraceNames) (p : PartyId) (i : ObjId) (q : ℕ) → count_of (object_more names p i) q ≡ count_of names q + (if p.0 == q then 1 else 0)
object_counts names p i q = omega (arith, counted_push (object_is_of q) names.objects (Own p i, count_of names p.0))

pub symbol_counts : (names : TraceNames) (s : MadeSymbol) (q : ℕ) → count_of (symbol_more names s) q ≡ count_of names q + (if s.party.0 == q then 1 else 0)
symbol_counts names s q = omega (arith, counted_push (symbol_is_of q) names.symbols (s, count_of names s.party.0))

-- AT THE START

start_by : (a b : Bool) (i k : ℕ) → (if a then Some i else if b then Some 0 else None) ≡ Some k → ((a ≡ true) × (i ≡ k)) ⊎ ((a ≡ false) × (b ≡ true) × (0 ≡ k))
start_by true b i k h = inl (refl, some_same i k h)
start_by false true i k h = inr (refl, refl, some_same 0 k h)
start_by false false i k h = absurd cc

-- the number of a start is the id, and counted there
pub start_is : (p i k : ℕ) → number_at_start p i ≡ Some k → (i ≡ k) × (k < count_at_start p)
start_is p i k h = ⊎_elim
    (λ (e : ((p == 0 && nat_lt i HOST_OBJECTS) ≡ true) × (i ≡ k)).
    let parts = and_parts (p == 0) (nat_lt i HOST_OBJECTS) e.0 in
    (e.1, omega (arith, ltb-true i HOST_OBJECTS parts.1, e.1, ap (λ b. if b then HOST_OBJECTS else if p == 1 then 1 else 0) parts.0)))
    (λ (e : ((p == 0 && nat_lt i HOST_OBJECTS) ≡ false) × ((p == 1 && i == 0) ≡ true) × (0 ≡ k)).
    let parts = and_parts (p == 1) (i == 0) e.1 in
    let one = eqb-true p 1 parts.0 in
    (omega (arith, eqb-true i 0 parts.1, e.2), subst (λ q. k < count_at_start q) (sym one) (omega (arith, e.2))))
    (start_by (p == 0 && nat_lt i HOST_OBJECTS) (p == 1 && i == 0) i k h)

known_by : (o p : Option ℕ) (k : ℕ) → option_or o p ≡ Some k → (o ≡ Some k) ⊎ ((o ≡ None) × (p ≡ Some k))
known_by (Some m) p k h = inl h
known_by None p k h = inr (refl, h)

pub known_from : (names : TraceNames) (p : PartyId) (i : ObjId) (k : ℕ) → known_object names p i ≡ Some k
    → (number_at_start p.0 i.0 ≡ Some k) ⊎ ((number_at_start p.0 i.0 ≡ None) × (lookup (same_ref (Own p i)) names.objects ≡ Some k))
known_from names p i k h = known_by (number_at_start p.0 i.0) (lookup (same_ref (Own p i)) names.objects) k h
