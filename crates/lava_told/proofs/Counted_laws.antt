-- What is named keeps its number; each number is below the count, and no two of a party have one.
use Rattle.std.proofs.Common.{◌≡◌, ℕ, ◌<◌, ◌≤◌, ◌==◌, Bool, true, false, if◌then◌else◌, nat_eq, [], ◌∷◌, Option, Some, None, refl, ap, ◌∙◌, sym, ⊎_elim, arith, eqb-true, eq-eqb}
use Rattle.std.proofs.lemmas.Bool.{and_parts}
use Rattle.std.specs.Map.{lookup}
use Rattle.lava_base.specs.Ids.{same_made_symbol, same_ref}
use Rattle.lava_base.specs.SameSymbols.{same_made_symbol_decides}
use Rattle.lava_base.specs.declared.ids.MadeSymbol.{MadeSymbol}
use Rattle.lava_base.specs.declared.ids.ObjId.{ObjId}
use Rattle.lava_base.specs.declared.ids.PartyId.{PartyId}
use Rattle.lava_base.specs.declared.ids.Ref.{Ref}
use Rattle.lava_base.specs.declared.ids.Ref.TheVariants.{Common, Own}
use Rattle.lava_journal.specs.Bodies.{Pieces}
use Rattle.lava_journal.specs.Sheets.{An_object, A_symbol, Piece, Plain, TraceNames, count_at_start, count_of, is_shown, known_object, known_symbol, no_names, number_at_start, number_of, with_object, with_symbol}
use Rattle.lava_trace_laws.specs.Spelled.{named_then, piece_names, shown_then}
use Rattle.lava_trace_laws.proofs.Line_laws.{names_behind}
use Rattle.lava_told.proofs.Known_laws.{found_in, known_from, object_counts, object_known, object_more, object_new, object_still, old_or_new, start_is, symbol_counts, symbol_known, symbol_more, symbol_new, symbol_still}

-- WHAT IS KNOWN STAYS KNOWN

pub record Grows (a b : TraceNames) : Type 0 where
  pub object : (p : PartyId) (i : ObjId) (k : ℕ) → known_object a p i ≡ Some k → known_object b p i ≡ Some k
  pub symbol : (s : MadeSymbol) (k : ℕ) → known_symbol a s ≡ Some k → known_symbol b s ≡ Some k

pub grows_not : (a : TraceNames) → Grows a a
grows_not a = record { object = λ p i k h. h; symbol = λ s k h. h }

pub grows_on : (a b c : TraceNames) → Grows a b → Grows b c → Grows a c
grows_on a b c g h = record { object = λ p i k e. h.object p i k (g.object p i k e); symbol = λ s k e. h.symbol s k (g.symbol s k e) }

object_grows : (names : TraceNames) (p : PartyId) (i : ObjId) (o : Option ℕ) → Grows names (with_object names p i o)
object_grows names p i (Some k) = grows_not names
object_grows names p i None = record { object = object_still names p i; symbol = λ s k h. h }

symbol_grows : (names : TraceNames) (s : MadeSymbol) (o : Option ℕ) → Grows names (with_symbol names s o)
symbol_grows names s (Some k) = grows_not names
symbol_grows names s None = record { object = λ p i k h. h; symbol = symbol_still names s }

named_grows : (names : TraceNames) (r : Ref) → Grows names (named_then names r)
named_grows names (Common c) = grows_not names
named_grows names (Own p i) = object_grows names p i (known_object names p i)

pub shown_grows : (b : Bool) (names named : TraceNames) (r : Ref) → Grows names named → Grows names (shown_then b named r)
shown_grows true names named r g = g
shown_grows false names named r g = record { object = g.object; symbol = g.symbol }

pub piece_grows : (names : TraceNames) (x : Piece Ref MadeSymbol) → Grows names (piece_names names x)
piece_grows names (Plain bytes) = grows_not names
piece_grows names (An_object r) = shown_grows (is_shown names r) names (named_then names r) r (named_grows names r)
piece_grows names (A_symbol s) = symbol_grows names s (known_symbol names s)

pub behind_grows : (names : TraceNames) (ps : Pieces Ref MadeSymbol) → Grows names (names_behind names ps)
behind_grows names [] = grows_not names
behind_grows names (x ∷ ps) = grows_on names (piece_names names x) (names_behind (piece_names names x) ps) (piece_grows names x) (behind_grows (piece_names names x) ps)

-- WHAT IS NAMED IS KNOWN

object_with : (names : TraceNames) (p : PartyId) (i : ObjId) (o : Option ℕ) → known_object names p i ≡ o → known_object (with_object names p i o) p i ≡ Some (number_of names p.0 o)
object_with names p i (Some k) h = h
object_with names p i None h = object_known names p i h

symbol_with : (names : TraceNames) (s : MadeSymbol) (o : Option ℕ) → known_symbol names s ≡ o → known_symbol (with_symbol names s o) s ≡ Some (number_of names s.party.0 o)
symbol_with names s (Some k) h = h
symbol_with names s None h = symbol_known names s h

-- an object has its number behind itself
pub object_after : (names : TraceNames) (p : PartyId) (i : ObjId) → known_object (piece_names names (An_object (Own p i))) p i ≡ Some (number_of names p.0 (known_object names p i))
object_after names p i =
    let named = with_object names p i (known_object names p i) in
    (shown_grows (is_shown names (Own p i)) named named (Own p i) (grows_not named)).object p i (number_of names p.0 (known_object names p i)) (object_with names p i (known_object names p i) refl)

pub symbol_after : (names : TraceNames) (s : MadeSymbol) → known_symbol (piece_names names (A_symbol s)) s ≡ Some (number_of names s.party.0 (known_symbol names s))
symbol_after names s = symbol_with names s (known_symbol names s) refl

-- NUMBERS

pub record Counted (n : TraceNames) : Type 0 where
  -- numbers are below the count
  pub below : (p : PartyId) (i : ObjId) (k : ℕ) → known_object n p i ≡ Some k → k < count_of n p.0
  -- those that were not given at the start stand above these
  pub above : (p : PartyId) (i : ObjId) (k : ℕ) → lookup (same_ref (Own p i)) n.objects ≡ Some k → count_at_start p.0 ≤ k
  -- no two objects of a party have one
  pub single : (p : PartyId) (i j : ObjId) (k : ℕ) → known_object n p i ≡ Some k → known_object n p j ≡ Some k → i ≡ j
  pub below_symbol : (s : MadeSymbol) (k : ℕ) → known_symbol n s ≡ Some k → k < count_of n s.party.0
  pub single_symbol : (s t : MadeSymbol) (k : ℕ) → s.party.0 ≡ t.party.0 → known_symbol n s ≡ Some k → known_symbol n t ≡ Some k → s ≡ t

pub same_id : (i j : ObjId) → i.0 ≡ j.0 → i ≡ j
same_id i j e = λ t. record { 0 = e t }

pub at_start : (p : PartyId) (i : ObjId) (k : ℕ) → known_object no_names p i ≡ Some k → (i.0 ≡ k) × (k < count_at_start p.0)
at_start p i k h = ⊎_elim (start_is p.0 i.0 k) (λ (e : (number_at_start p.0 i.0 ≡ None) × (lookup (same_ref (Own p i)) no_names.objects ≡ Some k)). absurd (cc e.1)) (known_from no_names p i k h)

pub counted_first : Counted no_names
counted_first = record {
  below = λ p i k h. omega (arith, (at_start p i k h).1);
  above = λ p i k h. absurd (cc h);
  single = λ p i j k h e. same_id i j ((at_start p i k h).0 ∙ sym (at_start p j k e).0);
  below_symbol = λ s k h. absurd (cc h);
  single_symbol = λ s t k e h g. absurd (cc h);
}

abbrev pub one_if : Bool → ℕ
one_if b = if b then 1 else 0

-- an object more
module _ (names : TraceNames) (c : Counted names) (p : PartyId) (i : ObjId) where
  abbrev IsIt : PartyId → ObjId → ℕ → Type 0
  IsIt q j k = (same_ref (Own q j) (Own p i) ≡ true) × (count_of names p.0 ≡ k)

  same_party : (q : PartyId) (j : ObjId) → same_ref (Own q j) (Own p i) ≡ true → q.0 ≡ p.0
  same_party q j e = eqb-true q.0 p.0 (and_parts (nat_eq q.0 p.0) (nat_eq j.0 i.0) e).0

  it_is : (q : PartyId) (j : ObjId) → same_ref (Own q j) (Own p i) ≡ true → j ≡ i
  it_is q j e = same_id j i (eqb-true j.0 i.0 (and_parts (nat_eq q.0 p.0) (nat_eq j.0 i.0) e).1)

  counted_at : (q : PartyId) (j : ObjId) (k : ℕ) → IsIt q j k → count_of names q.0 ≡ k
  counted_at q j k e = ap (count_of names) (same_party q j e.0) ∙ e.1

  below_more : (q : PartyId) (j : ObjId) (k : ℕ) → IsIt q j k → k < count_of (object_more names p i) q.0
  below_more q j k e =
      let one : one_if (p.0 == q.0) ≡ 1 = ap one_if (eq-eqb p.0 q.0 (sym (same_party q j e.0))) in
      omega (arith, object_counts names p i q.0, counted_at q j k e, one)

  not_both : (q : PartyId) (j h : ObjId) (k : ℕ) → known_object names q j ≡ Some k → IsIt q h k → ⊥
  not_both q j h k old new = omega (arith, c.below q j k old, counted_at q h k new)

  pub object_counted : Counted (object_more names p i)
  object_counted = record {
    below = λ q j k h. ⊎_elim
        (λ (old : known_object names q j ≡ Some k). omega (arith, c.below q j k old, object_counts names p i q.0))
        (below_more q j k) (object_new names p i q j k h);
    above = λ q j k h. ⊎_elim (c.above q j k)
        (λ (new : IsIt q j k). omega (arith, counted_at q j k new))
        (old_or_new (lookup (same_ref (Own q j)) names.objects) (same_ref (Own q j) (Own p i)) (count_of names p.0) k (sym (found_in (same_ref (Own q j)) names.objects ((Own p i, count_of names p.0) ∷ [])) ∙ h));
    single = λ q j h k e f. ⊎_elim
        (λ (old : known_object names q j ≡ Some k). ⊎_elim (c.single q j h k old) (λ (new : IsIt q h k). absurd (not_both q j h k old new)) (object_new names p i q h k f))
        (λ (new : IsIt q j k). ⊎_elim (λ (old : known_object names q h ≡ Some k). absurd (not_both q h j k old new)) (λ (too : IsIt q h k). it_is q j new.0 ∙ sym (it_is q h too.0)) (object_new names p i q h k f))
        (object_new names p i q j k e);
    below_symbol = λ s k h. omega (arith, c.below_symbol s k h, object_counts names p i s.party.0);
    single_symbol = c.single_symbol;
  }

-- a made symbol more
module _ (names : TraceNames) (c : Counted names) (s : MadeSymbol) where
  abbrev IsThis : MadeSymbol → ℕ → Type 0
  IsThis t k = (same_made_symbol t s ≡ true) × (count_of names s.party.0 ≡ k)

  this_is : (t : MadeSymbol) → same_made_symbol t s ≡ true → t ≡ s
  this_is t e = (same_made_symbol_decides t s).0 e

  counted_there : (t : MadeSymbol) (k : ℕ) → IsThis t k → count_of names t.party.0 ≡ k
  counted_there t k e = ap (λ (u : MadeSymbol). count_of names u.party.0) (this_is t e.0) ∙ e.1

  below_this : (t : MadeSymbol) (k : ℕ) → IsThis t k → k < count_of (symbol_more names s) t.party.0
  below_this t k e =
      let party : s.party.0 ≡ t.party.0 = ap (λ (u : MadeSymbol). u.party.0) (sym (this_is t e.0)) in
      let one : one_if (s.party.0 == t.party.0) ≡ 1 = ap one_if (eq-eqb s.party.0 t.party.0 party) in
      omega (arith, symbol_counts names s t.party.0, counted_there t k e, one)

  not_this : (t u : MadeSymbol) (k : ℕ) → t.party.0 ≡ u.party.0 → known_symbol names t ≡ Some k → IsThis u k → ⊥
  not_this t u k e old new = omega (arith, c.below_symbol t k old, counted_there u k new, ap (count_of names) e)

  pub symbol_counted : Counted (symbol_more names s)
  symbol_counted = record {
    below = λ q j k h. omega (arith, c.below q j k h, symbol_counts names s q.0);
    above = c.above;
    single = c.single;
    below_symbol = λ t k h. ⊎_elim
        (λ (old : known_symbol names t ≡ Some k). omega (arith, c.below_symbol t k old, symbol_counts names s t.party.0))
        (below_this t k) (symbol_new names s t k h);
    single_symbol = λ t u k e h f. ⊎_elim
        (λ (old : known_symbol names t ≡ Some k). ⊎_elim (c.single_symbol t u k e old) (λ (new : IsThis u k). absurd (not_this t u k e old new)) (symbol_new names s u k f))
        (λ (new : IsThis t k). ⊎_elim (λ (old : known_symbol names u ≡ Some k). absurd (not_this u t k (sym e) old new)) (λ (too : IsThis u k). this_is t new.0 ∙ sym (this_is u too.0)) (symbol_new names s u k f))
        (symbol_new names s t k h);
  }

object_counted_by : (names : TraceNames) (p : PartyId) (i : ObjId) (o : Option ℕ) → Counted names → Counted (with_object names p i o)
object_counted_by names p i (Some k) c = c
object_counted_by names p i None c = object_counted names c p i

symbol_counted_by : (names : TraceNames) (s : MadeSymbol) (o : Option ℕ) → Counted names → Counted (with_symbol names s o)
symbol_counted_by names s (Some k) c = c
symbol_counted_by names s None c = symbol_counted names c s

named_counted : (names : TraceNames) (r : Ref) → Counted names → Counted (named_then names r)
named_counted names (Common a) c = c
named_counted names (Own p i) c = object_counted_by names p i (known_object names p i) c

shown_counted : (b : Bool) (names : TraceNames) (r : Ref) → Counted names → Counted (shown_then b names r)
shown_counted true names r c = c
shown_counted false names r c = record { below = c.below; above = c.above; single = c.single; below_symbol = c.below_symbol; single_symbol = c.single_symbol }

pub piece_counted : (names : TraceNames) (x : Piece Ref MadeSymbol) → Counted names → Counted (piece_names names x)
piece_counted names (Plain bytes) c = c
piece_counted names (An_object r) c = shown_counted (is_shown names r) (named_then names r) r (named_counted names r c)
piece_counted names (A_symbol s) c = symbol_counted_by names s (known_symbol names s) c

pub behind_counted : (names : TraceNames) (ps : Pieces Ref MadeSymbol) → Counted names → Counted (names_behind names ps)
behind_counted names [] c = c
behind_counted names (x ∷ ps) c = behind_counted (piece_names names x) ps (piece_counted names x c)
