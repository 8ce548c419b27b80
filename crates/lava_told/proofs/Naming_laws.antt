-- What the told lines name: each object and made symbol under its number, in step with what the run's own lines name.
use Rattle.std.proofs.Common.{◌≡◌, ℕ, Bool, true, false, ◌||◌, nat_eq, [], ◌∷◌, Option, Some, None, refl, ap, ◌∙◌, sym, subst, ⊎_elim, arith, eqb-true}
use Rattle.std.proofs.lemmas.Bool.{and_parts}
use Rattle.std.proofs.lemmas.List.Folds.{list_any-append}
use Rattle.std.specs.List.{list_any}
use Rattle.std.specs.Prelude.{⊤}
use Rattle.lava_base.specs.Ids.{same_made_symbol, same_ref}
use Rattle.lava_base.specs.SameSymbols.{same_made_symbol_decides}
use Rattle.lava_base.specs.declared.ids.MadeSymbol.{MadeSymbol}
use Rattle.lava_base.specs.declared.ids.ObjId.{ObjId}
use Rattle.lava_base.specs.declared.ids.PartyId.{PartyId}
use Rattle.lava_base.specs.declared.ids.Ref.{Ref}
use Rattle.lava_base.specs.declared.ids.Ref.TheVariants.{Common, Own}
use Rattle.lava_journal.specs.Quotes.{pair_text}
use Rattle.lava_journal.specs.Sheets.{An_object, A_symbol, TraceNames, count_of, is_shown, known_object, known_symbol, no_names, number_of, with_object, with_symbol}
use Rattle.lava_trace_laws.specs.Spelled.{name_text, named_then, piece_names, shown_then}
use Rattle.lava_told.specs.Told.{renumbered, renumbered_symbol}
use Rattle.lava_told.proofs.Counted_laws.{Counted, Grows, at_start, object_after, same_id, symbol_after}
use Rattle.lava_told.proofs.Known_laws.{object_counts, object_known, object_more, object_new, object_still, symbol_counts, symbol_known, symbol_more, symbol_new, symbol_still}
use Rattle.lava_told.proofs.Renaming_laws.{IsNamed, alike, fixed_alike, object_is, symbol_is}

-- under its number
abbrev pub id : ℕ → ObjId
id k = record { 0 = k }

abbrev pub symbol_at : MadeSymbol → ℕ → MadeSymbol
symbol_at s k = record { party = s.party; id = id k }

-- what is named under numbers, in step with what is named under ids
pub record Tells (named names told : TraceNames) : Type 0 where
  pub count : (p : ℕ) → count_of told p ≡ count_of names p
  pub object : (p : PartyId) (i : ObjId) (k : ℕ) → known_object names p i ≡ Some k → known_object told p (id k) ≡ Some k
  pub own : (p : PartyId) (i : ObjId) (k : ℕ) → known_object told p i ≡ Some k → i.0 ≡ k
  pub symbol : (s : MadeSymbol) (k : ℕ) → known_symbol names s ≡ Some k → known_symbol told (symbol_at s k) ≡ Some k
  pub own_symbol : (s : MadeSymbol) (k : ℕ) → known_symbol told s ≡ Some k → s.id.0 ≡ k
  pub shown : (r : Ref) → IsNamed named r → list_any (same_ref (renumbered named r)) told.shown ≡ list_any (same_ref r) names.shown

pub tells_first : (named : TraceNames) → Tells named no_names no_names
tells_first named = record {
  count = λ p. refl;
  object = λ p i k h. subst (λ j. known_object no_names p j ≡ Some k) (same_id i (id k) (at_start p i k h).0) h;
  own = λ p i k h. (at_start p i k h).0;
  symbol = λ s k h. absurd (cc h);
  own_symbol = λ s k h. absurd (cc h);
  shown = λ r x. refl;
}

none_if : (o : Option ℕ) → ((k : ℕ) → o ≡ Some k → ⊥) → o ≡ None
none_if None h = refl
none_if (Some k) h = absurd (h k refl)

-- a reference that stands next is named from then on
pub next_is_named : (named names : TraceNames) (r : Ref) → Grows (piece_names names (An_object r)) named → IsNamed named r
next_is_named named names (Common a) g = tt
next_is_named named names (Own p i) g = let k = number_of names p.0 (known_object names p i) in (k, g.object p i k (object_after names p i))

-- a reference has its number as its id
abbrev pub IsTold : TraceNames → Ref → Type 0
IsTold told (Common a) = ⊤
IsTold told (Own p i) = number_of told p.0 (known_object told p i) ≡ i.0

module _ (named names told : TraceNames) (c : Counted named) (d : Counted told) (t : Tells named names told) where
  number_same : (p : ℕ) (o : Option ℕ) → number_of told p o ≡ number_of names p o
  number_same p (Some k) = refl
  number_same p None = t.count p

  -- OBJECTS

  -- its number is known where its id is
  object_there : (p : PartyId) (i : ObjId) (o : Option ℕ) → known_object names p i ≡ o → known_object told p (id (number_of names p.0 o)) ≡ o
  object_there p i (Some k) h = t.object p i k h
  object_there p i None h =
      let n = count_of names p.0 in
      none_if (known_object told p (id n)) (λ k e. omega (arith, t.own p (id n) k e, d.below p (id n) k e, t.count p.0))

  object_in_step : (p : PartyId) (i : ObjId) (o : Option ℕ) → known_object names p i ≡ o → Tells named (with_object names p i o) (with_object told p (id (number_of names p.0 o)) o)
  object_in_step p i (Some k) h = t
  object_in_step p i None h =
      let n = count_of names p.0 in
      let more = object_more told p (id n) in
      let now : known_object more p (id n) ≡ Some (count_of told p.0) = object_known told p (id n) (object_there p i None h) in
      record {
        count = λ q. omega (arith, object_counts names p i q, object_counts told p (id n) q, t.count q);
        object = λ q j k e. ⊎_elim
            (λ (old : known_object names q j ≡ Some k). object_still told p (id n) q (id k) k (t.object q j k old))
            (λ (new : (same_ref (Own q j) (Own p i) ≡ true) × (n ≡ k)).
            let party = eqb-true q.0 p.0 (and_parts (nat_eq q.0 p.0) (nat_eq j.0 i.0) new.0).0 in
            (λ x. known_object more (record { 0 = party x }) (id (sym new.1 x))) ∙ now ∙ ap (λ (m : ℕ). Some m) (t.count p.0 ∙ new.1))
            (object_new names p i q j k e);
        own = λ q j k e. ⊎_elim (t.own q j k)
            (λ (new : (same_ref (Own q j) (Own p (id n)) ≡ true) × (count_of told p.0 ≡ k)).
            eqb-true j.0 n (and_parts (nat_eq q.0 p.0) (nat_eq j.0 n) new.0).1 ∙ sym (t.count p.0) ∙ new.1)
            (object_new told p (id n) q j k e);
        symbol = t.symbol;
        own_symbol = t.own_symbol;
        shown = t.shown;
      }

  pub record NameTold (r s : Ref) : Type 0 where
    pub step : Tells named (named_then names r) (named_then told s)
    pub text : name_text told s ≡ name_text names r
    pub number : IsTold told s

  object_at : (p : PartyId) (i : ObjId) → NameTold (Own p i) (Own p (id (number_of names p.0 (known_object names p i))))
  object_at p i =
      let o = known_object names p i in
      let k = number_of names p.0 o in
      let there : known_object told p (id k) ≡ o = object_there p i o refl in
      let number : number_of told p.0 (known_object told p (id k)) ≡ k = ap (number_of told p.0) there ∙ number_same p.0 o in
      record {
        step = subst (λ m. Tells named (with_object names p i o) (with_object told p (id k) m)) (sym there) (object_in_step p i o refl);
        text = ap (λ m. 35 ∷ pair_text p.0 m) number;
        number = number;
      }

  -- the name of a reference that stands next
  pub name_told : (r : Ref) → Grows (piece_names names (An_object r)) named → NameTold r (renumbered named r)
  name_told (Common a) g = record { step = t; text = refl; number = tt }
  name_told (Own p i) g =
      let k = number_of names p.0 (known_object names p i) in
      subst (NameTold (Own p i)) (sym (object_is named c p i k (g.object p i k (object_after names p i)))) (object_at p i)

  pub shown_alike : (r : Ref) → IsNamed named r → is_shown told (renumbered named r) ≡ is_shown names r
  shown_alike r x = λ k. fixed_alike named c r x k || t.shown r x k

  -- MADE SYMBOLS

  symbol_there : (s : MadeSymbol) (o : Option ℕ) → known_symbol names s ≡ o → known_symbol told (symbol_at s (number_of names s.party.0 o)) ≡ o
  symbol_there s (Some k) h = t.symbol s k h
  symbol_there s None h =
      let n = count_of names s.party.0 in
      none_if (known_symbol told (symbol_at s n)) (λ k e. omega (arith, t.own_symbol (symbol_at s n) k e, d.below_symbol (symbol_at s n) k e, t.count s.party.0))

  symbol_in_step : (s : MadeSymbol) (o : Option ℕ) → known_symbol names s ≡ o
      → Tells named (with_symbol names s o) (with_symbol told (symbol_at s (number_of names s.party.0 o)) o)
  symbol_in_step s (Some k) h = t
  symbol_in_step s None h =
      let n = count_of names s.party.0 in
      let m = symbol_at s n in
      let more = symbol_more told m in
      let now : known_symbol more m ≡ Some (count_of told s.party.0) = symbol_known told m (symbol_there s None h) in
      record {
        count = λ q. omega (arith, symbol_counts names s q, symbol_counts told m q, t.count q);
        object = t.object;
        own = t.own;
        symbol = λ u k e. ⊎_elim
            (λ (old : known_symbol names u ≡ Some k). symbol_still told m (symbol_at u k) k (t.symbol u k old))
            (λ (new : (same_made_symbol u s ≡ true) × (n ≡ k)).
            let same = (same_made_symbol_decides u s).0 new.0 in
            (λ x. known_symbol more (symbol_at (same x) (sym new.1 x))) ∙ now ∙ ap (λ (a : ℕ). Some a) (t.count s.party.0 ∙ new.1))
            (symbol_new names s u k e);
        own_symbol = λ u k e. ⊎_elim (t.own_symbol u k)
            (λ (new : (same_made_symbol u m ≡ true) × (count_of told s.party.0 ≡ k)).
            ap (λ (a : MadeSymbol). a.id.0) ((same_made_symbol_decides u m).0 new.0) ∙ sym (t.count s.party.0) ∙ new.1)
            (symbol_new told m u k e);
        shown = t.shown;
      }

  pub record SymbolTold (s u : MadeSymbol) : Type 0 where
    pub step : Tells named (with_symbol names s (known_symbol names s)) (with_symbol told u (known_symbol told u))
    pub text : 64 ∷ pair_text u.party.0 (number_of told u.party.0 (known_symbol told u)) ≡ 64 ∷ pair_text s.party.0 (number_of names s.party.0 (known_symbol names s))
    pub number : number_of told u.party.0 (known_symbol told u) ≡ u.id.0

  symbol_in : (s : MadeSymbol) → SymbolTold s (symbol_at s (number_of names s.party.0 (known_symbol names s)))
  symbol_in s =
      let o = known_symbol names s in
      let k = number_of names s.party.0 o in
      let there : known_symbol told (symbol_at s k) ≡ o = symbol_there s o refl in
      let number : number_of told s.party.0 (known_symbol told (symbol_at s k)) ≡ k = ap (number_of told s.party.0) there ∙ number_same s.party.0 o in
      record {
        step = subst (λ m. Tells named (with_symbol names s o) (with_symbol told (symbol_at s k) m)) (sym there) (symbol_in_step s o refl);
        text = ap (λ m. 64 ∷ pair_text s.party.0 m) number;
        number = number;
      }

  -- the name of a made symbol that stands next
  pub symbol_told : (s : MadeSymbol) → Grows (piece_names names (A_symbol s)) named → SymbolTold s (renumbered_symbol named s)
  symbol_told s g =
      let k = number_of names s.party.0 (known_symbol names s) in
      subst (SymbolTold s) (sym (symbol_is named c s k (g.symbol s k (symbol_after names s)))) (symbol_in s)

-- a reference that stands there is shown from then on
pub shown_in_step : (named names told : TraceNames) → Counted named → Tells named names told → (b : Bool) (r : Ref) → IsNamed named r
    → Tells named (shown_then b names r) (shown_then b told (renumbered named r))
shown_in_step named names told c t true r x = t
shown_in_step named names told c t false r x = record {
  count = t.count;
  object = t.object;
  own = t.own;
  symbol = t.symbol;
  own_symbol = t.own_symbol;
  shown = λ s y.
      list_any-append (same_ref (renumbered named s)) told.shown (renumbered named r ∷ [])
      ∙ (λ k. t.shown s y k || (alike named c s r y x k || false))
      ∙ sym (list_any-append (same_ref s) names.shown (r ∷ []));
}
