-- What is named has one number each: other names are told apart as these are.
use Rattle.std.proofs.Common.{◌≡◌, ℕ, ◌==◌, Bool, true, false, ◌&&◌, if◌then◌else◌, nat_eq, nat_lt, Some, None, refl, ap, ◌∙◌, sym, subst, ⊎_elim, arith, eqb-true, ltb-true}
use Rattle.std.specs.Prelude.{⊤}
use Rattle.std.proofs.lemmas.Bool.{and_parts}
use Rattle.std.specs.Map.{lookup}
use Rattle.lava_base.specs.Ids.{same_ref}
use Rattle.lava_base.specs.SameRefs.{same_ref_decides}
use Rattle.lava_base.specs.declared.ids.MadeSymbol.{MadeSymbol}
use Rattle.lava_base.specs.declared.ids.ObjId.{ObjId}
use Rattle.lava_base.specs.declared.ids.PartyId.{PartyId}
use Rattle.lava_base.specs.declared.ids.Ref.{Ref}
use Rattle.lava_base.specs.declared.ids.Ref.TheVariants.{Common, Own}
use Rattle.lava_journal.specs.Sheets.{TraceNames, count_at_start, is_fixed, known_object, known_symbol, number_at_start, number_of}
use Rattle.lava_journal.specs.declared.numbers.TheConstants.{HOST_OBJECTS}
use Rattle.lava_told.specs.Told.{renumbered, renumbered_symbol}
use Rattle.lava_told.proofs.Counted_laws.{Counted, Grows}
use Rattle.lava_told.proofs.Known_laws.{known_from, start_is}

-- an object has a number; a common one wants none
abbrev pub IsNamed : TraceNames → Ref → Type 0
IsNamed names (Common c) = ⊤
IsNamed names (Own p i) = (k : ℕ) × (known_object names p i ≡ Some k)

pub still_named : (a b : TraceNames) (r : Ref) → Grows a b → IsNamed a r → IsNamed b r
still_named a b (Common c) g h = h
still_named a b (Own p i) g h = (h.0, g.object p i h.0 h.1)

same_truth : (a b : Bool) → (a ≡ true → b ≡ true) → (b ≡ true → a ≡ true) → a ≡ b
same_truth true true f g = refl
same_truth true false f g = sym (f refl)
same_truth false true f g = g refl
same_truth false false f g = refl

id_of : Ref → ℕ
id_of (Common c) = c.0
id_of (Own p i) = i.0

module _ (named : TraceNames) (c : Counted named) where
  number_is : (p : PartyId) (i : ObjId) (k : ℕ) → known_object named p i ≡ Some k → number_of named p.0 (known_object named p i) ≡ k
  number_is p i k h = ap (number_of named p.0) h

  -- an object under its number
  pub object_is : (p : PartyId) (i : ObjId) (k : ℕ) → known_object named p i ≡ Some k → renumbered named (Own p i) ≡ Own p (record { 0 = k })
  object_is p i k h = ap (λ (n : ℕ). Own p (record { 0 = n })) (number_is p i k h)

  pub symbol_is : (s : MadeSymbol) (k : ℕ) → known_symbol named s ≡ Some k → renumbered_symbol named s ≡ record { party = s.party; id = record { 0 = k } }
  symbol_is s k h = ap (λ (n : ℕ). record { party = s.party; id = record { 0 = n } }) (ap (number_of named s.party.0) h)

  -- two that have one number are one
  one_of_both : (r s : Ref) → IsNamed named r → IsNamed named s → same_ref (renumbered named r) (renumbered named s) ≡ true → same_ref r s ≡ true
  one_of_both (Common a) (Common b) x y h = h
  one_of_both (Common a) (Own q j) x y h = h
  one_of_both (Own p i) (Common b) x y h = h
  one_of_both (Own p i) (Own q j) x y h =
      let m = number_of named p.0 (known_object named p i) in
      let n = number_of named q.0 (known_object named q j) in
      let parts = and_parts (nat_eq p.0 q.0) (nat_eq m n) h in
      let party : p ≡ q = λ t. record { 0 = eqb-true p.0 q.0 parts.0 t } in
      let number : x.0 ≡ y.0 = sym (number_is p i x.0 x.1) ∙ eqb-true m n parts.1 ∙ number_is q j y.0 y.1 in
      let there : known_object named q i ≡ Some y.0 = ap (λ r. known_object named r i) (sym party) ∙ x.1 ∙ ap (λ (k : ℕ). Some k) number in
      let id : i ≡ j = c.single q i j y.0 there y.1 in
      (same_ref_decides (Own p i) (Own q j)).1 (λ t. Own (party t) (id t))

  pub alike : (r s : Ref) → IsNamed named r → IsNamed named s → same_ref (renumbered named r) (renumbered named s) ≡ same_ref r s
  alike r s x y = same_truth (same_ref (renumbered named r) (renumbered named s)) (same_ref r s) (one_of_both r s x y)
      (λ h. (same_ref_decides (renumbered named r) (renumbered named s)).1 (ap (renumbered named) ((same_ref_decides r s).0 h)))

  -- the fixed ones of the host have their ids as numbers, and no other has a number below theirs
  fixed_is : (p : PartyId) (i : ObjId) → is_fixed (Own p i) ≡ true → number_at_start p.0 i.0 ≡ Some i.0
  fixed_is p i h = ap (λ b. if b then Some i.0 else if p.0 == 1 && i.0 == 0 then Some 0 else None) h

  id_at_start : (p : PartyId) (i : ObjId) (k : ℕ) → number_at_start p.0 i.0 ≡ Some k → known_object named p i ≡ Some k
  id_at_start p i k h = cc

  fixed_from : (p : PartyId) (i : ObjId) (k : ℕ) → known_object named p i ≡ Some k → is_fixed (Own p (record { 0 = k })) ≡ true → is_fixed (Own p i) ≡ true
  fixed_from p i k h f =
      let parts = and_parts (p.0 == 0) (nat_lt k HOST_OBJECTS) f in
      ⊎_elim
      (λ (e : number_at_start p.0 i.0 ≡ Some k). subst (λ n. is_fixed (Own p (record { 0 = n })) ≡ true) (sym (start_is p.0 i.0 k e).0) f)
      (λ (e : (number_at_start p.0 i.0 ≡ None) × (lookup (same_ref (Own p i)) named.objects ≡ Some k)).
      let start : count_at_start p.0 ≡ HOST_OBJECTS = ap (λ b. if b then HOST_OBJECTS else if p.0 == 1 then 1 else 0) parts.0 in
      absurd (omega (arith, ltb-true k HOST_OBJECTS parts.1, c.above p i k e.1, start)))
      (known_from named p i k h)

  fixed_to : (p : PartyId) (i : ObjId) (k : ℕ) → known_object named p i ≡ Some k → is_fixed (Own p i) ≡ true → is_fixed (Own p (record { 0 = k })) ≡ true
  fixed_to p i k h f =
      let first : known_object named p i ≡ Some i.0 = id_at_start p i i.0 (fixed_is p i f) in
      let same : i.0 ≡ k = some_is i.0 k (sym first ∙ h) in
      subst (λ n. is_fixed (Own p (record { 0 = n })) ≡ true) same f
    where
      some_is : (m n : ℕ) → Some m ≡ Some n → m ≡ n
      some_is m n e = cc

  pub fixed_alike : (r : Ref) → IsNamed named r → is_fixed (renumbered named r) ≡ is_fixed r
  fixed_alike (Common a) x = refl
  fixed_alike (Own p i) x =
      ap is_fixed (object_is p i x.0 x.1)
      ∙ same_truth (is_fixed (Own p (record { 0 = x.0 }))) (is_fixed (Own p i)) (fixed_from p i x.0 x.1) (fixed_to p i x.0 x.1)
