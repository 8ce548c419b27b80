-- Which fronts of a part repeat, and how far a search may move on by them.
use Rattle.std.proofs.Common.{◌≡◌, ℕ, ◌+◌, ◌-◌, ◌/◌, ◌<◌, ◌≤◌, Bool, true, false, cond, nat_le, if◌then◌else◌, IsTrue, List, [], ◌∷◌, ◌++◌, length, get_or, drop, add-one, drop-cons, min, Option, Some, None, MatchOption, refl, ap, sym, subst, ◌∙◌, arith}
use Rattle.std.proofs.Math.Logic.{⊎_elim}
use Rattle.std.proofs.lemmas.Bool.{leb-true, leb-false, le-leb, true≢false}
use Rattle.std.proofs.str.Laws.{order}
use Rattle.js_text.specs.Fronts.{StandsUpTo, HasPeriod, KnownFronts, with_front, reaching, IsReached, IsFront, AreFrontsOf, IsAdvance}
use Rattle.js_text.specs.declared.fronts.Advance.{Advance}
use Rattle.js_text.specs.declared.fronts.PeriodicFront.{PeriodicFront}
use Rattle.js_text.specs.declared.fronts.TheConstants.{TIMES}

-- ---- what is found

-- the first front has so many units, or one behind it is looked for
pub reaching_step : (fs : List PeriodicFront) (len i : ℕ) (f : PeriodicFront) → i < length fs → reaching (drop i fs) len ≡ cond (nat_le len (get_or fs i f).reach) (Some (get_or fs i f)) (reaching (drop (i + 1) fs) len)
reaching_step fs len i f h = rw (add-one, drop-cons fs i f) refl

pub reaching_end : (fs : List PeriodicFront) (len : ℕ) → reaching (drop (length fs) fs) len ≡ None
reaching_end [] len = refl
reaching_end (f ∷ fs) len = reaching_end fs len

weaker : (o : Option PeriodicFront) (N : Type 0) (P Q : PeriodicFront → Type 0) → ((f : PeriodicFront) → P f → Q f) → MatchOption o N P → MatchOption o N Q
weaker None N P Q more h = h
weaker (Some f) N P Q more h = more f h

-- what holds of each front that is found holds of it where one is
both_of : (o : Option PeriodicFront) (P : PeriodicFront → Type 0) → MatchOption o (Unit {0}) P → MatchOption o ⊥ (λ f. Unit {0}) → MatchOption o ⊥ P
both_of None P h some = some
both_of (Some f) P h some = h

-- one front more
more_fronts : (N M : Type 0) (P : PeriodicFront → Type 0) (fs : List PeriodicFront) (f : PeriodicFront) (len : ℕ) → (N → MatchOption (cond (nat_le len f.reach) (Some f) None) M P)
    → MatchOption (reaching fs len) N P → MatchOption (reaching (fs ++ f ∷ []) len) M P
more_fronts N M P [] f len last h = last h
more_fronts N M P (x ∷ xs) f len last h = by_test (nat_le len x.reach) (λ later. more_fronts N M P xs f len last later) h
  where
    by_test : (b : Bool) → (MatchOption (reaching xs len) N P → MatchOption (reaching (xs ++ f ∷ []) len) M P)
        → MatchOption (cond b (Some x) (reaching xs len)) N P → MatchOption (cond b (Some x) (reaching (xs ++ f ∷ []) len)) M P
    by_test true rest here = here
    by_test false rest later = rest later

last_front : (P : PeriodicFront → Type 0) (f : PeriodicFront) (len : ℕ) → (len ≤ f.reach → P f) → MatchOption (cond (nat_le len f.reach) (Some f) None) (Unit {0}) P
last_front P f len here = by_test (nat_le len f.reach) (λ t. here (leb-true len f.reach t))
  where
    by_test : (b : Bool) → (b ≡ true → P f) → MatchOption (cond b (Some f) None) (Unit {0}) P
    by_test true is = is refl
    by_test false is = tt

-- a front that reaches further reaches so far
reached_before : (fs : List PeriodicFront) (len reach : ℕ) → len ≤ reach → IsReached fs reach → IsReached fs len
reached_before [] len reach before h = h
reached_before (x ∷ xs) len reach before h = by_tests (nat_le len x.reach) (nat_le reach x.reach)
    (λ s t. omega (arith, leb-false len x.reach s, leb-true reach x.reach t)) (λ later. reached_before xs len reach before later) h
  where
    by_tests : (a b : Bool) → (a ≡ false → b ≡ true → ⊥) → (IsReached xs reach → IsReached xs len)
        → MatchOption (cond b (Some x) (reaching xs reach)) ⊥ (λ f. Unit {0}) → MatchOption (cond a (Some x) (reaching xs len)) ⊥ (λ f. Unit {0})
    by_tests true b apart rest there = tt
    by_tests false true apart rest there = absurd (apart refl refl)
    by_tests false false apart rest there = rest there

anyway : (o : Option PeriodicFront) → MatchOption o (Unit {0}) (λ f. Unit {0})
anyway None = tt
anyway (Some f) = tt

-- a front that was learnt reaches as far as it does
pub reached_learnt : (known after : KnownFronts) (f : PeriodicFront) (b : Bool) → after ≡ (if b then with_front known f else known) → IsTrue b → IsReached after.fronts f.reach
reached_learnt known after f true e is = subst (λ k. IsReached k.fronts f.reach) (sym e)
    (more_fronts (Unit {0}) ⊥ (λ g. Unit {0}) known.fronts f f.reach
    (λ t. subst (λ b. MatchOption (cond b (Some f) None) ⊥ (λ g. Unit {0})) (sym (le-leb f.reach f.reach (omega arith))) tt)
    (anyway (reaching known.fronts f.reach)))
reached_learnt known after f false e is = absurd (true≢false (sym is))

module _ (units : List ℕ) where
  -- ---- what is learnt

  -- no period is below 1
  pub no_fronts : AreFrontsOf units (record { fronts = []; below = 1 })
  no_fronts = record { some = omega arith; are = λ len. tt; all = λ len period some below. absurd (omega arith) }

  -- one front more, of the next period
  pub fronts_with : (known : KnownFronts) (f : PeriodicFront) → f.period ≡ known.below → AreFrontsOf units known → HasPeriod units f.reach f.period → AreFrontsOf units (with_front known f)
  fronts_with known f next h repeats =
      let some = h.some in
      record {
        some = some;
        are = λ len. more_fronts (Unit {0}) (Unit {0}) (IsFront units known.below len) known.fronts f len
            (λ t. last_front (IsFront units known.below len) f len (λ reaches. record { some = omega arith; known = omega arith; reaches = reaches; repeats = repeats }))
            (h.are len);
        all = λ len period pos below short within repeat. more_fronts ⊥ ⊥ (λ g. g.period ≤ period) known.fronts f len (λ none. absurd none) (h.all len period pos below short within repeat);
      }

  -- where there is room for it
  pub fronts_learnt : (known after : KnownFronts) (f : PeriodicFront) (b : Bool) → after ≡ (if b then with_front known f else known) → f.period ≡ known.below → AreFrontsOf units known
      → HasPeriod units f.reach f.period → AreFrontsOf units after
  fronts_learnt known after f true e next h repeats = subst (AreFrontsOf units) (sym e) (fronts_with known f next h repeats)
  fronts_learnt known after f false e next h repeats = subst (AreFrontsOf units) (sym e) h

  module _ (known : KnownFronts) (at matched : ℕ) (h : AreFrontsOf units known) (place : at ≡ known.below) (agree : StandsUpTo units units at matched)
      (ends : at + matched < length units → matched < length units → get_or units matched 0 ≡ get_or units (at + matched) 0 → ⊥)
      (reached : at ≤ (at + matched) / TIMES → IsReached known.fronts (at + matched)) (next : Advance) (goes : IsAdvance units matched next) where
    -- a period from the next one up to where the part moves on is one of no more units than stood
    short_of : (len period : ℕ) → known.below ≤ period → period < known.below + next.places → len ≤ length units → HasPeriod units len period → at + matched < len → ⊥
    short_of len period low high within repeats far =
        let some = h.some in
        let d = period - at in
        ⊎_elim
        (λ more. goes.apart d more (omega arith)
        (λ i l.
        let there : i + period ≡ at + (i + d) = omega arith in
        repeats i (omega arith) ∙ ap (λ k. get_or units k 0) there ∙ sym (agree (i + d) l)))
        (λ same.
        let there : matched + period ≡ at + matched = omega arith in
        ends (omega arith) (omega arith) (repeats matched (omega arith) ∙ ap (λ k. get_or units k 0) there))
        (order 0 d)

    -- so all periods below that are known
    pub fronts_passed : AreFrontsOf units (record { fronts = known.fronts; below = known.below + next.places })
    fronts_passed = record {
      some = omega (arith, h.some);
      are = λ len. weaker (reaching known.fronts len) (Unit {0}) (IsFront units known.below len) (IsFront units (known.below + next.places) len)
          (λ f is. record { some = is.some; known = omega (arith, is.known); reaches = is.reaches; repeats = is.repeats }) (h.are len);
      all = λ len period pos below short within repeats.
          ⊎_elim
          (λ old. h.all len period pos old short within repeats)
          (λ new.
          let fits : len ≤ at + matched = ⊎_elim (λ far. absurd (short_of len period new below within repeats far)) (λ le. le) (order (at + matched) len) in
          let enough : at ≤ (at + matched) / TIMES = omega arith in
          weaker (reaching known.fronts len) ⊥ (IsFront units known.below len) (λ f. f.period ≤ period) (λ f is. omega (arith, is.known))
          (both_of (reaching known.fronts len) (IsFront units known.below len) (h.are len) (reached_before known.fronts len _ fits (reached enough))))
          (order period known.below);
    }

  -- ---- how far the part moves on

  module _ (known : KnownFronts) (matched : ℕ) (h : AreFrontsOf units known) (within : matched ≤ length units) where
    -- by the period of a front
    pub advance_by_front : (f : PeriodicFront) → Some f ≡ reaching known.fronts matched → f.period ≤ matched / TIMES → IsAdvance units matched (record { places = f.period; kept = matched - f.period })
    advance_by_front f found short =
        let is : IsFront units known.below matched f = subst (λ o. MatchOption o (Unit {0}) (IsFront units known.below matched)) (sym found) (h.are matched) in
        record {
          some = is.some;
          few = omega arith;
          within = omega arith;
          same = λ i l. is.repeats i (omega (arith, is.reaches));
          apart = λ d some less repeats.
              let least : f.period ≤ d = subst (λ o. MatchOption o ⊥ (λ g. g.period ≤ d)) (sym found) (h.all matched d some (omega (arith, is.known)) (omega arith) within repeats) in
              omega arith;
        }

    plain_advance : ((d : ℕ) → 0 < d → d < known.below → d ≤ matched / TIMES → HasPeriod units matched d → ⊥) → IsAdvance units matched (record { places = min (matched / TIMES + 1) known.below; kept = 0 })
    plain_advance none =
        let some = h.some in
        record {
          some = omega arith;
          few = omega arith;
          within = omega arith;
          same = λ i l. absurd (omega arith);
          apart = λ d pos less repeats. none d pos (omega arith) (omega arith) repeats;
        }

    -- by more than a quarter, where no front has so many units
    pub advance_by_none : None ≡ reaching known.fronts matched → IsAdvance units matched (record { places = min (matched / TIMES + 1) known.below; kept = 0 })
    advance_by_none found = plain_advance (λ d some below short repeats. subst (λ o. MatchOption o ⊥ (λ g. g.period ≤ d)) (sym found) (h.all matched d some below short within repeats))

    -- or where the first that has them has a long period
    pub advance_by_far : (f : PeriodicFront) → Some f ≡ reaching known.fronts matched → matched / TIMES < f.period → IsAdvance units matched (record { places = min (matched / TIMES + 1) known.below; kept = 0 })
    advance_by_far f found long = plain_advance (λ d some below short repeats.
        let least : f.period ≤ d = subst (λ o. MatchOption o ⊥ (λ g. g.period ≤ d)) (sym found) (h.all matched d some below short within repeats) in
        omega arith)
