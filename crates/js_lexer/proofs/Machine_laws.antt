-- A machine whose every step follows what is left of a rule reads exactly what is by the rule.
use Rattle.std.proofs.Common.{◌≡◌, ◌↔◌, ℕ, Bool, true, List, [], ◌∷◌, ◌++◌, Result, Ok, Err, refl, sym, ap, subst, ◌∙◌}
use Rattle.js_lexer.specs.declared.machine.Step.{Step}
use Rattle.js_lexer.specs.declared.machine.Step.TheVariants.{Go, With, Before, Bad}
use Rattle.js_lexer.specs.declared.machine.Stop.{Stop}
use Rattle.js_lexer.specs.declared.machine.Stop.TheVariants as stops
use Rattle.js_lexer.specs.Rules.{Rule, Leads}
use Rattle.js_lexer.specs.Machines.{Reading, ended, stepped, run}
use Rattle.js_lexer.proofs.Tests.{not_ok, same_err}

-- the two ends of a reading, with their types
abbrev ok : {O : Type 0} → O × List ℕ → Reading O
ok p = Ok p

abbrev failed : {O : Type 0} → Stop → Reading O
failed e = Err e

abbrev no_outcome : {O : Type 0} → Stop → Result O Stop
no_outcome e = Err e

-- a machine with states S and outcomes O; for each kind K the rule by which the rest of a text is one in a state, and which outcomes are of the kind
module _ {S O K : Type 0} (step : S → ℕ → Step S O) (stop : S → Result O Stop) (rest : S → K → Rule) (gives : O → K → Bool) where
  -- what the step at a character has to mean
  abbrev pub Follows : S → ℕ → Step S O → Type 0
  Follows s c (Go t) = (k : K) (cs ys : List ℕ) → Leads (rest s k) (c ∷ cs) ys ↔ Leads (rest t k) cs ys
  Follows s c (With o) = (k : K) (cs ys : List ℕ) → Leads (rest s k) (c ∷ cs) ys ↔ ((gives o k ≡ true) × (ys ≡ cs))
  Follows s c (Before o) = (k : K) (cs ys : List ℕ) → Leads (rest s k) (c ∷ cs) ys ↔ ((gives o k ≡ true) × (ys ≡ c ∷ cs))
  Follows s c Bad = (k : K) (cs ys : List ℕ) → Leads (rest s k) (c ∷ cs) ys → ⊥

  -- what the end of the text has to mean
  abbrev pub Stops : S → Result O Stop → Type 0
  Stops s (Ok o) = (k : K) (ys : List ℕ) → Leads (rest s k) [] ys ↔ ((gives o k ≡ true) × (ys ≡ []))
  Stops s (Err e) = (k : K) (ys : List ℕ) → Leads (rest s k) [] ys → ⊥

  -- the machine reads an outcome of the kind, and leaves this
  abbrev pub Reads : Reading O → K → List ℕ → Type 0
  Reads r k ys = (o : O) × (r ≡ Ok (o, ys)) × (gives o k ≡ true)

  ok_out : (p q : O × List ℕ) → ok p ≡ ok q → p ≡ q
  ok_out p q e = cc

  of_pair : (o p : O) (xs ys : List ℕ) → (o ≡ p) → xs ≡ ys → ok (o, xs) ≡ ok (p, ys)
  of_pair o p xs ys e f = subst (λ z. ok (o, xs) ≡ ok (z, ys)) e (subst (λ z. ok (o, xs) ≡ ok (o, z)) f refl)

  -- a reading that is known
  known : (o : O) (xs : List ℕ) (k : K) (ys : List ℕ) → ((gives o k ≡ true) × (ys ≡ xs)) ↔ Reads (Ok (o, xs)) k ys
  known o xs k ys = (
    λ h. (o, of_pair o o xs ys refl (sym h.1), h.0),
    λ h.
        let e : (o, xs) ≡ (h.0, ys) = ok_out (o, xs) (h.0, ys) h.1 in
        let f : h.0 ≡ o = sym (ap (λ z. z.0) e) in
        (subst (λ z. gives z k ≡ true) f h.2, sym (ap (λ z. z.1) e)),
  )

  nothing : (e : Stop) (k : K) (ys : List ℕ) → Reads (Err e) k ys → ⊥
  nothing e k ys h = not_ok (failed e) (h.0, ys) e refl h.1

  through : {A B C : Type 0} → A ↔ B → B ↔ C → A ↔ C
  through f g = (λ a. g.0 (f.0 a), λ c. f.1 (g.1 c))

  neither : {A B : Type 0} → (A → ⊥) → (B → ⊥) → A ↔ B
  neither f g = (λ a. absurd (f a), λ b. absurd (g b))

  there : (s : S) (k : K) (ys : List ℕ) (r : Result O Stop) → Stops s r → Leads (rest s k) [] ys ↔ Reads (ended [] r) k ys
  there s k ys (Ok o) h = through (h k ys) (known o [] k ys)
  there s k ys (Err e) h = neither (h k ys) (nothing e k ys)

  at : (s : S) (k : K) (c : ℕ) (cs ys : List ℕ) (x : Step S O) → Follows s c x →
      ((t : S) → Leads (rest t k) cs ys ↔ Reads (run step stop t cs) k ys) →
      Leads (rest s k) (c ∷ cs) ys ↔ Reads (stepped (λ t. run step stop t cs) c cs x) k ys
  at s k c cs ys (Go t) h again = through (h k cs ys) (again t)
  at s k c cs ys (With o) h again = through (h k cs ys) (known o cs k ys)
  at s k c cs ys (Before o) h again = through (h k cs ys) (known o (c ∷ cs) k ys)
  at s k c cs ys Bad h again = neither (h k cs ys) (nothing stops.Bad k ys)

  -- the machine reads exactly what is by the rule
  pub exact : ((s : S) (c : ℕ) → Follows s c (step s c)) → ((s : S) → Stops s (stop s)) →
      (s : S) (k : K) (xs ys : List ℕ) → Leads (rest s k) xs ys ↔ Reads (run step stop s xs) k ys
  exact follows stops_so s k [] ys = there s k ys (stop s) (stops_so s)
  exact follows stops_so s k (c ∷ cs) ys = at s k c cs ys (step s c) (follows s c) (λ t. exact follows stops_so t k cs ys)

-- what is bad stays so, and what is cut off goes on
module _ {S O : Type 0} (step : S → ℕ → Step S O) (stop : S → Result O Stop) where
  abbrev NeverBad : Result O Stop → Type 0
  NeverBad r = r ≡ Err stops.Bad → ⊥

  ended_bad : (xs : List ℕ) (r : Result O Stop) → NeverBad r → ended xs r ≡ Err stops.Bad → ⊥
  ended_bad xs (Ok o) n h = absurd (not_ok (ok (o, xs)) (o, xs) stops.Bad h refl)
  ended_bad xs (Err e) n h = n (ap no_outcome (same_err (failed e) e stops.Bad refl h))

  stepped_bad : (c : ℕ) (cs more : List ℕ) (x : Step S O) → ((t : S) → run step stop t cs ≡ Err stops.Bad → run step stop t (cs ++ more) ≡ Err stops.Bad) →
      stepped (λ t. run step stop t cs) c cs x ≡ Err stops.Bad → stepped (λ t. run step stop t (cs ++ more)) c (cs ++ more) x ≡ Err stops.Bad
  stepped_bad c cs more (Go t) again h = again t h
  stepped_bad c cs more (With o) again h = absurd (not_ok (ok (o, cs)) (o, cs) stops.Bad h refl)
  stepped_bad c cs more (Before o) again h = absurd (not_ok (ok (o, c ∷ cs)) (o, c ∷ cs) stops.Bad h refl)
  stepped_bad c cs more Bad again h = refl

  -- whatever follows
  pub bad_stays : ((s : S) → NeverBad (stop s)) → (s : S) (xs more : List ℕ) → run step stop s xs ≡ Err stops.Bad → run step stop s (xs ++ more) ≡ Err stops.Bad
  bad_stays never s [] more h = absurd (ended_bad [] (stop s) (never s) h)
  bad_stays never s (c ∷ cs) more h = stepped_bad c cs more (step s c) (λ t. bad_stays never t cs more) h

  -- the text ended in a state from which more is read
  abbrev pub EndsIn : S → List ℕ → Type 0
  EndsIn s xs = (t : S) × (stop t ≡ Err stops.Cut) × ((more : List ℕ) → run step stop s (xs ++ more) ≡ run step stop t more)

  ended_cut : (xs : List ℕ) (r : Result O Stop) → ended xs r ≡ Err stops.Cut → r ≡ Err stops.Cut
  ended_cut xs (Ok o) h = absurd (not_ok (ok (o, xs)) (o, xs) stops.Cut h refl)
  ended_cut xs (Err e) h = ap no_outcome (same_err (failed e) e stops.Cut refl h)

  stepped_cut : (s : S) (c : ℕ) (cs : List ℕ) (x : Step S O) → step s c ≡ x → ((t : S) → run step stop t cs ≡ Err stops.Cut → EndsIn t cs) →
      stepped (λ t. run step stop t cs) c cs x ≡ Err stops.Cut → EndsIn s (c ∷ cs)
  stepped_cut s c cs (Go t) e again h =
      let i : EndsIn t cs = again t h in
      (i.0, i.1, λ more. ap (λ x. stepped (λ u. run step stop u (cs ++ more)) c (cs ++ more) x) e ∙ i.2 more)
  stepped_cut s c cs (With o) e again h = absurd (not_ok (ok (o, cs)) (o, cs) stops.Cut h refl)
  stepped_cut s c cs (Before o) e again h = absurd (not_ok (ok (o, c ∷ cs)) (o, c ∷ cs) stops.Cut h refl)
  stepped_cut s c cs Bad e again h = absurd (bad_cut h)
    where
      bad_cut : failed {O = O} stops.Bad ≡ failed stops.Cut → ⊥
      bad_cut h = cc

  pub cut_goes_on : (s : S) (xs : List ℕ) → run step stop s xs ≡ Err stops.Cut → EndsIn s xs
  cut_goes_on s [] h = (s, ended_cut [] (stop s) h, λ more. refl)
  cut_goes_on s (c ∷ cs) h = stepped_cut s c cs (step s c) refl (λ t. cut_goes_on t cs) h
