-- What is left of a rule behind a character (its derivative), and that a text is by the rule exactly where the rest of it is by what is left.
use Rattle.std.proofs.Common.{◌≡◌, ◌↔◌, ◌⊎◌, inl, inr, ℕ, Bool, true, false, cond, ◌&&◌, ◌||◌, not, List, [], ◌∷◌, ◌++◌, Option, Some, None, refl, sym, ap, subst, ◌∙◌, length, append_assoc, length-append, arith}
use Rattle.js_lexer.specs.Characters.{first_of}
use Rattle.js_lexer.specs.Rules.{Rule, Never, Nothing, One, NotBefore, Then, Or, Many, OnlyIf, Steps, stay, step, Leads}
use Rattle.js_lexer.proofs.Tests.{both, both_true, differ, not_false, or_left, or_right}

-- whether the rule may take nothing where this character comes next
abbrev pub may_be_empty : Rule → Option ℕ → Bool
may_be_empty Never n = false
may_be_empty Nothing n = true
may_be_empty (One p) n = false
may_be_empty (NotBefore p) None = true
may_be_empty (NotBefore p) (Some c) = not (p c)
may_be_empty (Then a b) n = may_be_empty a n && may_be_empty b n
may_be_empty (Or a b) n = may_be_empty a n || may_be_empty b n
may_be_empty (Many a) n = true
may_be_empty (OnlyIf a test) n = may_be_empty a n && test []

abbrev pub then : Rule → Rule → Rule
then Never b = Never
then Nothing b = b
then a b = Then a b

abbrev pub or : Rule → Rule → Rule
or Never b = b
or a Never = a
or a b = Or a b

abbrev pub only_if : Rule → (List ℕ → Bool) → Rule
only_if Never test = Never
only_if a test = OnlyIf a test

-- what is left of a rule behind a character
abbrev pub behind : Rule → ℕ → Rule
behind Never c = Never
behind Nothing c = Never
behind (One p) c = cond (p c) Nothing Never
behind (NotBefore p) c = Never
behind (Then a b) c = or (then (behind a c) b) (cond (may_be_empty a (Some c)) (behind b c) Never)
behind (Or a b) c = or (behind a c) (behind b c)
behind (Many a) c = then (behind a c) (Many a)
behind (OnlyIf a test) c = only_if (behind a c) (λ w. test (c ∷ w))

-- the short forms mean the same

then_same : (a b : Rule) (xs ys : List ℕ) → Leads (then a b) xs ys ↔ Leads (Then a b) xs ys
then_same Never b xs ys = (λ h. absurd h, λ h. absurd (h.1))
then_same Nothing b xs ys = (λ h. (xs, refl, h), λ h. subst (λ z. Leads b z ys) (sym h.1) h.2)
then_same _ b xs ys = (λ h. h, λ h. h)

only_left : {A : Type 0} → A ⊎ ⊥ → A
only_left (inl a) = a
only_left (inr h) = absurd h

only_right : {A : Type 0} → ⊥ ⊎ A → A
only_right (inl h) = absurd h
only_right (inr a) = a

or_same : (a b : Rule) (xs ys : List ℕ) → Leads (or a b) xs ys ↔ Leads (Or a b) xs ys
or_same Never b xs ys = (λ h. inr h, λ h. only_right h)
or_same _ Never xs ys = (λ h. inl h, λ h. only_left h)
or_same _ _ xs ys = (λ h. h, λ h. h)

only_if_same : (a : Rule) (test : List ℕ → Bool) (xs ys : List ℕ) → Leads (only_if a test) xs ys ↔ Leads (OnlyIf a test) xs ys
only_if_same Never test xs ys = (λ h. absurd h, λ h. absurd (h.3))
only_if_same _ test xs ys = (λ h. h, λ h. h)

-- what a rule takes is a front of the text

front_steps : (P : List ℕ → List ℕ → Type 0) → ((xs ys : List ℕ) → P xs ys → (w : List ℕ) × (xs ≡ w ++ ys)) → (xs ys : List ℕ) → Steps P xs ys → (w : List ℕ) × (xs ≡ w ++ ys)
front_steps P all _ _ (stay xs) = ([], refl)
front_steps P all _ _ (step xs ms ys p q) =
    let i : (w : List ℕ) × (xs ≡ w ++ ms) = all xs ms p in
    let j : (w : List ℕ) × (ms ≡ w ++ ys) = front_steps P all ms ys q in
    (i.0 ++ j.0, i.1 ∙ ap (λ z. i.0 ++ z) j.1 ∙ sym (append_assoc i.0 j.0 ys))

pub front : (r : Rule) (xs ys : List ℕ) → Leads r xs ys → (w : List ℕ) × (xs ≡ w ++ ys)
front Never xs ys h = absurd h
front Nothing xs ys h = ([], h)
front (One p) [] ys h = absurd h
front (One p) (x ∷ xs) ys h = (x ∷ [], ap (λ z. x ∷ z) h.1)
front (NotBefore p) xs ys h = ([], h.0)
front (Then a b) xs ys (ms, h, k) =
    let i : (w : List ℕ) × (xs ≡ w ++ ms) = front a xs ms h in
    let j : (w : List ℕ) × (ms ≡ w ++ ys) = front b ms ys k in
    (i.0 ++ j.0, i.1 ∙ ap (λ z. i.0 ++ z) j.1 ∙ sym (append_assoc i.0 j.0 ys))
front (Or a b) xs ys (inl h) = front a xs ys h
front (Or a b) xs ys (inr h) = front b xs ys h
front (Many a) xs ys h = front_steps (Leads a) (front a) xs ys h
front (OnlyIf a test) xs ys (w, e, t, h) = (w, e)

-- at the end of the text

either : (a b : Bool) → (a || b) ≡ true → (a ≡ true) ⊎ (b ≡ true)
either true b h = inl refl
either false b h = inr h

-- what leads from the end of a text takes nothing
abbrev AtEnd : Rule → List ℕ → Type 0
AtEnd r ys = (may_be_empty r None ≡ true) × (ys ≡ [])

empty_front : (w ys : List ℕ) → [] ≡ w ++ ys → (w ≡ []) × (ys ≡ [])
empty_front [] ys h = (refl, sym h)
empty_front (x ∷ w) ys h = absurd (cc)

end_steps : (P : List ℕ → List ℕ → Type 0) → ((ms : List ℕ) → P [] ms → ms ≡ []) → (xs ys : List ℕ) → xs ≡ [] → Steps P xs ys → ys ≡ []
end_steps P all _ _ e (stay xs) = e
end_steps P all _ _ e (step xs ms ys p q) = end_steps P all ms ys (all ms (subst (λ z. P z ms) e p)) q

end_only : (r : Rule) (ys : List ℕ) → Leads r [] ys → AtEnd r ys
end_only Never ys h = absurd h
end_only Nothing ys h = (refl, sym h)
end_only (One p) ys h = absurd h
end_only (NotBefore p) ys h = (refl, sym h.0)
end_only (Then a b) ys (ms, h, k) =
    let i : AtEnd a ms = end_only a ms h in
    let j : AtEnd b ys = end_only b ys (subst (λ z. Leads b z ys) i.1 k) in
    (both_true (may_be_empty a None) (may_be_empty b None) i.0 j.0, j.1)
end_only (Or a b) ys (inl h) =
    let i : AtEnd a ys = end_only a ys h in (or_left (may_be_empty a None) (may_be_empty b None) i.0, i.1)
end_only (Or a b) ys (inr h) =
    let i : AtEnd b ys = end_only b ys h in (or_right (may_be_empty a None) (may_be_empty b None) i.0, i.1)
end_only (Many a) ys h = (refl, end_steps (Leads a) (λ ms k. (end_only a ms k).1) [] ys refl h)
end_only (OnlyIf a test) ys (w, e, t, h) =
    let i : AtEnd a ys = end_only a ys h in
    let j : (w ≡ []) × (ys ≡ []) = empty_front w ys e in
    (both_true (may_be_empty a None) (test []) i.0 (subst (λ z. test z ≡ true) j.0 t), i.1)

-- where the rule may take nothing, the text leads to itself
takes_none : (r : Rule) (xs : List ℕ) (n : Option ℕ) → n ≡ first_of xs → may_be_empty r n ≡ true → Leads r xs xs
takes_none Never xs n e h = absurd (cc)
takes_none Nothing xs n e h = refl
takes_none (One p) xs n e h = absurd (cc)
takes_none (NotBefore p) [] n e h = (refl, refl)
takes_none (NotBefore p) (x ∷ xs) n e h = (refl, not_false (p x) (subst (λ m. may_be_empty (NotBefore p) m ≡ true) e h))
takes_none (Then a b) xs n e h =
    let i : (may_be_empty a n ≡ true) × (may_be_empty b n ≡ true) = both (may_be_empty a n) (may_be_empty b n) h in
    (xs, takes_none a xs n e i.0, takes_none b xs n e i.1)
takes_none (Or a b) xs n e h =
    elim (either (may_be_empty a n) (may_be_empty b n) h) [
      | inl i ↦ inl (takes_none a xs n e i)
      | inr i ↦ inr (takes_none b xs n e i)
    ]
takes_none (Many a) xs n e h = stay xs
takes_none (OnlyIf a test) xs n e h =
    let i : (may_be_empty a n ≡ true) × (test [] ≡ true) = both (may_be_empty a n) (test []) h in
    ([], refl, i.1, takes_none a xs n e i.0)

pub at_end : (r : Rule) (ys : List ℕ) → Leads r [] ys ↔ AtEnd r ys
at_end r ys = (end_only r ys, λ h. subst (λ z. Leads r [] z) (sym h.1) (takes_none r [] None refl h.0))

-- at a character

-- the rule takes nothing, or the character and then what is left of it
abbrev AtCharacter : Rule → ℕ → List ℕ → List ℕ → Type 0
AtCharacter r c cs ys = ((may_be_empty r (Some c) ≡ true) × (ys ≡ c ∷ cs)) ⊎ Leads (behind r c) cs ys

if_true : (b : Bool) (r : Rule) (xs ys : List ℕ) → b ≡ true → Leads r xs ys → Leads (cond b r Never) xs ys
if_true b r xs ys e h = rw e h

front_of : (c : ℕ) (cs w ys : List ℕ) → c ∷ cs ≡ w ++ ys → ((w ≡ []) × (ys ≡ c ∷ cs)) ⊎ ((v : List ℕ) × (w ≡ c ∷ v) × (cs ≡ v ++ ys))
front_of c cs [] ys e = inl (refl, sym e)
front_of c cs (x ∷ v) ys e = inr (v, ap (λ z. z ∷ v) (same_head x c (v ++ ys) cs (sym e)), same_tail c x cs (v ++ ys) e)
  where
    same_head : (a b : ℕ) (us vs : List ℕ) → a ∷ us ≡ b ∷ vs → a ≡ b
    same_head a b us vs e = cc

    same_tail : (a b : ℕ) (us vs : List ℕ) → a ∷ us ≡ b ∷ vs → us ≡ vs
    same_tail a b us vs e = cc

steps_from : (a : Rule) (c : ℕ) (cs : List ℕ) → ((ms : List ℕ) → Leads a (c ∷ cs) ms → AtCharacter a c cs ms) →
    (xs ys : List ℕ) → xs ≡ c ∷ cs → Steps (Leads a) xs ys → AtCharacter (Many a) c cs ys
steps_from a c cs all _ _ e (stay xs) = inl (refl, e)
steps_from a c cs all _ _ e (step xs ms ys p q) =
    elim (all ms (subst (λ z. Leads a z ms) e p)) [
      | inl i ↦ steps_from a c cs all ms ys i.1 q
      | inr i ↦ inr ((then_same (behind a c) (Many a) cs ys).1 (ms, i, q))
    ]

longer : (c : ℕ) (cs v : List ℕ) → cs ≡ v ++ c ∷ cs → ⊥
longer c cs v e = omega (arith, ap length e ∙ length-append v (c ∷ cs))

pub reads_from : (r : Rule) (c : ℕ) (cs ys : List ℕ) → Leads r (c ∷ cs) ys → AtCharacter r c cs ys
reads_from Never c cs ys h = absurd h
reads_from Nothing c cs ys h = inl (refl, sym h)
reads_from (One p) c cs ys h = inr (if_true (p c) Nothing cs ys h.0 h.1)
reads_from (NotBefore p) c cs ys h = inl (rw (h.1) refl, sym h.0)
reads_from (Then a b) c cs ys (ms, h, k) =
    elim (reads_from a c cs ms h) [
      | inl i ↦
          elim (reads_from b c cs ys (subst (λ z. Leads b z ys) i.1 k)) [
            | inl j ↦ inl (both_true (may_be_empty a (Some c)) (may_be_empty b (Some c)) i.0 j.0, j.1)
            | inr j ↦ inr ((or_same (then (behind a c) b) (cond (may_be_empty a (Some c)) (behind b c) Never) cs ys).1 (inr (if_true (may_be_empty a (Some c)) (behind b c) cs ys i.0 j)))
          ]
      | inr i ↦ inr ((or_same (then (behind a c) b) (cond (may_be_empty a (Some c)) (behind b c) Never) cs ys).1 (inl ((then_same (behind a c) b cs ys).1 (ms, i, k))))
    ]
reads_from (Or a b) c cs ys (inl h) =
    elim (reads_from a c cs ys h) [
      | inl i ↦ inl (or_left (may_be_empty a (Some c)) (may_be_empty b (Some c)) i.0, i.1)
      | inr i ↦ inr ((or_same (behind a c) (behind b c) cs ys).1 (inl i))
    ]
reads_from (Or a b) c cs ys (inr h) =
    elim (reads_from b c cs ys h) [
      | inl i ↦ inl (or_right (may_be_empty a (Some c)) (may_be_empty b (Some c)) i.0, i.1)
      | inr i ↦ inr ((or_same (behind a c) (behind b c) cs ys).1 (inr i))
    ]
reads_from (Many a) c cs ys h = steps_from a c cs (λ ms. reads_from a c cs ms) (c ∷ cs) ys refl h
reads_from (OnlyIf a test) c cs ys (w, e, t, h) =
    elim (reads_from a c cs ys h) [
      | inl i ↦
          elim (front_of c cs w ys e) [
            | inl j ↦ inl (both_true (may_be_empty a (Some c)) (test []) i.0 (subst (λ z. test z ≡ true) j.0 t), j.1)
            | inr j ↦ absurd (longer c cs j.0 (j.2 ∙ ap (λ z. j.0 ++ z) i.1))
          ]
      | inr i ↦
          elim (front_of c cs w ys e) [
            | inl j ↦ absurd (too_short (behind a c) c cs ys j.1 i)
            | inr j ↦ inr ((only_if_same (behind a c) (λ v. test (c ∷ v)) cs ys).1 (j.0, j.2, subst (λ z. test z ≡ true) j.1 t, i))
          ]
    ]
  where
    too_short : (r : Rule) (c : ℕ) (cs ys : List ℕ) → ys ≡ c ∷ cs → Leads r cs ys → ⊥
    too_short r c cs ys e h =
        let i : (w : List ℕ) × (cs ≡ w ++ ys) = front r cs ys h in longer c cs i.0 (i.1 ∙ ap (λ z. i.0 ++ z) e)

-- a rule that leads back to where it began may take nothing
pub takes_some : (r : Rule) (c : ℕ) (cs : List ℕ) → may_be_empty r (Some c) ≡ false → Leads r (c ∷ cs) (c ∷ cs) → ⊥
takes_some r c cs e h =
    elim (reads_from r c cs (c ∷ cs) h) [
      | inl i ↦ differ (may_be_empty r (Some c)) e i.0
      | inr i ↦
          let j : (w : List ℕ) × (cs ≡ w ++ c ∷ cs) = front (behind r c) cs (c ∷ cs) i in longer c cs j.0 j.1
    ]

cond_true : (b : Bool) (r : Rule) (xs ys : List ℕ) → Leads (cond b r Never) xs ys → (b ≡ true) × Leads r xs ys
cond_true true r xs ys h = (refl, h)
cond_true false r xs ys h = absurd h

behind_to : (r : Rule) (c : ℕ) (cs ys : List ℕ) → Leads (behind r c) cs ys → Leads r (c ∷ cs) ys
behind_to Never c cs ys h = absurd h
behind_to Nothing c cs ys h = absurd h
behind_to (One p) c cs ys h = cond_true (p c) Nothing cs ys h
behind_to (NotBefore p) c cs ys h = absurd h
behind_to (Then a b) c cs ys h =
    elim ((or_same (then (behind a c) b) (cond (may_be_empty a (Some c)) (behind b c) Never) cs ys).0 h) [
      | inl i ↦
          let j : (ms : List ℕ) × Leads (behind a c) cs ms × Leads b ms ys = (then_same (behind a c) b cs ys).0 i in
          (j.0, behind_to a c cs j.0 j.1, j.2)
      | inr i ↦
          let j : (may_be_empty a (Some c) ≡ true) × Leads (behind b c) cs ys = cond_true (may_be_empty a (Some c)) (behind b c) cs ys i in
          (c ∷ cs, takes_none a (c ∷ cs) (Some c) refl j.0, behind_to b c cs ys j.1)
    ]
behind_to (Or a b) c cs ys h =
    elim ((or_same (behind a c) (behind b c) cs ys).0 h) [
      | inl i ↦ inl (behind_to a c cs ys i)
      | inr i ↦ inr (behind_to b c cs ys i)
    ]
behind_to (Many a) c cs ys h =
    let j : (ms : List ℕ) × Leads (behind a c) cs ms × Steps (Leads a) ms ys = (then_same (behind a c) (Many a) cs ys).0 h in
    step (c ∷ cs) j.0 ys (behind_to a c cs j.0 j.1) j.2
behind_to (OnlyIf a test) c cs ys h =
    let j : (w : List ℕ) × (cs ≡ w ++ ys) × (test (c ∷ w) ≡ true) × Leads (behind a c) cs ys = (only_if_same (behind a c) (λ v. test (c ∷ v)) cs ys).0 h in
    (c ∷ j.0, ap (λ z. c ∷ z) j.1, j.2, behind_to a c cs ys j.3)

-- what a character does to a rule

-- the rule goes on as another
pub goes : (r q : Rule) (c : ℕ) (cs ys : List ℕ) → may_be_empty r (Some c) ≡ false → behind r c ≡ q → Leads r (c ∷ cs) ys ↔ Leads q cs ys
goes r q c cs ys e d = (
  λ h. elim (reads_from r c cs ys h) [
    | inl i ↦ absurd (differ (may_be_empty r (Some c)) e i.0)
    | inr i ↦ subst (λ z. Leads z cs ys) d i
  ],
  λ h. behind_to r c cs ys (subst (λ z. Leads z cs ys) (sym d) h),
)

-- the rule ends with the character
pub ends : (r : Rule) (c : ℕ) (cs ys : List ℕ) → may_be_empty r (Some c) ≡ false → behind r c ≡ Nothing → Leads r (c ∷ cs) ys ↔ (ys ≡ cs)
ends r c cs ys e d =
    (λ h. sym ((goes r Nothing c cs ys e d).0 h), λ h. (goes r Nothing c cs ys e d).1 (sym h))

-- the rule ends before the character
pub ends_before : (r : Rule) (c : ℕ) (cs ys : List ℕ) → may_be_empty r (Some c) ≡ true → behind r c ≡ Never → Leads r (c ∷ cs) ys ↔ (ys ≡ c ∷ cs)
ends_before r c cs ys e d = (
  λ h. elim (reads_from r c cs ys h) [
    | inl i ↦ i.1
    | inr i ↦ absurd (subst (λ z. Leads z cs ys) d i)
  ],
  λ h. subst (λ z. Leads r (c ∷ cs) z) (sym h) (takes_none r (c ∷ cs) (Some c) refl e),
)

-- no text with the character in front is by the rule
pub stuck : (r : Rule) (c : ℕ) (cs ys : List ℕ) → may_be_empty r (Some c) ≡ false → behind r c ≡ Never → Leads r (c ∷ cs) ys → ⊥
stuck r c cs ys e d h = (goes r Never c cs ys e d).0 h

-- the rule takes nothing at the end of the text, or does not stand there
pub ends_there : (r : Rule) (ys : List ℕ) → may_be_empty r None ≡ true → Leads r [] ys ↔ (ys ≡ [])
ends_there r ys e = (λ h. (end_only r ys h).1, λ h. (at_end r ys).1 (e, h))

pub stuck_there : (r : Rule) (ys : List ℕ) → may_be_empty r None ≡ false → Leads r [] ys → ⊥
stuck_there r ys e h = differ (may_be_empty r None) e ((end_only r ys h).0)
