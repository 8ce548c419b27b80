-- A byte parts a text in one way only, where the part before it or the part behind it has no such byte.
use Rattle.std.proofs.Common.{◌≡◌, ◌≢◌, ℕ, List, [], ◌∷◌, ◌++◌, get_or, drop, refl, sym, ap, ◌∙◌, subst, arith}

-- a byte stands nowhere in a text
abbrev pub Lacks : ℕ → List ℕ → Type 0
Lacks c [] = Unit {0}
Lacks c (b ∷ s) = (b ≢ c) × Lacks c s

pub Lacks-append : (c : ℕ) (s t : List ℕ) → Lacks c s → Lacks c t → Lacks c (s ++ t)
Lacks-append c [] t ls lt = lt
Lacks-append c (b ∷ s) t ls lt = (ls.0, Lacks-append c s t ls.1 lt)

pub Lacks-right : (c : ℕ) (s t : List ℕ) → Lacks c (s ++ t) → Lacks c t
Lacks-right c [] t l = l
Lacks-right c (b ∷ s) t l = Lacks-right c s t l.1

pub lacks_not : (c : ℕ) (s t : List ℕ) → Lacks c (s ++ c ∷ t) → ⊥
lacks_not c [] t l = l.0 refl
lacks_not c (b ∷ s) t l = lacks_not c s t l.1

pub heads : (b c : ℕ) (s t : List ℕ) → b ∷ s ≡ c ∷ t → b ≡ c
heads b c s t e = ap (λ (l : List ℕ). get_or l 0 0) e

pub tails : (b c : ℕ) (s t : List ℕ) → b ∷ s ≡ c ∷ t → s ≡ t
tails b c s t e = ap (λ (l : List ℕ). drop 1 l) e

pub cons_same : (b c : ℕ) (s t : List ℕ) → b ≡ c → s ≡ t → b ∷ s ≡ c ∷ t
cons_same b c s t e f = ap (λ (x : ℕ). x ∷ s) e ∙ ap (λ (l : List ℕ). c ∷ l) f

pub not_nil : (b : ℕ) (s : List ℕ) → b ∷ s ≡ [] → ⊥
not_nil b s e = grind (arith, e)

-- the first such byte
pub first_split : (c : ℕ) (x u y v : List ℕ) → Lacks c x → Lacks c y → x ++ c ∷ u ≡ y ++ c ∷ v → (x ≡ y) × (u ≡ v)
first_split c [] u [] v lx ly e = (refl, tails c c u v e)
first_split c [] u (b ∷ y) v lx ly e = absurd (ly.0 (sym (heads c b u (y ++ c ∷ v) e)))
first_split c (b ∷ x) u [] v lx ly e = absurd (lx.0 (heads b c (x ++ c ∷ u) v e))
first_split c (b ∷ x) u (d ∷ y) v lx ly e =
    let rest = first_split c x u y v lx.1 ly.1 (tails b d (x ++ c ∷ u) (y ++ c ∷ v) e) in
    (cons_same b d x y (heads b d (x ++ c ∷ u) (y ++ c ∷ v) e) rest.0, rest.1)

-- the last such byte
pub last_split : (c : ℕ) (u x v y : List ℕ) → Lacks c x → Lacks c y → u ++ c ∷ x ≡ v ++ c ∷ y → (u ≡ v) × (x ≡ y)
last_split c [] x [] y lx ly e = (refl, tails c c x y e)
last_split c [] x (b ∷ v) y lx ly e =
    absurd (lacks_not c v y (subst (Lacks c) (tails c b x (v ++ c ∷ y) e) lx))
last_split c (b ∷ u) x [] y lx ly e =
    absurd (lacks_not c u x (subst (Lacks c) (sym (tails b c (u ++ c ∷ x) y e)) ly))
last_split c (b ∷ u) x (d ∷ v) y lx ly e =
    let rest = last_split c u x v y lx ly (tails b d (u ++ c ∷ x) (v ++ c ∷ y) e) in
    (cons_same b d u v (heads b d (u ++ c ∷ x) (v ++ c ∷ y) e) rest.0, rest.1)
