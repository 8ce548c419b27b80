-- Tokens have one longest run, and one expression at most at their start.
use Rattle.std.proofs.Common.{◌≡◌, ℕ, ◌≤◌, List, [], ◌∷◌, ◌++◌, ◌⊎◌, inl, inr, refl, sym, ap, subst, ◌∙◌, length, arith}
use Rattle.js_grammar.specs.Expressions.{Expression_one}
use Rattle.js_grammar.specs.Grammar.{Tree}
use Rattle.js_lexer.specs.declared.token.Token.{Token}
use Rattle.js_reader.specs.Reading.{ahead}
use Rattle.js_reader.specs.Runs.{IsRun, IsRunTree, IsExpressionAt}
use Rattle.js_cursor.proofs.End_laws.{no_end}

-- two ways to part a list: at one place, or one behind the other
abbrev Parted : List Token → List Token → List Token → List Token → Type 0
Parted b r c s = ((b ≡ c) × (r ≡ s)) ⊎ (((t : Token) × (d : List Token) × (c ≡ b ++ t ∷ d)) ⊎ ((t : Token) × (d : List Token) × (b ≡ c ++ t ∷ d)))

parted : (b r c s : List Token) → b ++ r ≡ c ++ s → Parted b r c s
parted [] r [] s e = inl (refl, e)
parted [] r (t ∷ c) s e = inr (inl (t, c, refl))
parted (t ∷ b) r [] s e = inr (inr (t, b, refl))
parted (t ∷ b) r (u ∷ c) s e =
    let f : t ≡ u = cc in
    let g : b ++ r ≡ c ++ s = cc in
    by f (parted b r c s g)
  where
    by : t ≡ u → Parted b r c s → Parted (t ∷ b) r (u ∷ c) s
    by f (inl h) = inl (rw (f, h.0) refl, h.1)
    by f (inr (inl h)) = inr (inl (h.0, h.1, rw (← f, h.2) refl))
    by f (inr (inr h)) = inr (inr (h.0, h.1, rw (f, h.2) refl))

longer_not : (b : List Token) (t : Token) (d : List Token) → length (b ++ t ∷ d) ≤ length b → ⊥
longer_not [] t d h = absurd (omega (arith, h))
longer_not (x ∷ b) t d h =
    let k : length (b ++ t ∷ d) ≤ length b = omega (arith, h) in
    longer_not b t d k

-- neither of two longest runs is longer than the other
pub one_run : (source : List ℕ) (tokens b r c s : List Token) → IsRun source tokens b r → IsRun source tokens c s → (b ≡ c) × (r ≡ s)
one_run source tokens b r c s h k = by (parted b r c s (sym h.0 ∙ k.0))
  where
    by : Parted b r c s → (b ≡ c) × (r ≡ s)
    by (inl e) = e
    by (inr (inl e)) =
        let P : List Token → Type 0 = λ x. length x ≤ length b in
        absurd (longer_not b e.0 e.1 (subst P e.2 (h.2 c s k.0 k.1)))
    by (inr (inr e)) =
        let P : List Token → Type 0 = λ x. length x ≤ length c in
        absurd (longer_not c e.0 e.1 (subst P e.2 (k.2 b r h.0 h.1)))

pub one_tree : Expression_one → (source : List ℕ) (tokens b r c s : List Token) (x y : Tree) → IsExpressionAt source tokens b r x → IsExpressionAt source tokens c s y → (b ≡ c) × (r ≡ s) × (x ≡ y)
one_tree one source tokens b r c s x y h k =
    let m = one_run source tokens b r c s h.0 k.0 in
    let P : List Token → Type 0 = λ z. IsRunTree source z s y in
    let Q : List Token → Type 0 = λ z. IsRunTree source b z y in
    let same : IsRunTree source b r y = subst Q (sym m.1) (subst P (sym m.0) k.1) in
    (m.0, m.1, one (ahead source 0 b r) x y (no_end source 0 b r) h.1 same)
