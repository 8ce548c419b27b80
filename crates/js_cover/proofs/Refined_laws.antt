-- One level of what an expression is refined to.
use Rattle.std.proofs.Common.{◌≡◌, ℕ, zero, suc, ◌-◌, ◌<◌, true, false, refl, arith}
use Rattle.js_tree.specs.declared.tree.Expr.{Expr}
use Rattle.js_cover.specs.Refined.{refined_to, covered, is_covered, target}

pub refined_none : (n : ℕ) (e : Expr) → n ≡ 0 → refined_to n e ≡ target e
unfolding refined_to
refined_none zero e h = refl
refined_none (suc n) e h = absurd (omega arith)

pub refined_whole : (n : ℕ) (e : Expr) → is_covered e ≡ false → refined_to n e ≡ target e
unfolding refined_to
refined_whole zero e h = refl
refined_whole (suc n) e h = rw h refl

pub refined_covered : (n : ℕ) (e : Expr) → 0 < n → is_covered e ≡ true
    → refined_to n e ≡ covered (refined_to (n - 1)) e
unfolding refined_to
refined_covered zero e some h = absurd (omega arith)
refined_covered (suc n) e some h = let same : suc n - 1 ≡ n = omega arith in rw (h, same) refl
