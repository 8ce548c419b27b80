use Rattle.std.proofs.Common.{◌≡◌, ℕ, suc, ◌-◌, refl, subst, IfOk, arith}
use Rattle.js_tree.specs.declared.tree.Expr.{Expr}
use Rattle.js_scope.specs.StaticPaths.{path_row, path_to}
use Rattle.js_scope.proofs.static_path.+path.Goals as goal

path_step : (d k : ℕ) (e : Expr) → suc k ≡ d → path_row (path_to k) e ≡ path_to d e
path_step d k e h = subst (λ n. path_row (path_to k) e ≡ path_to n e) h refl

pub path_to-returns : goal.path_to-returns
path_to-returns t c =
    let there : suc (c.args.depth - 1) ≡ c.args.depth = omega (arith, c.if-depth-eq0.false) in
    subst (λ p. IfOk c.path_row.result (λ path. path ≡ p)) (path_step c.args.depth (c.args.depth - 1) c.args.expression.now there) c.path_row.ensures
