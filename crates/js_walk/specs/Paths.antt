-- Names with static members behind them.
use Rattle.std.specs.Prelude.{ℕ, zero, suc, Bool, true, false, ◌&&◌, List, [], ◌∷◌}
use Rattle.js_tree.specs.Layers.{ExprLayer, LinkStepLayer}
use Rattle.js_tree.specs.declared.tree.Argument.TheOpen.{Expr-F, LinkStep-F}
use Rattle.js_tree.specs.declared.tree.Expr.{Expr, out-Expr}
use Rattle.js_tree.specs.declared.tree.Link.{Link, out-Link}
use Rattle.js_tree.specs.declared.tree.LinkStep.{out-LinkStep}
use Rattle.js_names.specs.declared.bound.TheConstants.{TREE_DEPTH}

abbrev pub is_member_step_at : LinkStepLayer → Bool
is_member_step_at (LinkStep-F.MemberLink n) = true
is_member_step_at (LinkStep-F.IndexLink e) = false
is_member_step_at (LinkStep-F.CallLink l) = false

-- a link is `.` or `?.` and a name
-- ECMA-262 OptionalChain
abbrev pub is_member_link : Link → Bool
is_member_link l = is_member_step_at (out-LinkStep (out-Link l).step)

abbrev pub are_member_links : List Link → Bool
are_member_links [] = true
are_member_links (l ∷ ls) = is_member_link l && are_member_links ls

abbrev pub is_path_at : (Expr → Bool) → ExprLayer → Bool
is_path_at is_base (Expr-F.Name i) = true
is_path_at is_base (Expr-F.Parenthesized place e) = is_base e
is_path_at is_base (Expr-F.Member place e n) = is_base e
is_path_at is_base (Expr-F.Chain place e ls) = are_member_links ls && is_base e
is_path_at is_base _ = false

abbrev pub is_path_row : (Expr → Bool) → Expr → Bool
is_path_row is_base e = is_path_at is_base (out-Expr e)

abbrev pub is_path_to : ℕ → Expr → Bool
is_path_to zero e = false
is_path_to (suc d) e = is_path_row (is_path_to d) e

-- an expression is a name with static members behind it; parentheses count for nothing
-- own: the free paths of a module are such
unfoldable pub is_path : Expr → Bool
is_path e = is_path_to TREE_DEPTH e
