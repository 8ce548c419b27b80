-- A name and the static members behind it.
use Rattle.std.specs.Prelude.{ℕ, zero, suc, List, [], ◌∷◌, ◌++◌, Option, Some, None, if◌then◌else◌}
use Rattle.std.specs.Option.{option_map}
use Rattle.js_tree.specs.Layers.{ExprLayer, LinkStepLayer}
use Rattle.js_tree.specs.declared.tree.Argument.TheOpen.{Expr-F, LinkStep-F}
use Rattle.js_tree.specs.declared.tree.Expr.{Expr, out-Expr}
use Rattle.js_tree.specs.declared.tree.Identifier.{Identifier}
use Rattle.js_tree.specs.declared.tree.Link.{Link, out-Link}
use Rattle.js_tree.specs.declared.tree.LinkStep.{out-LinkStep}
use Rattle.js_walk.specs.Paths.{are_member_links}
use Rattle.js_names.specs.declared.bound.TheConstants.{TREE_DEPTH}
use Rattle.js_scope.specs.declared.static_path.StaticPath.{StaticPath}

abbrev pub leading_at : LinkStepLayer → List (List ℕ) → List (List ℕ)
leading_at (LinkStep-F.MemberLink i) names = i.name ∷ names
leading_at (LinkStep-F.IndexLink e) names = []
leading_at (LinkStep-F.CallLink l) names = []

-- the names of the links up to the first one that is no name
abbrev pub leading_names : List Link → List (List ℕ)
leading_names [] = []
leading_names (l ∷ ls) = leading_at (out-LinkStep (out-Link l).step) (leading_names ls)

abbrev pub lone_name : Identifier → StaticPath
lone_name i = record { name = i.name; place = i.place; members = [] }

abbrev pub with_members : List (List ℕ) → StaticPath → StaticPath
with_members ms p = record { name = p.name; place = p.place; members = p.members ++ ms }

abbrev pub path_at : (Expr → Option StaticPath) → ExprLayer → Option StaticPath
path_at base (Expr-F.Name i) = Some (lone_name i)
path_at base (Expr-F.Parenthesized place e) = base e
path_at base (Expr-F.Member place e i) = option_map (with_members (i.name ∷ [])) (base e)
path_at base (Expr-F.Chain place e ls) = if are_member_links ls then option_map (with_members (leading_names ls)) (base e) else None
path_at base _ = None

abbrev pub path_row : (Expr → Option StaticPath) → Expr → Option StaticPath
path_row base e = path_at base (out-Expr e)

abbrev pub path_to : ℕ → Expr → Option StaticPath
path_to zero e = None
path_to (suc d) e = path_row (path_to d) e

-- the path that an expression is, if it is one; parentheses count for nothing
-- own: the free paths of a module are such
unfoldable pub path_of : Expr → Option StaticPath
path_of e = path_to TREE_DEPTH e

abbrev pub used_at : ExprLayer → Expr → Option StaticPath
used_at (Expr-F.Chain place b ls) e = option_map (with_members (leading_names ls)) (path_of b)
used_at _ e = path_of e

-- the path that an expression reads by itself: of a chain, as far as it has names
abbrev pub used_path : Expr → Option StaticPath
used_path e = used_at (out-Expr e) e
