-- Where expressions and patterns begin, and which of two places is the later one.
use Rattle.std.specs.Prelude.{Bool, ◌||◌, ◌&&◌, nat_lt, nat_eq, if◌then◌else◌}
use Rattle.lava_base.specs.declared.place.Place.{Place}
use Rattle.js_tree.specs.declared.tree.Expr.{Expr, out-Expr}
use Rattle.js_tree.specs.declared.tree.Argument.TheOpen.{Expr-F}
use Rattle.js_tree.specs.Layers.{ExprLayer}
use Rattle.js_tree.specs.declared.tree.Function.{out-Function}
use Rattle.js_tree.specs.declared.tree.Class.{out-Class}

-- a place stands before another one
abbrev pub is_before : Place → Place → Bool
is_before a b = nat_lt a.line b.line || (nat_eq a.line b.line && nat_lt a.unit b.unit)

-- the later one of two places
abbrev pub later : Place → Place → Place
later a b = if is_before a b then b else a

abbrev pub place_at : ExprLayer → Place
place_at (Expr-F.Name i) = i.place
place_at (Expr-F.This place) = place
place_at (Expr-F.Null place) = place
place_at (Expr-F.Bool place _) = place
place_at (Expr-F.Number place _) = place
place_at (Expr-F.String place _) = place
place_at (Expr-F.Template place _ _) = place
place_at (Expr-F.Array place _) = place
place_at (Expr-F.Object place _) = place
place_at (Expr-F.Function f) = (out-Function f).place
place_at (Expr-F.Class c) = (out-Class c).place
place_at (Expr-F.Parenthesized place _) = place
place_at (Expr-F.NewTarget place) = place
place_at (Expr-F.Member place _ _) = place
place_at (Expr-F.Index place _ _) = place
place_at (Expr-F.SuperMember place _) = place
place_at (Expr-F.SuperIndex place _) = place
place_at (Expr-F.Call place _ _) = place
place_at (Expr-F.SuperCall place _) = place
place_at (Expr-F.New place _ _) = place
place_at (Expr-F.Chain place _ _) = place
place_at (Expr-F.Unary place _ _) = place
place_at (Expr-F.Update place _ _ _) = place
place_at (Expr-F.Binary place _ _ _) = place
place_at (Expr-F.Logical place _ _ _) = place
place_at (Expr-F.Conditional place _ _ _) = place
place_at (Expr-F.Assign place _ _) = place
place_at (Expr-F.OperatorAssign place _ _ _) = place
place_at (Expr-F.Comma place _) = place

-- the place of an expression's first token
abbrev pub place_of : Expr → Place
place_of e = place_at (out-Expr e)
