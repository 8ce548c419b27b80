-- Expressions with commas between them.
use Rattle.std.specs.Prelude.{ℕ, Bool, true, false, if◌then◌else◌, List, [], ◌∷◌, ◌++◌}
use Rattle.js_tree.specs.declared.tree.Argument.TheOpen.{Expr-F}
use Rattle.js_tree.specs.declared.tree.Expr.{Expr, out-Expr}
use Rattle.js_tree.specs.declared.tree.Expr.TheVariants as expr
use Rattle.js_tree.specs.Layers.{ExprLayer}
use Rattle.js_phrase.specs.declared.phrase.Phrase.{Phrase}
use Rattle.js_phrase.specs.declared.phrase.Phrase.TheVariants as phrase
use Rattle.js_phrase.specs.Places.{place_of}
use Rattle.js_expr.specs.Parts.{expression_at}

-- an expression with commas, which is in no parentheses
abbrev pub is_comma_at : ExprLayer → Bool
is_comma_at (Expr-F.Comma place l) = true
is_comma_at _ = false

abbrev pub is_comma : Expr → Bool
is_comma e = is_comma_at (out-Expr e)

-- such an expression with one operand more
abbrev pub extended_at : Expr → Expr → ExprLayer → Expr
extended_at e x (Expr-F.Comma place l) = expr.Comma place (l ++ x ∷ [])
extended_at e x _ = e

abbrev pub extended : Expr → Expr → Expr
extended e x = extended_at e x (out-Expr e)

abbrev pub pair : Expr → Expr → Expr
pair e x = expr.Comma (place_of e) (e ∷ x ∷ [])

abbrev pub with_operand : Expr → Expr → Expr
with_operand e x = if is_comma e then extended e x else pair e x

-- ECMA-262 Expression
abbrev pub comma_expression : List Phrase → Phrase
comma_expression l = phrase.Expression (with_operand (expression_at 0 l) (expression_at 2 l))
