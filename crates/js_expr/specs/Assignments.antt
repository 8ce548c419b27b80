-- Assignments.
use Rattle.std.specs.Prelude.{ℕ, List}
use Rattle.lava_base.specs.declared.place.Place.{Place}
use Rattle.js_tree.specs.declared.tree.Argument.TheOpen.{Pattern-F}
use Rattle.js_tree.specs.declared.tree.Expr.TheVariants as expr
use Rattle.js_tree.specs.declared.tree.Pattern.{Pattern, out-Pattern}
use Rattle.js_tree.specs.Layers.{PatternLayer}
use Rattle.js_phrase.specs.declared.phrase.Phrase.{Phrase}
use Rattle.js_phrase.specs.declared.phrase.Phrase.TheVariants as phrase
use Rattle.js_phrase.specs.Places.{place_of}
use Rattle.js_cover.specs.Targets.{target_of}
use Rattle.js_expr.specs.Operators.{assignment_operator}
use Rattle.js_expr.specs.Parts.{part, token_at, expression_at}

-- the place of a pattern's first token
abbrev pub pattern_place_at : PatternLayer → Place
pattern_place_at (Pattern-F.Bound n) = n.place
pattern_place_at (Pattern-F.Target e) = place_of e
pattern_place_at (Pattern-F.ObjectPattern place fields rest) = place
pattern_place_at (Pattern-F.ArrayPattern place elements rest) = place

abbrev pub pattern_place : Pattern → Place
pattern_place p = pattern_place_at (out-Pattern p)

-- with `=`
-- ECMA-262 AssignmentExpression
abbrev pub assignment : List Phrase → Phrase
assignment l = phrase.Expression (expr.Assign (pattern_place (target_of (part 0 l)))
    (target_of (part 0 l)) (expression_at 2 l))

-- with an operator
-- ECMA-262 AssignmentExpression
abbrev pub operator_assignment : List Phrase → Phrase
operator_assignment l = phrase.Expression (expr.OperatorAssign (place_of (expression_at 0 l))
    (assignment_operator (token_at 1 l).kind) (expression_at 0 l) (expression_at 2 l))
