-- `new` and `super`.
use Rattle.std.specs.Prelude.{ℕ, List, []}
use Rattle.lava_base.specs.declared.place.Place.{Place}
use Rattle.js_tree.specs.declared.tree.Argument.{Argument}
use Rattle.js_tree.specs.declared.tree.Argument.TheOpen.{Expr-F, LinkStep-F}
use Rattle.js_tree.specs.declared.tree.Expr.{Expr, out-Expr}
use Rattle.js_tree.specs.declared.tree.Expr.TheVariants as expr
use Rattle.js_tree.specs.declared.tree.LinkStep.{LinkStep, out-LinkStep}
use Rattle.js_tree.specs.declared.tree.LinkStep.TheVariants as step
use Rattle.js_tree.specs.Layers.{ExprLayer, LinkStepLayer}
use Rattle.js_phrase.specs.declared.phrase.Phrase.{Phrase}
use Rattle.js_phrase.specs.declared.phrase.Phrase.TheVariants as phrase
use Rattle.js_phrase.specs.Lists.{arguments_of}
use Rattle.js_phrase.specs.Phrases.{step_of}
use Rattle.js_expr.specs.Names.{identifier}
use Rattle.js_expr.specs.Parts.{part, behind, token_at, expression_at}

-- ECMA-262 NewTarget
abbrev pub new_target : List Phrase → Phrase
new_target l = phrase.Expression (expr.NewTarget (token_at 0 l).start)

-- `new` without arguments
-- ECMA-262 NewExpression
abbrev pub new_expression : List Phrase → Phrase
new_expression l = phrase.Expression (expr.New (token_at 0 l).start (expression_at 1 l) [])

abbrev pub with_arguments_at : Expr → List Argument → ExprLayer → Expr
with_arguments_at e l (Expr-F.New place callee none) = expr.New place callee l
with_arguments_at e l _ = e

-- a `new` without arguments, with these behind it
abbrev pub with_arguments : Expr → List Argument → Expr
with_arguments e l = with_arguments_at e l (out-Expr e)

-- ECMA-262 MemberExpression
abbrev pub new_with_arguments : List Phrase → Phrase
new_with_arguments l =
    phrase.Expression (with_arguments (expression_at 0 l) (arguments_of (behind 2 l)))

-- what stands behind `super`

abbrev pub super_name : List ℕ → List Phrase → Phrase
super_name source l = phrase.Step (step.MemberLink (identifier source (token_at 1 l)))

-- ECMA-262 SuperProperty
-- ECMA-262 SuperCall
abbrev pub super_at : Place → LinkStepLayer → Expr
super_at place (LinkStep-F.MemberLink n) = expr.SuperMember place n
super_at place (LinkStep-F.IndexLink e) = expr.SuperIndex place e
super_at place (LinkStep-F.CallLink l) = expr.SuperCall place l

abbrev pub super_expression : List Phrase → Phrase
super_expression l = phrase.Expression (super_at (token_at 0 l).start (out-LinkStep (step_of (part 1 l))))
