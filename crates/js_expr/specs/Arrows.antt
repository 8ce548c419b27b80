-- Arrow functions.
use Rattle.std.specs.Prelude.{ℕ, List, None}
use Rattle.js_tree.specs.declared.tree.Expr.TheVariants as expr
use Rattle.js_tree.specs.declared.tree.Body.{Body}
use Rattle.js_tree.specs.declared.tree.Function.{Function, roll-Function}
use Rattle.js_tree.specs.declared.tree.FunctionKind.TheVariants as function_kind
use Rattle.js_phrase.specs.declared.phrase.Parameters.{Parameters}
use Rattle.js_phrase.specs.declared.phrase.Phrase.{Phrase}
use Rattle.js_phrase.specs.declared.phrase.Phrase.TheVariants as phrase
use Rattle.js_phrase.specs.Phrases.{body_of}
use Rattle.js_cover.specs.Targets.{arrow_parameters_of}
use Rattle.js_expr.specs.Parts.{part, expression_at}

-- an expression that is a body
-- ECMA-262 ConciseBody
abbrev pub expression_body : List Phrase → Phrase
expression_body l = phrase.Expression (expression_at 0 l)

abbrev pub arrow : Parameters → Body → Function
arrow p behind = roll-Function (record {
  place = p.place;
  kind = function_kind.Arrow;
  name = None;
  parameters = p.elements;
  rest = p.rest;
  body = behind;
})

-- ECMA-262 ArrowFunction
abbrev pub arrow_function : List Phrase → Phrase
arrow_function l =
    phrase.Expression (expr.Function (arrow (arrow_parameters_of (part 0 l)) (body_of (part 2 l))))
