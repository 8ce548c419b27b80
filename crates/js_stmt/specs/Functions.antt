-- Functions.
use Rattle.std.specs.Prelude.{ℕ, List, Option}
use Rattle.lava_base.specs.declared.place.Place.{Place}
use Rattle.js_tree.specs.declared.tree.Body.TheVariants as body
use Rattle.js_tree.specs.declared.tree.Expr.TheVariants as expr
use Rattle.js_tree.specs.declared.tree.Function.{Function, roll-Function}
use Rattle.js_tree.specs.declared.tree.FunctionKind.{FunctionKind}
use Rattle.js_tree.specs.declared.tree.FunctionKind.TheVariants as kind
use Rattle.js_tree.specs.declared.tree.Identifier.{Identifier}
use Rattle.js_tree.specs.declared.tree.Pattern.{Pattern}
use Rattle.js_tree.specs.declared.tree.PatternElement.{PatternElement}
use Rattle.js_tree.specs.declared.tree.Stmt.{Stmt}
use Rattle.js_tree.specs.declared.tree.Stmt.TheVariants as stmt
use Rattle.js_phrase.specs.declared.phrase.Phrase.{Phrase}
use Rattle.js_phrase.specs.declared.phrase.Phrase.TheVariants as phrase
use Rattle.js_phrase.specs.Lists.{parameter_list, statement_list}
use Rattle.js_phrase.specs.Phrases.{optional_name_of, parameters_of, statements_of}
use Rattle.js_expr.specs.Parts.{part, behind, token_at}

-- ECMA-262 FormalParameters
abbrev pub formal_parameters : List Phrase → Phrase
formal_parameters l = phrase.Parameters (parameter_list (token_at 0 l).start (behind 1 l))

-- statements between braces, or between the start and the end of a source
-- ECMA-262 FunctionBody
-- ECMA-262 ModuleBody
abbrev pub function_body : List Phrase → Phrase
function_body l = phrase.Statements (statement_list l)

abbrev pub function : Place → FunctionKind → Option Identifier → List PatternElement → Option Pattern → List Stmt → Function
function place kind name parameters rest statements = roll-Function (record {
  place = place;
  kind = kind;
  name = name;
  parameters = parameters;
  rest = rest;
  body = body.Statements statements;
})

-- `function`, with a name or without
abbrev pub plain_function : List Phrase → Function
plain_function l = function (token_at 0 l).start kind.Plain (optional_name_of (part 1 l))
    (parameters_of (part 2 l)).elements (parameters_of (part 2 l)).rest (statements_of (part 3 l))

-- ECMA-262 FunctionExpression
abbrev pub function_expression : List Phrase → Phrase
function_expression l = phrase.Expression (expr.Function (plain_function l))

-- ECMA-262 FunctionDeclaration
abbrev pub function_declaration : List Phrase → Phrase
function_declaration l = phrase.Statement (stmt.FunctionDeclaration (plain_function l))
