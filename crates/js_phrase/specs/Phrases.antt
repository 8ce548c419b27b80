-- What a form takes of one part: the value of a phrase as an expression, a pattern, a statement and so on. Where a phrase is none, it is
-- what a tree of the grammar never has there: `this`, an empty statement, and the like at no place.
use Rattle.std.specs.Prelude.{List, [], ◌∷◌, Option, Some, None}
use Rattle.js_lexer.specs.declared.token.Token.{Token}
use Rattle.js_tree.specs.Layers.{StmtLayer}
use Rattle.js_tree.specs.declared.tree.Argument.TheOpen.{Stmt-F}
use Rattle.js_tree.specs.declared.tree.ArrayElement.{ArrayElement}
use Rattle.js_tree.specs.declared.tree.ArrayElement.TheVariants as array_element
use Rattle.js_tree.specs.declared.tree.Body.{Body}
use Rattle.js_tree.specs.declared.tree.Body.TheVariants as body
use Rattle.js_tree.specs.declared.tree.Declaration.{Declaration, roll-Declaration}
use Rattle.js_tree.specs.declared.tree.DeclarationKind.TheVariants as declaration_kind
use Rattle.js_tree.specs.declared.tree.Expr.{Expr}
use Rattle.js_tree.specs.declared.tree.Expr.TheVariants as expr
use Rattle.js_tree.specs.declared.tree.ForInit.{ForInit}
use Rattle.js_tree.specs.declared.tree.ForInit.TheVariants as for_init
use Rattle.js_tree.specs.declared.tree.Function.{Function, roll-Function}
use Rattle.js_tree.specs.declared.tree.FunctionKind.TheVariants as function_kind
use Rattle.js_tree.specs.declared.tree.Identifier.{Identifier}
use Rattle.js_tree.specs.declared.tree.LinkStep.{LinkStep}
use Rattle.js_tree.specs.declared.tree.LinkStep.TheVariants as step
use Rattle.js_tree.specs.declared.tree.Pattern.{Pattern}
use Rattle.js_tree.specs.declared.tree.Pattern.TheVariants as pattern
use Rattle.js_tree.specs.declared.tree.PatternElement.{PatternElement, roll-PatternElement}
use Rattle.js_tree.specs.declared.tree.PropertyKey.{PropertyKey}
use Rattle.js_tree.specs.declared.tree.PropertyKey.TheVariants as key
use Rattle.js_tree.specs.declared.tree.Stmt.{Stmt, out-Stmt}
use Rattle.js_tree.specs.declared.tree.Stmt.TheVariants as stmt
use Rattle.js_phrase.specs.declared.phrase.Cover.{Cover}
use Rattle.js_phrase.specs.declared.phrase.ForHead.{ForHead}
use Rattle.js_phrase.specs.declared.phrase.ForHead.TheVariants as head
use Rattle.js_phrase.specs.declared.phrase.Operands.{Operands}
use Rattle.js_phrase.specs.declared.phrase.Operands.TheVariants as operands
use Rattle.js_phrase.specs.declared.phrase.Parameters.{Parameters}
use Rattle.js_phrase.specs.declared.phrase.Phrase.{Phrase}
use Rattle.js_phrase.specs.declared.phrase.Phrase.TheVariants as phrase
use Rattle.js_phrase.specs.declared.phrase.TryTail.{TryTail}
use Rattle.js_phrase.specs.declared.places.TheConstants.{NO_PLACE, NO_TOKEN}
use Rattle.js_phrase.specs.Places.{place_of}

abbrev pub next_of : List Phrase → Phrase
next_of [] = phrase.Absent
next_of (x ∷ l) = x

abbrev pub token_of : Phrase → Token
token_of (phrase.Token t) = t
token_of _ = NO_TOKEN

abbrev pub no_expression : Expr
no_expression = expr.This NO_PLACE

-- expressions with commas between them
abbrev pub comma : List Expr → Expr
comma [] = expr.Comma NO_PLACE []
comma (e ∷ l) = expr.Comma (place_of e) (e ∷ l)

abbrev pub operand : Operands → Expr
operand operands.NoOperand = no_expression
operand (operands.Single e) = e
operand (operands.Several l) = comma l

-- ECMA-262 CoverParenthesizedExpressionAndArrowParameterList, as a ParenthesizedExpression
abbrev pub parenthesized : Cover → Expr
parenthesized c = expr.Parenthesized c.place (operand c.operands)

abbrev pub expression_of : Phrase → Expr
expression_of (phrase.Expression e) = e
expression_of (phrase.Covered c) = parenthesized c
expression_of _ = no_expression

abbrev pub optional_expression_of : Phrase → Option Expr
optional_expression_of (phrase.Expression e) = Some e
optional_expression_of (phrase.Covered c) = Some (parenthesized c)
optional_expression_of _ = None

-- ECMA-262 Initializer
abbrev pub default_of : Phrase → Option Expr
default_of (phrase.Initializer e) = Some e
default_of _ = None

abbrev pub no_name : Identifier
no_name = record { place = NO_PLACE; name = [] }

abbrev pub name_of : Phrase → Identifier
name_of (phrase.Name n) = n
name_of _ = no_name

abbrev pub optional_name_of : Phrase → Option Identifier
optional_name_of (phrase.Name n) = Some n
optional_name_of _ = None

abbrev pub optional_pattern_of : Phrase → Option Pattern
optional_pattern_of (phrase.Name n) = Some (pattern.Bound n)
optional_pattern_of (phrase.Pattern p) = Some p
optional_pattern_of _ = None

abbrev pub no_pattern : Pattern
no_pattern = pattern.Bound no_name

-- ECMA-262 BindingIdentifier
-- ECMA-262 BindingPattern
abbrev pub pattern_of : Phrase → Pattern
pattern_of (phrase.Name n) = pattern.Bound n
pattern_of (phrase.Pattern p) = p
pattern_of _ = no_pattern

abbrev pub plain_element : Pattern → PatternElement
plain_element p = roll-PatternElement (record { pattern = p; default = None })

abbrev pub element_of : Phrase → PatternElement
element_of (phrase.Element x) = x
element_of _ = plain_element no_pattern

abbrev pub key_of : Phrase → PropertyKey
key_of (phrase.Key k) = k
key_of _ = key.Numbered NO_PLACE None

abbrev pub step_of : Phrase → LinkStep
step_of (phrase.Step s) = s
step_of _ = step.MemberLink no_name

-- an element of an array literal; none is a hole
abbrev pub slot_of : Phrase → ArrayElement
slot_of (phrase.Expression e) = array_element.Element e
slot_of (phrase.Covered c) = array_element.Element (parenthesized c)
slot_of (phrase.Spread e) = array_element.SpreadElement e
slot_of _ = array_element.Hole

abbrev pub statement_of : Phrase → Stmt
statement_of (phrase.Statement s) = s
statement_of _ = stmt.Empty NO_PLACE

abbrev pub statements_of : Phrase → List Stmt
statements_of (phrase.Statements l) = l
statements_of _ = []

abbrev pub statements_in : StmtLayer → List Stmt
statements_in (Stmt-F.Block place l) = l
statements_in _ = []

-- the statements of a Block
abbrev pub statements_of_block : Stmt → List Stmt
statements_of_block s = statements_in (out-Stmt s)

abbrev pub block_of : Phrase → List Stmt
block_of (phrase.Statement s) = statements_of_block s
block_of _ = []

-- ECMA-262 ConciseBody
abbrev pub body_of : Phrase → Body
body_of (phrase.Expression e) = body.Concise e
body_of (phrase.Covered c) = body.Concise (parenthesized c)
body_of (phrase.Statements l) = body.Statements l
body_of _ = body.Statements []

abbrev pub no_parameters : Parameters
no_parameters = record { place = NO_PLACE; elements = []; rest = None }

abbrev pub parameters_of : Phrase → Parameters
parameters_of (phrase.Parameters p) = p
parameters_of _ = no_parameters

abbrev pub no_function : Function
no_function = roll-Function (record { place = NO_PLACE; kind = function_kind.Plain; name = None; parameters = []; rest = None; body = body.Statements [] })

abbrev pub function_of : Phrase → Function
function_of (phrase.Function f) = f
function_of _ = no_function

abbrev pub no_declaration : Declaration
no_declaration = roll-Declaration (record { place = NO_PLACE; kind = declaration_kind.Var; declarators = [] })

abbrev pub declaration_of : Phrase → Declaration
declaration_of (phrase.Declaration d) = d
declaration_of _ = no_declaration

abbrev pub for_init_of : Phrase → ForInit
for_init_of (phrase.Declaration d) = for_init.InitDeclaration d
for_init_of (phrase.Expression e) = for_init.InitExpression e
for_init_of (phrase.Covered c) = for_init.InitExpression (parenthesized c)
for_init_of _ = for_init.NoInit

abbrev pub head_of : Phrase → ForHead
head_of (phrase.Head h) = h
head_of _ = head.Loop for_init.NoInit None None

abbrev pub no_tail : TryTail
no_tail = record { parameter = None; handler = None; finalizer = None }

abbrev pub tail_of : Phrase → TryTail
tail_of (phrase.Tail t) = t
tail_of _ = no_tail
