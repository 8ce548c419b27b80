-- What each production makes of what its parts have become.
use Rattle.std.specs.Prelude.{ℕ, List}
use Rattle.js_grammar.specs.declared.symbols.Production.{Production}
use Rattle.js_grammar.specs.declared.symbols.Production.TheVariants as production
use Rattle.js_phrase.specs.declared.phrase.Phrase.{Phrase}
use Rattle.js_phrase.specs.declared.phrase.Phrase.TheVariants as phrase
use Rattle.js_parser.specs.ExpressionForms.{expression_form}
use Rattle.js_stmt.specs.js_expr.Parts.{part}
use Rattle.js_stmt.specs.Bindings.{binding_identifier, initializer, binding_element, binding_rest, second_part, named_binding_property, keyed_binding_property, object_binding_pattern, array_binding_pattern, comma_binding_element}
use Rattle.js_stmt.specs.Branches.{if_statement, if_else_statement}
use Rattle.js_stmt.specs.Classes.{class_heritage, class_expression, class_declaration}
use Rattle.js_stmt.specs.Declarations.{declaration_statement, for_declaration}
use Rattle.js_stmt.specs.ForHeads.{for_without_init, for_with_init, for_of, for_in}
use Rattle.js_stmt.specs.Functions.{formal_parameters, function_body, function_expression, function_declaration}
use Rattle.js_stmt.specs.Jumps.{break_or_continue, return_statement, throw_statement}
use Rattle.js_stmt.specs.Labels.{labelled_statement}
use Rattle.js_stmt.specs.Loops.{while_statement, do_while_statement, for_statement}
use Rattle.js_stmt.specs.Methods.{method_tail, method, static_named_method, getter, setter, static_element}
use Rattle.js_stmt.specs.Statements.{block, empty_statement, expression_statement, debugger_statement}
use Rattle.js_stmt.specs.Switches.{case_clause, default_clause, switch_statement}
use Rattle.js_stmt.specs.Tries.{finally_clause, catch_clause, try_statement}

-- functions and classes
unfoldable pub class_form : List ℕ → Production → List Phrase → Phrase
class_form source production.FunctionExpression l = function_expression l
class_form source production.FormalParameters l = formal_parameters l
class_form source production.FunctionBody l = function_body l
class_form source production.ClassExpression l = class_expression l
class_form source production.ClassHeritage l = class_heritage l
class_form source production.MethodTail l = method_tail l
class_form source production.Method l = method l
class_form source production.StaticMethod l = method l
class_form source production.StaticNamedMethod l = static_named_method source l
class_form source production.StaticElement l = static_element l
class_form source production.EmptyClassElement l = phrase.Absent
class_form source production.Getter l = getter l
class_form source production.Setter l = setter l
class_form source p l = expression_form source p l

-- bindings
unfoldable pub binding_form : List ℕ → Production → List Phrase → Phrase
binding_form source production.BindingIdentifier l = binding_identifier source l
binding_form source production.ObjectBindingPattern l = object_binding_pattern l
binding_form source production.ArrayBindingPattern l = array_binding_pattern l
binding_form source production.CommaBindingElement l = comma_binding_element l
binding_form source production.BindingElement l = binding_element l
binding_form source production.BindingRestElement l = binding_rest l
binding_form source production.CommaBindingRestElement l = second_part l
binding_form source production.BindingRestProperty l = binding_rest l
binding_form source production.NamedBindingProperty l = named_binding_property source l
binding_form source production.KeyedBindingProperty l = keyed_binding_property l
binding_form source production.BindingPropertyValue l = second_part l
binding_form source production.Initializer l = initializer l
binding_form source production.InitializerNoIn l = initializer l
binding_form source production.VariableDeclaration l = binding_element l
binding_form source production.VariableDeclarationNoIn l = binding_element l
binding_form source production.CommaVariableDeclaration l = second_part l
binding_form source production.CommaVariableDeclarationNoIn l = second_part l
binding_form source p l = class_form source p l

-- the parts of statements
unfoldable pub part_form : List ℕ → Production → List Phrase → Phrase
part_form source production.ForVar l = for_declaration l
part_form source production.ForLexical l = for_declaration l
part_form source production.ForWithoutInit l = for_without_init l
part_form source production.ForWithInit l = for_with_init l
part_form source production.ForOf l = for_of l
part_form source production.ForIn l = for_in l
part_form source production.LabelIdentifier l = binding_identifier source l
part_form source production.CaseClause l = case_clause l
part_form source production.DefaultClause l = default_clause l
part_form source production.CatchClause l = catch_clause l
part_form source production.CatchParameter l = second_part l
part_form source production.FinallyClause l = finally_clause l
part_form source production.Module l = function_body l
part_form source production.Source l = part 0 l
part_form source p l = binding_form source p l

-- statements, and all else
unfoldable pub form : List ℕ → Production → List Phrase → Phrase
form source production.VariableStatement l = declaration_statement l
form source production.Block l = block l
form source production.EmptyStatement l = empty_statement l
form source production.ExpressionStatement l = expression_statement l
form source production.IfStatement l = if_statement l
form source production.IfElseStatement l = if_else_statement l
form source production.WhileStatement l = while_statement l
form source production.DoWhileStatement l = do_while_statement l
form source production.ForStatement l = for_statement l
form source production.BreakOrContinueStatement l = break_or_continue l
form source production.ReturnStatement l = return_statement l
form source production.ThrowStatement l = throw_statement l
form source production.SwitchStatement l = switch_statement l
form source production.TryStatement l = try_statement l
form source production.LabelledStatement l = labelled_statement source l
form source production.DebuggerStatement l = debugger_statement l
form source production.FunctionDeclaration l = function_declaration l
form source production.ClassDeclaration l = class_declaration l
form source production.LexicalDeclaration l = declaration_statement l
form source p l = part_form source p l
