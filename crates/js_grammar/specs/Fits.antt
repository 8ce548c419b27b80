-- What a tree has to be beside being built by the rules: the refinements of the cover grammars, and the whole grammar.
use Rattle.std.specs.Prelude.{ℕ, ◌+◌, max, nat_lt, Bool, true, false, not, ◌&&◌, ◌||◌, cond, Option, Some, None}
use Rattle.js_grammar.specs.declared.lexeme.Lexeme.{Lexeme}
use Rattle.js_grammar.specs.declared.symbols.Terminal.{Terminal}
use Rattle.js_grammar.specs.declared.symbols.Terminal.TheVariants as terminal
use Rattle.js_grammar.specs.declared.summary.Summary.{Summary}
use Rattle.js_grammar.specs.declared.summary.TheConstants.{MAX_PARTS}
use Rattle.js_grammar.specs.declared.symbols.Nonterminal.{Nonterminal}
use Rattle.js_grammar.specs.declared.symbols.Nonterminal.TheVariants as nonterminal
use Rattle.js_grammar.specs.declared.symbols.Production.{Production}
use Rattle.js_grammar.specs.declared.symbols.Production.TheVariants as production
use Rattle.js_grammar.specs.Grammar.{Tree, Leaf, Node, Absent, Row, Nil, Then, Grammar}
use Rattle.js_grammar.specs.Machine.{Table}
use Rattle.js_grammar.specs.Nesting.{height_of, first_form, forms_in}
use Rattle.js_grammar.specs.Table.{rule_of, ends_of, stands_of, may_of, has_of, guard_of, start_of, wrap_of}

-- literals, parentheses and what stands in them, which may be patterns
unfoldable pub is_cover : Production → Bool
is_cover production.ArrayLiteral = true
is_cover production.CommaElement = true
is_cover production.SpreadElement = true
is_cover production.SpreadProperty = true
is_cover production.ObjectLiteral = true
is_cover production.NamedProperty = true
is_cover production.KeyedProperty = true
is_cover production.PropertyValue = true
is_cover production.CoverInitializedName = true
is_cover production.CoverParenthesized = true
is_cover production.CoverComma = true
is_cover _ = false

-- a name with an initializer, which only a pattern has
unfoldable pub is_initialized_name : Production → Bool
is_initialized_name production.CoverInitializedName = true
is_initialized_name _ = false

-- a pair of parentheses
unfoldable pub is_parenthesized : Production → Bool
is_parenthesized production.CoverParenthesized = true
is_parenthesized _ = false

-- a comma in parentheses
unfoldable pub is_cover_comma : Production → Bool
is_cover_comma production.CoverComma = true
is_cover_comma _ = false

-- a rest parameter in parentheses
unfoldable pub is_cover_rest : Production → Bool
is_cover_rest production.CoverRest = true
is_cover_rest _ = false

-- a property that may be a `__proto__: v`
unfoldable pub is_property : Production → Bool
is_property production.NamedProperty = true
is_property production.KeyedProperty = true
is_property _ = false

-- an array or object literal
unfoldable pub is_literal : Production → Bool
is_literal production.ArrayLiteral = true
is_literal production.ObjectLiteral = true
is_literal _ = false

-- a name
unfoldable pub is_identifier : Production → Bool
is_identifier production.IdentifierReference = true
is_identifier _ = false

-- what is a pattern as far as its own parts are
unfoldable pub is_inner : Production → Bool
is_inner production.CommaElement = true
is_inner production.NamedProperty = true
is_inner production.KeyedProperty = true
is_inner production.PropertyValue = true
is_inner production.CoverComma = true
is_inner _ = false

-- what stands in a pattern as it does in a literal
unfoldable pub is_free : Production → Bool
is_free production.CoverInitializedName = true
is_free production.ReservedWordName = true
is_free production.StringName = true
is_free production.NumericName = true
is_free production.ComputedPropertyName = true
is_free production.CoverRest = true
is_free _ = false

-- `...` in an array
unfoldable pub is_spread_element : Production → Bool
is_spread_element production.SpreadElement = true
is_spread_element _ = false

-- `...` in an object
unfoldable pub is_spread_property : Production → Bool
is_spread_property production.SpreadProperty = true
is_spread_property _ = false

-- an assignment
unfoldable pub is_assignment : Production → Bool
is_assignment production.Assignment = true
is_assignment _ = false

-- an element of an array, but the first
unfoldable pub is_comma_element : Production → Bool
is_comma_element production.CommaElement = true
is_comma_element _ = false

-- a property or call of `super`
unfoldable pub is_super : Production → Bool
is_super production.SuperPropertyOrCall = true
is_super _ = false

-- the arguments of `super`
unfoldable pub is_super_call : Production → Bool
is_super_call production.SuperCall = true
is_super_call _ = false

-- `new` without arguments
unfoldable pub is_new : Production → Bool
is_new production.New = true
is_new _ = false

-- `if` without `else`
unfoldable pub is_if : Production → Bool
is_if production.IfStatement = true
is_if _ = false

-- a statement that ends with a statement
unfoldable pub ends_with_statement : Production → Bool
ends_with_statement production.IfStatement = true
ends_with_statement production.IfElseStatement = true
ends_with_statement production.WhileStatement = true
ends_with_statement production.ForStatement = true
ends_with_statement production.LabelledStatement = true
ends_with_statement _ = false

-- a binding pattern
unfoldable pub is_binding_pattern : Production → Bool
is_binding_pattern production.ObjectBindingPattern = true
is_binding_pattern production.ArrayBindingPattern = true
is_binding_pattern _ = false

-- an initializer
unfoldable pub is_initializer : Production → Bool
is_initializer production.Initializer = true
is_initializer production.InitializerNoIn = true
is_initializer _ = false

-- a binding of a `for`
unfoldable pub is_for_binding : Production → Bool
is_for_binding production.VariableDeclarationNoIn = true
is_for_binding _ = false

-- the bindings of a `for`
unfoldable pub is_for_declaration : Production → Bool
is_for_declaration production.ForVar = true
is_for_declaration production.ForLexical = true
is_for_declaration _ = false

-- `)`
unfoldable pub is_closing_parenthesis : Terminal → Bool
is_closing_parenthesis terminal.RightParenthesis = true
is_closing_parenthesis _ = false

-- a comma
unfoldable pub is_comma : Terminal → Bool
is_comma terminal.Comma = true
is_comma terminal.CommaRest = true
is_comma _ = false

-- `async` before `of`
unfoldable pub is_async_of : Terminal → Bool
is_async_of terminal.AsyncOf = true
is_async_of _ = false

-- `__proto__` before `:`
unfoldable pub is_proto : Terminal → Bool
is_proto terminal.ProtoColon = true
is_proto terminal.ProtoString = true
is_proto _ = false

abbrev pub first_some : Option Lexeme → Option Lexeme → Option Lexeme
first_some None b = b
first_some (Some t) b = Some t

abbrev pub if_first : Option Lexeme → Bool → Bool → Bool
if_first None a b = a
if_first (Some t) a b = b

abbrev pub is_async_first : Option Lexeme → Bool
is_async_first None = false
is_async_first (Some t) = is_async_of t.terminal

abbrev pub is_proto_first : Option Lexeme → Bool
is_proto_first None = false
is_proto_first (Some t) = is_proto t.terminal

-- parentheses and commas in them end with a value
abbrev pub ends_well : Production → Summary → Bool
ends_well f m = not (is_parenthesized f || is_cover_comma f) || m.valued

-- an expression, and no pattern alone: it has no CoverInitializedName, and its parentheses are those of an expression
-- ECMA-262 CoverParenthesizedExpressionAndArrowParameterList, as a ParenthesizedExpression
-- ECMA-262 ObjectLiteral, the early errors
abbrev pub is_proper : Production → Summary → Bool
is_proper f m = not (is_cover f) || (not (is_initialized_name f) && (ends_well f m && m.proper))

-- `super.a` or `super[a]`, in parentheses too: the language has no assignment to it
-- ECMA-262 SuperProperty
abbrev pub is_super_property : Production → Summary → Bool
is_super_property f m = (is_super f && not m.called) || (is_parenthesized f && m.super_property)

-- a part that would be a property of `super` to assign to, if the literal were a pattern
abbrev pub super_part : Production → Summary → Bool
super_part f x = is_super_property f x || ((is_inner f || (is_spread_element f || (is_spread_property f || is_literal f))) && x.super_target)

-- a value that may be assigned to, or a literal that is a pattern
abbrev pub is_value_or_pattern : Production → Summary → Bool
is_value_or_pattern f m = is_proper f m || (is_literal f && m.pattern)

-- what may stand before `=`
-- ECMA-262 AssignmentExpression, LeftHandSideExpression = AssignmentExpression
-- ECMA-262 DestructuringAssignmentTarget
abbrev pub is_target : Production → Summary → Bool
is_target f m = has_of nonterminal.LeftHandSideExpression f && is_value_or_pattern f m

-- what may be bound
-- ECMA-262 BindingIdentifier
-- ECMA-262 BindingPattern
abbrev pub is_bindable : Production → Summary → Bool
is_bindable f m = is_identifier f || (is_literal f && m.binding)

-- what the `...` of a literal may hold where the literal is a pattern: in an object no pattern
-- ECMA-262 AssignmentRestElement
-- ECMA-262 AssignmentRestProperty
abbrev pub rest_pattern : Production → Summary → Bool
rest_pattern f x = (is_spread_element f && x.target) || (is_spread_property f && (x.target && not x.literal))

-- ECMA-262 BindingRestElement
-- ECMA-262 BindingRestProperty
abbrev pub rest_binding : Production → Summary → Bool
rest_binding f x = (is_spread_element f && x.bindable) || (is_spread_property f && (x.bindable && not x.literal))

-- a part of a literal that is an assignment pattern
-- ECMA-262 AssignmentPattern
abbrev pub part_pattern : Production → Summary → Bool
part_pattern f x = is_free f || ((is_inner f && x.pattern) || (rest_pattern f x || (is_assignment f || is_target f x)))

-- a part of a literal that is a binding pattern, or of parentheses that are parameters
-- ECMA-262 ArrowFormalParameters
abbrev pub part_binding : Production → Summary → Bool
part_binding f x = is_free f || ((is_inner f && x.binding) || (rest_binding f x || ((is_assignment f && x.first_bindable) || is_bindable f x)))

-- behind such a part no other may stand in a pattern
abbrev pub ends_pattern : Production → Summary → Bool
ends_pattern f x = is_spread_element f || (is_spread_property f || (is_comma_element f && x.ended))

-- no `if` without `else` stands at the right edge of such a part
abbrev pub is_closed : Production → Summary → Bool
is_closed f x = not (ends_with_statement f) || (not (is_if f) && x.closed)

-- a property `__proto__: v`, or a cover with one: the language has it in patterns alone
-- ECMA-262 __proto__ Property Names in Object Initializers
abbrev pub has_proto : Production → Summary → Bool
has_proto f x = (is_property f && is_proto_first x.first) || (is_cover f && (x.proto_first || x.proto_rest))

-- a literal that may be an assignment pattern
abbrev pub is_literal_pattern : Production → Summary → Bool
is_literal_pattern f x = is_literal f && x.pattern

-- what may be assigned to in ECMA-262, and is a property of `super` or has one to assign to
abbrev pub is_super_target : Production → Summary → Bool
is_super_target f x = is_super_property f x || (is_literal f && x.super_target)

-- one more part, as far as parts are counted
abbrev pub one_more : ℕ → ℕ
one_more n = cond (nat_lt n MAX_PARTS) (1 + n) n

abbrev pub empty_summary : Summary
empty_summary = record { proper = true; valued = false; closed = true; called_new = false; pattern = true; binding = true; ended = false; target = false; bindable = false; literal = false; first_bindable = false; called = false; super_property = false; super_target = false; binding_pattern = false; initialized = false; lone = false; lacks = false; has_part = false; first_height = 0; height = 0; super_first = false; proto_value = false; proto_first = false; proto_rest = false; left_out = None; parts = 0; first = None }

abbrev pub with_leaf : Summary → Lexeme → Summary
with_leaf m t = record { proper = m.proper; valued = m.valued && is_closing_parenthesis t.terminal; closed = true; called_new = false; pattern = m.pattern && not (m.ended && is_comma t.terminal); binding = m.binding && not (m.ended && is_comma t.terminal); ended = m.ended; target = m.target; bindable = m.bindable; literal = m.literal; first_bindable = m.first_bindable; called = m.called; super_property = m.super_property && is_closing_parenthesis t.terminal; super_target = m.super_target; binding_pattern = m.binding_pattern; initialized = m.initialized; lone = m.lone; lacks = m.lacks; has_part = m.has_part; first_height = m.first_height; height = m.height; super_first = m.super_first; proto_value = m.proto_value; proto_first = m.proto_first; proto_rest = m.proto_rest; left_out = m.left_out; parts = one_more m.parts; first = first_some m.first (Some t) }

abbrev pub with_node : Summary → Production → Summary → Summary
with_node m f x = record { proper = m.proper && is_proper f x; valued = not (is_cover_rest f); closed = is_closed f x; called_new = not (is_new f); pattern = m.pattern && (not m.ended && part_pattern f x); binding = m.binding && (not m.ended && part_binding f x); ended = m.ended || ends_pattern f x; target = is_target f x; bindable = is_bindable f x; literal = is_literal f; first_bindable = if_first m.first (is_bindable f x) m.first_bindable; called = is_super_call f; super_property = is_super_property f x; super_target = m.super_target || super_part f x; binding_pattern = is_binding_pattern f; initialized = m.initialized || is_initializer f; lone = is_for_binding f && not x.initialized; lacks = m.lacks || (is_for_binding f && x.binding_pattern); has_part = true; first_height = cond m.has_part m.first_height (height_of f x); height = cond m.has_part (max m.height (height_of f x)) m.height; super_first = m.super_first || (not m.has_part && is_super_target f x); proto_value = m.proto_value || (not m.has_part && (has_proto f x && not (is_literal_pattern f x))); proto_first = m.proto_first || (not m.has_part && has_proto f x); proto_rest = m.proto_rest || (m.has_part && has_proto f x); left_out = first_form m.left_out (forms_in f x); parts = one_more m.parts; first = first_some m.first x.first }

abbrev pub with_absent : Summary → Summary
with_absent m = record m { parts = one_more m.parts }

-- what is to be known of the parts of a production
abbrev pub summary_of : Row → Summary
summary_of Nil = empty_summary
summary_of (Then r (Leaf t)) = with_leaf (summary_of r) t
summary_of (Then r (Node f q)) = with_node (summary_of r) f (summary_of q)
summary_of (Then r Absent) = with_absent (summary_of r)

abbrev pub closed_row : Row → Bool
closed_row r = (summary_of r).closed

-- no `if` without `else` stands at the right edge
abbrev pub closed : Tree → Bool
closed (Leaf t) = true
closed (Node f r) = not (ends_with_statement f) || (not (is_if f) && closed_row r)
closed Absent = true

abbrev pub is_called_new : Row → Bool
is_called_new r = (summary_of r).called_new

-- the head of a `for` that declares one name or pattern without an initializer
-- ECMA-262 ForInOfStatement
abbrev pub is_lone_declaration : Production → Summary → Bool
is_lone_declaration f m = is_for_declaration f && m.lone

-- what a tree must be where a nonterminal is wanted, beside being of one of its productions
unfoldable pub refined_by : Nonterminal → Production → Summary → Bool
-- an `else` belongs to the nearest `if`
refined_by nonterminal.IfWithoutElse f m = m.closed
-- the arguments belong to the nearest `new`
refined_by nonterminal.NewWithoutArguments f m = m.called_new
refined_by nonterminal.CoverAssignmentExpression f m = true
refined_by nonterminal.CoverElement f m = true
refined_by nonterminal.CoverExpression f m = true
refined_by nonterminal.CoverCommaTail f m = true
refined_by nonterminal.PropertyDefinition f m = true
refined_by nonterminal.PropertyTail f m = true
refined_by nonterminal.KeyedPropertyTail f m = true
refined_by nonterminal.CommaElement f m = true
refined_by nonterminal.CoverCommaHead f m = not (is_cover_comma f) || m.valued
refined_by nonterminal.AssignmentTarget f m = is_target f m
refined_by nonterminal.ArrowParameters f m = is_identifier f || m.binding
-- a pattern has an initializer
refined_by nonterminal.VariableDeclaration f m = not m.binding_pattern
refined_by nonterminal.VariableDeclarationNoIn f m = not m.binding_pattern
refined_by nonterminal.ForOfTarget f m = is_lone_declaration f m || (is_target f m && not (is_identifier f && is_async_first m.first))
refined_by nonterminal.ForInTarget f m = is_lone_declaration f m || is_target f m
refined_by nonterminal.ForInit f m = is_proper f m && not m.lacks
refined_by _ f m = is_proper f m

abbrev pub refined : Nonterminal → Production → Row → Bool
refined c f r = refined_by c f (summary_of r)

unfoldable pub fits_of : Nonterminal → Production → Row → Bool
fits_of c f r = has_of c f && refined c f r

-- the syntactic grammar of the profile
-- ECMA-262 "ECMAScript Language: Statements and Declarations"
abbrev pub grammar : Grammar
grammar = record { rule = rule_of; may = may_of; fits = fits_of; stands = λ w t. stands_of w t.terminal; guard = λ c t. guard_of c t.terminal t.after_line; ends = ends_of }

abbrev pub table : Table
table = record { grammar = grammar; start = λ c t. start_of c t.terminal t.after_line; wrap = λ c h t. wrap_of c h t.terminal }
