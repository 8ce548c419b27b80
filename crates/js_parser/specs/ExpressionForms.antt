-- What each production of an expression makes of what its parts have become.
use Rattle.std.specs.Prelude.{ℕ, List}
use Rattle.js_grammar.specs.declared.symbols.Production.{Production}
use Rattle.js_grammar.specs.declared.symbols.Production.TheVariants as production
use Rattle.js_phrase.specs.declared.phrase.Phrase.{Phrase}
use Rattle.js_phrase.specs.declared.phrase.Phrase.TheVariants as phrase
use Rattle.js_stmt.specs.js_expr.Arrays.{spread, comma_element, array_literal}
use Rattle.js_stmt.specs.js_expr.Arrows.{expression_body, arrow_function}
use Rattle.js_stmt.specs.js_expr.Assignments.{assignment, operator_assignment}
use Rattle.js_stmt.specs.js_expr.Commas.{comma_expression}
use Rattle.js_stmt.specs.js_expr.Covers.{cover_rest, cover_comma, cover_parenthesized}
use Rattle.js_stmt.specs.js_expr.Literals.{this_expression, null_or_boolean, numeric_literal, string_literal}
use Rattle.js_stmt.specs.js_expr.Members.{member_name, member_key, call_expression, optional_expression, optional_name, key_step, call_step}
use Rattle.js_stmt.specs.js_expr.Names.{identifier_reference}
use Rattle.js_stmt.specs.js_expr.News.{new_target, new_expression, new_with_arguments, super_name, super_expression}
use Rattle.js_stmt.specs.js_expr.Objects.{property_value, cover_initialized_name, named_property, keyed_property, object_literal}
use Rattle.js_stmt.specs.js_expr.Operations.{unary, prefix_update, postfix_update, binary, logical, conditional}
use Rattle.js_stmt.specs.js_expr.PropertyNames.{word_name, string_name, numeric_name, computed_property_name}
use Rattle.js_stmt.specs.js_expr.Templates.{no_substitution_template, substitution_template, template_middle}

-- names and literals, and what stands between parentheses
-- own: other productions make nothing here
abbrev pub literal_form : List ℕ → Production → List Phrase → Phrase
literal_form source production.IdentifierReference l = identifier_reference source l
literal_form source production.This l = this_expression l
literal_form source production.NumericLiteral l = numeric_literal source l
literal_form source production.StringLiteral l = string_literal source l
literal_form source production.NullOrBooleanLiteral l = null_or_boolean l
literal_form source production.NoSubstitutionTemplate l = no_substitution_template source l
literal_form source production.SubstitutionTemplate l = substitution_template source l
literal_form source production.TemplateMiddle l = template_middle source l
literal_form source production.ArrayLiteral l = array_literal l
literal_form source production.CommaElement l = comma_element l
literal_form source production.SpreadElement l = spread l
literal_form source production.SpreadProperty l = spread l
literal_form source production.SpreadArgument l = spread l
literal_form source production.ObjectLiteral l = object_literal l
literal_form source production.CoverParenthesized l = cover_parenthesized l
literal_form source production.CoverComma l = cover_comma l
literal_form source production.CoverRest l = cover_rest l
literal_form source _ l = phrase.Absent

-- properties, and what they are called
abbrev pub property_form : List ℕ → Production → List Phrase → Phrase
property_form source production.AnyWordName l = word_name source l
property_form source production.ReservedWordName l = word_name source l
property_form source production.ClassWordName l = word_name source l
property_form source production.StaticWordName l = word_name source l
property_form source production.StringName l = string_name source l
property_form source production.NumericName l = numeric_name source l
property_form source production.ComputedPropertyName l = computed_property_name l
property_form source production.NamedProperty l = named_property source l
property_form source production.KeyedProperty l = keyed_property l
property_form source production.PropertyValue l = property_value l
property_form source production.CoverInitializedName l = cover_initialized_name l
property_form source p l = literal_form source p l

-- members and calls, `new` and `super`
abbrev pub member_form : List ℕ → Production → List Phrase → Phrase
member_form source production.NewMemberName l = member_name source l
member_form source production.MemberName l = member_name source l
member_form source production.NewMemberKey l = member_key l
member_form source production.MemberKey l = member_key l
member_form source production.Call l = call_expression l
member_form source production.OptionalChain l = optional_expression l
member_form source production.OptionalName l = optional_name source l
member_form source production.SuperName l = super_name source l
member_form source production.OptionalKey l = key_step l
member_form source production.SuperKey l = key_step l
member_form source production.OptionalCall l = call_step l
member_form source production.SuperCall l = call_step l
member_form source production.NewSuperProperty l = super_expression l
member_form source production.SuperPropertyOrCall l = super_expression l
member_form source production.NewTarget l = new_target l
member_form source production.New l = new_expression l
member_form source production.NewWithArguments l = new_with_arguments l
member_form source p l = property_form source p l

-- operators between two operands
abbrev pub operation_form : List ℕ → Production → List Phrase → Phrase
operation_form source production.Exponentiation l = binary l
operation_form source production.Multiplicative l = binary l
operation_form source production.Additive l = binary l
operation_form source production.Shift l = binary l
operation_form source production.Relational l = binary l
operation_form source production.RelationalNoIn l = binary l
operation_form source production.In l = binary l
operation_form source production.Equality l = binary l
operation_form source production.EqualityNoIn l = binary l
operation_form source production.BitwiseAnd l = binary l
operation_form source production.BitwiseAndNoIn l = binary l
operation_form source production.BitwiseXor l = binary l
operation_form source production.BitwiseXorNoIn l = binary l
operation_form source production.BitwiseOr l = binary l
operation_form source production.BitwiseOrNoIn l = binary l
operation_form source production.LogicalAnd l = logical l
operation_form source production.LogicalAndNoIn l = logical l
operation_form source production.LogicalOr l = logical l
operation_form source production.LogicalOrNoIn l = logical l
operation_form source production.Coalesce l = logical l
operation_form source production.CoalesceNoIn l = logical l
operation_form source p l = member_form source p l

-- all of them
abbrev pub expression_form : List ℕ → Production → List Phrase → Phrase
expression_form source production.Unary l = unary l
expression_form source production.PrefixUpdate l = prefix_update l
expression_form source production.PostfixUpdate l = postfix_update l
expression_form source production.Conditional l = conditional l
expression_form source production.ConditionalNoIn l = conditional l
expression_form source production.Assignment l = assignment l
expression_form source production.AssignmentNoIn l = assignment l
expression_form source production.OperatorAssignment l = operator_assignment l
expression_form source production.OperatorAssignmentNoIn l = operator_assignment l
expression_form source production.ArrowFunction l = arrow_function l
expression_form source production.ArrowFunctionNoIn l = arrow_function l
expression_form source production.ExpressionBody l = expression_body l
expression_form source production.ExpressionBodyNoIn l = expression_body l
expression_form source production.Comma l = comma_expression l
expression_form source production.CommaNoIn l = comma_expression l
expression_form source p l = operation_form source p l
