-- What each production makes of good parts is good: as deep as its parts, and four parts more for each level that it counts.
use Rattle.std.proofs.Common.{ℕ, zero, suc, List}
use Rattle.js_grammar.specs.Table.{levels_of}
use Rattle.js_grammar.specs.declared.symbols.Production.{Production}
use Rattle.js_grammar.specs.declared.symbols.Production.TheVariants as production
use Rattle.js_phrase.specs.Phrases.{statement_of}
use Rattle.js_phrase.specs.declared.phrase.Phrase.{Phrase}
use Rattle.js_parser.specs.Forms.{binding_form, class_form, form, part_form}
use Rattle.js_expr.specs.Parts.{expression_at, part}
use Rattle.js_walk.specs.Parts.{ExpressionPart, StatementPart}
use Rattle.js_program_laws.proofs.Phrases.{AllGood, Good, behind_good, part_good, statement_good}
use Rattle.js_program_laws.proofs.Expressions.{at, binary_good, comma_good, conditional_good, identifier_good, lifted, logical_good, new_good, new_target_good, null_good, number_good, operator_assignment_good, plain_template_good, postfix_good, prefix_good, string_good, template_good, template_middle_good, this_form, unary_good}
use Rattle.js_program_laws.proofs.Properties.{array_good, comma_element_good, computed_name_good, initialized_good, keyed_property_good, named_property_good, numeric_name_good, object_good, property_value_good, spread_good, string_name_good, word_name_good}
use Rattle.js_program_laws.proofs.Members.{call_good, call_step_good, key_step_good, member_key_good, member_name_good, new_with_good, optional_good, optional_name_good, super_good, super_name_good}
use Rattle.js_program_laws.proofs.Blocks.{block_form, break_good, case_good, catch_good, debugger_good, default_clause_good, do_while_good, empty_good, expression_statement_good, finally_good, for_good, for_in_good, for_of_good, for_with_good, for_without_good, if_else_good, if_good, labelled_good, return_good, switch_good, throw_good, try_good, while_good}
use Rattle.js_program_laws.proofs.Functions.{arrow_good, class_declaration_good, class_expression_good, class_heritage_good, expression_body_good, formal_parameters_good, function_body_good, function_declaration_good, function_expression_good, getter_good, method_good, method_tail_good, setter_good, static_element_good, static_named_good}
use Rattle.js_program_laws.proofs.Bindings.{array_pattern_good, assignment_good, binding_element_good, binding_rest_good, comma_binding_good, cover_comma_good, cover_rest_good, declaration_good, for_declaration_good, initializer_good, keyed_binding_good, named_binding_good, object_pattern_good, parenthesized_good, second_good}

-- so many levels more, each of four parts
abbrev pub under : ℕ → ℕ → ℕ
under zero b = b
under (suc n) b = suc (suc (suc (suc (under n b))))

pub form_good : (source : List ℕ) (f : Production) (b : ℕ) (l : List Phrase) → AllGood (suc b) l → Good (suc (under (levels_of f) b)) (form source f l)
unfolding form part_form binding_form class_form levels_of
form_good source production.NewMemberName b l h = member_name_good source b l h
form_good source production.NewMemberKey b l h = member_key_good b l h
form_good source production.NewTaggedTemplate b l h = tt
form_good source production.NewSuperProperty b l h = super_good b l h
form_good source production.IdentifierReference b l h = identifier_good source b l
form_good source production.This b l h = this_form b l
form_good source production.NumericLiteral b l h = number_good source b l
form_good source production.StringLiteral b l h = string_good source b l
form_good source production.NullOrBooleanLiteral b l h = null_good b l
form_good source production.NoSubstitutionTemplate b l h = plain_template_good source b l
form_good source production.SubstitutionTemplate b l h = template_good source b l h
form_good source production.ArrayLiteral b l h = array_good b l h
form_good source production.ObjectLiteral b l h = object_good b l h
form_good source production.FunctionExpression b l h = function_expression_good b l h
form_good source production.ClassExpression b l h = class_expression_good b l h
form_good source production.CoverParenthesized b l h = parenthesized_good b l h
form_good source production.Import b l h = tt
form_good source production.Regexp b l h = tt
form_good source production.NewTarget b l h = new_target_good b l
form_good source production.NewWithArguments b l h = new_with_good b l (lifted b (ExpressionPart (expression_at 0 l)) (at b 0 l h)) (behind_good (suc b) 2 l h)
form_good source production.New b l h = new_good b l h
form_good source production.SuperPropertyOrCall b l h = super_good b l h
form_good source production.MemberName b l h = member_name_good source b l h
form_good source production.MemberKey b l h = member_key_good b l h
form_good source production.Call b l h = call_good b l h
form_good source production.TaggedTemplate b l h = tt
form_good source production.OptionalChain b l h = optional_good b l h
form_good source production.PostfixUpdate b l h = postfix_good b l h
form_good source production.PrefixUpdate b l h = prefix_good b l h
form_good source production.Unary b l h = unary_good b l h
form_good source production.Exponentiation b l h = binary_good b l h
form_good source production.Multiplicative b l h = binary_good b l h
form_good source production.Additive b l h = binary_good b l h
form_good source production.Shift b l h = binary_good b l h
form_good source production.Relational b l h = binary_good b l h
form_good source production.In b l h = binary_good b l h
form_good source production.Equality b l h = binary_good b l h
form_good source production.BitwiseAnd b l h = binary_good b l h
form_good source production.BitwiseXor b l h = binary_good b l h
form_good source production.BitwiseOr b l h = binary_good b l h
form_good source production.LogicalAnd b l h = logical_good b l h
form_good source production.LogicalOr b l h = logical_good b l h
form_good source production.Coalesce b l h = logical_good b l h
form_good source production.Conditional b l h = conditional_good b l h
form_good source production.Assignment b l h = assignment_good b l h
form_good source production.OperatorAssignment b l h = operator_assignment_good b l h
form_good source production.ArrowFunction b l h = arrow_good b l h
form_good source production.Comma b l h = comma_good b l h
form_good source production.CoalesceNoIn b l h = logical_good b l h
form_good source production.RelationalNoIn b l h = binary_good b l h
form_good source production.EqualityNoIn b l h = binary_good b l h
form_good source production.BitwiseAndNoIn b l h = binary_good b l h
form_good source production.BitwiseXorNoIn b l h = binary_good b l h
form_good source production.BitwiseOrNoIn b l h = binary_good b l h
form_good source production.LogicalAndNoIn b l h = logical_good b l h
form_good source production.LogicalOrNoIn b l h = logical_good b l h
form_good source production.ConditionalNoIn b l h = conditional_good b l h
form_good source production.AssignmentNoIn b l h = assignment_good b l h
form_good source production.OperatorAssignmentNoIn b l h = operator_assignment_good b l h
form_good source production.ArrowFunctionNoIn b l h = arrow_good b l h
form_good source production.CommaNoIn b l h = comma_good b l h
form_good source production.ForVar b l h = for_declaration_good (suc b) l h
form_good source production.ForLexical b l h = for_declaration_good (suc b) l h
form_good source production.ForWithoutInit b l h = for_without_good (suc b) l h
form_good source production.ForWithInit b l h = for_with_good (suc b) l h
form_good source production.ForOf b l h = for_of_good b l h
form_good source production.ForIn b l h = for_in_good b l h
form_good source production.AnyWordName b l h = word_name_good source (suc b) l
form_good source production.ReservedWordName b l h = word_name_good source (suc b) l
form_good source production.ClassWordName b l h = word_name_good source (suc b) l
form_good source production.StaticWordName b l h = word_name_good source (suc b) l
form_good source production.StringName b l h = string_name_good source (suc b) l
form_good source production.NumericName b l h = numeric_name_good source (suc b) l
form_good source production.ComputedPropertyName b l h = computed_name_good b l h
form_good source production.SpreadElement b l h = spread_good b l h
form_good source production.SpreadProperty b l h = spread_good b l h
form_good source production.NamedProperty b l h = named_property_good source b l h
form_good source production.KeyedProperty b l h = keyed_property_good b l h
form_good source production.Getter b l h = getter_good b l h
form_good source production.Setter b l h = setter_good b l h
form_good source production.GeneratorMark b l h = tt
form_good source production.StaticMethod b l h = method_good b l h
form_good source production.EmptyClassElement b l h = tt
form_good source production.Method b l h = method_good b l h
form_good source production.StaticElement b l h = static_element_good (suc b) l h
form_good source production.StaticNamedMethod b l h = static_named_good source b l h
form_good source production.PropertyValue b l h = property_value_good b l h
form_good source production.MethodTail b l h = method_tail_good b l h
form_good source production.CoverInitializedName b l h = initialized_good b l h
form_good source production.FieldEnd b l h = tt
form_good source production.FieldInitializer b l h = tt
form_good source production.StaticBlock b l h = tt
form_good source production.StaticGenerator b l h = tt
form_good source production.VariableStatement b l h = declaration_good b l h
form_good source production.Block b l h = block_form b l h
form_good source production.EmptyStatement b l h = empty_good b l
form_good source production.ExpressionStatement b l h = expression_statement_good b l h
form_good source production.IfStatement b l h = if_good b l h
form_good source production.IfElseStatement b l h = if_else_good b l (lifted b (StatementPart (statement_of (part 0 l))) (statement_good b (part 0 l) (part_good (suc b) 0 l h))) (part_good (suc b) 2 l h)
form_good source production.WhileStatement b l h = while_good b l h
form_good source production.DoWhileStatement b l h = do_while_good b l h
form_good source production.ForStatement b l h = for_good b l h
form_good source production.BreakOrContinueStatement b l h = break_good b l
form_good source production.ReturnStatement b l h = return_good b l h
form_good source production.ThrowStatement b l h = throw_good b l h
form_good source production.SwitchStatement b l h = switch_good b l h
form_good source production.TryStatement b l h = try_good b l h
form_good source production.LabelledStatement b l h = labelled_good source b l h
form_good source production.WithStatement b l h = tt
form_good source production.DebuggerStatement b l h = debugger_good b l
form_good source production.FunctionDeclaration b l h = function_declaration_good b l h
form_good source production.ClassDeclaration b l h = class_declaration_good b l h
form_good source production.LexicalDeclaration b l h = declaration_good b l h
form_good source production.ExportDeclaration b l h = tt
form_good source production.SuperName b l h = super_name_good source (suc b) l
form_good source production.SuperKey b l h = key_step_good b l h
form_good source production.SuperCall b l h = call_step_good (suc b) l h
form_good source production.OptionalName b l h = optional_name_good source (suc b) l
form_good source production.OptionalKey b l h = key_step_good b l h
form_good source production.OptionalCall b l h = call_step_good (suc b) l h
form_good source production.BindingIdentifier b l h = tt
form_good source production.ObjectBindingPattern b l h = object_pattern_good b l h
form_good source production.ArrayBindingPattern b l h = array_pattern_good b l h
form_good source production.CommaBindingElement b l h = comma_binding_good (suc b) l h
form_good source production.BindingElement b l h = binding_element_good b l h
form_good source production.BindingRestElement b l h = binding_rest_good b l h
form_good source production.CommaBindingRestElement b l h = second_good (suc b) l h
form_good source production.BindingRestProperty b l h = binding_rest_good b l h
form_good source production.NamedBindingProperty b l h = named_binding_good source b l h
form_good source production.KeyedBindingProperty b l h = keyed_binding_good b l h
form_good source production.BindingPropertyValue b l h = second_good (suc b) l h
form_good source production.Initializer b l h = initializer_good b l h
form_good source production.CatchClause b l h = catch_good b l h
form_good source production.FinallyClause b l h = finally_good b l h
form_good source production.TemplateMiddle b l h = template_middle_good source b l h
form_good source production.CoverComma b l h = cover_comma_good b l h
form_good source production.CoverRest b l h = cover_rest_good b l h
form_good source production.CommaElement b l h = comma_element_good (suc b) l h
form_good source production.FormalParameters b l h = formal_parameters_good (suc b) l h
form_good source production.FunctionBody b l h = function_body_good (suc b) l h
form_good source production.ClassHeritage b l h = class_heritage_good b l h
form_good source production.SpreadArgument b l h = spread_good b l h
form_good source production.ExpressionBody b l h = expression_body_good b l h
form_good source production.ExpressionBodyNoIn b l h = expression_body_good b l h
form_good source production.InitializerNoIn b l h = initializer_good b l h
form_good source production.VariableDeclaration b l h = binding_element_good b l h
form_good source production.VariableDeclarationNoIn b l h = binding_element_good b l h
form_good source production.CommaVariableDeclaration b l h = second_good (suc b) l h
form_good source production.CommaVariableDeclarationNoIn b l h = second_good (suc b) l h
form_good source production.LabelIdentifier b l h = tt
form_good source production.CaseClause b l h = case_good b l h
form_good source production.DefaultClause b l h = default_clause_good (suc b) l h
form_good source production.CatchParameter b l h = second_good (suc b) l h
form_good source production.Module b l h = function_body_good (suc b) l h
form_good source production.Source b l h = part_good (suc b) 0 l h
