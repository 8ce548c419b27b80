-- The early rules, each by itself: what is wrong, and where.
use Rattle.std.specs.Prelude.{ℕ, zero, suc, ◌==◌, Bool, true, false, not, ◌||◌, ◌&&◌, List, [], ◌∷◌, ◌++◌, codes, length, is_some, Option, Some, None, if◌then◌else◌}
use Rattle.lava_base.specs.declared.place.Place.{Place}
use Rattle.js_text.specs.Texts.{same_units}
use Rattle.js_tree.specs.Layers.{BodyLayer, ExprLayer, ForInitLayer, PatternLayer, StmtLayer}
use Rattle.js_tree.specs.declared.operator.UnaryOperator.{UnaryOperator}
use Rattle.js_tree.specs.declared.operator.UnaryOperator.TheVariants.{Delete}
use Rattle.js_tree.specs.declared.tree.Argument.TheOpen.{Body-F, Expr-F, ForInit-F, Pattern-F, Stmt-F}
use Rattle.js_tree.specs.declared.tree.Body.{Body, out-Body}
use Rattle.js_tree.specs.declared.tree.Catch.{Catch, out-Catch}
use Rattle.js_tree.specs.declared.tree.Class.{Class, out-Class}
use Rattle.js_tree.specs.declared.tree.ClassMember.{ClassMember, out-ClassMember}
use Rattle.js_tree.specs.declared.tree.Declaration.{Declaration, out-Declaration}
use Rattle.js_tree.specs.declared.tree.DeclarationKind.{DeclarationKind}
use Rattle.js_tree.specs.declared.tree.Expr.{Expr, out-Expr}
use Rattle.js_tree.specs.declared.tree.ForInit.{ForInit, out-ForInit}
use Rattle.js_tree.specs.declared.tree.Function.{Function, out-Function}
use Rattle.js_tree.specs.declared.tree.Identifier.{Identifier}
use Rattle.js_tree.specs.declared.tree.Pattern.{Pattern, out-Pattern}
use Rattle.js_tree.specs.declared.tree.PatternElement.{PatternElement, out-PatternElement}
use Rattle.js_tree.specs.declared.tree.SourceKind.{SourceKind}
use Rattle.js_tree.specs.declared.tree.SourceKind.TheVariants.{Module, EvaluatedText}
use Rattle.js_tree.specs.declared.tree.Stmt.{Stmt, out-Stmt}
use Rattle.js_names.specs.Lists.{flat, from_option}
use Rattle.js_names.specs.Names.{binding_vars, bound_names, declaration_vars, function_names, is_const, parameter_names}
use Rattle.js_walk.specs.Parts.{TreePart, CatchPart, ClassPart, EachPart, ExpressionPart, FunctionPart, ModulePart, PatternPart, StatementPart, UpdatePart, is_constructor}
use Rattle.js_walk.specs.Places.{later, place_of}
use Rattle.js_names.specs.Scopes.{found_in, has_name, with_name, with_names}
use Rattle.js_names.specs.declared.declared.DeclaredName.{DeclaredName}
use Rattle.js_names.specs.declared.declared.FoundName.{FoundName}
use Rattle.js_names.specs.declared.bound.TheConstants.{TREE_DEPTH}
use Rattle.js_early.specs.Faults.{fault, unless}
use Rattle.js_early.specs.declared.context.EarlyContext.{EarlyContext}
use Rattle.js_early.specs.declared.context.EarlyLabel.{EarlyLabel}
use Rattle.js_early.specs.declared.fault.EarlyFault.{EarlyFault}
use Rattle.js_early.specs.declared.fault.EarlyRule.{EarlyRule}
use Rattle.js_early.specs.declared.fault.EarlyRule.TheVariants as rule

-- NAMES THAT STAND TWICE

-- each name that stands before it too
abbrev pub repeated : EarlyRule → (seen : List DeclaredName) → List DeclaredName → List EarlyFault
repeated r seen [] = []
repeated r seen (d ∷ ds) = unless (not (has_name d.name seen)) r d.place ++ repeated r (with_name seen d) ds

abbrev pub clash_at : DeclaredName → Option FoundName → List EarlyFault
clash_at d None = []
clash_at d (Some f) = fault rule.Duplicate (later f.place d.place)

-- a `var` beside a lexical declaration of its name, at the later of the two
abbrev pub clash : DeclaredName → List DeclaredName → List EarlyFault
clash d ds = clash_at d (found_in d.name ds)

-- a `var` beside lexical declarations of the scopes that it is in
-- ECMA-262 Block, Static Semantics: Early Errors
abbrev pub clashes : List (List DeclaredName) → DeclaredName → List EarlyFault
clashes scopes d = flat (clash d) scopes

abbrev pub clash_with : List DeclaredName → DeclaredName → List EarlyFault
clash_with ds d = clash d ds

-- the names that a source has before it begins
abbrev pub is_source_name : SourceKind → List ℕ → Bool
is_source_name Module n = same_units n (codes "exports") || (same_units n (codes "require") || same_units n (codes "module"))
is_source_name EvaluatedText n = same_units n (codes "require")

abbrev pub source_name : SourceKind → DeclaredName → List EarlyFault
source_name kind d = unless (not (is_source_name kind d.name)) rule.Duplicate d.place

abbrev pub source_names : TreePart → List DeclaredName → List EarlyFault
source_names (ModulePart m) ds = flat (source_name m.kind) ds
source_names _ ds = []

-- the names that a scope's lexical declarations may not have
abbrev pub taken : TreePart → List DeclaredName
taken (FunctionPart derived f) = parameter_names f
taken _ = []

abbrev pub body_functions_at : BodyLayer → List DeclaredName
body_functions_at (Body-F.Statements l) = flat function_names l
body_functions_at (Body-F.Concise e) = []

abbrev pub body_functions : Body → List DeclaredName
body_functions b = body_functions_at (out-Body b)

-- the functions at the top of a body
abbrev pub top_functions : TreePart → List DeclaredName
top_functions (ModulePart m) = flat function_names m.body
top_functions (FunctionPart derived f) = body_functions (out-Function f).body
top_functions _ = []

-- a lexical name that stands twice, or beside a parameter
abbrev pub repeated_beside : TreePart → List DeclaredName → List EarlyFault
repeated_beside p ds = repeated rule.Duplicate (with_names [] (taken p)) ds

-- a function at the top of a body beside a lexical name
abbrev pub function_clashes : TreePart → List DeclaredName → List EarlyFault
function_clashes p ds = flat (clash_with (with_names [] ds)) (top_functions p)

-- what is wrong with the names that a scope declares lexically
-- ECMA-262 Block, Static Semantics: Early Errors
-- ECMA-262 FunctionBody, Static Semantics: Early Errors
abbrev pub scope_faults : TreePart → List DeclaredName → List EarlyFault
scope_faults p ds = if length ds == 0 then [] else source_names p ds ++ (repeated_beside p ds ++ function_clashes p ds)

-- NAMES THAT ARE NOT BOUND

abbrev pub is_reserved : List ℕ → Bool
is_reserved n = same_units n (codes "eval") || same_units n (codes "arguments")

-- ECMA-262 BindingIdentifier, Static Semantics: Early Errors
abbrev pub binding : Identifier → List EarlyFault
binding i = unless (not (is_reserved i.name)) rule.Binding i.place

-- TARGETS

abbrev pub inner_at : (Expr → Expr) → Expr → ExprLayer → Expr
inner_at inside e (Expr-F.Parenthesized place x) = inside x
inner_at inside e _ = e

abbrev pub inner_row : (Expr → Expr) → Expr → Expr
inner_row inside e = inner_at inside e (out-Expr e)

abbrev pub inner_to : ℕ → Expr → Expr
inner_to zero e = e
inner_to (suc d) e = inner_row (inner_to d) e

-- an expression without the parentheses round it
unfoldable pub inner : Expr → Expr
inner e = inner_to TREE_DEPTH e

abbrev pub is_simple_at : ExprLayer → Bool
is_simple_at (Expr-F.Name i) = true
is_simple_at (Expr-F.Member place e i) = true
is_simple_at (Expr-F.Index place e k) = true
is_simple_at (Expr-F.SuperMember place i) = true
is_simple_at (Expr-F.SuperIndex place k) = true
is_simple_at _ = false

abbrev pub is_simple : Expr → Bool
is_simple e = is_simple_at (out-Expr e)

abbrev pub is_reserved_at : ExprLayer → Bool
is_reserved_at (Expr-F.Name i) = is_reserved i.name
is_reserved_at _ = false

abbrev pub is_reserved_name : Expr → Bool
is_reserved_name e = is_reserved_at (out-Expr e)

abbrev pub is_name_at : ExprLayer → Bool
is_name_at (Expr-F.Name i) = true
is_name_at _ = false

abbrev pub is_name : Expr → Bool
is_name e = is_name_at (out-Expr e)

abbrev pub bare_target : Place → Expr → List EarlyFault
bare_target place e = unless (is_simple e) rule.Assignment place ++ unless (not (is_reserved_name e)) rule.Binding place

-- what is assigned is a name or a member, and not `eval` or `arguments`
-- ECMA-262 AssignmentTargetType
abbrev pub target : Place → Expr → List EarlyFault
target place e = bare_target place (inner e)

abbrev pub rest_at : PatternLayer → List EarlyFault
rest_at (Pattern-F.Bound i) = []
rest_at (Pattern-F.Target e) = []
rest_at (Pattern-F.ObjectPattern place fs rest) = fault rule.Assignment place
rest_at (Pattern-F.ArrayPattern place es rest) = fault rule.Assignment place

-- what an object pattern gives the rest to is no pattern
-- ECMA-262 AssignmentRestProperty, Static Semantics: Early Errors
abbrev pub rest_target : Pattern → List EarlyFault
rest_target p = rest_at (out-Pattern p)

-- EXPRESSIONS

-- ECMA-262 "The delete Operator", Static Semantics: Early Errors
abbrev pub deleted : UnaryOperator → Place → Expr → List EarlyFault
deleted Delete place e = unless (not (is_name (inner e))) rule.Delete place
deleted _ place e = []

abbrev pub expression_at : EarlyContext → ExprLayer → List EarlyFault
expression_at c (Expr-F.NewTarget place) = unless c.new_target rule.NewTarget place
expression_at c (Expr-F.SuperMember place i) = unless c.super_property rule.Super place
expression_at c (Expr-F.SuperIndex place k) = unless c.super_property rule.Super place
expression_at c (Expr-F.SuperCall place l) = unless c.super_call rule.Super place
expression_at c (Expr-F.Unary place o e) = deleted o place e
expression_at c _ = []

-- ECMA-262 Contains
-- ECMA-262 HasDirectSuper
abbrev pub expression_faults : EarlyContext → Expr → List EarlyFault
expression_faults c e = expression_at c (out-Expr e)

abbrev pub update_faults : EarlyContext → Place → Expr → List EarlyFault
update_faults c place e = target place e ++ expression_faults c e

abbrev pub pattern_at : EarlyContext → PatternLayer → List EarlyFault
pattern_at c (Pattern-F.Bound i) = binding i
pattern_at c (Pattern-F.Target e) = update_faults c (place_of e) e
pattern_at c (Pattern-F.ObjectPattern place fs rest) = from_option rest_target rest
pattern_at c (Pattern-F.ArrayPattern place es rest) = []

abbrev pub pattern_faults : EarlyContext → Pattern → List EarlyFault
pattern_faults c p = pattern_at c (out-Pattern p)

-- FUNCTIONS AND CLASSES

-- ECMA-262 UniqueFormalParameters, Static Semantics: Early Errors
abbrev pub function_faults : Function → List EarlyFault
function_faults f = from_option binding (out-Function f).name ++ repeated rule.Parameter [] (parameter_names f)

-- the constructors behind the first one
-- ECMA-262 ClassBody, Static Semantics: Early Errors
abbrev pub constructors : (seen : Bool) → List ClassMember → List EarlyFault
constructors seen [] = []
constructors seen (m ∷ ms) = unless (not (seen && is_constructor m)) rule.Constructor (out-ClassMember m).place ++ constructors (seen || is_constructor m) ms

abbrev pub class_faults : Class → List EarlyFault
class_faults c = from_option binding (out-Class c).name ++ constructors false (out-Class c).members

-- ECMA-262 Catch, Static Semantics: Early Errors
abbrev pub catch_faults : Catch → List EarlyFault
catch_faults c = repeated rule.Parameter [] (from_option (bound_names false) (out-Catch c).parameter)

-- STATEMENTS

abbrev pub has_default : PatternElement → Bool
has_default e = is_some (out-PatternElement e).default

abbrev pub have_defaults : List PatternElement → Bool
have_defaults [] = true
have_defaults (e ∷ es) = has_default e && have_defaults es

-- each name of a `const` has a value
-- ECMA-262 LexicalDeclaration, Static Semantics: Early Errors
abbrev pub const_values : Declaration → List EarlyFault
const_values d = unless (not (is_const (out-Declaration d).kind) || have_defaults (out-Declaration d).declarators) rule.Const (out-Declaration d).place

abbrev pub declaration_faults : List (List DeclaredName) → Declaration → List EarlyFault
declaration_faults scopes d = const_values d ++ flat (clashes scopes) (declaration_vars d)

abbrev pub init_at : List (List DeclaredName) → ForInitLayer → List EarlyFault
init_at scopes ForInit-F.NoInit = []
init_at scopes (ForInit-F.InitDeclaration d) = declaration_faults scopes d
init_at scopes (ForInit-F.InitExpression e) = []

abbrev pub init_faults : List (List DeclaredName) → ForInit → List EarlyFault
init_faults scopes i = init_at scopes (out-ForInit i)

abbrev pub each_faults : List (List DeclaredName) → DeclarationKind → Pattern → List EarlyFault
each_faults scopes kind p = flat (clashes scopes) (binding_vars kind p)

abbrev pub has_label : List ℕ → List EarlyLabel → Bool
has_label n [] = false
has_label n (l ∷ ls) = same_units l.name n || has_label n ls

abbrev pub has_loop_label : List ℕ → List EarlyLabel → Bool
has_loop_label n [] = false
has_loop_label n (l ∷ ls) = (l.is_loop && same_units l.name n) || has_loop_label n ls

-- ECMA-262 ContainsUndefinedBreakTarget
abbrev pub break_faults : EarlyContext → List EarlyLabel → Place → Option Identifier → List EarlyFault
break_faults c labels place None = unless (c.in_loop || c.in_switch) rule.Break place
break_faults c labels place (Some i) = unless (has_label i.name labels) rule.Break place

-- ECMA-262 ContainsUndefinedContinueTarget
abbrev pub continue_faults : EarlyContext → List EarlyLabel → Place → Option Identifier → List EarlyFault
continue_faults c labels place None = unless c.in_loop rule.Continue place
continue_faults c labels place (Some i) = unless (has_loop_label i.name labels) rule.Continue place

abbrev pub is_function_at : StmtLayer → Bool
is_function_at (Stmt-F.FunctionDeclaration f) = true
is_function_at _ = false

abbrev pub is_function : Stmt → Bool
is_function s = is_function_at (out-Stmt s)

-- ECMA-262 ContainsDuplicateLabels
-- ECMA-262 LabelledItem, Static Semantics: Early Errors
abbrev pub label_faults : List EarlyLabel → Identifier → Stmt → List EarlyFault
label_faults labels i s = unless (not (has_label i.name labels)) rule.Label i.place ++ unless (not (is_function s)) rule.Function i.place

abbrev pub statement_at : EarlyContext → List EarlyLabel → List (List DeclaredName) → StmtLayer → List EarlyFault
statement_at c labels scopes (Stmt-F.Declare d) = declaration_faults scopes d
statement_at c labels scopes (Stmt-F.For place i t u s) = init_faults scopes i
statement_at c labels scopes (Stmt-F.Continue place l) = continue_faults c labels place l
statement_at c labels scopes (Stmt-F.Break place l) = break_faults c labels place l
statement_at c labels scopes (Stmt-F.Return place e) = unless c.may_return rule.Return place
statement_at c labels scopes (Stmt-F.Labelled i s) = label_faults labels i s
statement_at c labels scopes _ = []

abbrev pub statement_faults : EarlyContext → List EarlyLabel → List (List DeclaredName) → Stmt → List EarlyFault
statement_faults c labels scopes s = statement_at c labels scopes (out-Stmt s)

-- what is wrong with a part by itself, but for the names of its scope
abbrev pub part_faults : EarlyContext → List EarlyLabel → List (List DeclaredName) → TreePart → List EarlyFault
part_faults c labels scopes (ExpressionPart e) = expression_faults c e
part_faults c labels scopes (UpdatePart place e) = update_faults c place e
part_faults c labels scopes (PatternPart assigns p) = pattern_faults c p
part_faults c labels scopes (FunctionPart derived f) = function_faults f
part_faults c labels scopes (ClassPart k) = class_faults k
part_faults c labels scopes (StatementPart s) = statement_faults c labels scopes s
part_faults c labels scopes (CatchPart k) = catch_faults k
part_faults c labels scopes (EachPart kind p s) = each_faults scopes kind p
part_faults c labels scopes _ = []
