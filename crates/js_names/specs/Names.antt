-- The names that patterns, statements and functions declare, as ECMA-262 lists them.
use Rattle.std.specs.Prelude.{ℕ, zero, suc, Bool, true, false, List, [], ◌∷◌, ◌++◌, Option, if◌then◌else◌}
use Rattle.js_tree.specs.Layers.{ForInitLayer, ForTargetLayer, PatternLayer, StmtLayer}
use Rattle.js_tree.specs.declared.tree.Argument.TheOpen.{ForInit-F, ForTarget-F, Pattern-F, Stmt-F}
use Rattle.js_tree.specs.declared.tree.Catch.{Catch, out-Catch}
use Rattle.js_tree.specs.declared.tree.Class.{out-Class}
use Rattle.js_tree.specs.declared.tree.Clause.{Clause, out-Clause}
use Rattle.js_tree.specs.declared.tree.Declaration.{Declaration, out-Declaration}
use Rattle.js_tree.specs.declared.tree.DeclarationKind.{DeclarationKind}
use Rattle.js_tree.specs.declared.tree.DeclarationKind.TheVariants.{Var, Let, Const}
use Rattle.js_tree.specs.declared.tree.ForInit.{ForInit, out-ForInit}
use Rattle.js_tree.specs.declared.tree.ForTarget.{ForTarget, out-ForTarget}
use Rattle.js_tree.specs.declared.tree.Function.{Function, out-Function}
use Rattle.js_tree.specs.declared.tree.Identifier.{Identifier}
use Rattle.js_tree.specs.declared.tree.Pattern.{Pattern, out-Pattern}
use Rattle.js_tree.specs.declared.tree.PatternElement.{PatternElement, out-PatternElement}
use Rattle.js_tree.specs.declared.tree.PatternField.{PatternField, out-PatternField}
use Rattle.js_tree.specs.declared.tree.Stmt.{Stmt, out-Stmt}
use Rattle.js_names.specs.Lists.{flat, from_option}
use Rattle.js_names.specs.declared.declared.DeclaredName.{DeclaredName}
use Rattle.js_names.specs.declared.bound.TheConstants.{TREE_DEPTH}

abbrev pub declared : Bool → Identifier → List DeclaredName
declared constant i = record { name = i.name; place = i.place; constant = constant } ∷ []

-- BOUND NAMES, where `names` gives those of the parts

module _ (names : Bool → Pattern → List DeclaredName) where
  abbrev pub element_names : Bool → PatternElement → List DeclaredName
  element_names c e = names c (out-PatternElement e).pattern

  abbrev pub maybe_element_names : Bool → Option PatternElement → List DeclaredName
  maybe_element_names c e = from_option (element_names c) e

  abbrev pub field_names : Bool → PatternField → List DeclaredName
  field_names c f = element_names c (out-PatternField f).element

  abbrev pub pattern_names_at : Bool → PatternLayer → List DeclaredName
  pattern_names_at c (Pattern-F.Bound i) = declared c i
  pattern_names_at c (Pattern-F.Target e) = []
  pattern_names_at c (Pattern-F.ObjectPattern place fs rest) = flat (field_names c) fs ++ from_option (names c) rest
  pattern_names_at c (Pattern-F.ArrayPattern place es rest) = flat (maybe_element_names c) es ++ from_option (names c) rest

  abbrev pub pattern_names_row : Bool → Pattern → List DeclaredName
  pattern_names_row c p = pattern_names_at c (out-Pattern p)

abbrev pub bound_names_to : ℕ → Bool → Pattern → List DeclaredName
bound_names_to zero c p = []
bound_names_to (suc d) c p = pattern_names_row (bound_names_to d) c p

-- ECMA-262 BoundNames
unfoldable pub bound_names : Bool → Pattern → List DeclaredName
bound_names c p = bound_names_to TREE_DEPTH c p

-- the names of declarators and of parameters
-- ECMA-262 BoundNames
abbrev pub elements_names : Bool → List PatternElement → List DeclaredName
elements_names c es = flat (element_names bound_names c) es

-- ECMA-262 BoundNames, of FormalParameters
abbrev pub parameter_names : Function → List DeclaredName
parameter_names f = elements_names false (out-Function f).parameters ++ from_option (bound_names false) (out-Function f).rest

-- DECLARED BY `let`, `const`, `var`

abbrev pub is_const : DeclarationKind → Bool
is_const Var = false
is_const Let = false
is_const Const = true

abbrev pub is_var : DeclarationKind → Bool
is_var Var = true
is_var Let = false
is_var Const = false

abbrev pub if_var : DeclarationKind → List DeclaredName → List DeclaredName
if_var kind l = if is_var kind then l else []

abbrev pub if_lexical : DeclarationKind → List DeclaredName → List DeclaredName
if_lexical kind l = if is_var kind then [] else l

abbrev pub declaration_names : Declaration → List DeclaredName
declaration_names d = elements_names (is_const (out-Declaration d).kind) (out-Declaration d).declarators

abbrev pub declaration_vars : Declaration → List DeclaredName
declaration_vars d = if_var (out-Declaration d).kind (declaration_names d)

abbrev pub declaration_lexicals : Declaration → List DeclaredName
declaration_lexicals d = if_lexical (out-Declaration d).kind (declaration_names d)

abbrev pub binding_names : DeclarationKind → Pattern → List DeclaredName
binding_names kind p = bound_names (is_const kind) p

abbrev pub binding_vars : DeclarationKind → Pattern → List DeclaredName
binding_vars kind p = if_var kind (binding_names kind p)

abbrev pub binding_lexicals : DeclarationKind → Pattern → List DeclaredName
binding_lexicals kind p = if_lexical kind (binding_names kind p)

abbrev pub init_vars_at : ForInitLayer → List DeclaredName
init_vars_at ForInit-F.NoInit = []
init_vars_at (ForInit-F.InitDeclaration d) = declaration_vars d
init_vars_at (ForInit-F.InitExpression e) = []

abbrev pub init_vars : ForInit → List DeclaredName
init_vars i = init_vars_at (out-ForInit i)

abbrev pub init_lexicals_at : ForInitLayer → List DeclaredName
init_lexicals_at ForInit-F.NoInit = []
init_lexicals_at (ForInit-F.InitDeclaration d) = declaration_lexicals d
init_lexicals_at (ForInit-F.InitExpression e) = []

abbrev pub init_lexicals : ForInit → List DeclaredName
init_lexicals i = init_lexicals_at (out-ForInit i)

abbrev pub target_vars_at : ForTargetLayer → List DeclaredName
target_vars_at (ForTarget-F.ForBinding kind p) = binding_vars kind p
target_vars_at (ForTarget-F.ForAssignment p) = []

abbrev pub target_vars : ForTarget → List DeclaredName
target_vars t = target_vars_at (out-ForTarget t)

-- VAR DECLARED NAMES, where `vars` gives those of the parts

module _ (vars : Stmt → List DeclaredName) where
  abbrev pub clause_vars : Clause → List DeclaredName
  clause_vars c = flat vars (out-Clause c).body

  abbrev pub catch_vars : Catch → List DeclaredName
  catch_vars c = flat vars (out-Catch c).body

  abbrev pub vars_at : StmtLayer → List DeclaredName
  vars_at (Stmt-F.Declare d) = declaration_vars d
  vars_at (Stmt-F.Block place l) = flat vars l
  vars_at (Stmt-F.If place t a b) = vars a ++ from_option vars b
  vars_at (Stmt-F.While place t s) = vars s
  vars_at (Stmt-F.DoWhile place s t) = vars s
  vars_at (Stmt-F.For place i t u s) = init_vars i ++ vars s
  vars_at (Stmt-F.ForOf place t e s) = target_vars t ++ vars s
  vars_at (Stmt-F.ForIn place t e s) = target_vars t ++ vars s
  vars_at (Stmt-F.Switch place e cs) = flat clause_vars cs
  vars_at (Stmt-F.Try place l h f) = flat vars l ++ (from_option catch_vars h ++ from_option (flat vars) f)
  vars_at (Stmt-F.Labelled i s) = vars s
  vars_at _ = []

  abbrev pub vars_row : Stmt → List DeclaredName
  vars_row s = vars_at (out-Stmt s)

abbrev pub var_declared_names_to : ℕ → Stmt → List DeclaredName
var_declared_names_to zero s = []
var_declared_names_to (suc d) s = vars_row (var_declared_names_to d) s

-- ECMA-262 VarDeclaredNames
unfoldable pub var_declared_names : Stmt → List DeclaredName
var_declared_names s = var_declared_names_to TREE_DEPTH s

-- LEXICALLY DECLARED NAMES

-- ECMA-262 TopLevelLexicallyDeclaredNames
abbrev pub top_lexicals_at : StmtLayer → List DeclaredName
top_lexicals_at (Stmt-F.Declare d) = declaration_lexicals d
top_lexicals_at (Stmt-F.ClassDeclaration c) = from_option (declared false) (out-Class c).name
top_lexicals_at _ = []

abbrev pub top_level_lexically_declared_names : Stmt → List DeclaredName
top_level_lexically_declared_names s = top_lexicals_at (out-Stmt s)

-- the functions among a list's own statements
abbrev pub functions_at : StmtLayer → List DeclaredName
functions_at (Stmt-F.FunctionDeclaration f) = from_option (declared false) (out-Function f).name
functions_at _ = []

abbrev pub function_names : Stmt → List DeclaredName
function_names s = functions_at (out-Stmt s)

-- ECMA-262 LexicallyDeclaredNames
abbrev pub lexically_declared_names : Stmt → List DeclaredName
lexically_declared_names s = top_level_lexically_declared_names s ++ function_names s

abbrev pub clause_lexicals : Clause → List DeclaredName
clause_lexicals c = flat lexically_declared_names (out-Clause c).body

-- the names of a body: those of its own statements, and each `var` inside it
-- ECMA-262 FunctionDeclarationInstantiation
abbrev pub body_names : Stmt → List DeclaredName
body_names s = lexically_declared_names s ++ var_declared_names s
