-- The names that the scope of a part declares.
use Rattle.std.specs.Prelude.{ℕ, true, false, List, [], ◌∷◌, ◌++◌}
use Rattle.js_tree.specs.Layers.{BodyLayer, ExprLayer, StmtLayer}
use Rattle.js_tree.specs.declared.tree.Argument.TheOpen.{Body-F, Expr-F, Stmt-F}
use Rattle.js_tree.specs.declared.tree.Body.{Body, out-Body}
use Rattle.js_tree.specs.declared.tree.Catch.{out-Catch}
use Rattle.js_tree.specs.declared.tree.Class.{out-Class}
use Rattle.js_tree.specs.declared.tree.Expr.{Expr, out-Expr}
use Rattle.js_tree.specs.declared.tree.Function.{out-Function}
use Rattle.js_tree.specs.declared.tree.SourceKind.{SourceKind}
use Rattle.js_tree.specs.declared.tree.SourceKind.TheVariants.{Module, EvaluatedText}
use Rattle.js_tree.specs.declared.tree.Stmt.{Stmt, out-Stmt}
use Rattle.js_names.specs.Lists.{flat, from_option}
use Rattle.js_names.specs.Names.{binding_lexicals, body_names, bound_names, clause_lexicals, declared, init_lexicals, lexically_declared_names, parameter_names}
use Rattle.js_walk.specs.Parts.{TreePart, BlockPart, CasesPart, CatchPart, ClassPart, EachPart, ExpressionPart, FunctionPart, HeadPart, ModulePart, StatementPart}
use Rattle.js_names.specs.declared.declared.DeclaredName.{DeclaredName}
use Rattle.js_scope.specs.declared.scoping.TheConstants.{EXPORTS, MODULE, REQUIRE, SOURCE_PLACE}

abbrev pub source_name : List ℕ → List DeclaredName
source_name n = record { name = n; place = SOURCE_PLACE; constant = false } ∷ []

-- the names that a source has before it begins
-- own: a module is a function of `exports`, `require` and `module`, and an evaluated text has `require`
abbrev pub source_names : SourceKind → List DeclaredName
source_names Module = source_name EXPORTS ++ (source_name REQUIRE ++ source_name MODULE)
source_names EvaluatedText = source_name REQUIRE

abbrev pub body_scope_at : BodyLayer → List DeclaredName
body_scope_at (Body-F.Statements l) = flat body_names l
body_scope_at (Body-F.Concise e) = []

abbrev pub body_scope : Body → List DeclaredName
body_scope b = body_scope_at (out-Body b)

abbrev pub expression_scope_at : ExprLayer → List DeclaredName
expression_scope_at (Expr-F.Function f) = from_option (declared true) (out-Function f).name
expression_scope_at _ = []

abbrev pub expression_scope : Expr → List DeclaredName
expression_scope e = expression_scope_at (out-Expr e)

abbrev pub statement_scope_at : StmtLayer → List DeclaredName
statement_scope_at (Stmt-F.For place i t u s) = init_lexicals i
statement_scope_at _ = []

abbrev pub statement_scope : Stmt → List DeclaredName
statement_scope s = statement_scope_at (out-Stmt s)

-- a function has one scope for its parameters and its body's own declarations; a function expression and a class have one for their names besides
-- ECMA-262 FunctionDeclarationInstantiation
-- ECMA-262 BlockDeclarationInstantiation
abbrev pub names_of : TreePart → List DeclaredName
names_of (ModulePart m) = source_names m.kind ++ flat body_names m.body
names_of (ExpressionPart e) = expression_scope e
names_of (FunctionPart derived f) = parameter_names f ++ body_scope (out-Function f).body
names_of (ClassPart c) = from_option (declared true) (out-Class c).name
names_of (StatementPart s) = statement_scope s
names_of (BlockPart l) = flat lexically_declared_names l
names_of (CasesPart l) = flat clause_lexicals l
names_of (CatchPart c) = from_option (bound_names false) (out-Catch c).parameter
names_of (HeadPart kind p) = binding_lexicals kind p
names_of (EachPart kind p s) = binding_lexicals kind p
names_of _ = []
