-- The parts of a tree that are looked at one by one, and what stands directly below each, in the order of the text.
use Rattle.std.specs.Prelude.{◌≡◌, Bool, true, false, not, ◌&&◌, List, [], ◌∷◌, ◌++◌, codes, if◌then◌else◌, is_some, map, Option}
use Rattle.lava_base.specs.declared.place.Place.{Place}
use Rattle.js_text.specs.Texts.{same_units}
use Rattle.js_tree.specs.Layers.{ArgumentLayer, ArrayElementLayer, BodyLayer, ExprLayer, ForInitLayer, ForTargetLayer, LinkStepLayer, PatternLayer, PropertyKeyLayer, PropertyLayer, StmtLayer}
use Rattle.js_tree.specs.declared.tree.Argument.{Argument, out-Argument}
use Rattle.js_tree.specs.declared.tree.Argument.TheOpen.{Argument-F, ArrayElement-F, Body-F, Expr-F, ForInit-F, ForTarget-F, LinkStep-F, Pattern-F, Property-F, PropertyKey-F, Stmt-F}
use Rattle.js_tree.specs.declared.tree.ArrayElement.{ArrayElement, out-ArrayElement}
use Rattle.js_tree.specs.declared.tree.Body.{Body, out-Body}
use Rattle.js_tree.specs.declared.tree.Catch.{Catch, out-Catch}
use Rattle.js_tree.specs.declared.tree.Class.{Class, out-Class}
use Rattle.js_tree.specs.declared.tree.ClassMember.{ClassMember, out-ClassMember}
use Rattle.js_tree.specs.declared.tree.Clause.{Clause, out-Clause}
use Rattle.js_tree.specs.declared.tree.Declaration.{Declaration, out-Declaration}
use Rattle.js_tree.specs.declared.tree.DeclarationKind.{DeclarationKind}
use Rattle.js_tree.specs.declared.tree.Expr.{Expr, out-Expr}
use Rattle.js_tree.specs.declared.tree.ForInit.{ForInit, out-ForInit}
use Rattle.js_tree.specs.declared.tree.ForTarget.{ForTarget, out-ForTarget}
use Rattle.js_tree.specs.declared.tree.Function.{Function, out-Function}
use Rattle.js_tree.specs.declared.tree.FunctionKind.{FunctionKind}
use Rattle.js_tree.specs.declared.tree.FunctionKind.TheVariants as function_kind
use Rattle.js_tree.specs.declared.tree.Link.{Link, out-Link}
use Rattle.js_tree.specs.declared.tree.LinkStep.{out-LinkStep}
use Rattle.js_tree.specs.declared.tree.Module.{Module}
use Rattle.js_tree.specs.declared.tree.Pattern.{Pattern, out-Pattern}
use Rattle.js_tree.specs.declared.tree.PatternElement.{PatternElement, out-PatternElement}
use Rattle.js_tree.specs.declared.tree.PatternField.{PatternField, out-PatternField}
use Rattle.js_tree.specs.declared.tree.Property.{Property, out-Property}
use Rattle.js_tree.specs.declared.tree.PropertyKey.{PropertyKey, out-PropertyKey}
use Rattle.js_tree.specs.declared.tree.Stmt.{Stmt, out-Stmt}
use Rattle.js_names.specs.Lists.{flat, from_option}
use Rattle.js_walk.specs.Paths.{is_path}
use Rattle.js_walk.specs.declared.subtree.Subtree.{Subtree}
use Rattle.js_walk.specs.declared.subtree.Subtree.TheVariants as subtree

pub data TreePart : Type 0 where
  -- a whole source
  ModulePart : Module → TreePart
  -- an expression that is evaluated
  ExpressionPart : Expr → TreePart
  -- what `++`, `--` or an assignment with an operator changes, and the place of that form
  UpdatePart : Place → Expr → TreePart
  -- what an assignment or a declaration gives values to; true for an assignment
  PatternPart : Bool → Pattern → TreePart
  -- the parameters and the body of a function; true where it is the constructor of a class with heritage
  FunctionPart : Bool → Function → TreePart
  -- heritage and members of a class
  ClassPart : Class → TreePart
  StatementPart : Stmt → TreePart
  -- the body of a loop
  LoopPart : Stmt → TreePart
  -- statements between braces
  BlockPart : List Stmt → TreePart
  -- the clauses of a `switch`
  CasesPart : List Clause → TreePart
  CatchPart : Catch → TreePart
  -- what a for-in or for-of statement declares, before the word `in` or `of`
  HeadPart : DeclarationKind → Pattern → TreePart
  -- its body, in the scope of what it declares
  EachPart : DeclarationKind → Pattern → Stmt → TreePart

abbrev pub part_of : Subtree → TreePart
part_of (subtree.Module m) = ModulePart m.now
part_of (subtree.Expression e) = ExpressionPart e.now
part_of (subtree.Update place e) = UpdatePart place e.now
part_of (subtree.Pattern assigns p) = PatternPart assigns p.now
part_of (subtree.Function derived f) = FunctionPart derived f.now
part_of (subtree.Class c) = ClassPart c.now
part_of (subtree.Statement s) = StatementPart s.now
part_of (subtree.Loop s) = LoopPart s.now
part_of (subtree.Block l) = BlockPart l.now
part_of (subtree.Cases l) = CasesPart l.now
part_of (subtree.Catch c) = CatchPart c.now
part_of (subtree.Head kind p) = HeadPart kind p.now
part_of (subtree.Each kind p s) = EachPart kind p.now s.now

abbrev pub parts_of : List Subtree → List TreePart
parts_of l = map part_of l

-- parts are appended
abbrev pub Adds : List Subtree → List Subtree → List TreePart → Type 0
Adds old new ps = parts_of new ≡ parts_of old ++ ps

-- BELOW EXPRESSIONS

abbrev pub operand : Expr → List TreePart
operand e = ExpressionPart e ∷ []

abbrev pub two_operands : Expr → Expr → List TreePart
two_operands a b = ExpressionPart a ∷ ExpressionPart b ∷ []

abbrev pub argument_at : ArgumentLayer → List TreePart
argument_at (Argument-F.Operand e) = operand e
argument_at (Argument-F.SpreadArgument e) = operand e

abbrev pub argument : Argument → List TreePart
argument a = argument_at (out-Argument a)

abbrev pub array_element_at : ArrayElementLayer → List TreePart
array_element_at ArrayElement-F.Hole = []
array_element_at (ArrayElement-F.Element e) = operand e
array_element_at (ArrayElement-F.SpreadElement e) = operand e

abbrev pub array_element : ArrayElement → List TreePart
array_element a = array_element_at (out-ArrayElement a)

abbrev pub key_at : PropertyKeyLayer → List TreePart
key_at (PropertyKey-F.Named i) = []
key_at (PropertyKey-F.Numbered place n) = []
key_at (PropertyKey-F.Computed place e) = operand e

abbrev pub key : PropertyKey → List TreePart
key k = key_at (out-PropertyKey k)

abbrev pub property_at : PropertyLayer → List TreePart
property_at (Property-F.Valued k e) = key k ++ operand e
property_at (Property-F.Defined k f) = key k ++ FunctionPart false f ∷ []
property_at (Property-F.SpreadProperty e) = operand e
property_at (Property-F.Initialized i e) = operand e

abbrev pub property : Property → List TreePart
property p = property_at (out-Property p)

abbrev pub link_step_at : LinkStepLayer → List TreePart
link_step_at (LinkStep-F.MemberLink i) = []
link_step_at (LinkStep-F.IndexLink e) = operand e
link_step_at (LinkStep-F.CallLink l) = flat argument l

abbrev pub link : Link → List TreePart
link l = link_step_at (out-LinkStep (out-Link l).step)

-- what stands before the first `?.`; the chain itself tells of a path there
abbrev pub chain_base : Expr → List TreePart
chain_base e = if is_path e then [] else operand e

abbrev pub expression_parts_at : ExprLayer → List TreePart
expression_parts_at (Expr-F.Template place strings es) = flat operand es
expression_parts_at (Expr-F.Array place l) = flat array_element l
expression_parts_at (Expr-F.Object place l) = flat property l
expression_parts_at (Expr-F.Function f) = FunctionPart false f ∷ []
expression_parts_at (Expr-F.Class c) = ClassPart c ∷ []
expression_parts_at (Expr-F.Parenthesized place e) = operand e
expression_parts_at (Expr-F.Member place e i) = operand e
expression_parts_at (Expr-F.Index place a b) = two_operands a b
expression_parts_at (Expr-F.SuperIndex place e) = operand e
expression_parts_at (Expr-F.Call place e l) = operand e ++ flat argument l
expression_parts_at (Expr-F.SuperCall place l) = flat argument l
expression_parts_at (Expr-F.New place e l) = operand e ++ flat argument l
expression_parts_at (Expr-F.Chain place e l) = chain_base e ++ flat link l
expression_parts_at (Expr-F.Unary place o e) = operand e
expression_parts_at (Expr-F.Update place o b e) = UpdatePart place e ∷ []
expression_parts_at (Expr-F.Binary place o a b) = two_operands a b
expression_parts_at (Expr-F.Logical place o a b) = two_operands a b
expression_parts_at (Expr-F.Conditional place t a b) = operand t ++ two_operands a b
expression_parts_at (Expr-F.Assign place p e) = PatternPart true p ∷ ExpressionPart e ∷ []
expression_parts_at (Expr-F.OperatorAssign place o t e) = UpdatePart place t ∷ ExpressionPart e ∷ []
expression_parts_at (Expr-F.Comma place es) = flat operand es
expression_parts_at _ = []

abbrev pub expression_row : Expr → List TreePart
expression_row e = expression_parts_at (out-Expr e)

-- a path has no parts but its names
abbrev pub expression_parts : Expr → List TreePart
expression_parts e = if is_path e then [] else expression_row e

-- BELOW PATTERNS

abbrev pub element : Bool → PatternElement → List TreePart
element assigns e = PatternPart assigns (out-PatternElement e).pattern ∷ from_option operand (out-PatternElement e).default

abbrev pub maybe_element : Bool → Option PatternElement → List TreePart
maybe_element assigns e = from_option (element assigns) e

abbrev pub field : Bool → PatternField → List TreePart
field assigns f = key (out-PatternField f).key ++ element assigns (out-PatternField f).element

abbrev pub pattern : Bool → Pattern → List TreePart
pattern assigns p = PatternPart assigns p ∷ []

abbrev pub pattern_parts_at : Bool → PatternLayer → List TreePart
pattern_parts_at assigns (Pattern-F.Bound i) = []
pattern_parts_at assigns (Pattern-F.Target e) = expression_parts e
pattern_parts_at assigns (Pattern-F.ObjectPattern place fs rest) = flat (field assigns) fs ++ from_option (pattern assigns) rest
pattern_parts_at assigns (Pattern-F.ArrayPattern place es rest) = flat (maybe_element assigns) es ++ from_option (pattern assigns) rest

abbrev pub pattern_parts : Bool → Pattern → List TreePart
pattern_parts assigns p = pattern_parts_at assigns (out-Pattern p)

-- BELOW FUNCTIONS AND CLASSES

abbrev pub statement : Stmt → List TreePart
statement s = StatementPart s ∷ []

abbrev pub body_at : BodyLayer → List TreePart
body_at (Body-F.Statements l) = flat statement l
body_at (Body-F.Concise e) = operand e

abbrev pub body : Body → List TreePart
body b = body_at (out-Body b)

abbrev pub function_parts : Function → List TreePart
function_parts f = flat (element false) (out-Function f).parameters ++ (from_option (pattern false) (out-Function f).rest ++ body (out-Function f).body)

abbrev pub is_method : FunctionKind → Bool
is_method function_kind.Method = true
is_method function_kind.Plain = false
is_method function_kind.Arrow = false
is_method function_kind.Getter = false
is_method function_kind.Setter = false

abbrev pub is_constructor_key_at : PropertyKeyLayer → Bool
is_constructor_key_at (PropertyKey-F.Named i) = same_units i.name (codes "constructor")
is_constructor_key_at (PropertyKey-F.Numbered place n) = false
is_constructor_key_at (PropertyKey-F.Computed place e) = false

abbrev pub is_constructor_key : PropertyKey → Bool
is_constructor_key k = is_constructor_key_at (out-PropertyKey k)

-- a member is the constructor of its class
-- ECMA-262 ConstructorMethod
abbrev pub is_constructor : ClassMember → Bool
is_constructor m = not (out-ClassMember m).is_static && (is_method (out-Function (out-ClassMember m).function).kind && is_constructor_key (out-ClassMember m).key)

abbrev pub member : Bool → ClassMember → List TreePart
member derived m = key (out-ClassMember m).key ++ FunctionPart (derived && is_constructor m) (out-ClassMember m).function ∷ []

abbrev pub class_parts : Class → List TreePart
class_parts c = from_option operand (out-Class c).heritage ++ flat (member (is_some (out-Class c).heritage)) (out-Class c).members

-- BELOW STATEMENTS

abbrev pub declaration : Declaration → List TreePart
declaration d = flat (element false) (out-Declaration d).declarators

abbrev pub for_init_at : ForInitLayer → List TreePart
for_init_at ForInit-F.NoInit = []
for_init_at (ForInit-F.InitDeclaration d) = declaration d
for_init_at (ForInit-F.InitExpression e) = operand e

abbrev pub for_init : ForInit → List TreePart
for_init i = for_init_at (out-ForInit i)

abbrev pub for_each_at : ForTargetLayer → Expr → Stmt → List TreePart
for_each_at (ForTarget-F.ForBinding kind p) e s = HeadPart kind p ∷ ExpressionPart e ∷ EachPart kind p s ∷ []
for_each_at (ForTarget-F.ForAssignment p) e s = PatternPart true p ∷ ExpressionPart e ∷ LoopPart s ∷ []

abbrev pub for_each : ForTarget → Expr → Stmt → List TreePart
for_each t e s = for_each_at (out-ForTarget t) e s

abbrev pub block : List Stmt → List TreePart
block l = BlockPart l ∷ []

abbrev pub handler : Catch → List TreePart
handler c = CatchPart c ∷ []

abbrev pub try_parts : List Stmt → Option Catch → Option (List Stmt) → List TreePart
try_parts l h f = block l ++ (from_option handler h ++ from_option block f)

abbrev pub for_parts : ForInit → Option Expr → Option Expr → Stmt → List TreePart
for_parts i t u s = for_init i ++ (from_option operand t ++ (from_option operand u ++ LoopPart s ∷ []))

abbrev pub if_parts : Expr → Stmt → Option Stmt → List TreePart
if_parts t a b = operand t ++ (statement a ++ from_option statement b)

abbrev pub statement_parts_at : StmtLayer → List TreePart
statement_parts_at (Stmt-F.Declare d) = declaration d
statement_parts_at (Stmt-F.FunctionDeclaration f) = FunctionPart false f ∷ []
statement_parts_at (Stmt-F.ClassDeclaration c) = ClassPart c ∷ []
statement_parts_at (Stmt-F.Expression e) = operand e
statement_parts_at (Stmt-F.Block place l) = block l
statement_parts_at (Stmt-F.If place t a b) = if_parts t a b
statement_parts_at (Stmt-F.While place t s) = ExpressionPart t ∷ LoopPart s ∷ []
statement_parts_at (Stmt-F.DoWhile place s t) = LoopPart s ∷ ExpressionPart t ∷ []
statement_parts_at (Stmt-F.For place i t u s) = for_parts i t u s
statement_parts_at (Stmt-F.ForOf place t e s) = for_each t e s
statement_parts_at (Stmt-F.ForIn place t e s) = for_each t e s
statement_parts_at (Stmt-F.Return place e) = from_option operand e
statement_parts_at (Stmt-F.Throw place e) = operand e
statement_parts_at (Stmt-F.Switch place e cs) = ExpressionPart e ∷ CasesPart cs ∷ []
statement_parts_at (Stmt-F.Try place l h f) = try_parts l h f
statement_parts_at (Stmt-F.Labelled i s) = statement s
statement_parts_at _ = []

abbrev pub statement_parts : Stmt → List TreePart
statement_parts s = statement_parts_at (out-Stmt s)

abbrev pub clause : Clause → List TreePart
clause c = from_option operand (out-Clause c).test ++ flat statement (out-Clause c).body

abbrev pub catch_parts : Catch → List TreePart
catch_parts c = from_option (pattern false) (out-Catch c).parameter ++ block (out-Catch c).body

-- what stands directly below a part
-- own: each part is visited with what its own rule looks at
abbrev pub parts_below : TreePart → List TreePart
parts_below (ModulePart m) = flat statement m.body
parts_below (ExpressionPart e) = expression_parts e
parts_below (UpdatePart place e) = expression_parts e
parts_below (PatternPart assigns p) = pattern_parts assigns p
parts_below (FunctionPart derived f) = function_parts f
parts_below (ClassPart c) = class_parts c
parts_below (StatementPart s) = statement_parts s
parts_below (LoopPart s) = statement s
parts_below (BlockPart l) = flat statement l
parts_below (CasesPart cs) = flat clause cs
parts_below (CatchPart c) = catch_parts c
parts_below (HeadPart kind p) = pattern false p
parts_below (EachPart kind p s) = LoopPart s ∷ []
