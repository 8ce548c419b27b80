-- What the rules look at round a part: what it may do there, the labels, and the names that stand lexically.
use Rattle.std.specs.Prelude.{ℕ, zero, suc, ◌==◌, Bool, true, false, List, [], ◌∷◌, ◌++◌, length, Option, Some, None, if◌then◌else◌}
use Rattle.js_tree.specs.Layers.{BodyLayer, StmtLayer}
use Rattle.js_tree.specs.declared.tree.Argument.TheOpen.{Body-F, Stmt-F}
use Rattle.js_tree.specs.declared.tree.Body.{Body, out-Body}
use Rattle.js_tree.specs.declared.tree.Function.{out-Function}
use Rattle.js_tree.specs.declared.tree.FunctionKind.{FunctionKind}
use Rattle.js_tree.specs.declared.tree.FunctionKind.TheVariants as function_kind
use Rattle.js_tree.specs.declared.tree.SourceKind.{SourceKind}
use Rattle.js_tree.specs.declared.tree.SourceKind.TheVariants.{Module, EvaluatedText}
use Rattle.js_tree.specs.declared.tree.Stmt.{Stmt, out-Stmt}
use Rattle.js_names.specs.Lists.{flat}
use Rattle.js_names.specs.Names.{binding_lexicals, clause_lexicals, init_lexicals, lexically_declared_names, top_level_lexically_declared_names}
use Rattle.js_walk.specs.Parts.{TreePart, BlockPart, CasesPart, EachPart, FunctionPart, LoopPart, ModulePart, StatementPart}
use Rattle.js_names.specs.Scopes.{with_names}
use Rattle.js_names.specs.declared.declared.DeclaredName.{DeclaredName}
use Rattle.js_names.specs.declared.bound.TheConstants.{TREE_DEPTH}
use Rattle.js_early.specs.declared.context.EarlyContext.{EarlyContext}
use Rattle.js_early.specs.declared.context.EarlyLabel.{EarlyLabel}

-- WHAT MAY BE DONE

abbrev pub in_module : SourceKind → Bool
in_module Module = true
in_module EvaluatedText = false

-- own: a module's body counts as a function's body, and an evaluated text does not
abbrev pub source_context : SourceKind → EarlyContext
source_context kind = record { in_loop = false; in_switch = false; may_return = in_module kind; new_target = in_module kind; super_property = false; super_call = false }

abbrev pub arrow_context : EarlyContext → EarlyContext
arrow_context c = record { in_loop = false; in_switch = false; may_return = true; new_target = c.new_target; super_property = c.super_property; super_call = c.super_call }

abbrev pub body_context : (property call : Bool) → EarlyContext
body_context property call = record { in_loop = false; in_switch = false; may_return = true; new_target = true; super_property = property; super_call = call }

-- inside a function; true for the constructor of a class with heritage
abbrev pub function_context : EarlyContext → Bool → FunctionKind → EarlyContext
function_context c derived function_kind.Plain = body_context false false
function_context c derived function_kind.Arrow = arrow_context c
function_context c derived function_kind.Method = body_context true derived
function_context c derived function_kind.Getter = body_context true false
function_context c derived function_kind.Setter = body_context true false

abbrev pub loop_context : EarlyContext → EarlyContext
loop_context c = record { in_loop = true; in_switch = c.in_switch; may_return = c.may_return; new_target = c.new_target; super_property = c.super_property; super_call = c.super_call }

abbrev pub switch_context : EarlyContext → EarlyContext
switch_context c = record { in_loop = c.in_loop; in_switch = true; may_return = c.may_return; new_target = c.new_target; super_property = c.super_property; super_call = c.super_call }

-- for what stands below a part
abbrev pub context_in : EarlyContext → TreePart → EarlyContext
context_in c (ModulePart m) = source_context m.kind
context_in c (FunctionPart derived f) = function_context c derived (out-Function f).kind
context_in c (LoopPart s) = loop_context c
context_in c (CasesPart l) = switch_context c
context_in c _ = c

-- LABELS

abbrev pub is_loop_at : (Stmt → Bool) → StmtLayer → Bool
is_loop_at rest (Stmt-F.While place t s) = true
is_loop_at rest (Stmt-F.DoWhile place s t) = true
is_loop_at rest (Stmt-F.For place i t u s) = true
is_loop_at rest (Stmt-F.ForOf place t e s) = true
is_loop_at rest (Stmt-F.ForIn place t e s) = true
is_loop_at rest (Stmt-F.Labelled i s) = rest s
is_loop_at rest _ = false

abbrev pub is_loop_row : (Stmt → Bool) → Stmt → Bool
is_loop_row rest s = is_loop_at rest (out-Stmt s)

abbrev pub is_loop_to : ℕ → Stmt → Bool
is_loop_to zero s = false
is_loop_to (suc d) s = is_loop_row (is_loop_to d) s

-- a statement is a loop, with labels before it or without
-- ECMA-262 IterationStatement
unfoldable pub is_loop : Stmt → Bool
is_loop s = is_loop_to TREE_DEPTH s

abbrev pub label_at : StmtLayer → Option EarlyLabel
label_at (Stmt-F.Labelled i s) = Some (record { name = i.name; is_loop = is_loop s })
label_at _ = None

abbrev pub statement_label : Stmt → Option EarlyLabel
statement_label s = label_at (out-Stmt s)

-- the label that a part gives to what stands below it
-- ECMA-262 LabelledStatement
abbrev pub label_in : TreePart → Option EarlyLabel
label_in (StatementPart s) = statement_label s
label_in _ = None

abbrev pub with_label : List EarlyLabel → Option EarlyLabel → List EarlyLabel
with_label ls None = ls
with_label ls (Some l) = ls ++ l ∷ []

-- the body of a source or of a function, into which no label and no scope reaches
abbrev pub is_body : TreePart → Bool
is_body (ModulePart m) = true
is_body (FunctionPart derived f) = true
is_body _ = false

-- NAMES THAT STAND LEXICALLY

abbrev pub body_lexicals_at : BodyLayer → List DeclaredName
body_lexicals_at (Body-F.Statements l) = flat top_level_lexically_declared_names l
body_lexicals_at (Body-F.Concise e) = []

abbrev pub body_lexicals : Body → List DeclaredName
body_lexicals b = body_lexicals_at (out-Body b)

abbrev pub statement_lexicals_at : StmtLayer → List DeclaredName
statement_lexicals_at (Stmt-F.For place i t u s) = init_lexicals i
statement_lexicals_at _ = []

abbrev pub statement_lexicals : Stmt → List DeclaredName
statement_lexicals s = statement_lexicals_at (out-Stmt s)

-- the names that the scope of a part declares lexically; functions at the top of a body count as declared by `var`
-- ECMA-262 LexicallyDeclaredNames
-- ECMA-262 TopLevelLexicallyDeclaredNames
abbrev pub lexicals : TreePart → List DeclaredName
lexicals (ModulePart m) = flat top_level_lexically_declared_names m.body
lexicals (FunctionPart derived f) = body_lexicals (out-Function f).body
lexicals (StatementPart s) = statement_lexicals s
lexicals (BlockPart l) = flat lexically_declared_names l
lexicals (CasesPart l) = flat clause_lexicals l
lexicals (EachPart kind p s) = binding_lexicals kind p
lexicals _ = []

-- one scope more, if it declares a name
abbrev pub with_scope : List (List DeclaredName) → List DeclaredName → List (List DeclaredName)
with_scope scopes ds = if length ds == 0 then scopes else scopes ++ with_names [] ds ∷ []
