-- The terms of statements.
use Rattle.std.specs.Prelude.{ℕ, pos, negsuc, ◌+◌, ◌==◌, Bool, true, false, if◌then◌else◌, List, [], ◌∷◌, ◌++◌, codes, length, Option, Some, None, is_some}
use Rattle.std.specs.Option.{option_map}
use Rattle.js_tree.specs.Layers.{ForInitLayer, ForTargetLayer, PatternLayer, StmtLayer}
use Rattle.js_tree.specs.declared.tree.Argument.TheOpen.{ForInit-F, ForTarget-F, Pattern-F, Stmt-F}
use Rattle.js_tree.specs.declared.operator.BinaryOperator.TheVariants as op
use Rattle.js_tree.specs.declared.tree.Catch.{Catch, out-Catch}
use Rattle.js_tree.specs.declared.tree.Class.{Class, out-Class}
use Rattle.js_tree.specs.declared.tree.Clause.{Clause, out-Clause}
use Rattle.js_tree.specs.declared.tree.Declaration.{Declaration, out-Declaration}
use Rattle.js_tree.specs.declared.tree.DeclarationKind.{DeclarationKind}
use Rattle.js_tree.specs.declared.tree.Expr.{Expr}
use Rattle.js_tree.specs.declared.tree.ForInit.{ForInit, out-ForInit}
use Rattle.js_tree.specs.declared.tree.ForTarget.{ForTarget, out-ForTarget}
use Rattle.js_tree.specs.declared.tree.Function.{Function, out-Function}
use Rattle.js_tree.specs.declared.tree.Identifier.{Identifier}
use Rattle.js_tree.specs.declared.tree.Pattern.{Pattern, out-Pattern}
use Rattle.js_tree.specs.declared.tree.PatternElement.{PatternElement, out-PatternElement}
use Rattle.js_tree.specs.declared.tree.Stmt.{Stmt, out-Stmt}
use Rattle.js_term.specs.declared.term.Jump.TheVariants as jump
use Rattle.js_term.specs.declared.term.TemplateKind.TheVariants as template
use Rattle.js_term.specs.declared.term.Term.{Term}
use Rattle.js_term.specs.declared.term.Term.TheVariants as term
use Rattle.js_names.specs.Lists.{flat}
use Rattle.js_names.specs.Names.{is_var, bound_names, declaration_lexicals, binding_lexicals, lexically_declared_names, clause_lexicals}
use Rattle.js_frames.specs.Frames.{Env, Frame, with_names}
use Rattle.js_frames.specs.declared.frame.Referent.TheVariants.{Constant, Variable}
use Rattle.js_frames.specs.declared.frame.SlotName.{SlotName}
use Rattle.js_lower_table.specs.declared.held.Held.{Held}
use Rattle.js_lower_table.specs.declared.commons.TheConstants.{FOR_IN, OPEN}
use Rattle.js_lower_table.specs.Values.{Name, undefined, text, integer, truth, here, next_held, call_name, call_common, init, set, single, init_here, scope_of, same_value, guard}
use Rattle.js_lower_table.specs.Entries.{Below, InSlot, Current, Valued}
use Rattle.js_lower_table.specs.Expressions.{expr, class_term, named_class}

-- a slot that has no name of the source
abbrev pub hidden_slot : SlotName
hidden_slot = record { name = []; referent = Constant }

abbrev pub variable_slot : Name → SlotName
variable_slot n = record { name = n; referent = Variable }

-- FRAMES

-- the scope of a block
-- ECMA-262 BlockDeclarationInstantiation
abbrev pub block_frame : List Stmt → Frame
block_frame l = with_names [] (flat lexically_declared_names l)

-- the scope of a loop's head
-- ECMA-262 ForLoopEvaluation
abbrev pub for_frame : Declaration → Frame
for_frame d = with_names [] (declaration_lexicals d)

abbrev pub target_frame_at : ForTargetLayer → Frame
target_frame_at (ForTarget-F.ForBinding k p) = with_names [] (binding_lexicals k p)
target_frame_at (ForTarget-F.ForAssignment p) = []

-- the scope of one turn of a for-in or for-of loop
-- ECMA-262 ForDeclarationBindingInstantiation
abbrev pub target_frame : ForTarget → Frame
target_frame t = target_frame_at (out-ForTarget t)

-- the scope of a `switch`: its value, the place where it goes on, and the names of its clauses
-- ECMA-262 BlockDeclarationInstantiation
abbrev pub switch_frame : List Clause → Frame
switch_frame cs = with_names (hidden_slot ∷ hidden_slot ∷ []) (flat clause_lexicals cs)

-- ECMA-262 CatchClauseEvaluation
abbrev pub catch_frame : Pattern → Frame
catch_frame p = with_names [] (bound_names false p)

abbrev pub target_assigned_at : ForTargetLayer → Bool
target_assigned_at (ForTarget-F.ForBinding k p) = is_var k
target_assigned_at (ForTarget-F.ForAssignment p) = true

abbrev pub target_assigned : ForTarget → Bool
target_assigned t = target_assigned_at (out-ForTarget t)

abbrev pub target_pattern_at : ForTargetLayer → Pattern
target_pattern_at (ForTarget-F.ForBinding k p) = p
target_pattern_at (ForTarget-F.ForAssignment p) = p

abbrev pub target_pattern : ForTarget → Pattern
target_pattern t = target_pattern_at (out-ForTarget t)

-- LABELS AND LOOPS

abbrev pub label_of : Option Identifier → Name
label_of None = []
label_of (Some i) = i.name

abbrev pub takes_labels_at : StmtLayer → Bool
takes_labels_at (Stmt-F.While place t s) = true
takes_labels_at (Stmt-F.DoWhile place s t) = true
takes_labels_at (Stmt-F.For place i t u s) = true
takes_labels_at (Stmt-F.ForOf place t e s) = true
takes_labels_at (Stmt-F.ForIn place t e s) = true
takes_labels_at (Stmt-F.Labelled i s) = true
takes_labels_at _ = false

-- whether labels before a statement are its own
abbrev pub takes_labels : Stmt → Bool
takes_labels s = takes_labels_at (out-Stmt s)

abbrev pub label_all : List Name → Term → Term
label_all [] t = t
label_all (l ∷ ls) t = term.Label l (label_all ls t)

-- a loop has the empty label first
abbrev pub loop : List Name → Term → Option Term → Term → Term
loop labels test update body = term.Loop ([] ∷ labels) true test update body

abbrev pub more : Term
more = call_name (here 0) (codes "more")

-- SWITCH

abbrev pub is_open : Term
is_open = term.Binary op.Less (here 1) (integer (pos 0))

abbrev pub go_on_at : ℕ → Term
go_on_at i = term.SetLocal 0 1 false (integer (pos i))

abbrev pub case_term : ℕ → Term → Term
case_term i value = term.If is_open (term.If (same_value (here 0) value) (go_on_at i) None) None

abbrev pub default_term : ℕ → Term
default_term i = term.If is_open (go_on_at i) None

-- where a `switch` goes on that no case fits: its default, or its end
abbrev pub default_from : ℕ → List Clause → ℕ
default_from i [] = i
default_from i (c ∷ cs) = if is_some (out-Clause c).test then default_from (i + 1) cs else i

abbrev pub clause_term : ℕ → List Term → Term
clause_term i l = term.If (term.Binary op.LessOrEqual (here 1) (integer (pos i))) (term.Seq l) None

module _ (low : Below) where
  abbrev pub stmt : Env → Stmt → List Term
  stmt env s = low.stmt env [] s

  -- where one term has to stand
  abbrev pub one : Env → Stmt → Term
  one env s = single (stmt env s)

  -- DECLARATIONS

  abbrev pub declare_init : Env → DeclarationKind → Name → List Term
  declare_init env k n = if is_var k then [] else init env n undefined ∷ []

  abbrev pub declare_plain_at : Env → DeclarationKind → PatternLayer → List Term
  declare_plain_at env k (Pattern-F.Bound i) = declare_init env k i.name
  declare_plain_at env k _ = []

  abbrev pub declare_plain : Env → DeclarationKind → Pattern → List Term
  declare_plain env k p = declare_plain_at env k (out-Pattern p)

  abbrev pub declare_value_at : Env → DeclarationKind → Pattern → Expr → PatternLayer → Term
  declare_value_at env k p e (Pattern-F.Bound i) = set env (is_var k) i.name (low.expr env i.name e)
  declare_value_at env k p e _ = low.bind env (is_var k) (Valued e) p

  abbrev pub declare_value : Env → DeclarationKind → Pattern → Expr → Term
  declare_value env k p e = declare_value_at env k p e (out-Pattern p)

  abbrev pub declare_as : Env → DeclarationKind → Pattern → Option Expr → List Term
  declare_as env k p None = declare_plain env k p
  declare_as env k p (Some e) = declare_value env k p e ∷ []

  -- ECMA-262 LexicalBinding and VariableDeclaration
  abbrev pub declare : Env → DeclarationKind → PatternElement → List Term
  declare env k e = declare_as env k (out-PatternElement e).pattern (out-PatternElement e).default

  abbrev pub declaration : Env → Declaration → List Term
  declaration env d = flat (declare env (out-Declaration d).kind) (out-Declaration d).declarators

  abbrev pub class_as : Env → Class → Option Identifier → Term
  class_as env c None = class_term low env [] c
  class_as env c (Some i) = init env i.name (named_class low env i.name c)

  -- ECMA-262 BindingClassDeclarationEvaluation
  abbrev pub class_declaration : Env → Class → Term
  class_declaration env c = class_as env c (out-Class c).name

  abbrev pub hoisted_as : Env → Function → Option Identifier → List Term
  hoisted_as env f None = []
  hoisted_as env f (Some i) = init env i.name (term.Func (low.template env template.Plain i.name f)) ∷ []

  abbrev pub hoisted_at : Env → StmtLayer → List Term
  hoisted_at env (Stmt-F.FunctionDeclaration f) = hoisted_as env f (out-Function f).name
  hoisted_at env _ = []

  -- a function that a list of statements declares
  -- ECMA-262 InstantiateFunctionObject
  abbrev pub hoisted : Env → Stmt → List Term
  hoisted env s = hoisted_at env (out-Stmt s)

  -- functions first, then the statements
  abbrev pub list : Env → List Stmt → List Term
  list env l = flat (hoisted env) l ++ flat (stmt env) l

  -- BLOCKS

  abbrev pub block_in : Env → List Stmt → Frame → Term
  block_in env l frame = if length frame == 0 then term.Seq (list env l) else scope_of (length frame) (list (frame ∷ env) l)

  -- ECMA-262 Block
  abbrev pub block : Env → List Stmt → Term
  block env l = block_in env l (block_frame l)

  -- LOOPS

  abbrev pub update_list : Env → Option Expr → List Term
  update_list env None = term.Fresh ∷ []
  update_list env (Some e) = term.Fresh ∷ expr low env e ∷ []

  abbrev pub test_term : Env → Option Expr → Term
  test_term env None = truth true
  test_term env (Some e) = expr low env e

  abbrev pub fresh_loop : Env → List Name → Option Expr → Option Expr → Stmt → Term
  fresh_loop env labels t u s = loop labels (test_term env t) (Some (term.Seq (update_list env u))) (one env s)

  abbrev pub for_lexical_in : Env → List Name → Declaration → Option Expr → Option Expr → Stmt → Frame → Term
  for_lexical_in env labels d t u s frame =
      scope_of (length frame) (declaration (frame ∷ env) d ++ (term.Fresh ∷ fresh_loop (frame ∷ env) labels t u s ∷ []))

  abbrev pub for_lexical : Env → List Name → Declaration → Option Expr → Option Expr → Stmt → Term
  for_lexical env labels d t u s = for_lexical_in env labels d t u s (for_frame d)

  abbrev pub plain_loop : Env → List Name → Option Expr → Option Expr → Stmt → Term
  plain_loop env labels t u s = loop labels (test_term env t) (option_map (expr low env) u) (one env s)

  abbrev pub for_plain : Env → List Name → List Term → Option Expr → Option Expr → Stmt → Term
  for_plain env labels inits t u s = term.Seq (inits ++ plain_loop env labels t u s ∷ [])

  abbrev pub for_declared : Env → List Name → Declaration → Option Expr → Option Expr → Stmt → Term
  for_declared env labels d t u s =
      if is_var (out-Declaration d).kind then for_plain env labels (declaration env d) t u s else for_lexical env labels d t u s

  abbrev pub for_at : Env → List Name → Option Expr → Option Expr → Stmt → ForInitLayer → Term
  for_at env labels t u s ForInit-F.NoInit = for_plain env labels [] t u s
  for_at env labels t u s (ForInit-F.InitDeclaration d) = for_declared env labels d t u s
  for_at env labels t u s (ForInit-F.InitExpression e) = for_plain env labels (expr low env e ∷ []) t u s

  -- ECMA-262 ForStatement
  abbrev pub for_term : Env → List Name → ForInit → Option Expr → Option Expr → Stmt → Term
  for_term env labels i t u s = for_at env labels t u s (out-ForInit i)

  abbrev pub turn_in : Env → Held → ForTarget → Stmt → Frame → Term
  turn_in env it t s frame =
      scope_of (length frame) (low.bind (frame ∷ env) (target_assigned t) (Current it) (target_pattern t) ∷ one (frame ∷ env) s ∷ [])

  -- one turn of a for-in or for-of loop
  -- ECMA-262 ForIn/OfBodyEvaluation
  abbrev pub turn : Env → Held → ForTarget → Stmt → Term
  turn env it t s = turn_in env it t s (target_frame t)

  -- ECMA-262 ForInOfStatement, of
  abbrev pub for_of : Env → List Name → ForTarget → Expr → Stmt → Term
  for_of env labels t e s =
      scope_of 1 (init_here 0 (call_common OPEN (expr low ([] ∷ env) e ∷ []))
      ∷ guard (length env + 1) (next_held env 0) (loop labels more None (turn ([] ∷ env) (next_held env 0) t s)) ∷ [])

  abbrev pub still_there : Term → Term
  still_there body = term.If (term.Binary op.In (term.Get (here 0) (text (codes "value"))) (here 1)) body None

  abbrev pub open_keys : Term
  open_keys = call_common OPEN (call_common FOR_IN (here 1 ∷ []) ∷ [])

  -- ECMA-262 ForInOfStatement, in
  abbrev pub for_in : Env → List Name → ForTarget → Expr → Stmt → Term
  for_in env labels t e s =
      scope_of 2 (init_here 1 (expr low ([] ∷ env) e) ∷ init_here 0 open_keys
      ∷ guard (length env + 1) (next_held env 0) (loop labels more None (still_there (turn ([] ∷ env) (next_held env 0) t s))) ∷ [])

  -- SWITCH

  abbrev pub clause_hoisted : Env → Clause → List Term
  clause_hoisted env c = flat (hoisted env) (out-Clause c).body

  abbrev pub case_test_as : Env → ℕ → Option Expr → List Term
  case_test_as env i None = []
  case_test_as env i (Some e) = case_term i (expr low env e) ∷ []

  abbrev pub case_tests : Env → ℕ → List Clause → List Term
  case_tests env i [] = []
  case_tests env i (c ∷ cs) = case_test_as env i (out-Clause c).test ++ case_tests env (i + 1) cs

  abbrev pub clause_bodies : Env → ℕ → List Clause → List Term
  clause_bodies env i [] = []
  clause_bodies env i (c ∷ cs) = clause_term i (flat (stmt env) (out-Clause c).body) ∷ clause_bodies env (i + 1) cs

  abbrev pub switch_clauses : Env → List Clause → List Term
  switch_clauses env cs = flat (clause_hoisted env) cs ++ (case_tests env 0 cs ++ (default_term (default_from 0 cs) ∷ clause_bodies env 0 cs))

  abbrev pub switch_in : Env → Expr → List Clause → Frame → Term
  switch_in env e cs frame =
      term.Label [] (scope_of (length frame) ((init_here 0 (expr low ([] ∷ env) e) ∷ init_here 1 (integer (negsuc 0)) ∷ []) ++ switch_clauses (frame ∷ env) cs))

  -- ECMA-262 SwitchStatement
  abbrev pub switch : Env → Expr → List Clause → Term
  switch env e cs = switch_in env e cs (switch_frame cs)

  -- TRY

  abbrev pub catch_pattern_in : Env → Pattern → List Stmt → Frame → Term
  catch_pattern_in env p l frame =
      scope_of (length frame) (low.bind (frame ∷ [] ∷ env) false (InSlot (next_held env 0)) p ∷ block (frame ∷ [] ∷ env) l ∷ [])

  abbrev pub catch_pattern : Env → Pattern → List Stmt → Term
  catch_pattern env p l = catch_pattern_in env p l (catch_frame p)

  abbrev pub catch_at : Env → Pattern → List Stmt → PatternLayer → Term
  catch_at env p l (Pattern-F.Bound i) = block ((variable_slot i.name ∷ []) ∷ env) l
  catch_at env p l _ = catch_pattern env p l

  abbrev pub catch_as : Env → Option Pattern → List Stmt → Term
  catch_as env None l = block ([] ∷ env) l
  catch_as env (Some p) l = catch_at env p l (out-Pattern p)

  -- ECMA-262 CatchClauseEvaluation
  abbrev pub catch : Env → Catch → Term
  catch env c = catch_as env (out-Catch c).parameter (out-Catch c).body

  -- ECMA-262 TryStatement
  abbrev pub try_term : Env → List Stmt → Option Catch → Option (List Stmt) → Term
  try_term env l h f = term.Try (block env l) (option_map (catch env) h) (option_map (block env) f)

  -- LABELS

  -- ECMA-262 LabelledEvaluation
  abbrev pub labelled : Env → List Name → Name → Stmt → List Term
  labelled env labels n s = if takes_labels s then low.stmt env (labels ++ n ∷ []) s else label_all (labels ++ n ∷ []) (one env s) ∷ []

  abbrev pub if_term : Env → Expr → Stmt → Option Stmt → Term
  if_term env t a b = term.If (expr low env t) (one env a) (option_map (one env) b)

  abbrev pub stmt_at : Env → List Name → StmtLayer → List Term
  stmt_at env labels (Stmt-F.Declare d) = declaration env d
  stmt_at env labels (Stmt-F.FunctionDeclaration f) = []
  stmt_at env labels (Stmt-F.ClassDeclaration c) = class_declaration env c ∷ []
  stmt_at env labels (Stmt-F.Expression e) = expr low env e ∷ []
  stmt_at env labels (Stmt-F.Block place l) = block env l ∷ []
  stmt_at env labels (Stmt-F.Empty place) = term.Seq [] ∷ []
  stmt_at env labels (Stmt-F.If place t a b) = if_term env t a b ∷ []
  stmt_at env labels (Stmt-F.While place t s) = loop labels (expr low env t) None (one env s) ∷ []
  stmt_at env labels (Stmt-F.DoWhile place s t) = term.Loop ([] ∷ labels) false (expr low env t) None (one env s) ∷ []
  stmt_at env labels (Stmt-F.For place i t u s) = for_term env labels i t u s ∷ []
  stmt_at env labels (Stmt-F.ForOf place t e s) = for_of env labels t e s ∷ []
  stmt_at env labels (Stmt-F.ForIn place t e s) = for_in env labels t e s ∷ []
  stmt_at env labels (Stmt-F.Continue place l) = term.Jump (jump.Continue (label_of l)) ∷ []
  stmt_at env labels (Stmt-F.Break place l) = term.Jump (jump.Break (label_of l)) ∷ []
  stmt_at env labels (Stmt-F.Return place e) = term.Jump (jump.Return (option_map (expr low env) e)) ∷ []
  stmt_at env labels (Stmt-F.Throw place e) = term.Throw (expr low env e) ∷ []
  stmt_at env labels (Stmt-F.Switch place e cs) = switch env e cs ∷ []
  stmt_at env labels (Stmt-F.Try place l h f) = try_term env l h f ∷ []
  stmt_at env labels (Stmt-F.Labelled i s) = labelled env labels i.name s
  stmt_at env labels (Stmt-F.Debugger place) = term.Seq [] ∷ []

  -- ECMA-262 Evaluation, of a StatementListItem
  abbrev pub stmt_row : Env → List Name → Stmt → List Term
  stmt_row env labels s = stmt_at env labels (out-Stmt s)
