-- The terms of declarations, lists of statements and blocks are valid.
use Rattle.std.proofs.Common.{◌≡◌, ◌==◌, Bool, true, false, cond, List, [], ◌∷◌, length, Option, Some, None, refl}
use Rattle.js_tree.specs.Layers.{PatternLayer, StmtLayer}
use Rattle.js_tree.specs.declared.tree.Argument.TheOpen.{Pattern-F, Stmt-F}
use Rattle.js_tree.specs.declared.tree.Class.{Class}
use Rattle.js_tree.specs.declared.tree.Declaration.{Declaration, out-Declaration}
use Rattle.js_tree.specs.declared.tree.DeclarationKind.{DeclarationKind}
use Rattle.js_tree.specs.declared.tree.Expr.{Expr}
use Rattle.js_tree.specs.declared.tree.Function.{Function, out-Function}
use Rattle.js_tree.specs.declared.tree.FunctionKind.{FunctionKind}
use Rattle.js_tree.specs.declared.tree.FunctionKind.TheVariants as kind
use Rattle.js_tree.specs.declared.tree.Identifier.{Identifier}
use Rattle.js_tree.specs.declared.tree.Pattern.{Pattern, out-Pattern}
use Rattle.js_tree.specs.declared.tree.PatternElement.{out-PatternElement}
use Rattle.js_tree.specs.declared.tree.Stmt.{Stmt, out-Stmt}
use Rattle.js_term.specs.declared.term.TemplateKind.TheVariants as template
use Rattle.js_term.specs.declared.term.Term.TheVariants as form
use Rattle.js_names.specs.Lists.{flat, from_option}
use Rattle.js_names.specs.Names.{is_var}
use Rattle.js_frames.specs.Frames.{Env, Frame}
use Rattle.js_walk.specs.Parts as walk
use Rattle.js_walk.specs.Parts.{TreePart, BlockPart, CasesPart, CatchPart, ClassPart, EachPart, ExpressionPart, FunctionPart, HeadPart, LoopPart, PatternPart, StatementPart}
use Rattle.js_lower_table.specs.Entries.{Below, Valued}
use Rattle.js_lower_table.specs.Statements as statements
use Rattle.js_lower_table.specs.Values as values
use Rattle.js_lower_table.specs.Values.{Name}
use Rattle.js_early.specs.Contexts.{function_context, is_loop, loop_context}
use Rattle.js_early.specs.declared.context.EarlyContext.{EarlyContext}
use Rattle.js_early.specs.declared.context.EarlyLabel.{EarlyLabel}
use Rattle.js_valid.specs.Surroundings.{Place, InScope}
use Rattle.js_valid.specs.Valid.{nowhere}
use Rattle.js_lower_laws.specs.Sound.{AreSound, is_declared_kind, statement_sound}
use Rattle.js_lower_laws.proofs.Forms.{Fit, FitAll, fit_func, fit_seq, joined}
use Rattle.js_lower_laws.proofs.Linked.{L, LE, behind, below, first, has}
use Rattle.js_lower_laws.proofs.Lowering.{Jumps, KindAt, Lowers, fit_flat, from_value, none_pending}
use Rattle.js_lower_laws.proofs.Literals.{fit_class_term, fit_named_class}
use Rattle.js_lower_laws.proofs.Names.{fit_init_name, fit_scope_of, fit_set, fit_single, fit_undefined}
use Rattle.js_lower_laws.proofs.Scopes.{At, is_plain, opened}
use Rattle.js_lower_laws.proofs.Labels.{block_plain}

module _ (b : Below) (h : Lowers b) where
  pub fit_stmt : {ctx : EarlyContext} {kl : List EarlyLabel} (env : Env) (p : Place) (s : Stmt) → At ctx env p → Jumps ctx kl p → L ctx kl (StatementPart s) → FitAll p (statements.stmt b env s)
  fit_stmt env p s at j x = h.stmt env p [] s at (none_pending (is_loop s) (out-Stmt s) p j) x

  pub fit_one : {ctx : EarlyContext} {kl : List EarlyLabel} (env : Env) (p : Place) (s : Stmt) → At ctx env p → Jumps ctx kl p → L ctx kl (StatementPart s) → Fit p (statements.one b env s)
  fit_one env p s at j x = fit_single p _ (fit_stmt env p s at j x)

  pub loop_body : {ctx : EarlyContext} {kl : List EarlyLabel} (s : Stmt) → L ctx kl (LoopPart s) → L (loop_context ctx) kl (StatementPart s)
  loop_body s x = below (LoopPart s) x

  -- DECLARATIONS

  pub init_by : {ctx : EarlyContext} (env : Env) (p : Place) (s : Bool) (n : Name) → At ctx env p → FitAll p (cond s [] (values.init env n values.undefined ∷ []))
  init_by env p true n at = nowhere p
  init_by env p false n at = fit_init_name env p n _ at (fit_undefined p)

  pub fit_declare_plain : {ctx : EarlyContext} (env : Env) (p : Place) (k : DeclarationKind) (t : PatternLayer) → At ctx env p → FitAll p (statements.declare_plain_at b env k t)
  fit_declare_plain env p k (Pattern-F.Bound i) at = init_by env p (is_var k) i.name at
  fit_declare_plain env p k (Pattern-F.Target e) at = nowhere p
  fit_declare_plain env p k (Pattern-F.ObjectPattern place fs r) at = nowhere p
  fit_declare_plain env p k (Pattern-F.ArrayPattern place es r) at = nowhere p

  pub fit_declare_value : {ctx : EarlyContext} {kl : List EarlyLabel} (env : Env) (p : Place) (k : DeclarationKind) (t : Pattern) (e : Expr) (l : PatternLayer) → At ctx env p → L ctx kl (PatternPart false t) → LE ctx kl e
      → Fit p (statements.declare_value_at b env k t e l)
  fit_declare_value env p k t e (Pattern-F.Bound i) at x y = fit_set env p (is_var k) i.name _ at (h.expr env p i.name e at y)
  fit_declare_value env p k t e (Pattern-F.Target s) at x y = h.bind env p (is_var k) (Valued e) false t at (from_value e y) x
  fit_declare_value env p k t e (Pattern-F.ObjectPattern place fs r) at x y = h.bind env p (is_var k) (Valued e) false t at (from_value e y) x
  fit_declare_value env p k t e (Pattern-F.ArrayPattern place es r) at x y = h.bind env p (is_var k) (Valued e) false t at (from_value e y) x

  pub declare_by : {ctx : EarlyContext} {kl : List EarlyLabel} (env : Env) (p : Place) (k : DeclarationKind) (t : Pattern) (o : Option Expr) → At ctx env p → AreSound ctx kl (PatternPart false t ∷ from_option walk.operand o)
      → FitAll p (statements.declare_as b env k t o)
  declare_by env p k t None at x = fit_declare_plain env p k (out-Pattern t) at
  declare_by env p k t (Some e) at x = fit_declare_value env p k t e (out-Pattern t) at (first _ _ x) (behind _ _ x)

  pub fit_declaration : {ctx : EarlyContext} {kl : List EarlyLabel} (env : Env) (p : Place) (d : Declaration) → At ctx env p → AreSound ctx kl (walk.declaration d) → FitAll p (statements.declaration b env d)
  fit_declaration env p d at x =
      fit_flat p (statements.declare b env (out-Declaration d).kind) (walk.element false)
      (λ e y. declare_by env p (out-Declaration d).kind (out-PatternElement e).pattern (out-PatternElement e).default at y) (out-Declaration d).declarators x

  pub class_by : {ctx : EarlyContext} {kl : List EarlyLabel} (env : Env) (p : Place) (c : Class) (o : Option Identifier) → At ctx env p → L ctx kl (ClassPart c) → Fit p (statements.class_as b env c o)
  class_by env p c None at x = fit_class_term b h env p [] c at x
  class_by env p c (Some i) at x = fit_init_name env p i.name _ at (fit_named_class b h env p i.name c at x)

  pub declared_kind : (ctx : EarlyContext) (p : Place) (k : FunctionKind) → is_declared_kind k ≡ true → KindAt (function_context ctx false k) template.Plain p
  declared_kind ctx p kind.Plain e = record { property = λ x. cc; call = λ x. cc }
  declared_kind ctx p kind.Arrow e = cc
  declared_kind ctx p kind.Method e = cc
  declared_kind ctx p kind.Getter e = cc
  declared_kind ctx p kind.Setter e = cc

  pub hoisted_by : {ctx : EarlyContext} {kl : List EarlyLabel} (env : Env) (p : Place) (f : Function) (o : Option Identifier) → At ctx env p → is_declared_kind (out-Function f).kind ≡ true
      → L ctx kl (FunctionPart false f) → FitAll p (statements.hoisted_as b env f o)
  hoisted_by env p f None at e x = nowhere p
  hoisted_by {ctx} {kl} env p f (Some i) at e x =
      fit_init_name env p i.name _ at (fit_func p _ (h.template env p template.Plain i.name false f at refl (declared_kind ctx p (out-Function f).kind e) x))

  pub fit_hoisted_at : {ctx : EarlyContext} (kl : List EarlyLabel) {more : List EarlyLabel} (env : Env) (p : Place) (l : StmtLayer) → At ctx env p → statement_sound ctx kl l ≡ true
      → AreSound ctx more (walk.statement_parts_at l) → FitAll p (statements.hoisted_at b env l)
  fit_hoisted_at kl env p (Stmt-F.FunctionDeclaration f) at e x = hoisted_by env p f (out-Function f).name at e x
  fit_hoisted_at kl env p (Stmt-F.Declare d) at e x = nowhere p
  fit_hoisted_at kl env p (Stmt-F.ClassDeclaration c) at e x = nowhere p
  fit_hoisted_at kl env p (Stmt-F.Expression v) at e x = nowhere p
  fit_hoisted_at kl env p (Stmt-F.Block place l) at e x = nowhere p
  fit_hoisted_at kl env p (Stmt-F.Empty place) at e x = nowhere p
  fit_hoisted_at kl env p (Stmt-F.If place t a c) at e x = nowhere p
  fit_hoisted_at kl env p (Stmt-F.While place t s) at e x = nowhere p
  fit_hoisted_at kl env p (Stmt-F.DoWhile place s t) at e x = nowhere p
  fit_hoisted_at kl env p (Stmt-F.For place i t u s) at e x = nowhere p
  fit_hoisted_at kl env p (Stmt-F.ForOf place t v s) at e x = nowhere p
  fit_hoisted_at kl env p (Stmt-F.ForIn place t v s) at e x = nowhere p
  fit_hoisted_at kl env p (Stmt-F.Continue place l) at e x = nowhere p
  fit_hoisted_at kl env p (Stmt-F.Break place l) at e x = nowhere p
  fit_hoisted_at kl env p (Stmt-F.Return place v) at e x = nowhere p
  fit_hoisted_at kl env p (Stmt-F.Throw place v) at e x = nowhere p
  fit_hoisted_at kl env p (Stmt-F.Switch place v cs) at e x = nowhere p
  fit_hoisted_at kl env p (Stmt-F.Try place l k f) at e x = nowhere p
  fit_hoisted_at kl env p (Stmt-F.Labelled i s) at e x = nowhere p
  fit_hoisted_at kl env p (Stmt-F.Debugger place) at e x = nowhere p

  pub fit_hoisted : {ctx : EarlyContext} {kl : List EarlyLabel} (env : Env) (p : Place) (l : List Stmt) → At ctx env p → AreSound ctx kl (flat walk.statement l) → FitAll p (flat (statements.hoisted b env) l)
  fit_hoisted {ctx} {kl} env p l at x = fit_flat p (statements.hoisted b env) walk.statement (λ s y. fit_hoisted_at kl env p (out-Stmt s) at (has (StatementPart s) y) (below (StatementPart s) y)) l x

  pub fit_statements : {ctx : EarlyContext} {kl : List EarlyLabel} (env : Env) (p : Place) (l : List Stmt) → At ctx env p → Jumps ctx kl p → AreSound ctx kl (flat walk.statement l) → FitAll p (flat (statements.stmt b env) l)
  fit_statements env p l at j x = fit_flat p (statements.stmt b env) walk.statement (λ s y. fit_stmt env p s at j y) l x

  pub fit_list_of : {ctx : EarlyContext} {kl : List EarlyLabel} (env : Env) (p : Place) (l : List Stmt) → At ctx env p → Jumps ctx kl p → AreSound ctx kl (flat walk.statement l) → FitAll p (statements.list b env l)
  fit_list_of env p l at j x = joined p (flat (statements.hoisted b env) l) (flat (statements.stmt b env) l) (fit_hoisted env p l at x) (fit_statements env p l at j x)

  -- BLOCKS

  pub block_by : {ctx : EarlyContext} {kl : List EarlyLabel} (env : Env) (p : Place) (l : List Stmt) (frame : Frame) (s : Bool) → is_plain frame ≡ true → At ctx env p → Jumps ctx kl p → AreSound ctx kl (flat walk.statement l)
      → Fit p (cond s (form.Seq (statements.list b env l)) (values.scope_of (length frame) (statements.list b (frame ∷ env) l)))
  block_by env p l frame true pl at j x = fit_seq p _ (fit_list_of env p l at j x)
  block_by env p l frame false pl at j x = fit_scope_of p (length frame) _ (fit_list_of (frame ∷ env) (InScope (length frame) ∷ p) l (opened env p frame pl at) j x)

  pub fit_block : {ctx : EarlyContext} {kl : List EarlyLabel} (env : Env) (p : Place) (l : List Stmt) → At ctx env p → Jumps ctx kl p → L ctx kl (BlockPart l) → Fit p (statements.block b env l)
  fit_block env p l at j x = block_by env p l (statements.block_frame l) (length (statements.block_frame l) == 0) (block_plain l) at j (below (BlockPart l) x)
