-- The terms of loops are valid.
use Rattle.std.proofs.Common.{◌≡◌, ℕ, ◌+◌, Bool, true, false, cond, nat_lt, List, [], ◌∷◌, ◌++◌, length, codes, Option, Some, None, refl, arith}
use Rattle.std.specs.Option.{option_map}
use Rattle.js_tree.specs.Layers.{ForInitLayer, ForTargetLayer}
use Rattle.js_tree.specs.declared.tree.Argument.TheOpen.{ForInit-F, ForTarget-F}
use Rattle.js_tree.specs.declared.operator.BinaryOperator.TheVariants as op
use Rattle.js_tree.specs.declared.tree.Declaration.{Declaration, out-Declaration}
use Rattle.js_tree.specs.declared.tree.Expr.{Expr}
use Rattle.js_tree.specs.declared.tree.ForTarget.{ForTarget, out-ForTarget}
use Rattle.js_tree.specs.declared.tree.Stmt.{Stmt}
use Rattle.js_term.specs.declared.term.Term.{Term}
use Rattle.js_names.specs.Lists.{from_option}
use Rattle.js_names.specs.Names.{is_var}
use Rattle.js_frames.specs.Frames.{Env}
use Rattle.js_walk.specs.Parts as walk
use Rattle.js_walk.specs.Parts.{TreePart, BlockPart, CasesPart, CatchPart, ClassPart, EachPart, ExpressionPart, FunctionPart, HeadPart, LoopPart, PatternPart, StatementPart}
use Rattle.js_lower_table.specs.Entries.{Below, Current}
use Rattle.js_lower_table.specs.Expressions as expressions
use Rattle.js_lower_table.specs.Statements as statements
use Rattle.js_lower_table.specs.Values as values
use Rattle.js_lower_table.specs.Values.{Name}
use Rattle.js_lower_table.specs.declared.commons.TheConstants.{FOR_IN, OPEN}
use Rattle.js_lower_table.specs.declared.held.Held.{Held}
use Rattle.js_early.specs.Contexts.{loop_context}
use Rattle.js_early.specs.declared.context.EarlyContext.{EarlyContext}
use Rattle.js_early.specs.declared.context.EarlyLabel.{EarlyLabel}
use Rattle.js_valid.specs.Inner as inner
use Rattle.js_valid.specs.Surroundings.{Place, InLoop, InScope, open_scopes}
use Rattle.js_valid.specs.Valid.{Everywhere, stands, nowhere}
use Rattle.js_lower_laws.specs.Sound.{AreSound}
use Rattle.js_lower_laws.proofs.Forms.{Fit, FitAll, entering, fit_binary, fit_fresh, fit_get, fit_if, fit_loop, fit_seq, joined, three, two}
use Rattle.js_lower_laws.proofs.Linked.{L, LE, behind, below, first, left, right}
use Rattle.js_lower_laws.proofs.Lowering.{Jumps, Lowers, from_current, in_loop_at}
use Rattle.js_lower_laws.proofs.Literals.{fit_expr}
use Rattle.js_lower_laws.proofs.Bindings.{next_of, one_more}
use Rattle.js_lower_laws.proofs.Names.{fit_call_common, fit_call_name, fit_guard, fit_here, fit_init_here, fit_scope_of, fit_text, fit_truth, for_in_fits, open_fits}
use Rattle.js_lower_laws.proofs.Scopes.{At, IsHeld, hidden, older, opened}
use Rattle.js_lower_laws.proofs.Labels.{for_plain_frame, target_plain_at}
use Rattle.js_lower_laws.proofs.Blocks.{fit_declaration, fit_one, loop_body}

module _ (b : Below) (h : Lowers b) where
  -- LOOPS

  pub fit_test : {ctx : EarlyContext} {kl : List EarlyLabel} (env : Env) (p : Place) (o : Option Expr) → At ctx env p → AreSound ctx kl (from_option walk.operand o) → Fit p (statements.test_term b env o)
  fit_test env p None at x = fit_truth p true
  fit_test env p (Some e) at x = fit_expr b h env p e at x

  pub fit_update_list : {ctx : EarlyContext} {kl : List EarlyLabel} (env : Env) (p : Place) (n : ℕ) (ls : List Name) (o : Option Expr) → At ctx env (InScope n ∷ p) → AreSound ctx kl (from_option walk.operand o)
      → FitAll (InLoop ls ∷ InScope n ∷ p) (statements.update_list b env o)
  fit_update_list env p n ls None at x = fit_fresh (InLoop ls ∷ InScope n ∷ p) refl
  fit_update_list env p n ls (Some e) at x =
      let q = InLoop ls ∷ InScope n ∷ p in
      two q _ _ (fit_fresh q refl) (fit_expr b h env q e at x)

  pub update_by : {ctx : EarlyContext} {kl : List EarlyLabel} (env : Env) (p : Place) (ls : List Name) (o : Option Expr) → At ctx env p → AreSound ctx kl (from_option walk.operand o)
      → Everywhere stands p (inner.maybe_within (InLoop ls) (option_map (expressions.expr b env) o))
  update_by env p ls None at x = nowhere p
  update_by env p ls (Some e) at x = entering p (InLoop ls) _ (fit_expr b h env (InLoop ls ∷ p) e at x)

  abbrev pub ForRest : Option Expr → Option Expr → Stmt → List TreePart
  ForRest t u s = from_option walk.operand t ++ (from_option walk.operand u ++ LoopPart s ∷ [])

  pub fit_plain_loop : {ctx : EarlyContext} {kl : List EarlyLabel} (env : Env) (p : Place) (labels : List Name) (t u : Option Expr) (s : Stmt) → At ctx env p → Jumps (loop_context ctx) kl (InLoop ([] ∷ labels) ∷ p) → AreSound ctx kl (ForRest t u s)
      → Fit p (statements.plain_loop b env labels t u s)
  fit_plain_loop env p labels t u s at j x =
      let y = right (from_option walk.operand t) _ x in
      fit_loop p ([] ∷ labels) true _ _ _ (fit_test env (InLoop ([] ∷ labels) ∷ p) t at (left (from_option walk.operand t) _ x))
      (update_by env p ([] ∷ labels) u at (left (from_option walk.operand u) _ y))
      (fit_one b h env (InLoop ([] ∷ labels) ∷ p) s (in_loop_at env p at) j (loop_body b h s (right (from_option walk.operand u) _ y)))

  pub fit_fresh_loop : {ctx : EarlyContext} {kl : List EarlyLabel} (env : Env) (p : Place) (n : ℕ) (labels : List Name) (t u : Option Expr) (s : Stmt) → At ctx env (InScope n ∷ p) → Jumps (loop_context ctx) kl (InLoop ([] ∷ labels) ∷ p) → AreSound ctx kl (ForRest t u s)
      → Fit (InScope n ∷ p) (statements.fresh_loop b env labels t u s)
  fit_fresh_loop env p n labels t u s at j x =
      let q = InScope n ∷ p in
      let y = right (from_option walk.operand t) _ x in
      fit_loop q ([] ∷ labels) true _ (Some _) _ (fit_test env (InLoop ([] ∷ labels) ∷ q) t at (left (from_option walk.operand t) _ x))
      (entering q (InLoop ([] ∷ labels)) _ (fit_seq (InLoop ([] ∷ labels) ∷ q) _ (fit_update_list env p n ([] ∷ labels) u at (left (from_option walk.operand u) _ y))))
      (fit_one b h env (InLoop ([] ∷ labels) ∷ q) s (in_loop_at env q at) j (loop_body b h s (right (from_option walk.operand u) _ y)))

  pub fit_for_lexical : {ctx : EarlyContext} {kl : List EarlyLabel} (env : Env) (p : Place) (labels : List Name) (d : Declaration) (t u : Option Expr) (s : Stmt) → At ctx env p → Jumps (loop_context ctx) kl (InLoop ([] ∷ labels) ∷ p) → AreSound ctx kl (walk.declaration d)
      → AreSound ctx kl (ForRest t u s) → Fit p (statements.for_lexical b env labels d t u s)
  fit_for_lexical env p labels d t u s at j x y =
      let frame = statements.for_frame d in
      let q = InScope (length frame) ∷ p in
      let further = opened env p frame (for_plain_frame d) at in
      fit_scope_of p (length frame) _
      (joined q (statements.declaration b (frame ∷ env) d) _ (fit_declaration b h (frame ∷ env) q d further x)
      (two q _ _ (fit_fresh q refl) (fit_fresh_loop (frame ∷ env) p (length frame) labels t u s further j y)))

  pub fit_for_plain : {ctx : EarlyContext} {kl : List EarlyLabel} (env : Env) (p : Place) (labels : List Name) (inits : List Term) (t u : Option Expr) (s : Stmt) → At ctx env p → Jumps (loop_context ctx) kl (InLoop ([] ∷ labels) ∷ p) → FitAll p inits
      → AreSound ctx kl (ForRest t u s) → Fit p (statements.for_plain b env labels inits t u s)
  fit_for_plain env p labels inits t u s at j x y = fit_seq p _ (joined p inits _ x (fit_plain_loop env p labels t u s at j y))

  pub declared_by : {ctx : EarlyContext} {kl : List EarlyLabel} (env : Env) (p : Place) (labels : List Name) (d : Declaration) (t u : Option Expr) (s : Stmt) (v : Bool) → At ctx env p → Jumps (loop_context ctx) kl (InLoop ([] ∷ labels) ∷ p) → AreSound ctx kl (walk.declaration d)
      → AreSound ctx kl (ForRest t u s) → Fit p (cond v (statements.for_plain b env labels (statements.declaration b env d) t u s) (statements.for_lexical b env labels d t u s))
  declared_by env p labels d t u s true at j x y = fit_for_plain env p labels _ t u s at j (fit_declaration b h env p d at x) y
  declared_by env p labels d t u s false at j x y = fit_for_lexical env p labels d t u s at j x y

  pub fit_for_at : {ctx : EarlyContext} {kl : List EarlyLabel} (env : Env) (p : Place) (labels : List Name) (t u : Option Expr) (s : Stmt) (i : ForInitLayer) → At ctx env p → Jumps (loop_context ctx) kl (InLoop ([] ∷ labels) ∷ p) → AreSound ctx kl (walk.for_init_at i ++ ForRest t u s)
      → Fit p (statements.for_at b env labels t u s i)
  fit_for_at env p labels t u s ForInit-F.NoInit at j x = fit_for_plain env p labels [] t u s at j (nowhere p) x
  fit_for_at env p labels t u s (ForInit-F.InitDeclaration d) at j x =
      declared_by env p labels d t u s (is_var (out-Declaration d).kind) at j (left (walk.declaration d) _ x) (right (walk.declaration d) _ x)
  fit_for_at env p labels t u s (ForInit-F.InitExpression e) at j x = fit_for_plain env p labels (expressions.expr b env e ∷ []) t u s at j (fit_expr b h env p e at (first _ _ x)) (behind _ _ x)

  -- the parts of a for-in or for-of loop
  pub record Each (ctx : EarlyContext) (kl : List EarlyLabel) (t : ForTargetLayer) (e : Expr) (s : Stmt) : Type 0 where
    pub way : Bool
    pub target : L ctx kl (PatternPart way (statements.target_pattern_at t))
    pub value : LE ctx kl e
    pub turn : L (loop_context ctx) kl (StatementPart s)

  pub each_of : {ctx : EarlyContext} {kl : List EarlyLabel} (t : ForTargetLayer) (e : Expr) (s : Stmt) → AreSound ctx kl (walk.for_each_at t e s) → Each ctx kl t e s
  each_of (ForTarget-F.ForBinding k p) e s x = record {
    way = false;
    target = below (HeadPart k p) (first _ _ x);
    value = first _ _ (behind _ _ x);
    turn = loop_body b h s (below (EachPart k p s) (behind _ _ (behind _ _ x)));
  }
  each_of (ForTarget-F.ForAssignment p) e s x = record {
    way = true;
    target = first _ _ x;
    value = first _ _ (behind _ _ x);
    turn = loop_body b h s (behind _ _ (behind _ _ x));
  }

  pub fit_turn : {ctx : EarlyContext} {kl : List EarlyLabel} (env : Env) (p : Place) (it : Held) (t : ForTarget) (e : Expr) (s : Stmt) → At ctx env p → Jumps (loop_context ctx) kl p → IsHeld (open_scopes p) it → Each ctx kl (out-ForTarget t) e s
      → Fit p (statements.turn b env it t s)
  fit_turn env p it t e s at j x each =
      let frame = statements.target_frame t in
      let q = InScope (length frame) ∷ p in
      let further = opened env p frame (target_plain_at (out-ForTarget t)) at in
      fit_scope_of p (length frame) _
      (two q _ _
      (h.bind (frame ∷ env) q (statements.target_assigned t) (Current it) each.way (statements.target_pattern t) further
      (from_current it (older (length frame) (open_scopes p) it x)) each.target)
      (fit_one b h (frame ∷ env) q s (in_loop_at (frame ∷ env) q further) j each.turn))

  pub fit_more : (p : Place) (n : ℕ) (ls : List Name) → nat_lt 0 n ≡ true → Fit (InLoop ls ∷ InScope n ∷ p) statements.more
  fit_more p n ls some = fit_call_name (InLoop ls ∷ InScope n ∷ p) _ (codes "more") (fit_here (InLoop ls ∷ InScope n ∷ p) 0 some)

  pub fit_for_of : {ctx : EarlyContext} {kl : List EarlyLabel} (env : Env) (p : Place) (labels : List Name) (t : ForTarget) (e : Expr) (s : Stmt) → At ctx env p → Jumps (loop_context ctx) kl (InLoop ([] ∷ labels) ∷ p) → Each ctx kl (out-ForTarget t) e s
      → Fit p (statements.for_of b env labels t e s)
  fit_for_of env p labels t e s at j each =
      let q = InScope 1 ∷ p in
      let further = hidden env p 1 at in
      let it : IsHeld (open_scopes q) (values.next_held env 0) = next_of env p 1 (omega arith) at in
      fit_scope_of p 1 _
      (two q _ _ (fit_init_here q 0 _ refl (fit_call_common q OPEN _ open_fits (fit_expr b h ([] ∷ env) q e further each.value)))
      (fit_guard q (length env + 1) (values.next_held env 0) _ (one_more env p 1 at) it (older 1 (open_scopes q) (values.next_held env 0) it)
      (fit_loop q ([] ∷ labels) true _ None _ (fit_more p 1 ([] ∷ labels) refl) (nowhere q)
      (fit_turn ([] ∷ env) (InLoop ([] ∷ labels) ∷ q) (values.next_held env 0) t e s further j it each))))

  pub fit_still_there : (p : Place) (ls : List Name) (t : Term) → Fit (InLoop ls ∷ InScope 2 ∷ p) t → Fit (InLoop ls ∷ InScope 2 ∷ p) (statements.still_there b t)
  fit_still_there p ls t x =
      let q = InLoop ls ∷ InScope 2 ∷ p in
      fit_if q _ _ None (fit_binary q op.In _ _ (fit_get q _ _ (fit_here q 0 refl) (fit_text q (codes "value"))) (fit_here q 1 refl)) x (nowhere q)

  pub fit_for_in : {ctx : EarlyContext} {kl : List EarlyLabel} (env : Env) (p : Place) (labels : List Name) (t : ForTarget) (e : Expr) (s : Stmt) → At ctx env p → Jumps (loop_context ctx) kl (InLoop ([] ∷ labels) ∷ p) → Each ctx kl (out-ForTarget t) e s
      → Fit p (statements.for_in b env labels t e s)
  fit_for_in env p labels t e s at j each =
      let q = InScope 2 ∷ p in
      let further = hidden env p 2 at in
      let it : IsHeld (open_scopes q) (values.next_held env 0) = next_of env p 2 (omega arith) at in
      let keys : Fit q (statements.open_keys b) = fit_call_common q OPEN _ open_fits (fit_call_common q FOR_IN _ for_in_fits (fit_here q 1 refl)) in
      fit_scope_of p 2 _
      (three q _ _ _ (fit_init_here q 1 _ refl (fit_expr b h ([] ∷ env) q e further each.value)) (fit_init_here q 0 _ refl keys)
      (fit_guard q (length env + 1) (values.next_held env 0) _ (one_more env p 2 at) it (older 1 (open_scopes q) (values.next_held env 0) it)
      (fit_loop q ([] ∷ labels) true _ None _ (fit_more p 2 ([] ∷ labels) refl) (nowhere q)
      (fit_still_there p ([] ∷ labels) _ (fit_turn ([] ∷ env) (InLoop ([] ∷ labels) ∷ q) (values.next_held env 0) t e s further j it each)))))
