-- The terms of all statements are valid.
use Rattle.std.proofs.Common.{◌≡◌, ℕ, negsuc, ◌+◌, ◌≤◌, Bool, true, false, cond, List, [], ◌∷◌, ◌++◌, length, Option, Some, None, refl, ap, ◌||◌, ◌∙◌, arith}
use Rattle.std.specs.Option.{option_map}
use Rattle.std.proofs.lemmas.Bool.{lt-ltb}
use Rattle.js_tree.specs.Layers.{PatternLayer, StmtLayer}
use Rattle.js_tree.specs.declared.tree.Argument.TheOpen.{Pattern-F, Stmt-F}
use Rattle.js_tree.specs.declared.tree.Catch.{Catch, out-Catch}
use Rattle.js_tree.specs.declared.tree.Class.{out-Class}
use Rattle.js_tree.specs.declared.tree.Clause.{Clause, out-Clause}
use Rattle.js_tree.specs.declared.tree.Expr.{Expr}
use Rattle.js_tree.specs.declared.tree.ForInit.{out-ForInit}
use Rattle.js_tree.specs.declared.tree.ForTarget.{out-ForTarget}
use Rattle.js_tree.specs.declared.tree.Identifier.{Identifier}
use Rattle.js_tree.specs.declared.tree.Pattern.{Pattern, out-Pattern}
use Rattle.js_tree.specs.declared.tree.Stmt.{Stmt, out-Stmt}
use Rattle.js_term.specs.declared.term.Jump.TheVariants as jumps
use Rattle.js_term.specs.declared.term.Term.TheVariants as form
use Rattle.js_names.specs.Lists.{flat, from_option}
use Rattle.js_frames.specs.Frames.{Env, Frame}
use Rattle.js_walk.specs.Parts as walk
use Rattle.js_walk.specs.Parts.{TreePart, BlockPart, CasesPart, CatchPart, ClassPart, EachPart, ExpressionPart, FunctionPart, HeadPart, LoopPart, PatternPart, StatementPart}
use Rattle.js_lower_table.specs.Entries.{Below, InSlot}
use Rattle.js_lower_table.specs.Expressions as expressions
use Rattle.js_lower_table.specs.Statements as statements
use Rattle.js_lower_table.specs.Values as values
use Rattle.js_lower_table.specs.Values.{Name}
use Rattle.js_early.specs.Contexts.{is_loop, label_at, loop_context, with_label}
use Rattle.js_early.specs.declared.context.EarlyContext.{EarlyContext}
use Rattle.js_early.specs.declared.context.EarlyLabel.{EarlyLabel}
use Rattle.js_valid.specs.Inner as inner
use Rattle.js_valid.specs.Surroundings.{Place, BreakTarget, ContinueTarget, InHandler, InLabel, InLoop, InScope, first_answer, has_text, is_slot, open_scopes}
use Rattle.js_valid.specs.Valid.{Everywhere, stands, nowhere}
use Rattle.js_lower_laws.specs.Sound.{AreSound, break_sound, continue_sound, statement_sound}
use Rattle.js_lower_laws.proofs.Forms.{Fit, FitAll, also, entering, fit_break, fit_continue, fit_if, fit_label, fit_loop, fit_return, fit_seq, fit_throw, fit_try, joined, two}
use Rattle.js_lower_laws.proofs.Linked.{L, LE, behind, below, first, has, left, right}
use Rattle.js_lower_laws.proofs.Lowering.{Jumps, is_nil, Lowers, Pending, fit_flat, from_slot, in_loop_at, in_switch_at, looped, plain_jumps, switched}
use Rattle.js_lower_laws.proofs.Literals.{fit_expr}
use Rattle.js_lower_laws.proofs.Bindings.{next_of}
use Rattle.js_lower_laws.proofs.Names.{fit_init_here, fit_integer, fit_scope_of}
use Rattle.js_lower_laws.proofs.Scopes.{At, IsHeld, hidden, is_plain, older, one_open, opened}
use Rattle.js_lower_laws.proofs.Labels.{at_within, break_still, break_within, catch_plain, fit_case, fit_clause, fit_default, fit_label_all, label_here, labels_grow, loop_behind, loop_labels_grow, no_loop, same_continue, switch_plain, switch_slots, within_labels, without}
use Rattle.js_lower_laws.proofs.Blocks.{class_by, fit_block, fit_declaration, fit_hoisted, fit_one, fit_statements, loop_body}
use Rattle.js_lower_laws.proofs.Loops.{each_of, fit_for_at, fit_for_in, fit_for_of}

module _ (b : Below) (h : Lowers b) where
  -- SWITCH

  clause_test : {ctx : EarlyContext} {kl : List EarlyLabel} (c : Clause) → AreSound ctx kl (walk.clause c) → AreSound ctx kl (from_option walk.operand (out-Clause c).test)
  clause_test c x = left (from_option walk.operand (out-Clause c).test) _ x

  clause_body : {ctx : EarlyContext} {kl : List EarlyLabel} (c : Clause) → AreSound ctx kl (walk.clause c) → AreSound ctx kl (flat walk.statement (out-Clause c).body)
  clause_body c x = right (from_option walk.operand (out-Clause c).test) _ x

  case_by : {ctx : EarlyContext} {kl : List EarlyLabel} (env : Env) (p : Place) (i : ℕ) (o : Option Expr) → At ctx env p → is_slot p 0 0 ≡ true → is_slot p 0 1 ≡ true → AreSound ctx kl (from_option walk.operand o)
      → FitAll p (statements.case_test_as b env i o)
  case_by env p i None at zero_there one x = nowhere p
  case_by env p i (Some e) at zero_there one x = fit_case p i _ zero_there one (fit_expr b h env p e at x)

  fit_case_tests : {ctx : EarlyContext} {kl : List EarlyLabel} (env : Env) (p : Place) (i : ℕ) (cs : List Clause) → At ctx env p → is_slot p 0 0 ≡ true → is_slot p 0 1 ≡ true → AreSound ctx kl (flat walk.clause cs)
      → FitAll p (statements.case_tests b env i cs)
  fit_case_tests env p i [] at zero_there one x = nowhere p
  fit_case_tests env p i (c ∷ cs) at zero_there one x =
      joined p (statements.case_test_as b env i (out-Clause c).test) (statements.case_tests b env (i + 1) cs)
      (case_by env p i (out-Clause c).test at zero_there one (clause_test c (left (walk.clause c) (flat walk.clause cs) x)))
      (fit_case_tests env p (i + 1) cs at zero_there one (right (walk.clause c) (flat walk.clause cs) x))

  fit_clause_bodies : {ctx : EarlyContext} {kl : List EarlyLabel} (env : Env) (p : Place) (i : ℕ) (cs : List Clause) → At ctx env p → Jumps ctx kl p → is_slot p 0 1 ≡ true → AreSound ctx kl (flat walk.clause cs)
      → FitAll p (statements.clause_bodies b env i cs)
  fit_clause_bodies env p i [] at j one x = nowhere p
  fit_clause_bodies env p i (c ∷ cs) at j one x =
      also p _ _ (fit_clause p i _ one (fit_statements b h env p (out-Clause c).body at j (clause_body c (left (walk.clause c) (flat walk.clause cs) x))))
      (fit_clause_bodies env p (i + 1) cs at j one (right (walk.clause c) (flat walk.clause cs) x))

  fit_switch_clauses : {ctx : EarlyContext} {kl : List EarlyLabel} (env : Env) (p : Place) (cs : List Clause) → At ctx env p → Jumps ctx kl p → is_slot p 0 0 ≡ true → is_slot p 0 1 ≡ true → AreSound ctx kl (flat walk.clause cs)
      → FitAll p (statements.switch_clauses b env cs)
  fit_switch_clauses env p cs at j zero_there one x =
      joined p (flat (statements.clause_hoisted b env) cs) _
      (fit_flat p (statements.clause_hoisted b env) walk.clause (λ c y. fit_hoisted b h env p (out-Clause c).body at (clause_body c y)) cs x)
      (joined p (statements.case_tests b env 0 cs) _ (fit_case_tests env p 0 cs at zero_there one x)
      (also p _ _ (fit_default p (statements.default_from 0 cs) one) (fit_clause_bodies env p 0 cs at j one x)))

  fit_switch : {ctx : EarlyContext} {kl : List EarlyLabel} (env : Env) (p : Place) (e : Expr) (cs : List Clause) → At ctx env p → Jumps ctx kl p → LE ctx kl e → L ctx kl (CasesPart cs) → Fit p (statements.switch b env e cs)
  fit_switch env p e cs at j x y =
      let frame = statements.switch_frame cs in
      let outer = InLabel [] ∷ p in
      let q = InScope (length frame) ∷ outer in
      let many : 2 ≤ length frame = switch_slots cs in
      let zero_there : is_slot q 0 0 ≡ true = lt-ltb 0 (length frame) (omega (arith, many)) in
      let one : is_slot q 0 1 ≡ true = lt-ltb 1 (length frame) (omega (arith, many)) in
      fit_label p [] _
      (fit_scope_of outer (length frame) _
      (joined q (values.init_here 0 _ ∷ values.init_here 1 (values.integer (negsuc 0)) ∷ []) _
      (two q _ _ (fit_init_here q 0 _ zero_there (fit_expr b h ([] ∷ env) q e (hidden env outer (length frame) at) x))
      (fit_init_here q 1 _ one (fit_integer q (negsuc 0))))
      (fit_switch_clauses (frame ∷ env) q cs (opened env outer frame (switch_plain cs) (in_switch_at env outer at)) (switched p j) zero_there one (below (CasesPart cs) y))))

  -- TRY

  caught : {ctx : EarlyContext} (env : Env) (p : Place) (f : Frame) → is_plain f ≡ true → length f ≤ 1 → At ctx env p → At ctx (f ∷ env) (InHandler ∷ p)
  caught env p f pl w at = (one_open f 1 env (open_scopes p) pl w at.0, at.1)

  fit_catch_pattern : {ctx : EarlyContext} {kl : List EarlyLabel} (env : Env) (p : Place) (t : Pattern) (l : List Stmt) → At ctx env p → Jumps ctx kl p → L ctx kl (PatternPart false t) → L ctx kl (BlockPart l)
      → Fit (InHandler ∷ p) (statements.catch_pattern b env t l)
  fit_catch_pattern env p t l at j x y =
      let frame = statements.catch_frame t in
      let outer = InHandler ∷ p in
      let q = InScope (length frame) ∷ outer in
      let further = opened ([] ∷ env) outer frame (catch_plain t) (caught env p [] refl (omega arith) at) in
      let thrown : IsHeld (1 ∷ open_scopes p) (values.next_held env 0) = next_of env p 1 (omega arith) at in
      fit_scope_of outer (length frame) _
      (two q _ _
      (h.bind (frame ∷ [] ∷ env) q false (InSlot (values.next_held env 0)) false t further
      (from_slot _ (older (length frame) (1 ∷ open_scopes p) (values.next_held env 0) thrown)) x)
      (fit_block b h (frame ∷ [] ∷ env) q l further j y))

  fit_catch_at : {ctx : EarlyContext} {kl : List EarlyLabel} (env : Env) (p : Place) (t : Pattern) (l : List Stmt) (k : PatternLayer) → At ctx env p → Jumps ctx kl p → L ctx kl (PatternPart false t) → L ctx kl (BlockPart l)
      → Fit (InHandler ∷ p) (statements.catch_at b env t l k)
  fit_catch_at env p t l (Pattern-F.Bound i) at j x y =
      fit_block b h ((statements.variable_slot i.name ∷ []) ∷ env) (InHandler ∷ p) l (caught env p (statements.variable_slot i.name ∷ []) refl (omega arith) at) j y
  fit_catch_at env p t l (Pattern-F.Target e) at j x y = fit_catch_pattern env p t l at j x y
  fit_catch_at env p t l (Pattern-F.ObjectPattern place fs r) at j x y = fit_catch_pattern env p t l at j x y
  fit_catch_at env p t l (Pattern-F.ArrayPattern place es r) at j x y = fit_catch_pattern env p t l at j x y

  catch_by : {ctx : EarlyContext} {kl : List EarlyLabel} (env : Env) (p : Place) (o : Option Pattern) (l : List Stmt) → At ctx env p → Jumps ctx kl p → AreSound ctx kl (from_option (walk.pattern false) o ++ BlockPart l ∷ [])
      → Fit (InHandler ∷ p) (statements.catch_as b env o l)
  catch_by env p None l at j x = fit_block b h ([] ∷ env) (InHandler ∷ p) l (caught env p [] refl (omega arith) at) j x
  catch_by env p (Some t) l at j x = fit_catch_at env p t l (out-Pattern t) at j (first _ _ x) (behind _ _ x)

  handler_by : {ctx : EarlyContext} {kl : List EarlyLabel} (env : Env) (p : Place) (o : Option Catch) → At ctx env p → Jumps ctx kl p → AreSound ctx kl (from_option walk.handler o)
      → Everywhere stands p (inner.maybe_within InHandler (option_map (statements.catch b env) o))
  handler_by env p None at j x = nowhere p
  handler_by env p (Some c) at j x = entering p InHandler _ (catch_by env p (out-Catch c).parameter (out-Catch c).body at j (below (CatchPart c) x))

  finalizer_by : {ctx : EarlyContext} {kl : List EarlyLabel} (env : Env) (p : Place) (o : Option (List Stmt)) → At ctx env p → Jumps ctx kl p → AreSound ctx kl (from_option walk.block o)
      → Everywhere stands p (inner.maybe_term (option_map (statements.block b env) o))
  finalizer_by env p None at j x = nowhere p
  finalizer_by env p (Some l) at j x = fit_block b h env p l at j x

  fit_try_term : {ctx : EarlyContext} {kl : List EarlyLabel} (env : Env) (p : Place) (l : List Stmt) (k : Option Catch) (f : Option (List Stmt)) → At ctx env p → Jumps ctx kl p → AreSound ctx kl (walk.try_parts l k f)
      → Fit p (statements.try_term b env l k f)
  fit_try_term env p l k f at j x =
      let y = behind _ _ x in
      fit_try p _ _ _ (fit_block b h env p l at j (first _ _ x)) (handler_by env p k at j (left (from_option walk.handler k) (from_option walk.block f) y))
      (finalizer_by env p f at j (right (from_option walk.handler k) (from_option walk.block f) y))

  -- LABELS

  labelled_by : {ctx : EarlyContext} {kl : List EarlyLabel} (env : Env) (p : Place) (labels : List Name) (whole : Stmt) (i : Identifier) (s : Stmt) (own : Bool) → statements.takes_labels s ≡ own
      → out-Stmt whole ≡ Stmt-F.Labelled i s → At ctx env p → Pending ctx kl labels (is_loop whole) (Stmt-F.Labelled i s) p
      → L ctx (kl ++ label_here i.name (is_loop s) ∷ []) (StatementPart s)
      → FitAll p (cond own (b.stmt env (labels ++ i.name ∷ []) s) (statements.label_all (labels ++ i.name ∷ []) (statements.one b env s) ∷ []))
  labelled_by {ctx} {kl} env p labels whole i s true e is at j x =
      h.stmt env p (labels ++ i.name ∷ []) s at
      (record {
        own_labels = ap (λ v. v || is_nil (labels ++ i.name ∷ [])) e;
        plain_break = j.plain_break;
        plain_continue = j.plain_continue;
        to_label = λ m y. labels_grow i.name m kl labels (is_loop s) (first_answer (BreakTarget m) p) (j.to_label m) y;
        to_loop = λ m y. loop_labels_grow i.name m kl labels (is_loop whole) (is_loop s) (first_answer (ContinueTarget m) p) (loop_behind whole s i is) (j.to_loop m) y;
      }) x
  labelled_by {ctx} {kl} env p labels whole i s false e is at j x =
      let all = labels ++ i.name ∷ [] in
      let none : is_loop s ≡ false = no_loop s e in
      fit_label_all all _ p
      (fit_one b h env (within_labels all p) s (at_within env all p at)
      (record {
        plain_break = λ y. break_still [] all p (j.plain_break y);
        plain_continue = λ y. same_continue [] all p ∙ j.plain_continue y;
        to_label = λ m y. break_within m all p (labels_grow i.name m kl labels (is_loop s) (first_answer (BreakTarget m) p) (j.to_label m) y);
        to_loop = λ m y. same_continue m all p
            ∙ without (has_text m all) (is_loop s) (first_answer (ContinueTarget m) p) none
            (loop_labels_grow i.name m kl labels (is_loop whole) (is_loop s) (first_answer (ContinueTarget m) p) (loop_behind whole s i is) (j.to_loop m) y);
      }) x)

  alternate_by : {ctx : EarlyContext} {kl : List EarlyLabel} (env : Env) (p : Place) (o : Option Stmt) → At ctx env p → Jumps ctx kl p → AreSound ctx kl (from_option walk.statement o)
      → Everywhere stands p (inner.maybe_term (option_map (statements.one b env) o))
  alternate_by env p None at j x = nowhere p
  alternate_by env p (Some s) at j x = fit_one b h env p s at j x

  fit_if_term : {ctx : EarlyContext} {kl : List EarlyLabel} (env : Env) (p : Place) (t : Expr) (a : Stmt) (c : Option Stmt) → At ctx env p → Jumps ctx kl p → AreSound ctx kl (walk.if_parts t a c) → Fit p (statements.if_term b env t a c)
  fit_if_term env p t a c at j x =
      fit_if p _ _ _ (fit_expr b h env p t at (first _ _ x)) (fit_one b h env p a at j (first _ _ (behind _ _ x))) (alternate_by env p c at j (behind _ _ (behind _ _ x)))

  return_by : {ctx : EarlyContext} {kl : List EarlyLabel} (env : Env) (p : Place) (o : Option Expr) → At ctx env p → AreSound ctx kl (from_option walk.operand o)
      → Everywhere stands p (inner.maybe_term (option_map (expressions.expr b env) o))
  return_by env p None at x = nowhere p
  return_by env p (Some e) at x = fit_expr b h env p e at x

  fit_while : {ctx : EarlyContext} {kl : List EarlyLabel} (env : Env) (p : Place) (labels : List Name) (first_too : Bool) (t : Expr) (s : Stmt) → At ctx env p → Jumps (loop_context ctx) kl (InLoop ([] ∷ labels) ∷ p) → LE ctx kl t → L ctx kl (LoopPart s)
      → Fit p (form.Loop ([] ∷ labels) first_too (expressions.expr b env t) None (statements.one b env s))
  fit_while env p labels first_too t s at j x y =
      let q = InLoop ([] ∷ labels) ∷ p in
      fit_loop p ([] ∷ labels) first_too _ None _ (fit_expr b h env q t at x) (nowhere p) (fit_one b h env q s (in_loop_at env p at) j (loop_body b h s y))

  break_by : {ctx : EarlyContext} {kl : List EarlyLabel} (p : Place) (o : Option Identifier) → Jumps ctx kl p → break_sound ctx kl o ≡ true → Fit p (form.Jump (jumps.Break (statements.label_of o)))
  break_by p None j own = fit_break p [] (j.plain_break own)
  break_by p (Some i) j own = fit_break p i.name (j.to_label i.name own)

  continue_by : {ctx : EarlyContext} {kl : List EarlyLabel} (p : Place) (o : Option Identifier) → Jumps ctx kl p → continue_sound ctx kl o ≡ true → Fit p (form.Jump (jumps.Continue (statements.label_of o)))
  continue_by p None j own = fit_continue p [] (j.plain_continue own)
  continue_by p (Some i) j own = fit_continue p i.name (j.to_loop i.name own)

  fit_stmt_at : {ctx : EarlyContext} {kl : List EarlyLabel} (env : Env) (p : Place) (labels : List Name) (whole : Stmt) (l : StmtLayer) → out-Stmt whole ≡ l → At ctx env p
      → Pending ctx kl labels (is_loop whole) l p → statement_sound ctx kl l ≡ true → AreSound ctx (with_label kl (label_at l)) (walk.statement_parts_at l)
      → FitAll p (statements.stmt_at b env labels l)
  fit_stmt_at env p labels w (Stmt-F.Declare d) e at j own x = fit_declaration b h env p d at x
  fit_stmt_at env p labels w (Stmt-F.FunctionDeclaration f) e at j own x = nowhere p
  fit_stmt_at env p labels w (Stmt-F.ClassDeclaration c) e at j own x = class_by b h env p c (out-Class c).name at x
  fit_stmt_at env p labels w (Stmt-F.Expression v) e at j own x = fit_expr b h env p v at x
  fit_stmt_at env p labels w (Stmt-F.Block place l) e at j own x = fit_block b h env p l at (plain_jumps labels (is_loop w) (Stmt-F.Block place l) p refl j) x
  fit_stmt_at env p labels w (Stmt-F.Empty place) e at j own x = fit_seq p [] (nowhere p)
  fit_stmt_at env p labels w (Stmt-F.If place t a c) e at j own x = fit_if_term env p t a c at (plain_jumps labels (is_loop w) (Stmt-F.If place t a c) p refl j) x
  fit_stmt_at env p labels w (Stmt-F.While place t s) e at j own x = fit_while env p labels true t s at (looped labels (is_loop w) (Stmt-F.While place t s) p j) (first _ _ x) (behind _ _ x)
  fit_stmt_at env p labels w (Stmt-F.DoWhile place s t) e at j own x = fit_while env p labels false t s at (looped labels (is_loop w) (Stmt-F.DoWhile place s t) p j) (behind _ _ x) (first _ _ x)
  fit_stmt_at env p labels w (Stmt-F.For place i t u s) e at j own x = fit_for_at b h env p labels t u s (out-ForInit i) at (looped labels (is_loop w) (Stmt-F.For place i t u s) p j) x
  fit_stmt_at env p labels w (Stmt-F.ForOf place t v s) e at j own x = fit_for_of b h env p labels t v s at (looped labels (is_loop w) (Stmt-F.ForOf place t v s) p j) (each_of b h (out-ForTarget t) v s x)
  fit_stmt_at env p labels w (Stmt-F.ForIn place t v s) e at j own x = fit_for_in b h env p labels t v s at (looped labels (is_loop w) (Stmt-F.ForIn place t v s) p j) (each_of b h (out-ForTarget t) v s x)
  fit_stmt_at env p labels w (Stmt-F.Continue place l) e at j own x = continue_by p l (plain_jumps labels (is_loop w) (Stmt-F.Continue place l) p refl j) own
  fit_stmt_at env p labels w (Stmt-F.Break place l) e at j own x = break_by p l (plain_jumps labels (is_loop w) (Stmt-F.Break place l) p refl j) own
  fit_stmt_at env p labels w (Stmt-F.Return place v) e at j own x = fit_return p _ (return_by env p v at x)
  fit_stmt_at env p labels w (Stmt-F.Throw place v) e at j own x = fit_throw p _ (fit_expr b h env p v at x)
  fit_stmt_at env p labels w (Stmt-F.Switch place v cs) e at j own x = fit_switch env p v cs at (plain_jumps labels (is_loop w) (Stmt-F.Switch place v cs) p refl j) (first _ _ x) (behind _ _ x)
  fit_stmt_at env p labels w (Stmt-F.Try place l k f) e at j own x = fit_try_term env p l k f at (plain_jumps labels (is_loop w) (Stmt-F.Try place l k f) p refl j) x
  fit_stmt_at env p labels w (Stmt-F.Labelled i s) e at j own x = labelled_by env p labels w i s (statements.takes_labels s) refl e at j x
  fit_stmt_at env p labels w (Stmt-F.Debugger place) e at j own x = fit_seq p [] (nowhere p)

  pub fit_stmt_row : {ctx : EarlyContext} {kl : List EarlyLabel} (env : Env) (p : Place) (labels : List Name) (s : Stmt) → At ctx env p → Pending ctx kl labels (is_loop s) (out-Stmt s) p
      → L ctx kl (StatementPart s) → FitAll p (statements.stmt_row b env labels s)
  fit_stmt_row env p labels s at j x = fit_stmt_at env p labels s (out-Stmt s) refl at j (has (StatementPart s) x) (below (StatementPart s) x)
