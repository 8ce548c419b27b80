-- The terms of assignments, updates, operators and all expressions fit.
use Rattle.std.proofs.Common.{◌≡◌, pos, Bool, true, false, cond, List, [], ◌∷◌, ◌++◌, map, Some, refl, sym, arith}
use Rattle.js_tree.specs.Layers.{ExprLayer, PatternLayer}
use Rattle.js_tree.specs.declared.operator.AssignmentOperator.{AssignmentOperator}
use Rattle.js_tree.specs.declared.operator.AssignmentOperator.TheVariants as assignment
use Rattle.js_tree.specs.declared.operator.UnaryOperator.{UnaryOperator}
use Rattle.js_tree.specs.declared.operator.UnaryOperator.TheVariants as unary
use Rattle.js_tree.specs.declared.operator.UpdateOperator.{UpdateOperator}
use Rattle.js_tree.specs.declared.tree.Argument.TheOpen.{Expr-F, Pattern-F}
use Rattle.js_tree.specs.declared.tree.Expr.{Expr, out-Expr}
use Rattle.js_tree.specs.declared.tree.Link.{Link}
use Rattle.js_tree.specs.declared.tree.Pattern.{Pattern, out-Pattern}
use Rattle.js_term.specs.declared.term.Term.{Term}
use Rattle.js_names.specs.Lists.{flat}
use Rattle.js_frames.specs.Frames.{Env}
use Rattle.js_walk.specs.Parts as walk
use Rattle.js_walk.specs.Parts.{TreePart, ClassPart, ExpressionPart, FunctionPart, PatternPart, UpdatePart}
use Rattle.lava_base.specs.declared.place.Place.{Place as TextPlace}
use Rattle.js_lower_table.specs.Entries.{Below, InSlot, bare}
use Rattle.js_lower_table.specs.Expressions as expressions
use Rattle.js_lower_table.specs.Values as values
use Rattle.js_lower_table.specs.Values.{Name}
use Rattle.js_early.specs.declared.context.EarlyContext.{EarlyContext}
use Rattle.js_early.specs.declared.context.EarlyLabel.{EarlyLabel}
use Rattle.js_valid.specs.Surroundings.{Place, InScope, open_scopes}
use Rattle.js_lower_laws.specs.Sound.{AreSound, expression_sound, whole_parts_at, whole_pattern_at}
use Rattle.js_lower_laws.proofs.Forms.{Fit, FitAll, fit_binary, fit_delete, fit_get, fit_if, fit_local, fit_new, fit_new_target, fit_put, fit_seq, fit_short, fit_super_get, fit_super_new, fit_this, fit_unary, three, two}
use Rattle.js_lower_laws.proofs.Linked.{L, LE, bare_linked, behind, below, first, has, layer_of}
use Rattle.js_lower_laws.proofs.Lowering.{Lowers, fit_map, from_slot}
use Rattle.js_lower_laws.proofs.Literals.{fit_arguments, fit_class_of, fit_elements, fit_expr, fit_function, fit_properties, fit_template_literal}
use Rattle.js_lower_laws.proofs.Calls.{fit_call_of, fit_chain}
use Rattle.js_lower_laws.proofs.Names.{fit_array, fit_here, fit_init_here, fit_integer, fit_null, fit_number, fit_object, fit_read, fit_scope_of, fit_text, fit_to_key, fit_truth, fit_undefined, fit_write}
use Rattle.js_lower_laws.proofs.Scopes.{At, as_many, hidden, newest}

-- A PROPERTY WHOSE OBJECT AND KEY STAND IN A SCOPE OF TWO

abbrev pub here_two : Place → Place
here_two p = InScope 2 ∷ p

fit_get_here : (p : Place) → Fit (here_two p) expressions.get_here
fit_get_here p = fit_get (here_two p) _ _ (fit_here (here_two p) 0 refl) (fit_here (here_two p) 1 refl)

fit_put_here : (p : Place) (t : Term) → Fit (here_two p) t → Fit (here_two p) (expressions.put_here t)
fit_put_here p t x = fit_put (here_two p) _ _ t (fit_here (here_two p) 0 refl) (fit_here (here_two p) 1 refl) x

fit_operate_here : (p : Place) (o : AssignmentOperator) (t : Term) → Fit (here_two p) t → Fit (here_two p) (expressions.operate_here o t)
fit_operate_here p (assignment.Binary o) t x = fit_put_here p _ (fit_binary (here_two p) o _ t (fit_get_here p) x)
fit_operate_here p (assignment.Logical o) t x = fit_short (here_two p) o _ _ (fit_get_here p) (fit_put_here p t x)

fit_stepped : (p : Place) (o : UpdateOperator) (t : Term) → Fit p t → Fit p (expressions.stepped o t)
fit_stepped p o t x = fit_binary p (expressions.step_of o) t _ x (fit_integer p (pos 1))

fit_numeric : (p : Place) (t : Term) → Fit p t → Fit p (expressions.numeric t)
fit_numeric p t x = fit_unary p unary.Plus t x

fit_update_last : (p : Place) (o : UpdateOperator) → Fit (here_two p) (expressions.update_last o)
fit_update_last p o =
    let q = InScope 1 ∷ here_two p in
    let object : Fit q _ = fit_local q 1 0 refl in
    let key : Fit q _ = fit_local q 1 1 refl in
    fit_scope_of (here_two p) 1 _
    (three q _ _ _ (fit_init_here q 0 _ refl (fit_numeric q _ (fit_get q _ _ object key))) (fit_put q _ _ _ object key (fit_stepped q o _ (fit_here q 0 refl)))
    (fit_here q 0 refl))

fit_update_here : (p : Place) (o : UpdateOperator) (prefix : Bool) → Fit (here_two p) (expressions.update_here o prefix)
fit_update_here p o true = fit_put_here p _ (fit_stepped (here_two p) o _ (fit_numeric (here_two p) _ (fit_get_here p)))
fit_update_here p o false = fit_update_last p o

fit_with_reference : (p : Place) (o k rest : Term) → Fit (here_two p) o → Fit (here_two p) k → Fit (here_two p) rest → Fit p (expressions.with_reference o k rest)
fit_with_reference p o k rest x y z =
    fit_scope_of p 2 _ (three (here_two p) _ _ _ (fit_init_here (here_two p) 0 o refl x) (fit_init_here (here_two p) 1 k refl y) z)

fit_update_name : {ctx : EarlyContext} (env : Env) (p : Place) (o : UpdateOperator) (prefix : Bool) (n : Name) → At ctx env p → Fit p (expressions.update_name env o prefix n)
fit_update_name env p o true n at = fit_write env p n _ at (fit_stepped p o _ (fit_numeric p _ (fit_read env p n false at)))
fit_update_name env p o false n at =
    let q = InScope 1 ∷ p in
    let further = hidden env p 1 at in
    fit_scope_of p 1 _
    (three q _ _ _ (fit_init_here q 0 _ refl (fit_numeric q _ (fit_read ([] ∷ env) q n false further)))
    (fit_write ([] ∷ env) q n _ further (fit_stepped q o _ (fit_here q 0 refl))) (fit_here q 0 refl))

module _ (b : Below) (h : Lowers b) where
  -- ASSIGNMENTS

  fit_assign_to_at : {ctx : EarlyContext} {kl : List EarlyLabel} (env : Env) (p : Place) (t : Term) (k : ExprLayer) → At ctx env p → Fit p t → AreSound ctx kl (whole_parts_at k) → Fit p (expressions.assign_to_at b env t k)
  fit_assign_to_at env p w (Expr-F.Name i) at x y = fit_write env p i.name w at x
  fit_assign_to_at env p w (Expr-F.Member place o i) at x y = fit_put p _ _ w (fit_expr b h env p o at y) (fit_text p i.name) x
  fit_assign_to_at env p w (Expr-F.Index place o k) at x y = fit_put p _ _ w (fit_expr b h env p o at (first _ _ y)) (fit_expr b h env p k at (behind _ _ y)) x
  fit_assign_to_at env p w (Expr-F.This place) at x y = x
  fit_assign_to_at env p w (Expr-F.Null place) at x y = x
  fit_assign_to_at env p w (Expr-F.Bool place v) at x y = x
  fit_assign_to_at env p w (Expr-F.Number place n) at x y = x
  fit_assign_to_at env p w (Expr-F.String place s) at x y = x
  fit_assign_to_at env p w (Expr-F.Template place ss es) at x y = x
  fit_assign_to_at env p w (Expr-F.Array place a) at x y = x
  fit_assign_to_at env p w (Expr-F.Object place a) at x y = x
  fit_assign_to_at env p w (Expr-F.Function k) at x y = x
  fit_assign_to_at env p w (Expr-F.Class c) at x y = x
  fit_assign_to_at env p w (Expr-F.Parenthesized place a) at x y = x
  fit_assign_to_at env p w (Expr-F.NewTarget place) at x y = x
  fit_assign_to_at env p w (Expr-F.SuperMember place i) at x y = x
  fit_assign_to_at env p w (Expr-F.SuperIndex place k) at x y = x
  fit_assign_to_at env p w (Expr-F.Call place k a) at x y = x
  fit_assign_to_at env p w (Expr-F.SuperCall place a) at x y = x
  fit_assign_to_at env p w (Expr-F.New place k a) at x y = x
  fit_assign_to_at env p w (Expr-F.Chain place a ls) at x y = x
  fit_assign_to_at env p w (Expr-F.Unary place o a) at x y = x
  fit_assign_to_at env p w (Expr-F.Update place o v a) at x y = x
  fit_assign_to_at env p w (Expr-F.Binary place o a c) at x y = x
  fit_assign_to_at env p w (Expr-F.Logical place o a c) at x y = x
  fit_assign_to_at env p w (Expr-F.Conditional place t a c) at x y = x
  fit_assign_to_at env p w (Expr-F.Assign place t a) at x y = x
  fit_assign_to_at env p w (Expr-F.OperatorAssign place o t a) at x y = x
  fit_assign_to_at env p w (Expr-F.Comma place a) at x y = x

  pub fit_assign_to : {ctx : EarlyContext} {kl : List EarlyLabel} (env : Env) (p : Place) (t : Term) (e : Expr) → At ctx env p → Fit p t → LE ctx kl e → Fit p (expressions.assign_to b env t e)
  fit_assign_to env p t e at x y = fit_assign_to_at env p t (out-Expr (bare e)) at x (layer_of (bare e) (bare_linked e y))

  fit_assign_pattern : {ctx : EarlyContext} {kl : List EarlyLabel} (env : Env) (p : Place) (t : Pattern) (e : Expr) → At ctx env p → L ctx kl (PatternPart true t) → LE ctx kl e → Fit p (expressions.assign_pattern b env t e)
  fit_assign_pattern env p t e at x y =
      let q = InScope 1 ∷ p in
      let further = hidden env p 1 at in
      fit_scope_of p 1 _
      (three q _ _ _ (fit_init_here q 0 _ refl (fit_expr b h ([] ∷ env) q e further y))
      (h.bind ([] ∷ env) q true (InSlot (values.next_held env 0)) true t further
      (from_slot _ (newest 1 (open_scopes p) (values.next_held env 0) (sym (as_many env (open_scopes p) at.0)) (omega arith))) x)
      (fit_here q 0 refl))

  fit_assign_at : {ctx : EarlyContext} {kl : List EarlyLabel} (env : Env) (p : Place) (t : Pattern) (e : Expr) (k : PatternLayer) → At ctx env p → L ctx kl (PatternPart true t) → AreSound ctx kl (whole_pattern_at true k) → LE ctx kl e
      → Fit p (expressions.assign_at b env t e k)
  fit_assign_at env p t e (Pattern-F.Bound i) at x z y = fit_write env p i.name _ at (h.expr env p i.name e at y)
  fit_assign_at env p t e (Pattern-F.Target s) at x z y = fit_assign_to env p _ s at (fit_expr b h env p e at y) z
  fit_assign_at env p t e (Pattern-F.ObjectPattern place fs r) at x z y = fit_assign_pattern env p t e at x y
  fit_assign_at env p t e (Pattern-F.ArrayPattern place es r) at x z y = fit_assign_pattern env p t e at x y

  fit_operate_name : {ctx : EarlyContext} {kl : List EarlyLabel} (env : Env) (p : Place) (o : AssignmentOperator) (n name : Name) (e : Expr) → At ctx env p → LE ctx kl e → Fit p (expressions.operate_name b env o n name e)
  fit_operate_name env p (assignment.Binary o) n name e at y = fit_write env p n _ at (fit_binary p o _ _ (fit_read env p n false at) (fit_expr b h env p e at y))
  fit_operate_name env p (assignment.Logical o) n name e at y = fit_short p o _ _ (fit_read env p n false at) (fit_write env p n _ at (h.expr env p name e at y))

  -- an expression in a scope of the lowering's own
  fit_in_two : {ctx : EarlyContext} {kl : List EarlyLabel} (env : Env) (p : Place) (e : Expr) → At ctx env p → LE ctx kl e → Fit (here_two p) (expressions.expr b ([] ∷ env) e)
  fit_in_two env p e at y = fit_expr b h ([] ∷ env) (here_two p) e (hidden env p 2 at) y

  fit_operate_at : {ctx : EarlyContext} {kl : List EarlyLabel} (env : Env) (p : Place) (o : AssignmentOperator) (name : Name) (e : Expr) (k : ExprLayer) → At ctx env p → LE ctx kl e → AreSound ctx kl (whole_parts_at k)
      → Fit p (expressions.operate_at b env o name e k)
  fit_operate_at env p o name e (Expr-F.Name i) at y z = fit_operate_name env p o i.name name e at y
  fit_operate_at env p o name e (Expr-F.Member place a i) at y z =
      fit_with_reference p _ _ _ (fit_in_two env p a at z) (fit_text (here_two p) i.name) (fit_operate_here p o _ (fit_in_two env p e at y))
  fit_operate_at env p o name e (Expr-F.Index place a k) at y z =
      fit_with_reference p _ _ _ (fit_in_two env p a at (first _ _ z)) (fit_to_key (here_two p) _ (fit_in_two env p k at (behind _ _ z)))
      (fit_operate_here p o _ (fit_in_two env p e at y))
  fit_operate_at env p o name e (Expr-F.This place) at y z = fit_expr b h env p e at y
  fit_operate_at env p o name e (Expr-F.Null place) at y z = fit_expr b h env p e at y
  fit_operate_at env p o name e (Expr-F.Bool place v) at y z = fit_expr b h env p e at y
  fit_operate_at env p o name e (Expr-F.Number place n) at y z = fit_expr b h env p e at y
  fit_operate_at env p o name e (Expr-F.String place s) at y z = fit_expr b h env p e at y
  fit_operate_at env p o name e (Expr-F.Template place ss es) at y z = fit_expr b h env p e at y
  fit_operate_at env p o name e (Expr-F.Array place a) at y z = fit_expr b h env p e at y
  fit_operate_at env p o name e (Expr-F.Object place a) at y z = fit_expr b h env p e at y
  fit_operate_at env p o name e (Expr-F.Function k) at y z = fit_expr b h env p e at y
  fit_operate_at env p o name e (Expr-F.Class c) at y z = fit_expr b h env p e at y
  fit_operate_at env p o name e (Expr-F.Parenthesized place a) at y z = fit_expr b h env p e at y
  fit_operate_at env p o name e (Expr-F.NewTarget place) at y z = fit_expr b h env p e at y
  fit_operate_at env p o name e (Expr-F.SuperMember place i) at y z = fit_expr b h env p e at y
  fit_operate_at env p o name e (Expr-F.SuperIndex place k) at y z = fit_expr b h env p e at y
  fit_operate_at env p o name e (Expr-F.Call place k a) at y z = fit_expr b h env p e at y
  fit_operate_at env p o name e (Expr-F.SuperCall place a) at y z = fit_expr b h env p e at y
  fit_operate_at env p o name e (Expr-F.New place k a) at y z = fit_expr b h env p e at y
  fit_operate_at env p o name e (Expr-F.Chain place a ls) at y z = fit_expr b h env p e at y
  fit_operate_at env p o name e (Expr-F.Unary place u a) at y z = fit_expr b h env p e at y
  fit_operate_at env p o name e (Expr-F.Update place u v a) at y z = fit_expr b h env p e at y
  fit_operate_at env p o name e (Expr-F.Binary place u a c) at y z = fit_expr b h env p e at y
  fit_operate_at env p o name e (Expr-F.Logical place u a c) at y z = fit_expr b h env p e at y
  fit_operate_at env p o name e (Expr-F.Conditional place t a c) at y z = fit_expr b h env p e at y
  fit_operate_at env p o name e (Expr-F.Assign place t a) at y z = fit_expr b h env p e at y
  fit_operate_at env p o name e (Expr-F.OperatorAssign place u t a) at y z = fit_expr b h env p e at y
  fit_operate_at env p o name e (Expr-F.Comma place a) at y z = fit_expr b h env p e at y

  update_target : {ctx : EarlyContext} {kl : List EarlyLabel} (place : TextPlace) (e : Expr) → L ctx kl (UpdatePart place e) → LE ctx kl e
  update_target place e x = below (UpdatePart place e) x

  fit_operate : {ctx : EarlyContext} {kl : List EarlyLabel} (env : Env) (p : Place) (o : AssignmentOperator) (t e : Expr) → At ctx env p → LE ctx kl t → LE ctx kl e → Fit p (expressions.operate b env o t e)
  fit_operate env p o t e at x y = fit_operate_at env p o _ e (out-Expr (bare t)) at y (layer_of (bare t) (bare_linked t x))

  fit_update_at : {ctx : EarlyContext} {kl : List EarlyLabel} (env : Env) (p : Place) (o : UpdateOperator) (prefix : Bool) (e : Expr) (k : ExprLayer) → At ctx env p → LE ctx kl e → AreSound ctx kl (whole_parts_at k)
      → Fit p (expressions.update_at b env o prefix e k)
  fit_update_at env p o prefix e (Expr-F.Name i) at y z = fit_update_name env p o prefix i.name at
  fit_update_at env p o prefix e (Expr-F.Member place a i) at y z =
      fit_with_reference p _ _ _ (fit_in_two env p a at z) (fit_text (here_two p) i.name) (fit_update_here p o prefix)
  fit_update_at env p o prefix e (Expr-F.Index place a k) at y z =
      fit_with_reference p _ _ _ (fit_in_two env p a at (first _ _ z)) (fit_to_key (here_two p) _ (fit_in_two env p k at (behind _ _ z))) (fit_update_here p o prefix)
  fit_update_at env p o prefix e (Expr-F.This place) at y z = fit_expr b h env p e at y
  fit_update_at env p o prefix e (Expr-F.Null place) at y z = fit_expr b h env p e at y
  fit_update_at env p o prefix e (Expr-F.Bool place v) at y z = fit_expr b h env p e at y
  fit_update_at env p o prefix e (Expr-F.Number place n) at y z = fit_expr b h env p e at y
  fit_update_at env p o prefix e (Expr-F.String place s) at y z = fit_expr b h env p e at y
  fit_update_at env p o prefix e (Expr-F.Template place ss es) at y z = fit_expr b h env p e at y
  fit_update_at env p o prefix e (Expr-F.Array place a) at y z = fit_expr b h env p e at y
  fit_update_at env p o prefix e (Expr-F.Object place a) at y z = fit_expr b h env p e at y
  fit_update_at env p o prefix e (Expr-F.Function k) at y z = fit_expr b h env p e at y
  fit_update_at env p o prefix e (Expr-F.Class c) at y z = fit_expr b h env p e at y
  fit_update_at env p o prefix e (Expr-F.Parenthesized place a) at y z = fit_expr b h env p e at y
  fit_update_at env p o prefix e (Expr-F.NewTarget place) at y z = fit_expr b h env p e at y
  fit_update_at env p o prefix e (Expr-F.SuperMember place i) at y z = fit_expr b h env p e at y
  fit_update_at env p o prefix e (Expr-F.SuperIndex place k) at y z = fit_expr b h env p e at y
  fit_update_at env p o prefix e (Expr-F.Call place k a) at y z = fit_expr b h env p e at y
  fit_update_at env p o prefix e (Expr-F.SuperCall place a) at y z = fit_expr b h env p e at y
  fit_update_at env p o prefix e (Expr-F.New place k a) at y z = fit_expr b h env p e at y
  fit_update_at env p o prefix e (Expr-F.Chain place a ls) at y z = fit_expr b h env p e at y
  fit_update_at env p o prefix e (Expr-F.Unary place u a) at y z = fit_expr b h env p e at y
  fit_update_at env p o prefix e (Expr-F.Update place u v a) at y z = fit_expr b h env p e at y
  fit_update_at env p o prefix e (Expr-F.Binary place u a c) at y z = fit_expr b h env p e at y
  fit_update_at env p o prefix e (Expr-F.Logical place u a c) at y z = fit_expr b h env p e at y
  fit_update_at env p o prefix e (Expr-F.Conditional place t a c) at y z = fit_expr b h env p e at y
  fit_update_at env p o prefix e (Expr-F.Assign place t a) at y z = fit_expr b h env p e at y
  fit_update_at env p o prefix e (Expr-F.OperatorAssign place u t a) at y z = fit_expr b h env p e at y
  fit_update_at env p o prefix e (Expr-F.Comma place a) at y z = fit_expr b h env p e at y

  fit_update : {ctx : EarlyContext} {kl : List EarlyLabel} (env : Env) (p : Place) (o : UpdateOperator) (prefix : Bool) (e : Expr) → At ctx env p → LE ctx kl e → Fit p (expressions.update b env o prefix e)
  fit_update env p o prefix e at y = fit_update_at env p o prefix e (out-Expr (bare e)) at y (layer_of (bare e) (bare_linked e y))

  -- OPERATORS

  fit_typeof_at : {ctx : EarlyContext} {kl : List EarlyLabel} (env : Env) (p : Place) (e : Expr) (k : ExprLayer) → At ctx env p → LE ctx kl e → Fit p (expressions.typeof_at b env e k)
  fit_typeof_at env p e (Expr-F.Name i) at y = fit_read env p i.name true at
  fit_typeof_at env p e (Expr-F.This place) at y = fit_expr b h env p e at y
  fit_typeof_at env p e (Expr-F.Null place) at y = fit_expr b h env p e at y
  fit_typeof_at env p e (Expr-F.Bool place v) at y = fit_expr b h env p e at y
  fit_typeof_at env p e (Expr-F.Number place n) at y = fit_expr b h env p e at y
  fit_typeof_at env p e (Expr-F.String place s) at y = fit_expr b h env p e at y
  fit_typeof_at env p e (Expr-F.Template place ss es) at y = fit_expr b h env p e at y
  fit_typeof_at env p e (Expr-F.Array place a) at y = fit_expr b h env p e at y
  fit_typeof_at env p e (Expr-F.Object place a) at y = fit_expr b h env p e at y
  fit_typeof_at env p e (Expr-F.Function k) at y = fit_expr b h env p e at y
  fit_typeof_at env p e (Expr-F.Class c) at y = fit_expr b h env p e at y
  fit_typeof_at env p e (Expr-F.Parenthesized place a) at y = fit_expr b h env p e at y
  fit_typeof_at env p e (Expr-F.NewTarget place) at y = fit_expr b h env p e at y
  fit_typeof_at env p e (Expr-F.Member place o i) at y = fit_expr b h env p e at y
  fit_typeof_at env p e (Expr-F.Index place o k) at y = fit_expr b h env p e at y
  fit_typeof_at env p e (Expr-F.SuperMember place i) at y = fit_expr b h env p e at y
  fit_typeof_at env p e (Expr-F.SuperIndex place k) at y = fit_expr b h env p e at y
  fit_typeof_at env p e (Expr-F.Call place k a) at y = fit_expr b h env p e at y
  fit_typeof_at env p e (Expr-F.SuperCall place a) at y = fit_expr b h env p e at y
  fit_typeof_at env p e (Expr-F.New place k a) at y = fit_expr b h env p e at y
  fit_typeof_at env p e (Expr-F.Chain place a ls) at y = fit_expr b h env p e at y
  fit_typeof_at env p e (Expr-F.Unary place o a) at y = fit_expr b h env p e at y
  fit_typeof_at env p e (Expr-F.Update place o v a) at y = fit_expr b h env p e at y
  fit_typeof_at env p e (Expr-F.Binary place o a c) at y = fit_expr b h env p e at y
  fit_typeof_at env p e (Expr-F.Logical place o a c) at y = fit_expr b h env p e at y
  fit_typeof_at env p e (Expr-F.Conditional place t a c) at y = fit_expr b h env p e at y
  fit_typeof_at env p e (Expr-F.Assign place t a) at y = fit_expr b h env p e at y
  fit_typeof_at env p e (Expr-F.OperatorAssign place o t a) at y = fit_expr b h env p e at y
  fit_typeof_at env p e (Expr-F.Comma place a) at y = fit_expr b h env p e at y

  fit_and_true : {ctx : EarlyContext} {kl : List EarlyLabel} (env : Env) (p : Place) (e : Expr) → At ctx env p → LE ctx kl e → Fit p (expressions.and_true b env e)
  fit_and_true env p e at y = fit_seq p _ (two p _ _ (fit_expr b h env p e at y) (fit_truth p true))

  fit_delete_bare : {ctx : EarlyContext} {kl : List EarlyLabel} (env : Env) (p : Place) (e : Expr) (k : ExprLayer) → At ctx env p → LE ctx kl e → AreSound ctx kl (whole_parts_at k) → Fit p (expressions.delete_bare b env e k)
  fit_delete_bare env p e (Expr-F.Member place o i) at y z = fit_delete p _ _ (fit_expr b h env p o at z) (fit_text p i.name)
  fit_delete_bare env p e (Expr-F.Index place o k) at y z = fit_delete p _ _ (fit_expr b h env p o at (first _ _ z)) (fit_expr b h env p k at (behind _ _ z))
  fit_delete_bare env p e (Expr-F.Name i) at y z = fit_and_true env p e at y
  fit_delete_bare env p e (Expr-F.This place) at y z = fit_and_true env p e at y
  fit_delete_bare env p e (Expr-F.Null place) at y z = fit_and_true env p e at y
  fit_delete_bare env p e (Expr-F.Bool place v) at y z = fit_and_true env p e at y
  fit_delete_bare env p e (Expr-F.Number place n) at y z = fit_and_true env p e at y
  fit_delete_bare env p e (Expr-F.String place s) at y z = fit_and_true env p e at y
  fit_delete_bare env p e (Expr-F.Template place ss es) at y z = fit_and_true env p e at y
  fit_delete_bare env p e (Expr-F.Array place a) at y z = fit_and_true env p e at y
  fit_delete_bare env p e (Expr-F.Object place a) at y z = fit_and_true env p e at y
  fit_delete_bare env p e (Expr-F.Function k) at y z = fit_and_true env p e at y
  fit_delete_bare env p e (Expr-F.Class c) at y z = fit_and_true env p e at y
  fit_delete_bare env p e (Expr-F.Parenthesized place a) at y z = fit_and_true env p e at y
  fit_delete_bare env p e (Expr-F.NewTarget place) at y z = fit_and_true env p e at y
  fit_delete_bare env p e (Expr-F.SuperMember place i) at y z = fit_and_true env p e at y
  fit_delete_bare env p e (Expr-F.SuperIndex place k) at y z = fit_and_true env p e at y
  fit_delete_bare env p e (Expr-F.Call place k a) at y z = fit_and_true env p e at y
  fit_delete_bare env p e (Expr-F.SuperCall place a) at y z = fit_and_true env p e at y
  fit_delete_bare env p e (Expr-F.New place k a) at y z = fit_and_true env p e at y
  fit_delete_bare env p e (Expr-F.Chain place a ls) at y z = fit_and_true env p e at y
  fit_delete_bare env p e (Expr-F.Unary place o a) at y z = fit_and_true env p e at y
  fit_delete_bare env p e (Expr-F.Update place o v a) at y z = fit_and_true env p e at y
  fit_delete_bare env p e (Expr-F.Binary place o a c) at y z = fit_and_true env p e at y
  fit_delete_bare env p e (Expr-F.Logical place o a c) at y z = fit_and_true env p e at y
  fit_delete_bare env p e (Expr-F.Conditional place t a c) at y z = fit_and_true env p e at y
  fit_delete_bare env p e (Expr-F.Assign place t a) at y z = fit_and_true env p e at y
  fit_delete_bare env p e (Expr-F.OperatorAssign place o t a) at y z = fit_and_true env p e at y
  fit_delete_bare env p e (Expr-F.Comma place a) at y z = fit_and_true env p e at y

  fit_bare_delete : {ctx : EarlyContext} {kl : List EarlyLabel} (env : Env) (p : Place) (e : Expr) → At ctx env p → LE ctx kl e → Fit p (expressions.delete_bare b env e (out-Expr (bare e)))
  fit_bare_delete env p e at y = fit_delete_bare env p e (out-Expr (bare e)) at y (layer_of (bare e) (bare_linked e y))

  delete_chain_by : {ctx : EarlyContext} {kl : List EarlyLabel} (env : Env) (p : Place) (e a : Expr) (ls : List Link) (s : Bool) → At ctx env p → LE ctx kl e → expressions.has_optional ls ≡ true
      → AreSound ctx kl (walk.operand a ++ flat walk.link ls) → Fit p (cond s (expressions.and_true b env e) (expressions.chain b env true a ls))
  delete_chain_by env p e a ls true at y o z = fit_and_true env p e at y
  delete_chain_by env p e a ls false at y o z = fit_chain b h env p true a ls at o (first _ _ z) (behind _ _ z)

  fit_delete_at : {ctx : EarlyContext} {kl : List EarlyLabel} (env : Env) (p : Place) (e : Expr) (k : ExprLayer) → At ctx env p → LE ctx kl e → expression_sound ctx k ≡ true → AreSound ctx kl (whole_parts_at k)
      → Fit p (expressions.delete_at b env e k)
  fit_delete_at env p e (Expr-F.Chain place a ls) at y o z = delete_chain_by env p e a ls (expressions.ends_in_call ls) at y o z
  fit_delete_at env p e (Expr-F.Name i) at y l z = fit_bare_delete env p e at y
  fit_delete_at env p e (Expr-F.This place) at y l z = fit_bare_delete env p e at y
  fit_delete_at env p e (Expr-F.Null place) at y l z = fit_bare_delete env p e at y
  fit_delete_at env p e (Expr-F.Bool place v) at y l z = fit_bare_delete env p e at y
  fit_delete_at env p e (Expr-F.Number place n) at y l z = fit_bare_delete env p e at y
  fit_delete_at env p e (Expr-F.String place s) at y l z = fit_bare_delete env p e at y
  fit_delete_at env p e (Expr-F.Template place ss es) at y l z = fit_bare_delete env p e at y
  fit_delete_at env p e (Expr-F.Array place a) at y l z = fit_bare_delete env p e at y
  fit_delete_at env p e (Expr-F.Object place a) at y l z = fit_bare_delete env p e at y
  fit_delete_at env p e (Expr-F.Function k) at y l z = fit_bare_delete env p e at y
  fit_delete_at env p e (Expr-F.Class c) at y l z = fit_bare_delete env p e at y
  fit_delete_at env p e (Expr-F.Parenthesized place a) at y l z = fit_bare_delete env p e at y
  fit_delete_at env p e (Expr-F.NewTarget place) at y l z = fit_bare_delete env p e at y
  fit_delete_at env p e (Expr-F.Member place o i) at y l z = fit_bare_delete env p e at y
  fit_delete_at env p e (Expr-F.Index place o k) at y l z = fit_bare_delete env p e at y
  fit_delete_at env p e (Expr-F.SuperMember place i) at y l z = fit_bare_delete env p e at y
  fit_delete_at env p e (Expr-F.SuperIndex place k) at y l z = fit_bare_delete env p e at y
  fit_delete_at env p e (Expr-F.Call place k a) at y l z = fit_bare_delete env p e at y
  fit_delete_at env p e (Expr-F.SuperCall place a) at y l z = fit_bare_delete env p e at y
  fit_delete_at env p e (Expr-F.New place k a) at y l z = fit_bare_delete env p e at y
  fit_delete_at env p e (Expr-F.Unary place o a) at y l z = fit_bare_delete env p e at y
  fit_delete_at env p e (Expr-F.Update place o v a) at y l z = fit_bare_delete env p e at y
  fit_delete_at env p e (Expr-F.Binary place o a c) at y l z = fit_bare_delete env p e at y
  fit_delete_at env p e (Expr-F.Logical place o a c) at y l z = fit_bare_delete env p e at y
  fit_delete_at env p e (Expr-F.Conditional place t a c) at y l z = fit_bare_delete env p e at y
  fit_delete_at env p e (Expr-F.Assign place t a) at y l z = fit_bare_delete env p e at y
  fit_delete_at env p e (Expr-F.OperatorAssign place o t a) at y l z = fit_bare_delete env p e at y
  fit_delete_at env p e (Expr-F.Comma place a) at y l z = fit_bare_delete env p e at y

  fit_unary_term : {ctx : EarlyContext} {kl : List EarlyLabel} (env : Env) (p : Place) (o : UnaryOperator) (e : Expr) → At ctx env p → LE ctx kl e → Fit p (expressions.unary_term b env o e)
  fit_unary_term env p unary.Delete e at y = fit_delete_at env p e (out-Expr e) at y (has (ExpressionPart e) y) (layer_of e y)
  fit_unary_term env p unary.Void e at y = fit_seq p _ (two p _ _ (fit_expr b h env p e at y) (fit_undefined p))
  fit_unary_term env p unary.Typeof e at y = fit_unary p unary.Typeof _ (fit_typeof_at env p e (out-Expr (bare e)) at y)
  fit_unary_term env p unary.Plus e at y = fit_unary p unary.Plus _ (fit_expr b h env p e at y)
  fit_unary_term env p unary.Minus e at y = fit_unary p unary.Minus _ (fit_expr b h env p e at y)
  fit_unary_term env p unary.BitwiseNot e at y = fit_unary p unary.BitwiseNot _ (fit_expr b h env p e at y)
  fit_unary_term env p unary.LogicalNot e at y = fit_unary p unary.LogicalNot _ (fit_expr b h env p e at y)

  fit_list : {ctx : EarlyContext} {kl : List EarlyLabel} (env : Env) (p : Place) (l : List Expr) → At ctx env p → AreSound ctx kl (flat walk.operand l) → FitAll p (map (expressions.expr b env) l)
  fit_list env p l at y = fit_map p (expressions.expr b env) walk.operand (λ e z. fit_expr b h env p e at z) l y

  fit_expr_at : {ctx : EarlyContext} {kl : List EarlyLabel} (env : Env) (p : Place) (name : Name) (k : ExprLayer) → At ctx env p → expression_sound ctx k ≡ true → AreSound ctx kl (whole_parts_at k)
      → Fit p (expressions.expr_at b env name k)
  fit_expr_at env p name (Expr-F.Name i) at o z = fit_read env p i.name false at
  fit_expr_at env p name (Expr-F.This place) at o z = fit_this p
  fit_expr_at env p name (Expr-F.Null place) at o z = fit_null p
  fit_expr_at env p name (Expr-F.Bool place v) at o z = fit_truth p v
  fit_expr_at env p name (Expr-F.Number place n) at o z = fit_number p n
  fit_expr_at env p name (Expr-F.String place s) at o z = fit_text p s
  fit_expr_at env p name (Expr-F.Template place ss es) at o z = fit_template_literal b h env p ss es at z
  fit_expr_at env p name (Expr-F.Array place l) at o z = fit_array p _ (fit_elements b h env p l at z)
  fit_expr_at env p name (Expr-F.Object place l) at o z = fit_object p _ (fit_properties b h env p l at o z)
  fit_expr_at env p name (Expr-F.Function f) at o z = fit_function b h env p name f at z
  fit_expr_at env p name (Expr-F.Class c) at o z = fit_class_of b h env p name c at z
  fit_expr_at env p name (Expr-F.Parenthesized place e) at o z = h.expr env p name e at z
  fit_expr_at env p name (Expr-F.NewTarget place) at o z = fit_new_target p
  fit_expr_at env p name (Expr-F.Member place e i) at o z = fit_get p _ _ (fit_expr b h env p e at z) (fit_text p i.name)
  fit_expr_at env p name (Expr-F.Index place e k) at o z = fit_get p _ _ (fit_expr b h env p e at (first _ _ z)) (fit_expr b h env p k at (behind _ _ z))
  fit_expr_at env p name (Expr-F.SuperMember place i) at o z = fit_super_get p _ (at.1.property o) (fit_text p i.name)
  fit_expr_at env p name (Expr-F.SuperIndex place k) at o z = fit_super_get p _ (at.1.property o) (fit_expr b h env p k at z)
  fit_expr_at env p name (Expr-F.Call place f l) at o z = fit_call_of b h env p f l at (first _ _ z) (behind _ _ z)
  fit_expr_at env p name (Expr-F.SuperCall place l) at o z = fit_super_new p _ (at.1.call o) (fit_arguments b h env p l at z)
  fit_expr_at env p name (Expr-F.New place f l) at o z = fit_new p _ _ (fit_expr b h env p f at (first _ _ z)) (fit_arguments b h env p l at (behind _ _ z))
  fit_expr_at env p name (Expr-F.Chain place a ls) at o z = fit_chain b h env p false a ls at o (first _ _ z) (behind _ _ z)
  fit_expr_at env p name (Expr-F.Unary place u e) at o z = fit_unary_term env p u e at z
  fit_expr_at env p name (Expr-F.Update place u v e) at o z = fit_update env p u v e at (update_target place e z)
  fit_expr_at env p name (Expr-F.Binary place u a c) at o z = fit_binary p u _ _ (fit_expr b h env p a at (first _ _ z)) (fit_expr b h env p c at (behind _ _ z))
  fit_expr_at env p name (Expr-F.Logical place u a c) at o z = fit_short p u _ _ (fit_expr b h env p a at (first _ _ z)) (fit_expr b h env p c at (behind _ _ z))
  fit_expr_at env p name (Expr-F.Conditional place t a c) at o z =
      fit_if p _ _ (Some _) (fit_expr b h env p t at (first _ _ z)) (fit_expr b h env p a at (first _ _ (behind _ _ z)))
      (fit_expr b h env p c at (behind _ _ (behind _ _ z)))
  fit_expr_at env p name (Expr-F.Assign place t e) at o z =
      fit_assign_at env p t e (out-Pattern t) at (first _ _ z) (below (PatternPart true t) (first _ _ z)) (behind _ _ z)
  fit_expr_at env p name (Expr-F.OperatorAssign place u t e) at o z = fit_operate env p u t e at (update_target place t (first _ _ z)) (behind _ _ z)
  fit_expr_at env p name (Expr-F.Comma place l) at o z = fit_seq p _ (fit_list env p l at z)

  pub fit_expr_row : {ctx : EarlyContext} {kl : List EarlyLabel} (env : Env) (p : Place) (name : Name) (e : Expr) → At ctx env p → LE ctx kl e → Fit p (expressions.expr_row b env name e)
  fit_expr_row env p name e at y = fit_expr_at env p name (out-Expr e) at (has (ExpressionPart e) y) (layer_of e y)
