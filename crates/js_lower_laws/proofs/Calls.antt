-- The terms of calls and optional chains fit.
use Rattle.std.proofs.Common.{◌≡◌, ℕ, ◌-◌, ◌<◌, Bool, true, false, cond, ◌||◌, List, [], ◌∷◌, length, Option, Some, None, refl, sym, subst, arith}
use Rattle.js_tree.specs.Layers.{ExprLayer, LinkStepLayer}
use Rattle.js_tree.specs.declared.tree.Argument.{Argument}
use Rattle.js_tree.specs.declared.tree.Argument.TheOpen.{Expr-F, LinkStep-F}
use Rattle.js_tree.specs.declared.tree.Expr.{Expr, out-Expr}
use Rattle.js_tree.specs.declared.tree.Link.{Link, out-Link}
use Rattle.js_tree.specs.declared.tree.LinkStep.{LinkStep, out-LinkStep}
use Rattle.js_text.specs.declared.native.Native.{Native}
use Rattle.js_text.specs.declared.native.Native.TheVariants as native
use Rattle.js_term.specs.declared.term.Term.{Term}
use Rattle.js_term_stack.specs.declared.pending.Pending.{Pending}
use Rattle.js_term_stack.specs.declared.pending.Pending.TheVariants as pending
use Rattle.js_names.specs.Lists.{flat}
use Rattle.js_frames.specs.Frames.{Env}
use Rattle.js_walk.specs.Parts as walk
use Rattle.js_walk.specs.Parts.{TreePart, ExpressionPart}
use Rattle.js_lower_table.specs.Entries.{Below, bare}
use Rattle.js_lower_table.specs.Expressions as expressions
use Rattle.js_lower_table.specs.Values as values
use Rattle.js_lower_table.specs.Values.{Name}
use Rattle.js_early.specs.declared.context.EarlyContext.{EarlyContext}
use Rattle.js_early.specs.declared.context.EarlyLabel.{EarlyLabel}
use Rattle.js_valid.specs.Surroundings.{Place, InScope, SuperProperty, first_answer, open_scopes}
use Rattle.js_lower_laws.specs.Sound.{AreSound, expression_sound, whole_parts_at}
use Rattle.js_lower_laws.proofs.Forms.{Fit, fit_call, fit_call_on, fit_call_super, fit_delete, fit_get, fit_if, fit_native, fit_super_get, fit_this, three, two}
use Rattle.js_lower_laws.proofs.Linked.{LE, bare_linked, behind, first, has, layer_of, left, right}
use Rattle.js_lower_laws.proofs.Lowering.{Lowers}
use Rattle.js_lower_laws.proofs.Literals.{fit_argument_array, fit_arguments, fit_expr}
use Rattle.js_lower_laws.proofs.Names.{fit_here, fit_init_here, fit_is_null, fit_read, fit_scope_of, fit_slot, fit_text, fit_truth, fit_undefined, no_operation}
use Rattle.js_lower_laws.proofs.Scopes.{At, IsHeld, as_many, hidden, newest, older}

-- what a chain has so far
pub data FitPending (p : Place) : Pending → Type 0 where
  settled_fits : (t : Term) → Fit p t → FitPending p (pending.Settled t)
  reference_fits : (o k : Term) → Fit p o → Fit p k → FitPending p (pending.Reference o k)
  super_fits : (k : Term) → first_answer SuperProperty p ≡ true → Fit p k → FitPending p (pending.SuperReference k)

pub fit_settled : (p : Place) (s : Pending) → FitPending p s → Fit p (expressions.settled s)
fit_settled p (pending.Settled t) (settled_fits _ x) = x
fit_settled p (pending.Reference o k) (reference_fits _ _ x y) = fit_get p o k x y
fit_settled p (pending.SuperReference k) (super_fits _ own x) = fit_super_get p k own x

fit_ended : (p : Place) (d : Bool) (s : Pending) → FitPending p s → Fit p (expressions.ended d s)
fit_ended p false s x = fit_settled p s x
fit_ended p true (pending.Settled t) (settled_fits _ x) = x
fit_ended p true (pending.Reference o k) (reference_fits _ _ x y) = fit_delete p o k x y
fit_ended p true (pending.SuperReference k) (super_fits _ own x) = fit_super_get p k own x

fit_cut_short : (p : Place) (d : Bool) → Fit p (expressions.cut_short d)
fit_cut_short p false = fit_undefined p
fit_cut_short p true = fit_truth p true

fit_kept_object : (p : Place) (s : Pending) → FitPending p s → Fit p (expressions.kept_object s)
fit_kept_object p (pending.Settled t) (settled_fits _ x) = x
fit_kept_object p (pending.Reference o k) (reference_fits _ _ x y) = x
fit_kept_object p (pending.SuperReference k) (super_fits _ own x) = fit_this p

fit_kept_value : (p : Place) (s : Pending) → FitPending (InScope 2 ∷ p) s → Fit (InScope 2 ∷ p) (expressions.kept_value s)
fit_kept_value p (pending.Settled t) (settled_fits _ x) = x
fit_kept_value p (pending.Reference o k) (reference_fits _ _ x y) = fit_get (InScope 2 ∷ p) _ k (fit_here (InScope 2 ∷ p) 0 refl) y
fit_kept_value p (pending.SuperReference k) (super_fits _ own x) = fit_super_get (InScope 2 ∷ p) k own x

-- the slots of the scope of a `?.`
abbrev pub link_slots : Bool → ℕ
link_slots keeps = cond keeps 2 1

fit_optional : (p : Place) (d keeps : Bool) (s : Pending) (rest : Term) → FitPending (InScope (link_slots keeps) ∷ p) s → Fit (InScope (link_slots keeps) ∷ p) rest
    → Fit p (expressions.optional d keeps s rest)
fit_optional p d false s rest x y =
    let q = InScope 1 ∷ p in
    fit_scope_of p 1 _
    (two q _ _ (fit_init_here q 0 _ refl (fit_settled q s x)) (fit_if q _ _ (Some rest) (fit_is_null q _ (fit_here q 0 refl)) (fit_cut_short q d) y))
fit_optional p d true s rest x y =
    let q = InScope 2 ∷ p in
    fit_scope_of p 2 _
    (three q _ _ _ (fit_init_here q 0 _ refl (fit_kept_object q s x)) (fit_init_here q 1 _ refl (fit_kept_value p s x))
    (fit_if q _ _ (Some rest) (fit_is_null q _ (fit_here q 1 refl)) (fit_cut_short q d) y))

-- what stands before the links: no `?.` follows, or one does, whatever its scope
pub data Before (ctx : EarlyContext) (env : Env) (p : Place) (s : Pending) : Bool → Type 0 where
  no_link_follows : At ctx env p → FitPending p s → Before ctx env p s false
  link_follows : (outer : Env) → env ≡ [] ∷ outer → At ctx outer p → ((n : ℕ) → FitPending (InScope n ∷ p) s) → Before ctx env p s true

at_next : {ctx : EarlyContext} (env outer : Env) (p : Place) (n : ℕ) → env ≡ [] ∷ outer → At ctx outer p → At ctx env (InScope n ∷ p)
at_next {ctx} env outer p n e at = subst (λ x. At ctx x (InScope n ∷ p)) (sym e) (hidden outer p n at)

module _ (b : Below) (h : Lowers b) where
  -- CALLS

  call_by : {ctx : EarlyContext} {kl : List EarlyLabel} (env : Env) (p : Place) (n : Name) (l : List Argument) (o : Option Native) → o ≡ None → At ctx env p → AreSound ctx kl (flat walk.argument l)
      → Fit p (expressions.call_as b env n l o)
  call_by env p n l None e at x = fit_call p _ _ (fit_read env p n false at) (fit_arguments b h env p l at x)
  call_by env p n l (Some o) e at x = cc

  fit_call_named : {ctx : EarlyContext} {kl : List EarlyLabel} (env : Env) (p : Place) (n : Name) (l : List Argument) → At ctx env p → AreSound ctx kl (flat walk.argument l) → Fit p (expressions.call_named b env n l)
  fit_call_named env p n l at x = call_by env p n l (values.operation_in env n) (no_operation env p n at) at x

  fit_call_plain : {ctx : EarlyContext} {kl : List EarlyLabel} (env : Env) (p : Place) (f : Expr) (l : List Argument) → At ctx env p → LE ctx kl f → AreSound ctx kl (flat walk.argument l) → Fit p (expressions.call_plain b env f l)
  fit_call_plain env p f l at e x = fit_call p _ _ (fit_expr b h env p f at e) (fit_arguments b h env p l at x)

  fit_call_at : {ctx : EarlyContext} {kl : List EarlyLabel} (env : Env) (p : Place) (f : Expr) (l : List Argument) (k : ExprLayer) → At ctx env p → LE ctx kl f → expression_sound ctx k ≡ true → AreSound ctx kl (whole_parts_at k) → AreSound ctx kl (flat walk.argument l)
      → Fit p (expressions.call_at b env f l k)
  fit_call_at env p f l (Expr-F.Name i) at e own y x = fit_call_named env p i.name l at x
  fit_call_at env p f l (Expr-F.Member place o i) at e own y x = fit_call_on p _ _ _ (fit_expr b h env p o at y) (fit_text p i.name) (fit_arguments b h env p l at x)
  fit_call_at env p f l (Expr-F.Index place o k) at e own y x =
      fit_call_on p _ _ _ (fit_expr b h env p o at (first _ _ y)) (fit_expr b h env p k at (behind _ _ y)) (fit_arguments b h env p l at x)
  fit_call_at env p f l (Expr-F.SuperMember place i) at e own y x = fit_call_super p _ _ (at.1.property own) (fit_text p i.name) (fit_arguments b h env p l at x)
  fit_call_at env p f l (Expr-F.SuperIndex place k) at e own y x = fit_call_super p _ _ (at.1.property own) (fit_expr b h env p k at y) (fit_arguments b h env p l at x)
  fit_call_at env p f l (Expr-F.This place) at e own y x = fit_call_plain env p f l at e x
  fit_call_at env p f l (Expr-F.Null place) at e own y x = fit_call_plain env p f l at e x
  fit_call_at env p f l (Expr-F.Bool place v) at e own y x = fit_call_plain env p f l at e x
  fit_call_at env p f l (Expr-F.Number place n) at e own y x = fit_call_plain env p f l at e x
  fit_call_at env p f l (Expr-F.String place s) at e own y x = fit_call_plain env p f l at e x
  fit_call_at env p f l (Expr-F.Template place ss es) at e own y x = fit_call_plain env p f l at e x
  fit_call_at env p f l (Expr-F.Array place a) at e own y x = fit_call_plain env p f l at e x
  fit_call_at env p f l (Expr-F.Object place a) at e own y x = fit_call_plain env p f l at e x
  fit_call_at env p f l (Expr-F.Function k) at e own y x = fit_call_plain env p f l at e x
  fit_call_at env p f l (Expr-F.Class c) at e own y x = fit_call_plain env p f l at e x
  fit_call_at env p f l (Expr-F.Parenthesized place a) at e own y x = fit_call_plain env p f l at e x
  fit_call_at env p f l (Expr-F.NewTarget place) at e own y x = fit_call_plain env p f l at e x
  fit_call_at env p f l (Expr-F.Call place k a) at e own y x = fit_call_plain env p f l at e x
  fit_call_at env p f l (Expr-F.SuperCall place a) at e own y x = fit_call_plain env p f l at e x
  fit_call_at env p f l (Expr-F.New place k a) at e own y x = fit_call_plain env p f l at e x
  fit_call_at env p f l (Expr-F.Chain place a ls) at e own y x = fit_call_plain env p f l at e x
  fit_call_at env p f l (Expr-F.Unary place o a) at e own y x = fit_call_plain env p f l at e x
  fit_call_at env p f l (Expr-F.Update place o v a) at e own y x = fit_call_plain env p f l at e x
  fit_call_at env p f l (Expr-F.Binary place o a c) at e own y x = fit_call_plain env p f l at e x
  fit_call_at env p f l (Expr-F.Logical place o a c) at e own y x = fit_call_plain env p f l at e x
  fit_call_at env p f l (Expr-F.Conditional place t a c) at e own y x = fit_call_plain env p f l at e x
  fit_call_at env p f l (Expr-F.Assign place t a) at e own y x = fit_call_plain env p f l at e x
  fit_call_at env p f l (Expr-F.OperatorAssign place o t a) at e own y x = fit_call_plain env p f l at e x
  fit_call_at env p f l (Expr-F.Comma place a) at e own y x = fit_call_plain env p f l at e x

  pub fit_call_of : {ctx : EarlyContext} {kl : List EarlyLabel} (env : Env) (p : Place) (f : Expr) (l : List Argument) → At ctx env p → LE ctx kl f → AreSound ctx kl (flat walk.argument l) → Fit p (expressions.call b env f l)
  fit_call_of env p f l at e x = fit_call_at env p f l (out-Expr (bare f)) at e (has (ExpressionPart (bare f)) (bare_linked f e)) (layer_of (bare f) (bare_linked f e)) x

  -- CHAINS

  fit_base_at : {ctx : EarlyContext} {kl : List EarlyLabel} (env : Env) (p : Place) (f : Expr) (k : ExprLayer) → At ctx env p → LE ctx kl f → expression_sound ctx k ≡ true → AreSound ctx kl (whole_parts_at k) → FitPending p (expressions.base_at b env f k)
  fit_base_at env p f (Expr-F.Member place o i) at e own y = reference_fits _ _ (fit_expr b h env p o at y) (fit_text p i.name)
  fit_base_at env p f (Expr-F.Index place o k) at e own y = reference_fits _ _ (fit_expr b h env p o at (first _ _ y)) (fit_expr b h env p k at (behind _ _ y))
  fit_base_at env p f (Expr-F.SuperMember place i) at e own y = super_fits _ (at.1.property own) (fit_text p i.name)
  fit_base_at env p f (Expr-F.SuperIndex place k) at e own y = super_fits _ (at.1.property own) (fit_expr b h env p k at y)
  fit_base_at env p f (Expr-F.Name i) at e own y = settled_fits _ (fit_expr b h env p f at e)
  fit_base_at env p f (Expr-F.This place) at e own y = settled_fits _ (fit_expr b h env p f at e)
  fit_base_at env p f (Expr-F.Null place) at e own y = settled_fits _ (fit_expr b h env p f at e)
  fit_base_at env p f (Expr-F.Bool place v) at e own y = settled_fits _ (fit_expr b h env p f at e)
  fit_base_at env p f (Expr-F.Number place n) at e own y = settled_fits _ (fit_expr b h env p f at e)
  fit_base_at env p f (Expr-F.String place s) at e own y = settled_fits _ (fit_expr b h env p f at e)
  fit_base_at env p f (Expr-F.Template place ss es) at e own y = settled_fits _ (fit_expr b h env p f at e)
  fit_base_at env p f (Expr-F.Array place a) at e own y = settled_fits _ (fit_expr b h env p f at e)
  fit_base_at env p f (Expr-F.Object place a) at e own y = settled_fits _ (fit_expr b h env p f at e)
  fit_base_at env p f (Expr-F.Function k) at e own y = settled_fits _ (fit_expr b h env p f at e)
  fit_base_at env p f (Expr-F.Class c) at e own y = settled_fits _ (fit_expr b h env p f at e)
  fit_base_at env p f (Expr-F.Parenthesized place a) at e own y = settled_fits _ (fit_expr b h env p f at e)
  fit_base_at env p f (Expr-F.NewTarget place) at e own y = settled_fits _ (fit_expr b h env p f at e)
  fit_base_at env p f (Expr-F.Call place k a) at e own y = settled_fits _ (fit_expr b h env p f at e)
  fit_base_at env p f (Expr-F.SuperCall place a) at e own y = settled_fits _ (fit_expr b h env p f at e)
  fit_base_at env p f (Expr-F.New place k a) at e own y = settled_fits _ (fit_expr b h env p f at e)
  fit_base_at env p f (Expr-F.Chain place a ls) at e own y = settled_fits _ (fit_expr b h env p f at e)
  fit_base_at env p f (Expr-F.Unary place o a) at e own y = settled_fits _ (fit_expr b h env p f at e)
  fit_base_at env p f (Expr-F.Update place o v a) at e own y = settled_fits _ (fit_expr b h env p f at e)
  fit_base_at env p f (Expr-F.Binary place o a c) at e own y = settled_fits _ (fit_expr b h env p f at e)
  fit_base_at env p f (Expr-F.Logical place o a c) at e own y = settled_fits _ (fit_expr b h env p f at e)
  fit_base_at env p f (Expr-F.Conditional place t a c) at e own y = settled_fits _ (fit_expr b h env p f at e)
  fit_base_at env p f (Expr-F.Assign place t a) at e own y = settled_fits _ (fit_expr b h env p f at e)
  fit_base_at env p f (Expr-F.OperatorAssign place o t a) at e own y = settled_fits _ (fit_expr b h env p f at e)
  fit_base_at env p f (Expr-F.Comma place a) at e own y = settled_fits _ (fit_expr b h env p f at e)

  fit_base : {ctx : EarlyContext} {kl : List EarlyLabel} (env : Env) (p : Place) (f : Expr) → At ctx env p → LE ctx kl f → FitPending p (expressions.base b env f)
  fit_base env p f at e = fit_base_at env p f (out-Expr (bare f)) at e (has (ExpressionPart (bare f)) (bare_linked f e)) (layer_of (bare f) (bare_linked f e))

  fit_link_call : {ctx : EarlyContext} {kl : List EarlyLabel} (env : Env) (p : Place) (s : Pending) (l : List Argument) → At ctx env p → FitPending p s → AreSound ctx kl (flat walk.argument l)
      → Fit p (expressions.link_call b env s l)
  fit_link_call env p (pending.Settled t) l at (settled_fits _ x) y = fit_call p _ _ x (fit_arguments b h env p l at y)
  fit_link_call env p (pending.Reference o k) l at (reference_fits _ _ x z) y = fit_call_on p _ _ _ x z (fit_arguments b h env p l at y)
  fit_link_call env p (pending.SuperReference k) l at (super_fits _ own x) y = fit_call_super p _ _ own x (fit_arguments b h env p l at y)

  fit_link_at : {ctx : EarlyContext} {kl : List EarlyLabel} (env : Env) (p : Place) (s : Pending) (k : LinkStepLayer) → At ctx env p → FitPending p s → AreSound ctx kl (walk.link_step_at k)
      → FitPending p (expressions.link_at b env s k)
  fit_link_at env p s (LinkStep-F.MemberLink i) at x y = reference_fits _ _ (fit_settled p s x) (fit_text p i.name)
  fit_link_at env p s (LinkStep-F.IndexLink e) at x y = reference_fits _ _ (fit_settled p s x) (fit_expr b h env p e at y)
  fit_link_at env p s (LinkStep-F.CallLink l) at x y = settled_fits _ (fit_link_call env p s l at x y)

  -- the slots of a `?.` are held behind it
  abbrev AreKept : Place → ℕ → Bool → Type 0
  AreKept p level keeps = (s : ℕ) → s < link_slots keeps → IsHeld (open_scopes p) (record { level = level; slot = s })

  fit_call_kept : {ctx : EarlyContext} {kl : List EarlyLabel} (env : Env) (p : Place) (level : ℕ) (keeps : Bool) (l : List Argument) → At ctx env p → AreKept p level keeps → AreSound ctx kl (flat walk.argument l)
      → Fit p (expressions.call_kept b env level keeps l)
  fit_call_kept env p level false l at k y = fit_call p _ _ (fit_slot env p _ at (k 0 (omega arith))) (fit_arguments b h env p l at y)
  fit_call_kept env p level true l at k y =
      fit_native p native.Apply _ refl
      (three p _ _ _ (fit_slot env p _ at (k 1 (omega arith))) (fit_slot env p _ at (k 0 (omega arith))) (fit_argument_array b h env p l at y))

  kept_first : (keeps : Bool) → 0 < link_slots keeps
  kept_first false = omega arith
  kept_first true = omega arith

  fit_first_at : {ctx : EarlyContext} {kl : List EarlyLabel} (env : Env) (p : Place) (level : ℕ) (keeps : Bool) (k : LinkStepLayer) → At ctx env p → AreKept p level keeps → AreSound ctx kl (walk.link_step_at k)
      → FitPending p (expressions.first_link_at b env level keeps k)
  fit_first_at env p level keeps (LinkStep-F.MemberLink i) at k y = reference_fits _ _ (fit_slot env p _ at (k 0 (kept_first keeps))) (fit_text p i.name)
  fit_first_at env p level keeps (LinkStep-F.IndexLink e) at k y = reference_fits _ _ (fit_slot env p _ at (k 0 (kept_first keeps))) (fit_expr b h env p e at y)
  fit_first_at env p level keeps (LinkStep-F.CallLink l) at k y = settled_fits _ (fit_call_kept env p level keeps l at k y)

  linked_further : {ctx : EarlyContext} {kl : List EarlyLabel} (env : Env) (p : Place) (s : Pending) (k : LinkStep) (o : Bool) → AreSound ctx kl (walk.link_step_at (out-LinkStep k)) → Before ctx env p s o
      → Before ctx env p (expressions.link b env s k) o
  linked_further env p s k false y (no_link_follows at x) = no_link_follows at (fit_link_at env p s (out-LinkStep k) at x y)
  linked_further env p s k true y (link_follows outer e at x) =
      link_follows outer e at (λ n. fit_link_at env (InScope n ∷ p) s (out-LinkStep k) (at_next env outer p n e at) (x n) y)

  behind_by : {ctx : EarlyContext} {kl : List EarlyLabel} (env : Env) (q : Place) (level : ℕ) (keeps : Bool) (k : LinkStep) (o : Bool) → At ctx env q → AreKept q level keeps
      → AreSound ctx kl (walk.link_step_at (out-LinkStep k))
      → Before ctx (cond o ([] ∷ env) env) q (expressions.first_link b (cond o ([] ∷ env) env) level keeps k) o
  behind_by env q level keeps k false at kept y = no_link_follows at (fit_first_at env q level keeps (out-LinkStep k) at kept y)
  behind_by env q level keeps k true at kept y =
      link_follows env refl at (λ m. fit_first_at ([] ∷ env) (InScope m ∷ q) level keeps (out-LinkStep k) (hidden env q m at)
      (λ s lt. older m (open_scopes q) _ (kept s lt)) y)

  abbrev step_keeps : Link → Pending → Bool
  step_keeps l s = expressions.keeps_object s (expressions.is_call (out-Link l).step)

  links_by : {ctx : EarlyContext} {kl : List EarlyLabel} (l : Link) (ls : List Link) (env : Env) (p : Place) (d : Bool) (s : Pending) (o : Bool)
      → ((env' : Env) (p' : Place) (s' : Pending) → Before ctx env' p' s' (expressions.has_optional ls) → Fit p' (expressions.links b ls env' d s')) → AreSound ctx kl (walk.link l)
      → Before ctx env p s (o || expressions.has_optional ls)
      → Fit p (cond o
      (expressions.optional d (step_keeps l s) s
      (expressions.links b ls (expressions.behind ls env) d (expressions.first_link b (expressions.behind ls env) (length env - 1) (step_keeps l s) (out-Link l).step)))
      (expressions.links b ls env d (expressions.link b env s (out-Link l).step)))
  links_by l ls env p d s false rec y x = rec env p _ (linked_further env p s (out-Link l).step (expressions.has_optional ls) y x)
  links_by l ls env p d s true rec y (link_follows outer e at x) =
      let n = link_slots (step_keeps l s) in
      let here = at_next env outer p n e at in
      let many : length (open_scopes p) ≡ length outer = as_many outer (open_scopes p) at.0 in
      let level : length env - 1 ≡ length (open_scopes p) = subst (λ v. length v - 1 ≡ length (open_scopes p)) (sym e) (omega (arith, many)) in
      fit_optional p d (step_keeps l s) s _ (x n)
      (rec (expressions.behind ls env) (InScope n ∷ p) _
      (behind_by env (InScope n ∷ p) (length env - 1) (step_keeps l s) (out-Link l).step (expressions.has_optional ls) here
      (λ k lt. newest n (open_scopes p) (record { level = length env - 1; slot = k }) level lt) y))

  fit_links : {ctx : EarlyContext} {kl : List EarlyLabel} (ls : List Link) (env : Env) (p : Place) (d : Bool) (s : Pending) → AreSound ctx kl (flat walk.link ls) → Before ctx env p s (expressions.has_optional ls)
      → Fit p (expressions.links b ls env d s)
  fit_links [] env p d s y (no_link_follows at x) = fit_ended p d s x
  fit_links (l ∷ ls) env p d s y x =
      links_by l ls env p d s (out-Link l).optional (λ env' p' s' x'. fit_links ls env' p' d s' (right (walk.link l) (flat walk.link ls) y) x')
      (left (walk.link l) (flat walk.link ls) y) x

  pub fit_chain : {ctx : EarlyContext} {kl : List EarlyLabel} (env : Env) (p : Place) (d : Bool) (e : Expr) (ls : List Link) → At ctx env p → expressions.has_optional ls ≡ true → LE ctx kl e → AreSound ctx kl (flat walk.link ls)
      → Fit p (expressions.chain b env d e ls)
  fit_chain {ctx} {kl} env p d e ls at o x y =
      fit_links ls ([] ∷ env) p d (expressions.base b ([] ∷ env) e) y
      (subst (λ v. Before ctx ([] ∷ env) p (expressions.base b ([] ∷ env) e) v) (sym o) (link_follows env refl at (λ n. fit_base ([] ∷ env) (InScope n ∷ p) e (hidden env p n at) x)))
