-- The templates of functions and sources fit.
use Rattle.std.proofs.Common.{◌≡◌, ℕ, suc, ◌+◌, ◌-◌, ◌<◌, ◌≤◌, Bool, true, false, cond, ◌&&◌, ◌||◌, nat_lt, nat_le, List, [], ◌∷◌, length, drop, Option, Some, None, is_some, refl, ap, sym, subst, arith}
use Rattle.std.proofs.lemmas.Bool.{and_from, le-leb, lt-ltb}
use Rattle.std.proofs.lemmas.List.{length-append, length-drop}
use Rattle.js_tree.specs.Layers.{BodyLayer, PatternLayer, StmtLayer}
use Rattle.js_tree.specs.declared.tree.Argument.TheOpen.{Body-F, Pattern-F, Stmt-F}
use Rattle.js_tree.specs.declared.tree.Body.{out-Body}
use Rattle.js_tree.specs.declared.tree.Expr.{Expr}
use Rattle.js_tree.specs.declared.tree.Function.{Function, out-Function}
use Rattle.js_tree.specs.declared.tree.FunctionKind.{FunctionKind}
use Rattle.js_tree.specs.declared.tree.FunctionKind.TheVariants as function_kind
use Rattle.js_tree.specs.declared.tree.SourceKind.{SourceKind}
use Rattle.js_tree.specs.declared.tree.Pattern.{Pattern, out-Pattern}
use Rattle.js_tree.specs.declared.tree.PatternElement.{PatternElement, out-PatternElement}
use Rattle.js_tree.specs.declared.tree.Stmt.{Stmt, out-Stmt}
use Rattle.js_term.specs.declared.term.Arguments.{Arguments}
use Rattle.js_term.specs.declared.term.Arguments.TheOpen.{Template-F}
use Rattle.js_term.specs.declared.term.Jump.{Jump}
use Rattle.js_term.specs.declared.term.Part.{Part}
use Rattle.js_term.specs.declared.term.Template.{Template, out-Template, out-roll-Template}
use Rattle.js_term.specs.declared.term.TemplateKind.{TemplateKind}
use Rattle.js_term.specs.declared.term.TemplateKind.TheVariants as kind
use Rattle.js_term.specs.declared.term.Term.{Term}
use Rattle.js_names.specs.Lists.{flat, from_option}
use Rattle.js_names.specs.Names.{body_names, parameter_names}
use Rattle.js_names.specs.Scopes.{has_name}
use Rattle.js_names.specs.declared.declared.DeclaredName.{DeclaredName}
use Rattle.js_frames.specs.Frames.{Env, Frame}
use Rattle.js_frames.specs.declared.frame.SlotName.{SlotName}
use Rattle.js_walk.specs.Parts as walk
use Rattle.js_walk.specs.Parts.{TreePart, FunctionPart, PatternPart, StatementPart}
use Rattle.js_lower_table.specs.Entries.{Below, InSlot, bound_name}
use Rattle.js_lower_table.specs.Statements as statements
use Rattle.js_lower_table.specs.Templates as templates
use Rattle.js_lower_table.specs.Values.{Name}
use Rattle.js_lower_table.specs.declared.held.Held.{Held}
use Rattle.js_early.specs.Contexts.{function_context, label_at, source_context, with_label}
use Rattle.js_early.specs.declared.context.EarlyContext.{EarlyContext}
use Rattle.js_early.specs.declared.context.EarlyLabel.{EarlyLabel}
use Rattle.js_valid.specs.Inner as inner
use Rattle.js_valid.specs.Surroundings.{Place, InTemplate, is_slot, open_scopes}
use Rattle.js_valid.specs.Valid.{Everywhere, all_below, here, least_slots, nowhere, rest_parameters, stands, template_fits}
use Rattle.js_lower_laws.specs.Sound.{AreSound}
use Rattle.js_lower_laws.proofs.Forms.{Fit, FitAll, FitTemplate, entering, fit_if, fit_return, fit_seq, joined}
use Rattle.js_lower_laws.proofs.Linked.{L, LE, behind, below, first, left, right}
use Rattle.js_lower_laws.proofs.Lowering.{Jumps, KindAt, Lowers, from_slot}
use Rattle.js_lower_laws.proofs.Literals.{fit_expr}
use Rattle.js_lower_laws.proofs.Names.{fit_init_here, fit_same_value, fit_slot, fit_undefined}
use Rattle.js_lower_laws.proofs.Scopes.{At, IsHeld, as_many, is_plain, is_plain_referent, length_names, newest, none_open, one_open, plain_append, plain_names}
use Rattle.js_lower_laws.proofs.Blocks.{fit_hoisted, fit_list_of, fit_stmt}

-- WHAT A TEMPLATE HAS TO BE

abbrev pub TemplateLayer : Type 0
TemplateLayer = Template-F Arguments Jump Part Term Template

pub record Counted (k : TemplateKind) (params : ℕ) (rest : Bool) (slots : ℕ) (undefineds : List ℕ) : Type 0 where
  pub parameters : params ≤ slots
  pub of_rest : rest_parameters rest ≤ params
  pub least : least_slots k ≤ slots
  pub own : all_below slots undefineds ≡ true

pub own_rule : (k : TemplateKind) (params : ℕ) (rest : Bool) (slots : ℕ) (undefineds : List ℕ) → Counted k params rest slots undefineds
    → (nat_le params slots && (nat_le (rest_parameters rest) params && (nat_le (least_slots k) slots && all_below slots undefineds))) ≡ true
own_rule k params rest slots undefineds c =
    and_from (nat_le params slots) _ (le-leb params slots c.parameters)
    (and_from (nat_le (rest_parameters rest) params) _ (le-leb (rest_parameters rest) params c.of_rest)
    (and_from (nat_le (least_slots k) slots) _ (le-leb (least_slots k) slots c.least) c.own))

pub fit_template : (p : Place) (k : TemplateKind) (name : List ℕ) (len params : ℕ) (rest : Bool) (slots : ℕ) (undefineds : List ℕ) (body : Term)
    → Counted k params rest slots undefineds → Fit (InTemplate k slots ∷ p) body
    → FitTemplate p (record { kind = k; name = name; length = len; params = params; rest = rest; slots = slots; undefined = undefineds; body = body })
fit_template p k name len params rest slots undefineds body c x =
    let r : Template = record { kind = k; name = name; length = len; params = params; rest = rest; slots = slots; undefined = undefineds; body = body } in
    let layer : TemplateLayer = record { kind = k; name = name; length = len; params = params; rest = rest; slots = slots; undefined = undefineds; body = body } in
    let is : out-Template r ≡ layer = out-roll-Template layer in
    here p (inner.template r) []
    (and_from (template_fits r) true
    (subst (λ t. (nat_le t.params t.slots && (nat_le (rest_parameters t.rest) t.params && (nat_le (least_slots t.kind) t.slots && all_below t.slots t.undefined))) ≡ true)
    (sym is) (own_rule k params rest slots undefineds c)) refl)
    (subst (λ t. Everywhere stands p (inner.term_within (InTemplate t.kind t.slots) t.body ∷ [])) (sym is) (entering p (InTemplate k slots) body x))
    (nowhere p)

-- FRAMES

parameter_plain_at : (l : PatternLayer) → is_plain_referent (templates.parameter_slot_at l).referent ≡ true
parameter_plain_at (Pattern-F.Bound i) = refl
parameter_plain_at (Pattern-F.Target e) = refl
parameter_plain_at (Pattern-F.ObjectPattern place fs r) = refl
parameter_plain_at (Pattern-F.ArrayPattern place es r) = refl

parameters_plain : (es : List PatternElement) → is_plain (templates.parameter_slots es) ≡ true
parameters_plain [] = refl
parameters_plain (e ∷ es) =
    and_from (is_plain_referent (templates.parameter_slot (out-PatternElement e).pattern).referent) _ (parameter_plain_at (out-Pattern (out-PatternElement e).pattern))
    (parameters_plain es)

rest_plain : (o : Option Pattern) → is_plain (templates.rest_slots o) ≡ true
rest_plain None = refl
rest_plain (Some p) = and_from (is_plain_referent (templates.parameter_slot p).referent) true (parameter_plain_at (out-Pattern p)) refl

arguments_plain : (f : Function) → is_plain (templates.argument_slots f) ≡ true
arguments_plain f = plain_append (templates.parameter_slots (out-Function f).parameters) (templates.rest_slots (out-Function f).rest) (parameters_plain (out-Function f).parameters)
    (rest_plain (out-Function f).rest)

body_plain : (first : Frame) (l : List Stmt) → is_plain first ≡ true → is_plain (templates.body_frame first l) ≡ true
body_plain first l x = plain_names (flat body_names l) first x

parameters_length : (es : List PatternElement) → length (templates.parameter_slots es) ≡ length es
parameters_length [] = refl
parameters_length (e ∷ es) = ap suc (parameters_length es)

rest_length : (o : Option Pattern) → length (templates.rest_slots o) ≡ templates.rest_count o
rest_length None = refl
rest_length (Some p) = refl

arguments_length : (f : Function) → length (templates.argument_slots f) ≡ length (out-Function f).parameters + templates.rest_count (out-Function f).rest
arguments_length f =
    let a : length (templates.parameter_slots (out-Function f).parameters) ≡ length (out-Function f).parameters = parameters_length (out-Function f).parameters in
    let c : length (templates.rest_slots (out-Function f).rest) ≡ templates.rest_count (out-Function f).rest = rest_length (out-Function f).rest in
    let d : length (templates.argument_slots f) ≡ length (templates.parameter_slots (out-Function f).parameters) + length (templates.rest_slots (out-Function f).rest)
    = length-append (templates.parameter_slots (out-Function f).parameters) (templates.rest_slots (out-Function f).rest) in
    omega (arith, a, c, d)

rest_needs : (o : Option Pattern) → rest_parameters (is_some o) ≤ templates.rest_count o
rest_needs None = omega arith
rest_needs (Some p) = omega arith

-- slots that start as undefined are the template's own
vars_by : (s : Bool) (n at : ℕ) (l : List ℕ) → nat_lt at n ≡ true → all_below n l ≡ true → all_below n (cond s (at ∷ l) l) ≡ true
vars_by true n at l x y = and_from (nat_lt at n) _ x y
vars_by false n at l x y = y

vars_below : (vars : List DeclaredName) (n at : ℕ) (ss : List SlotName) → at + length ss ≤ n → all_below n (templates.var_slots vars at ss) ≡ true
vars_below vars n at [] w = refl
vars_below vars n at (s ∷ ss) w =
    vars_by (has_name s.name vars) n at (templates.var_slots vars (at + 1) ss) (lt-ltb at n (omega (arith, w))) (vars_below vars n (at + 1) ss (omega (arith, w)))

pub undefined_below : (first : Frame) (l : List Stmt) → all_below (length (templates.body_frame first l)) (templates.undefined_slots first l) ≡ true
undefined_below first l =
    let frame = templates.body_frame first l in
    let more : length first ≤ length frame = length_names (flat body_names l) first in
    let dropped : length (drop (length first) frame) ≡ length frame - length first = length-drop (length first) frame in
    vars_below (templates.var_names l) (length frame) (length first) (drop (length first) frame) (omega (arith, more, dropped))

-- no jump leaves a template
no_jumps_in : (ctx : EarlyContext) (d : Bool) (k : FunctionKind) → ((function_context ctx d k).in_loop || (function_context ctx d k).in_switch) ≡ false
no_jumps_in ctx d function_kind.Plain = refl
no_jumps_in ctx d function_kind.Arrow = refl
no_jumps_in ctx d function_kind.Method = refl
no_jumps_in ctx d function_kind.Getter = refl
no_jumps_in ctx d function_kind.Setter = refl

no_loop_in : (ctx : EarlyContext) (d : Bool) (k : FunctionKind) → (function_context ctx d k).in_loop ≡ false
no_loop_in ctx d function_kind.Plain = refl
no_loop_in ctx d function_kind.Arrow = refl
no_loop_in ctx d function_kind.Method = refl
no_loop_in ctx d function_kind.Getter = refl
no_loop_in ctx d function_kind.Setter = refl

never : {A : Type 0} (a : Bool) → a ≡ false → a ≡ true → A
never true e h = cc
never false e h = cc

body_jumps : (ctx : EarlyContext) (d : Bool) (k : FunctionKind) (p : Place) → Jumps (function_context ctx d k) [] p
body_jumps ctx d k p = record {
  plain_break = λ h. never _ (no_jumps_in ctx d k) h;
  plain_continue = λ h. never _ (no_loop_in ctx d k) h;
  to_label = λ n h. cc;
  to_loop = λ n h. cc;
}

source_jumps : (k : SourceKind) (p : Place) → Jumps (source_context k) [] p
source_jumps k p = record { plain_break = λ h. cc; plain_continue = λ h. cc; to_label = λ n h. cc; to_loop = λ n h. cc }

-- PARAMETERS AND BODIES

abbrev AreParameters : Place → ℕ → ℕ → Type 0
AreParameters p level total = (k : ℕ) → k < total → IsHeld (open_scopes p) (record { level = level; slot = k }) × (is_slot p 0 k ≡ true)

module _ (b : Below) (h : Lowers b) where
  default_by : {ctx : EarlyContext} {kl : List EarlyLabel} (env : Env) (p : Place) (s : Held) (name : Name) (o : Option Expr) → At ctx env p → IsHeld (open_scopes p) s → is_slot p 0 s.slot ≡ true
      → AreSound ctx kl (from_option walk.operand o) → FitAll p (templates.default_list b env s name o)
  default_by env p s name None at x own y = nowhere p
  default_by env p s name (Some d) at x own y =
      fit_if p _ _ (Some _) (fit_same_value p _ _ (fit_slot env p s at x) (fit_undefined p)) (fit_init_here p s.slot _ own (h.expr env p name d at y)) (fit_undefined p)

  bind_by : {ctx : EarlyContext} {kl : List EarlyLabel} (env : Env) (p : Place) (s : Held) (t : Pattern) (l : PatternLayer) → At ctx env p → IsHeld (open_scopes p) s → L ctx kl (PatternPart false t)
      → FitAll p (templates.parameter_bind_at b env s t l)
  bind_by env p s t (Pattern-F.Bound i) at x y = nowhere p
  bind_by env p s t (Pattern-F.Target e) at x y = h.bind env p false (InSlot s) false t at (from_slot s x) y
  bind_by env p s t (Pattern-F.ObjectPattern place fs r) at x y = h.bind env p false (InSlot s) false t at (from_slot s x) y
  bind_by env p s t (Pattern-F.ArrayPattern place es r) at x y = h.bind env p false (InSlot s) false t at (from_slot s x) y

  fit_parameters : {ctx : EarlyContext} {kl : List EarlyLabel} (env : Env) (p : Place) (level n total : ℕ) (es : List PatternElement) → At ctx env p → AreParameters p level total → n + length es ≤ total
      → AreSound ctx kl (flat (walk.element false) es) → FitAll p (templates.parameters b env level n es)
  fit_parameters env p level n total [] at k w y = nowhere p
  fit_parameters env p level n total (e ∷ es) at k w y =
      let lt : n < total = omega (arith, w) in
      let z = left (walk.element false e) (flat (walk.element false) es) y in
      let t = (out-PatternElement e).pattern in
      let s : Held = record { level = level; slot = n } in
      joined p (templates.parameter b env s e) (templates.parameters b env level (n + 1) es)
      (joined p (templates.default_list b env s (bound_name t) (out-PatternElement e).default) (templates.parameter_bind b env s t)
      (default_by env p s (bound_name t) (out-PatternElement e).default at (k n lt).0 (k n lt).1 (behind _ _ z))
      (bind_by env p s t (out-Pattern t) at (k n lt).0 (first _ _ z)))
      (fit_parameters env p level (n + 1) total es at k (omega (arith, w)) (right (walk.element false e) (flat (walk.element false) es) y))

  rest_by : {ctx : EarlyContext} {kl : List EarlyLabel} (env : Env) (p : Place) (s : Held) (o : Option Pattern) (total : ℕ) → At ctx env p → AreParameters p s.level total → s.slot + templates.rest_count o ≤ total
      → AreSound ctx kl (from_option (walk.pattern false) o) → FitAll p (templates.rest_parameter b env s o)
  rest_by env p s None total at k w y = nowhere p
  rest_by env p s (Some t) total at k w y = bind_by env p s t (out-Pattern t) at (k s.slot (omega (arith, w))).0 y

  concise_by : (p : Place) (l : List Term) (t : Term) → FitAll p l → Fit p t → Fit p (templates.concise b l t)
  concise_by p [] t x y = y
  concise_by p (s ∷ l) t x y = fit_seq p _ (joined p (s ∷ l) (t ∷ []) x y)

  pub fit_return_value : {ctx : EarlyContext} {kl : List EarlyLabel} (env : Env) (p : Place) (e : Expr) → At ctx env p → LE ctx kl e → Fit p (templates.return_value b env e)
  fit_return_value env p e at y = fit_return p (Some _) (fit_expr b h env p e at y)

  body_by : {ctx : EarlyContext} {kl : List EarlyLabel} (env : Env) (p : Place) (l : List Term) (k : BodyLayer) → At ctx env p → Jumps ctx kl p → FitAll p l → AreSound ctx kl (walk.body_at k) → Fit p (templates.body_at b env l k)
  body_by env p l (Body-F.Statements s) at j x y = fit_seq p _ (joined p l _ x (fit_list_of b h env p s at j y))
  body_by env p l (Body-F.Concise e) at j x y = concise_by p l _ x (fit_return_value env p e at y)

  inside_template : {ctx inner_ctx : EarlyContext} (env : Env) (p : Place) (k : TemplateKind) (frame : Frame) → is_plain frame ≡ true → At ctx env p → KindAt inner_ctx k p
      → At inner_ctx (frame ∷ env) (InTemplate k (length frame) ∷ p)
  inside_template env p k frame pl at allows = (one_open frame (length frame) env (open_scopes p) pl (omega arith) at.0, allows)

  pub fit_template_row : {ctx : EarlyContext} {kl : List EarlyLabel} (env : Env) (p : Place) (k : TemplateKind) (name : Name) (d : Bool) (f : Function) → At ctx env p → least_slots k ≡ 0 → KindAt (function_context ctx d (out-Function f).kind) k p → L ctx kl (FunctionPart d f)
      → FitTemplate p (templates.template_row b env k name f)
  fit_template_row {ctx} {kl} env p k name d f at small allows x =
      let own = templates.own_statements f in
      let head = templates.parameter_frame f in
      let frame = templates.body_frame head own in
      let es = (out-Function f).parameters in
      let r = (out-Function f).rest in
      let q = InTemplate k (length frame) ∷ p in
      let plain : is_plain frame ≡ true = body_plain head own (plain_names (parameter_names f) (templates.argument_slots f) (arguments_plain f)) in
      let further : At (function_context ctx d (out-Function f).kind) (frame ∷ env) q = inside_template env p k frame plain at allows in
      let many : length (templates.argument_slots f) ≡ length es + templates.rest_count r = arguments_length f in
      let first_many : length (templates.argument_slots f) ≤ length head = length_names (parameter_names f) (templates.argument_slots f) in
      let all_many : length head ≤ length frame = length_names (flat body_names own) head in
      let needs : rest_parameters (is_some r) ≤ templates.rest_count r = rest_needs r in
      let outer : length (open_scopes p) ≡ length env = as_many env (open_scopes p) at.0 in
      let slots : AreParameters q (length env) (length frame)
      = λ n lt. (newest (length frame) (open_scopes p) (record { level = length env; slot = n }) (sym outer) lt, lt-ltb n (length frame) lt) in
      let y = below (FunctionPart d f) x in
      let z = right (flat (walk.element false) es) _ y in
      fit_template p k name _ _ _ (length frame) _ _
      (record { parameters = omega (arith, many, first_many, all_many); of_rest = omega (arith, needs); least = omega (arith, small); own = undefined_below head own })
      (body_by (frame ∷ env) q _ (out-Body (out-Function f).body) further (body_jumps ctx d (out-Function f).kind q)
      (joined q (templates.parameters b (frame ∷ env) (length env) 0 es) (templates.rest_parameter b (frame ∷ env) (record { level = length env; slot = length es }) r)
      (fit_parameters (frame ∷ env) q (length env) 0 (length frame) es further slots (omega (arith, many, first_many, all_many))
      (left (flat (walk.element false) es) _ y))
      (rest_by (frame ∷ env) q (record { level = length env; slot = length es }) r (length frame) further slots (omega (arith, many, first_many, all_many))
      (left (from_option (walk.pattern false) r) (walk.body (out-Function f).body) z)))
      (right (from_option (walk.pattern false) r) (walk.body (out-Function f).body) z))

  -- SOURCES

  source_scope : (kd : SourceKind) (k : TemplateKind) (frame : Frame) → is_plain frame ≡ true → At (source_context kd) (frame ∷ []) (InTemplate k (length frame) ∷ [])
  source_scope kd k frame pl = (one_open frame (length frame) [] [] pl (omega arith) none_open, record { property = λ h. cc; call = λ h. cc })

  pub fit_module : (kd : SourceKind) (l : List Stmt) → AreSound (source_context kd) [] (flat walk.statement l) → FitTemplate [] (templates.module_template b l)
  fit_module kd l x =
      let frame = templates.body_frame (templates.module_slots b) l in
      let least : 3 ≤ length frame = length_names (flat body_names l) (templates.module_slots b) in
      let q = InTemplate kind.Module (length frame) ∷ [] in
      let at : At (source_context kd) (frame ∷ []) q = source_scope kd kind.Module frame (body_plain (templates.module_slots b) l refl) in
      fit_template [] kind.Module [] 0 0 false (length frame) (templates.undefined_slots (templates.module_slots b) l) _
      (record { parameters = omega arith; of_rest = omega arith; least = least; own = undefined_below (templates.module_slots b) l })
      (fit_seq q _ (fit_list_of b h (frame ∷ []) q l at (source_jumps kd q) x))

  last_by : {ctx : EarlyContext} {kl : List EarlyLabel} (env : Env) (p : Place) (s : Stmt) (l : StmtLayer) → At ctx env p → Jumps ctx kl p → L ctx kl (StatementPart s) → AreSound ctx (with_label kl (label_at l)) (walk.statement_parts_at l)
      → FitAll p (templates.last_at b env s l)
  last_by env p s (Stmt-F.Expression e) at j x y = fit_return_value env p e at y
  last_by env p s (Stmt-F.Declare d) at j x y = fit_stmt b h env p s at j x
  last_by env p s (Stmt-F.FunctionDeclaration f) at j x y = fit_stmt b h env p s at j x
  last_by env p s (Stmt-F.ClassDeclaration c) at j x y = fit_stmt b h env p s at j x
  last_by env p s (Stmt-F.Block place l) at j x y = fit_stmt b h env p s at j x
  last_by env p s (Stmt-F.Empty place) at j x y = fit_stmt b h env p s at j x
  last_by env p s (Stmt-F.If place t a c) at j x y = fit_stmt b h env p s at j x
  last_by env p s (Stmt-F.While place t a) at j x y = fit_stmt b h env p s at j x
  last_by env p s (Stmt-F.DoWhile place a t) at j x y = fit_stmt b h env p s at j x
  last_by env p s (Stmt-F.For place i t u a) at j x y = fit_stmt b h env p s at j x
  last_by env p s (Stmt-F.ForOf place t e a) at j x y = fit_stmt b h env p s at j x
  last_by env p s (Stmt-F.ForIn place t e a) at j x y = fit_stmt b h env p s at j x
  last_by env p s (Stmt-F.Continue place l) at j x y = fit_stmt b h env p s at j x
  last_by env p s (Stmt-F.Break place l) at j x y = fit_stmt b h env p s at j x
  last_by env p s (Stmt-F.Return place e) at j x y = fit_stmt b h env p s at j x
  last_by env p s (Stmt-F.Throw place e) at j x y = fit_stmt b h env p s at j x
  last_by env p s (Stmt-F.Switch place e cs) at j x y = fit_stmt b h env p s at j x
  last_by env p s (Stmt-F.Try place l k f) at j x y = fit_stmt b h env p s at j x
  last_by env p s (Stmt-F.Labelled i a) at j x y = fit_stmt b h env p s at j x
  last_by env p s (Stmt-F.Debugger place) at j x y = fit_stmt b h env p s at j x

  fit_text_statements : {ctx : EarlyContext} {kl : List EarlyLabel} (env : Env) (p : Place) (l : List Stmt) → At ctx env p → Jumps ctx kl p → AreSound ctx kl (flat walk.statement l) → FitAll p (templates.text_statements b env l)
  fit_text_statements env p [] at j x = nowhere p
  fit_text_statements env p (s ∷ []) at j x = last_by env p s (out-Stmt s) at j x (below (StatementPart s) x)
  fit_text_statements env p (s ∷ t ∷ l) at j x =
      joined p (statements.stmt b env s) (templates.text_statements b env (t ∷ l)) (fit_stmt b h env p s at j (first _ _ x)) (fit_text_statements env p (t ∷ l) at j (behind _ _ x))

  pub fit_text_template : (kd : SourceKind) (l : List Stmt) → AreSound (source_context kd) [] (flat walk.statement l) → FitTemplate [] (templates.text_template b l)
  fit_text_template kd l x =
      let frame = templates.body_frame (templates.text_slots b) l in
      let least : 1 ≤ length frame = length_names (flat body_names l) (templates.text_slots b) in
      let q = InTemplate kind.Text (length frame) ∷ [] in
      let at : At (source_context kd) (frame ∷ []) q = source_scope kd kind.Text frame (body_plain (templates.text_slots b) l refl) in
      let j : Jumps (source_context kd) [] q = source_jumps kd q in
      fit_template [] kind.Text [] 0 0 false (length frame) (templates.undefined_slots (templates.text_slots b) l) _
      (record { parameters = omega arith; of_rest = omega arith; least = least; own = undefined_below (templates.text_slots b) l })
      (fit_seq q _ (joined q (flat (statements.hoisted b (frame ∷ [])) l) (templates.text_statements b (frame ∷ []) l) (fit_hoisted b h (frame ∷ []) q l at x)
      (fit_text_statements (frame ∷ []) q l at j x)))
