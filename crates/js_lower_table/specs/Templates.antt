-- The templates of functions, modules and evaluated texts.
use Rattle.std.specs.Prelude.{ℕ, ◌+◌, false, if◌then◌else◌, List, [], ◌∷◌, ◌++◌, codes, drop, length, Option, Some, None, is_some}
use Rattle.js_tree.specs.Layers.{BodyLayer, PatternLayer, StmtLayer}
use Rattle.js_tree.specs.declared.tree.Argument.TheOpen.{Body-F, Pattern-F, Stmt-F}
use Rattle.js_tree.specs.declared.tree.Body.{Body, out-Body}
use Rattle.js_tree.specs.declared.tree.Expr.{Expr}
use Rattle.js_tree.specs.declared.tree.Function.{Function, out-Function}
use Rattle.js_tree.specs.declared.tree.Pattern.{Pattern, out-Pattern}
use Rattle.js_tree.specs.declared.tree.PatternElement.{PatternElement, out-PatternElement}
use Rattle.js_tree.specs.declared.tree.Stmt.{Stmt, out-Stmt}
use Rattle.js_term.specs.declared.term.Jump.TheVariants as jump
use Rattle.js_term.specs.declared.term.Template.{Template}
use Rattle.js_term.specs.declared.term.TemplateKind.{TemplateKind}
use Rattle.js_term.specs.declared.term.TemplateKind.TheVariants as template
use Rattle.js_term.specs.declared.term.Term.{Term}
use Rattle.js_term.specs.declared.term.Term.TheVariants as term
use Rattle.js_names.specs.Lists.{flat}
use Rattle.js_names.specs.Names.{body_names, parameter_names, var_declared_names}
use Rattle.js_names.specs.Scopes.{has_name}
use Rattle.js_names.specs.declared.declared.DeclaredName.{DeclaredName}
use Rattle.js_frames.specs.Frames.{Env, Frame, with_names}
use Rattle.js_frames.specs.declared.frame.SlotName.{SlotName}
use Rattle.js_lower_table.specs.declared.held.Held.{Held}
use Rattle.js_lower_table.specs.declared.commons.TheConstants.{JSON_PARSE}
use Rattle.js_lower_table.specs.Values.{Name, undefined, text, slot, call_common, init_here, same_value}
use Rattle.js_lower_table.specs.Entries.{Below, InSlot, bound_name}
use Rattle.js_lower_table.specs.Expressions.{expr}
use Rattle.js_lower_table.specs.Statements.{hidden_slot, variable_slot, stmt, hoisted, list}

-- FRAMES

abbrev pub parameter_slot_at : PatternLayer → SlotName
parameter_slot_at (Pattern-F.Bound i) = variable_slot i.name
parameter_slot_at _ = hidden_slot

-- a parameter's slot: that of a pattern has no name
abbrev pub parameter_slot : Pattern → SlotName
parameter_slot p = parameter_slot_at (out-Pattern p)

abbrev pub parameter_slots : List PatternElement → List SlotName
parameter_slots [] = []
parameter_slots (e ∷ es) = parameter_slot (out-PatternElement e).pattern ∷ parameter_slots es

abbrev pub rest_slots : Option Pattern → List SlotName
rest_slots None = []
rest_slots (Some p) = parameter_slot p ∷ []

abbrev pub argument_slots : Function → Frame
argument_slots f = parameter_slots (out-Function f).parameters ++ rest_slots (out-Function f).rest

-- the parameters, then the names of their patterns
abbrev pub parameter_frame : Function → Frame
parameter_frame f = with_names (argument_slots f) (parameter_names f)

abbrev pub own_statements_at : BodyLayer → List Stmt
own_statements_at (Body-F.Statements l) = l
own_statements_at (Body-F.Concise e) = []

abbrev pub own_statements : Function → List Stmt
own_statements f = own_statements_at (out-Body (out-Function f).body)

-- the scope of a body: what stands there before, then the body's own names
-- ECMA-262 FunctionDeclarationInstantiation
abbrev pub body_frame : Frame → List Stmt → Frame
body_frame first l = with_names first (flat body_names l)

abbrev pub var_slots : List DeclaredName → ℕ → List SlotName → List ℕ
var_slots vars at [] = []
var_slots vars at (s ∷ ss) = if has_name s.name vars then at ∷ var_slots vars (at + 1) ss else var_slots vars (at + 1) ss

abbrev pub var_names : List Stmt → List DeclaredName
var_names l = flat var_declared_names l

-- the slots that start as undefined: what `var` declares and no parameter is
-- ECMA-262 FunctionDeclarationInstantiation
abbrev pub undefined_slots : Frame → List Stmt → List ℕ
undefined_slots first l = var_slots (var_names l) (length first) (drop (length first) (body_frame first l))

-- ECMA-262 ExpectedArgumentCount
abbrev pub expected_arguments : List PatternElement → ℕ
expected_arguments [] = 0
expected_arguments (e ∷ es) = if is_some (out-PatternElement e).default then 0 else expected_arguments es + 1

abbrev pub rest_count : Option Pattern → ℕ
rest_count None = 0
rest_count (Some p) = 1

-- PARAMETERS AND BODIES

module _ (low : Below) where
  abbrev pub default_list : Env → Held → Name → Option Expr → List Term
  default_list env h name None = []
  default_list env h name (Some d) = term.If (same_value (slot env h) undefined) (init_here h.slot (low.expr env name d)) (Some undefined) ∷ []

  abbrev pub parameter_bind_at : Env → Held → Pattern → PatternLayer → List Term
  parameter_bind_at env h p (Pattern-F.Bound i) = []
  parameter_bind_at env h p _ = low.bind env false (InSlot h) p ∷ []

  abbrev pub parameter_bind : Env → Held → Pattern → List Term
  parameter_bind env h p = parameter_bind_at env h p (out-Pattern p)

  -- ECMA-262 IteratorBindingInitialization, of a FormalParameter
  abbrev pub parameter : Env → Held → PatternElement → List Term
  parameter env h e = default_list env h (bound_name (out-PatternElement e).pattern) (out-PatternElement e).default ++ parameter_bind env h (out-PatternElement e).pattern

  abbrev pub parameters : Env → ℕ → ℕ → List PatternElement → List Term
  parameters env level n [] = []
  parameters env level n (e ∷ es) = parameter env (record { level = level; slot = n }) e ++ parameters env level (n + 1) es

  abbrev pub rest_parameter : Env → Held → Option Pattern → List Term
  rest_parameter env h None = []
  rest_parameter env h (Some p) = parameter_bind env h p

  abbrev pub all_parameters : Env → ℕ → Function → List Term
  all_parameters env level f =
      parameters env level 0 (out-Function f).parameters ++ rest_parameter env (record { level = level; slot = length (out-Function f).parameters }) (out-Function f).rest

  abbrev pub return_value : Env → Expr → Term
  return_value env e = term.Jump (jump.Return (Some (expr low env e)))

  abbrev pub concise : List Term → Term → Term
  concise [] t = t
  concise (p ∷ ps) t = term.Seq ((p ∷ ps) ++ t ∷ [])

  abbrev pub body_at : Env → List Term → BodyLayer → Term
  body_at env first (Body-F.Statements l) = term.Seq (first ++ list low env l)
  body_at env first (Body-F.Concise e) = concise first (return_value env e)

  -- ECMA-262 EvaluateBody
  abbrev pub body : Env → List Term → Body → Term
  body env first b = body_at env first (out-Body b)

  abbrev pub template_in : Env → TemplateKind → Name → Function → Frame → Template
  template_in env k name f frame = record {
    kind = k;
    name = name;
    length = expected_arguments (out-Function f).parameters;
    params = length (out-Function f).parameters + rest_count (out-Function f).rest;
    rest = is_some (out-Function f).rest;
    slots = length frame;
    undefined = undefined_slots (parameter_frame f) (own_statements f);
    body = body (frame ∷ env) (all_parameters (frame ∷ env) (length env) f) (out-Function f).body;
  }

  -- ECMA-262 OrdinaryFunctionCreate
  abbrev pub template_row : Env → TemplateKind → Name → Function → Template
  template_row env k name f = template_in env k name f (body_frame (parameter_frame f) (own_statements f))

  -- MODULES AND EVALUATED TEXTS

  abbrev pub source_template : TemplateKind → ℕ → List ℕ → Term → Template
  source_template k slots undefineds t = record {
    kind = k;
    name = [];
    length = 0;
    params = 0;
    rest = false;
    slots = slots;
    undefined = undefineds;
    body = t;
  }

  abbrev pub module_slots : Frame
  module_slots = variable_slot (codes "exports") ∷ variable_slot (codes "require") ∷ variable_slot (codes "module") ∷ []

  abbrev pub module_in : List Stmt → Frame → Template
  module_in l frame = source_template template.Module (length frame) (undefined_slots module_slots l) (term.Seq (list low (frame ∷ []) l))

  -- a module of a package is the body of a function with three parameters
  -- own: modules are those of CommonJS
  abbrev pub module_template : List Stmt → Template
  module_template l = module_in l (body_frame module_slots l)

  abbrev pub last_at : Env → Stmt → StmtLayer → List Term
  last_at env s (Stmt-F.Expression e) = return_value env e ∷ []
  last_at env s _ = stmt low env s

  -- the last statement of an evaluated text gives its value
  abbrev pub last_statement : Env → Stmt → List Term
  last_statement env s = last_at env s (out-Stmt s)

  abbrev pub text_statements : Env → List Stmt → List Term
  text_statements env [] = []
  text_statements env (s ∷ []) = last_statement env s
  text_statements env (s ∷ t ∷ l) = stmt low env s ++ text_statements env (t ∷ l)

  abbrev pub text_slots : Frame
  text_slots = variable_slot (codes "require") ∷ []

  abbrev pub text_in : List Stmt → Frame → Template
  text_in l frame =
      source_template template.Text (length frame) (undefined_slots text_slots l) (term.Seq (flat (hoisted low (frame ∷ [])) l ++ text_statements (frame ∷ []) l))

  -- SES Compartment.prototype.evaluate
  abbrev pub text_template : List Stmt → Template
  text_template l = text_in l (body_frame text_slots l)

  -- a module whose source is JSON
  -- own: the value that `JSON.parse` gives is what it exports
  abbrev pub json_template : Name → Template
  json_template t = source_template template.Module 3 [] (term.Put (term.Local 0 2) (text (codes "exports")) (call_common JSON_PARSE (text t ∷ [])))
