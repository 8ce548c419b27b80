-- The terms of expressions, form by form.
use Rattle.std.specs.Prelude.{ℕ, pos, ◌-◌, Bool, true, false, ◌||◌, if◌then◌else◌, List, [], ◌∷◌, map, codes, length, Option, Some, None}
use Rattle.std.specs.Option.{option_map}
use Rattle.js_tree.specs.declared.tree.Argument.TheOpen.{Argument-F, ArrayElement-F, Expr-F, LinkStep-F, Pattern-F, Property-F, PropertyKey-F}
use Rattle.js_tree.specs.Layers.{ArgumentLayer, ArrayElementLayer, ExprLayer, LinkStepLayer, PatternLayer, PropertyLayer, PropertyKeyLayer}
use Rattle.js_tree.specs.declared.operator.AssignmentOperator.{AssignmentOperator}
use Rattle.js_tree.specs.declared.operator.AssignmentOperator.TheVariants as assignment
use Rattle.js_tree.specs.declared.operator.BinaryOperator.{BinaryOperator}
use Rattle.js_tree.specs.declared.operator.BinaryOperator.TheVariants as op
use Rattle.js_tree.specs.declared.operator.UnaryOperator.{UnaryOperator}
use Rattle.js_tree.specs.declared.operator.UnaryOperator.TheVariants as unary
use Rattle.js_tree.specs.declared.operator.UpdateOperator.{UpdateOperator}
use Rattle.js_tree.specs.declared.operator.UpdateOperator.TheVariants as updating
use Rattle.js_tree.specs.declared.tree.Argument.{Argument, out-Argument}
use Rattle.js_tree.specs.declared.tree.ArrayElement.{ArrayElement, out-ArrayElement}
use Rattle.js_tree.specs.declared.tree.Class.{Class, out-Class}
use Rattle.js_tree.specs.declared.tree.ClassMember.{ClassMember, out-ClassMember}
use Rattle.js_tree.specs.declared.tree.Expr.{Expr, out-Expr}
use Rattle.js_tree.specs.declared.tree.Function.{Function, out-Function}
use Rattle.js_tree.specs.declared.tree.FunctionKind.{FunctionKind}
use Rattle.js_tree.specs.declared.tree.FunctionKind.TheVariants as kind
use Rattle.js_tree.specs.declared.tree.Identifier.{Identifier}
use Rattle.js_tree.specs.declared.tree.Link.{Link, out-Link}
use Rattle.js_tree.specs.declared.tree.LinkStep.{LinkStep, out-LinkStep}
use Rattle.js_tree.specs.declared.tree.Pattern.{Pattern, out-Pattern}
use Rattle.js_tree.specs.declared.tree.Property.{Property, out-Property}
use Rattle.js_tree.specs.declared.tree.PropertyKey.{PropertyKey, out-PropertyKey}
use Rattle.js_text.specs.Texts.{same_units}
use Rattle.js_text.specs.declared.native.Native.{Native}
use Rattle.js_text.specs.declared.native.Native.TheVariants as native
use Rattle.js_term.specs.declared.term.Arguments.{Arguments}
use Rattle.js_term.specs.declared.term.Arguments.TheVariants as args
use Rattle.js_term.specs.declared.term.Literal.TheVariants as literal
use Rattle.js_term.specs.declared.term.Part.{Part}
use Rattle.js_term.specs.declared.term.Part.TheVariants as part
use Rattle.js_term.specs.declared.term.Template.{Template}
use Rattle.js_term.specs.declared.term.TemplateKind.{TemplateKind}
use Rattle.js_term.specs.declared.term.TemplateKind.TheVariants as template
use Rattle.js_term.specs.declared.term.Term.{Term}
use Rattle.js_term.specs.declared.term.Term.TheVariants as term
use Rattle.js_names.specs.Lists.{flat}
use Rattle.js_frames.specs.Frames.{Env}
use Rattle.js_term_stack.specs.declared.pending.Pending.{Pending}
use Rattle.js_term_stack.specs.declared.pending.Pending.TheVariants as pending
use Rattle.js_lower_table.specs.Values.{Name, undefined, text, integer, truth, here, slot, next_held, array, object, to_text, to_key, number, number_key, read, write, operation_in, init_here, scope_of, is_null}
use Rattle.js_lower_table.specs.Entries.{Below, InSlot, bare, key_name, name_of, own_name, template_kind}

abbrev pub one_more : Env → Env
one_more env = [] ∷ env

-- ARGUMENTS AND KEYS

abbrev pub is_spread_at : ArgumentLayer → Bool
is_spread_at (Argument-F.Operand e) = false
is_spread_at (Argument-F.SpreadArgument e) = true

abbrev pub is_spread : Argument → Bool
is_spread a = is_spread_at (out-Argument a)

abbrev pub has_spread : List Argument → Bool
has_spread [] = false
has_spread (a ∷ l) = is_spread a || has_spread l

abbrev pub constructor_kind : Option Expr → TemplateKind
constructor_kind None = template.Base
constructor_kind (Some e) = template.Derived

abbrev pub is_method : FunctionKind → Bool
is_method kind.Method = true
is_method _ = false

abbrev pub is_constructor_key_at : PropertyKeyLayer → Bool
is_constructor_key_at (PropertyKey-F.Named i) = same_units i.name (codes "constructor")
is_constructor_key_at _ = false

abbrev pub is_constructor_key : PropertyKey → Bool
is_constructor_key k = is_constructor_key_at (out-PropertyKey k)

-- ECMA-262 ConstructorMethod
abbrev pub is_constructor : ClassMember → Bool
is_constructor m = if (out-ClassMember m).is_static then false else if is_method (out-Function (out-ClassMember m).function).kind then is_constructor_key (out-ClassMember m).key else false

abbrev pub constructor_in : List ClassMember → Option Function
constructor_in [] = None
constructor_in (m ∷ ms) = if is_constructor m then Some (out-ClassMember m).function else constructor_in ms

-- CHAINS

-- the value of a chain so far
abbrev pub settled : Pending → Term
settled (pending.Settled t) = t
settled (pending.Reference o k) = term.Get o k
settled (pending.SuperReference k) = term.SuperGet k

-- the end of a chain, which `delete` may stand before
abbrev pub ended : Bool → Pending → Term
ended false s = settled s
ended true (pending.Reference o k) = term.Delete o k
ended true s = settled s

-- what a chain gives that is cut short
abbrev pub cut_short : Bool → Term
cut_short false = undefined
cut_short true = truth true

-- where a call comes after `?.`, the object of the reference is kept beside its value
abbrev pub keeps_object : Pending → Bool → Bool
keeps_object (pending.Settled t) is_call = false
keeps_object (pending.Reference o k) is_call = is_call
keeps_object (pending.SuperReference k) is_call = is_call

abbrev pub kept_object : Pending → Term
kept_object (pending.Settled t) = t
kept_object (pending.Reference o k) = o
kept_object (pending.SuperReference k) = term.This

abbrev pub kept_value : Pending → Term
kept_value (pending.Settled t) = t
kept_value (pending.Reference o k) = term.Get (here 0) k
kept_value (pending.SuperReference k) = term.SuperGet k

abbrev pub is_call_at : LinkStepLayer → Bool
is_call_at (LinkStep-F.MemberLink i) = false
is_call_at (LinkStep-F.IndexLink e) = false
is_call_at (LinkStep-F.CallLink l) = true

abbrev pub is_call : LinkStep → Bool
is_call s = is_call_at (out-LinkStep s)

abbrev pub ends_in_call : List Link → Bool
ends_in_call [] = false
ends_in_call (l ∷ []) = is_call (out-Link l).step
ends_in_call (l ∷ m ∷ ls) = ends_in_call (m ∷ ls)

abbrev pub has_optional : List Link → Bool
has_optional [] = false
has_optional (l ∷ ls) = (out-Link l).optional || has_optional ls

-- the scope of a `?.`: the value before it, or its object and its value
abbrev pub optional_value : Bool → Pending → Term → Term
optional_value deleted s rest = scope_of 1 (init_here 0 (settled s) ∷ term.If (is_null (here 0)) (cut_short deleted) (Some rest) ∷ [])

abbrev pub optional_call : Bool → Pending → Term → Term
optional_call deleted s rest =
    scope_of 2 (init_here 0 (kept_object s) ∷ init_here 1 (kept_value s) ∷ term.If (is_null (here 1)) (cut_short deleted) (Some rest) ∷ [])

-- ECMA-262 OptionalExpression
abbrev pub optional : Bool → Bool → Pending → Term → Term
optional deleted keeps s rest = if keeps then optional_call deleted s rest else optional_value deleted s rest

-- what comes behind a `?.` stands in a scope of its own where a further `?.` follows
abbrev pub behind : List Link → Env → Env
behind ls env = if has_optional ls then [] ∷ env else env

-- ASSIGNMENTS

abbrev pub get_here : Term
get_here = term.Get (here 0) (here 1)

abbrev pub put_here : Term → Term
put_here value = term.Put (here 0) (here 1) value

-- ECMA-262 AssignmentExpression, of a property
abbrev pub operate_here : AssignmentOperator → Term → Term
operate_here (assignment.Binary o) value = put_here (term.Binary o get_here value)
operate_here (assignment.Logical o) value = term.Short o get_here (put_here value)

abbrev pub step_of : UpdateOperator → BinaryOperator
step_of updating.Increment = op.Add
step_of updating.Decrement = op.Subtract

abbrev pub stepped : UpdateOperator → Term → Term
stepped o t = term.Binary (step_of o) t (integer (pos 1))

abbrev pub numeric : Term → Term
numeric t = term.Unary unary.Plus t

abbrev pub update_name_first : Env → UpdateOperator → Name → Term
update_name_first env o n = write env n (stepped o (numeric (read env n false)))

abbrev pub update_name_last : Env → UpdateOperator → Name → Term
update_name_last env o n =
    scope_of 1 (init_here 0 (numeric (read ([] ∷ env) n false)) ∷ write ([] ∷ env) n (stepped o (here 0)) ∷ here 0 ∷ [])

-- ECMA-262 UpdateExpression, of a name
abbrev pub update_name : Env → UpdateOperator → Bool → Name → Term
update_name env o prefix n = if prefix then update_name_first env o n else update_name_last env o n

abbrev pub outer_get : Term
outer_get = term.Get (term.Local 1 0) (term.Local 1 1)

abbrev pub outer_put : Term → Term
outer_put value = term.Put (term.Local 1 0) (term.Local 1 1) value

abbrev pub update_last : UpdateOperator → Term
update_last o = scope_of 1 (init_here 0 (numeric outer_get) ∷ outer_put (stepped o (here 0)) ∷ here 0 ∷ [])

abbrev pub update_first : UpdateOperator → Term
update_first o = put_here (stepped o (numeric get_here))

-- ECMA-262 UpdateExpression, of a property
abbrev pub update_here : UpdateOperator → Bool → Term
update_here o prefix = if prefix then update_first o else update_last o

abbrev pub with_reference : Term → Term → Term → Term
with_reference o k rest = scope_of 2 (init_here 0 o ∷ init_here 1 k ∷ rest ∷ [])

abbrev pub property_part : Bool → FunctionKind → Term → Template → Part
property_part is_static kind.Plain k t = part.Method is_static k t
property_part is_static kind.Arrow k t = part.Method is_static k t
property_part is_static kind.Method k t = part.Method is_static k t
property_part is_static kind.Getter k t = part.Getter is_static k t
property_part is_static kind.Setter k t = part.Setter is_static k t

module _ (low : Below) where
  abbrev pub expr : Env → Expr → Term
  expr env e = low.expr env [] e

  -- ARGUMENTS, LITERALS AND TEMPLATES

  abbrev pub element_at : Env → ArrayElementLayer → Part
  element_at env ArrayElement-F.Hole = part.Hole
  element_at env (ArrayElement-F.Element e) = part.Item (expr env e)
  element_at env (ArrayElement-F.SpreadElement e) = part.Spread (expr env e)

  -- ECMA-262 ArrayAccumulation
  abbrev pub element : Env → ArrayElement → Part
  element env e = element_at env (out-ArrayElement e)

  abbrev pub argument_at : Env → ArgumentLayer → Part
  argument_at env (Argument-F.Operand e) = part.Item (expr env e)
  argument_at env (Argument-F.SpreadArgument e) = part.Spread (expr env e)

  abbrev pub argument : Env → Argument → Part
  argument env a = argument_at env (out-Argument a)

  abbrev pub plain_argument_at : Env → ArgumentLayer → Term
  plain_argument_at env (Argument-F.Operand e) = expr env e
  plain_argument_at env (Argument-F.SpreadArgument e) = expr env e

  abbrev pub plain_argument : Env → Argument → Term
  plain_argument env a = plain_argument_at env (out-Argument a)

  -- the arguments as an array
  abbrev pub argument_array : Env → List Argument → Term
  argument_array env l = array (map (argument env) l)

  -- ECMA-262 ArgumentListEvaluation
  abbrev pub arguments : Env → List Argument → Arguments
  arguments env l = if has_spread l then args.Of (argument_array env l) else args.Listed (map (plain_argument env) l)

  abbrev pub template_operands : Env → List Name → List Expr → List Term
  template_operands env [] es = []
  template_operands env (s ∷ ss) [] = text s ∷ template_operands env ss []
  template_operands env (s ∷ ss) (e ∷ es) = text s ∷ to_text (expr env e) ∷ template_operands env ss es

  -- ECMA-262 TemplateLiteral
  abbrev pub template_literal : Env → List Name → List Expr → Term
  template_literal env ss es = term.Native native.Concat (template_operands env ss es)

  abbrev pub key_at : Env → PropertyKeyLayer → Term
  key_at env (PropertyKey-F.Named i) = text i.name
  key_at env (PropertyKey-F.Numbered place n) = number_key n
  key_at env (PropertyKey-F.Computed place e) = expr env e

  -- ECMA-262 PropertyName
  abbrev pub key : Env → PropertyKey → Term
  key env k = key_at env (out-PropertyKey k)

  -- ECMA-262 MethodDefinitionEvaluation
  abbrev pub method : Env → Bool → PropertyKey → Function → Part
  method env is_static k f = property_part is_static (out-Function f).kind (key env k) (low.template env template.Method (key_name k) f)

  abbrev pub data_property : Env → PropertyKey → Expr → Part
  data_property env k e = part.Data (key env k) (low.expr env (key_name k) e)

  abbrev pub property_at : Env → PropertyLayer → Part
  property_at env (Property-F.Valued k e) = data_property env k e
  property_at env (Property-F.Defined k f) = method env false k f
  property_at env (Property-F.SpreadProperty e) = part.Spread (expr env e)
  property_at env (Property-F.Initialized i e) = part.Hole

  -- ECMA-262 PropertyDefinitionEvaluation
  abbrev pub property : Env → Property → Part
  property env p = property_at env (out-Property p)

  -- FUNCTIONS AND CLASSES

  abbrev pub plain_function : Env → Name → Function → Term
  plain_function env name f = term.Func (low.template env (template_kind (out-Function f).kind) name f)

  abbrev pub named_function : Env → Name → Function → Term
  named_function env n f = scope_of 1 (init_here 0 (plain_function (own_name n ∷ env) n f) ∷ here 0 ∷ [])

  abbrev pub function_as : Env → Name → Function → Option Identifier → Term
  function_as env name f None = plain_function env name f
  function_as env name f (Some i) = named_function env i.name f

  -- ECMA-262 InstantiateOrdinaryFunctionExpression
  abbrev pub function : Env → Name → Function → Term
  function env name f = function_as env name f (out-Function f).name

  abbrev pub member_parts : Env → ClassMember → List Part
  member_parts env m = if is_constructor m then [] else method env (out-ClassMember m).is_static (out-ClassMember m).key (out-ClassMember m).function ∷ []

  abbrev pub class_constructor : Env → Name → Class → Option Template
  class_constructor env name c = option_map (low.template env (constructor_kind (out-Class c).heritage) name) (constructor_in (out-Class c).members)

  abbrev pub class_term : Env → Name → Class → Term
  class_term env name c = term.Class name (option_map (expr env) (out-Class c).heritage) (class_constructor env name c) (flat (member_parts env) (out-Class c).members)

  abbrev pub named_class : Env → Name → Class → Term
  named_class env n c = scope_of 1 (init_here 0 (class_term (own_name n ∷ env) n c) ∷ here 0 ∷ [])

  abbrev pub class_as : Env → Name → Class → Option Identifier → Term
  class_as env name c None = class_term env name c
  class_as env name c (Some i) = named_class env i.name c

  -- ECMA-262 ClassDefinitionEvaluation
  abbrev pub class : Env → Name → Class → Term
  class env name c = class_as env name c (out-Class c).name

  -- CALLS

  abbrev pub get_index : Env → Expr → Expr → Term
  get_index env o k = term.Get (expr env o) (expr env k)

  abbrev pub call_member : Env → Expr → Name → List Argument → Term
  call_member env o n l = term.CallOn (expr env o) (text n) (arguments env l)

  abbrev pub call_index : Env → Expr → Expr → List Argument → Term
  call_index env o k l = term.CallOn (expr env o) (expr env k) (arguments env l)

  abbrev pub call_super_index : Env → Expr → List Argument → Term
  call_super_index env k l = term.CallSuper (expr env k) (arguments env l)

  abbrev pub call_plain : Env → Expr → List Argument → Term
  call_plain env f l = term.Call (expr env f) (arguments env l)

  abbrev pub call_as : Env → Name → List Argument → Option Native → Term
  call_as env n l None = term.Call (read env n false) (arguments env l)
  call_as env n l (Some o) = term.Native o (map (plain_argument env) l)

  -- a call of a name, which is a native where the prelude's text says one
  abbrev pub call_named : Env → Name → List Argument → Term
  call_named env n l = call_as env n l (operation_in env n)

  abbrev pub call_at : Env → Expr → List Argument → ExprLayer → Term
  call_at env f l (Expr-F.Name i) = call_named env i.name l
  call_at env f l (Expr-F.Member place o i) = call_member env o i.name l
  call_at env f l (Expr-F.Index place o k) = call_index env o k l
  call_at env f l (Expr-F.SuperMember place i) = term.CallSuper (text i.name) (arguments env l)
  call_at env f l (Expr-F.SuperIndex place k) = call_super_index env k l
  call_at env f l _ = call_plain env f l

  -- ECMA-262 EvaluateCall
  abbrev pub call : Env → Expr → List Argument → Term
  call env f l = call_at env f l (out-Expr (bare f))

  -- CHAINS

  abbrev pub base_at : Env → Expr → ExprLayer → Pending
  base_at env e (Expr-F.Member place o i) = pending.Reference (expr env o) (text i.name)
  base_at env e (Expr-F.Index place o k) = pending.Reference (expr env o) (expr env k)
  base_at env e (Expr-F.SuperMember place i) = pending.SuperReference (text i.name)
  base_at env e (Expr-F.SuperIndex place k) = pending.SuperReference (expr env k)
  base_at env e _ = pending.Settled (expr env e)

  -- what stands before the first link
  abbrev pub base : Env → Expr → Pending
  base env e = base_at env e (out-Expr (bare e))

  abbrev pub link_call : Env → Pending → List Argument → Term
  link_call env (pending.Settled t) l = term.Call t (arguments env l)
  link_call env (pending.Reference o k) l = term.CallOn o k (arguments env l)
  link_call env (pending.SuperReference k) l = term.CallSuper k (arguments env l)

  abbrev pub link_at : Env → Pending → LinkStepLayer → Pending
  link_at env s (LinkStep-F.MemberLink i) = pending.Reference (settled s) (text i.name)
  link_at env s (LinkStep-F.IndexLink e) = pending.Reference (settled s) (expr env e)
  link_at env s (LinkStep-F.CallLink l) = pending.Settled (link_call env s l)

  -- a link without `?.`
  -- ECMA-262 ChainEvaluation
  abbrev pub link : Env → Pending → LinkStep → Pending
  link env s l = link_at env s (out-LinkStep l)

  abbrev pub apply_kept : Env → ℕ → List Argument → Term
  apply_kept env level l =
      term.Native native.Apply (slot env (record { level = level; slot = 1 }) ∷ slot env (record { level = level; slot = 0 }) ∷ argument_array env l ∷ [])

  abbrev pub call_kept : Env → ℕ → Bool → List Argument → Term
  call_kept env level keeps l = if keeps then apply_kept env level l else term.Call (slot env (record { level = level; slot = 0 })) (arguments env l)

  abbrev pub first_link_at : Env → ℕ → Bool → LinkStepLayer → Pending
  first_link_at env level keeps (LinkStep-F.MemberLink i) = pending.Reference (slot env (record { level = level; slot = 0 })) (text i.name)
  first_link_at env level keeps (LinkStep-F.IndexLink e) = pending.Reference (slot env (record { level = level; slot = 0 })) (expr env e)
  first_link_at env level keeps (LinkStep-F.CallLink l) = pending.Settled (call_kept env level keeps l)

  -- a link behind `?.`, whose value stands in the scope of a level
  abbrev pub first_link : Env → ℕ → Bool → LinkStep → Pending
  first_link env level keeps l = first_link_at env level keeps (out-LinkStep l)

  -- the links on what stands before them; the innermost scope is that of the next `?.`
  abbrev pub links : List Link → Env → Bool → Pending → Term
  links [] env deleted s = ended deleted s
  links (l ∷ ls) env deleted s =
      if (out-Link l).optional
      then optional deleted (keeps_object s (is_call (out-Link l).step)) s
      (links ls (behind ls env) deleted (first_link (behind ls env) (length env - 1) (keeps_object s (is_call (out-Link l).step)) (out-Link l).step))
      else links ls env deleted (link env s (out-Link l).step)

  -- ECMA-262 OptionalExpression
  abbrev pub chain : Env → Bool → Expr → List Link → Term
  chain env deleted e ls = links ls ([] ∷ env) deleted (base ([] ∷ env) e)

  -- ASSIGNMENTS

  abbrev pub assign_to_at : Env → Term → ExprLayer → Term
  assign_to_at env value (Expr-F.Name i) = write env i.name value
  assign_to_at env value (Expr-F.Member place o i) = term.Put (expr env o) (text i.name) value
  assign_to_at env value (Expr-F.Index place o k) = term.Put (expr env o) (expr env k) value
  assign_to_at env value _ = value

  -- a target gets a value
  -- ECMA-262 PutValue
  abbrev pub assign_to : Env → Term → Expr → Term
  assign_to env value e = assign_to_at env value (out-Expr (bare e))

  abbrev pub assign_pattern : Env → Pattern → Expr → Term
  assign_pattern env p e = scope_of 1 (init_here 0 (expr ([] ∷ env) e) ∷ low.bind ([] ∷ env) true (InSlot (next_held env 0)) p ∷ here 0 ∷ [])

  abbrev pub assign_at : Env → Pattern → Expr → PatternLayer → Term
  assign_at env p e (Pattern-F.Bound i) = write env i.name (low.expr env i.name e)
  assign_at env p e (Pattern-F.Target t) = assign_to env (expr env e) t
  assign_at env p e _ = assign_pattern env p e

  -- ECMA-262 AssignmentExpression
  abbrev pub assign : Env → Pattern → Expr → Term
  assign env p e = assign_at env p e (out-Pattern p)

  abbrev pub operate_name : Env → AssignmentOperator → Name → Name → Expr → Term
  operate_name env (assignment.Binary o) n name e = write env n (term.Binary o (read env n false) (expr env e))
  operate_name env (assignment.Logical o) n name e = term.Short o (read env n false) (write env n (low.expr env name e))

  abbrev pub operate_member : Env → AssignmentOperator → Expr → Name → Expr → Term
  operate_member env o a n e = with_reference (expr ([] ∷ env) a) (text n) (operate_here o (expr ([] ∷ env) e))

  abbrev pub operate_index : Env → AssignmentOperator → Expr → Expr → Expr → Term
  operate_index env o a k e = with_reference (expr ([] ∷ env) a) (to_key (expr ([] ∷ env) k)) (operate_here o (expr ([] ∷ env) e))

  abbrev pub operate_at : Env → AssignmentOperator → Name → Expr → ExprLayer → Term
  operate_at env o name e (Expr-F.Name i) = operate_name env o i.name name e
  operate_at env o name e (Expr-F.Member place a i) = operate_member env o a i.name e
  operate_at env o name e (Expr-F.Index place a k) = operate_index env o a k e
  operate_at env o name e _ = expr env e

  -- an assignment with an operator
  -- ECMA-262 AssignmentExpression
  abbrev pub operate : Env → AssignmentOperator → Expr → Expr → Term
  operate env o t e = operate_at env o (name_of t) e (out-Expr (bare t))

  abbrev pub update_member : Env → UpdateOperator → Bool → Expr → Name → Term
  update_member env o prefix a n = with_reference (expr ([] ∷ env) a) (text n) (update_here o prefix)

  abbrev pub update_index : Env → UpdateOperator → Bool → Expr → Expr → Term
  update_index env o prefix a k = with_reference (expr ([] ∷ env) a) (to_key (expr ([] ∷ env) k)) (update_here o prefix)

  abbrev pub update_at : Env → UpdateOperator → Bool → Expr → ExprLayer → Term
  update_at env o prefix e (Expr-F.Name i) = update_name env o prefix i.name
  update_at env o prefix e (Expr-F.Member place a i) = update_member env o prefix a i.name
  update_at env o prefix e (Expr-F.Index place a k) = update_index env o prefix a k
  update_at env o prefix e _ = expr env e

  -- ECMA-262 UpdateExpression
  abbrev pub update : Env → UpdateOperator → Bool → Expr → Term
  update env o prefix e = update_at env o prefix e (out-Expr (bare e))

  -- OPERATORS

  abbrev pub typeof_at : Env → Expr → ExprLayer → Term
  typeof_at env e (Expr-F.Name i) = read env i.name true
  typeof_at env e _ = expr env e

  -- what `typeof` stands before: a name that is not there is undefined
  -- ECMA-262 The typeof Operator
  abbrev pub typeof : Env → Expr → Term
  typeof env e = typeof_at env e (out-Expr (bare e))

  abbrev pub and_true : Env → Expr → Term
  and_true env e = term.Seq (expr env e ∷ truth true ∷ [])

  abbrev pub delete_bare : Env → Expr → ExprLayer → Term
  delete_bare env e (Expr-F.Member place o i) = term.Delete (expr env o) (text i.name)
  delete_bare env e (Expr-F.Index place o k) = term.Delete (expr env o) (expr env k)
  delete_bare env e _ = and_true env e

  abbrev pub delete_chain : Env → Expr → Expr → List Link → Term
  delete_chain env e a ls = if ends_in_call ls then and_true env e else chain env true a ls

  abbrev pub delete_at : Env → Expr → ExprLayer → Term
  delete_at env e (Expr-F.Chain place a ls) = delete_chain env e a ls
  delete_at env e _ = delete_bare env e (out-Expr (bare e))

  -- ECMA-262 The delete Operator
  abbrev pub delete : Env → Expr → Term
  delete env e = delete_at env e (out-Expr e)

  abbrev pub unary_term : Env → UnaryOperator → Expr → Term
  unary_term env unary.Delete e = delete env e
  unary_term env unary.Void e = term.Seq (expr env e ∷ undefined ∷ [])
  unary_term env unary.Typeof e = term.Unary unary.Typeof (typeof env e)
  unary_term env o e = term.Unary o (expr env e)

  abbrev pub expr_at : Env → Name → ExprLayer → Term
  expr_at env name (Expr-F.Name i) = read env i.name false
  expr_at env name (Expr-F.This place) = term.This
  expr_at env name (Expr-F.Null place) = term.Lit literal.Null
  expr_at env name (Expr-F.Bool place b) = truth b
  expr_at env name (Expr-F.Number place n) = number n
  expr_at env name (Expr-F.String place s) = text s
  expr_at env name (Expr-F.Template place ss es) = template_literal env ss es
  expr_at env name (Expr-F.Array place l) = array (map (element env) l)
  expr_at env name (Expr-F.Object place l) = object (map (property env) l)
  expr_at env name (Expr-F.Function f) = function env name f
  expr_at env name (Expr-F.Class c) = class env name c
  expr_at env name (Expr-F.Parenthesized place e) = low.expr env name e
  expr_at env name (Expr-F.NewTarget place) = term.NewTarget
  expr_at env name (Expr-F.Member place o i) = term.Get (expr env o) (text i.name)
  expr_at env name (Expr-F.Index place o k) = get_index env o k
  expr_at env name (Expr-F.SuperMember place i) = term.SuperGet (text i.name)
  expr_at env name (Expr-F.SuperIndex place k) = term.SuperGet (expr env k)
  expr_at env name (Expr-F.Call place f l) = call env f l
  expr_at env name (Expr-F.SuperCall place l) = term.SuperNew (arguments env l)
  expr_at env name (Expr-F.New place f l) = term.New (expr env f) (arguments env l)
  expr_at env name (Expr-F.Chain place a ls) = chain env false a ls
  expr_at env name (Expr-F.Unary place o e) = unary_term env o e
  expr_at env name (Expr-F.Update place o prefix e) = update env o prefix e
  expr_at env name (Expr-F.Binary place o a b) = term.Binary o (expr env a) (expr env b)
  expr_at env name (Expr-F.Logical place o a b) = term.Short o (expr env a) (expr env b)
  expr_at env name (Expr-F.Conditional place t a b) = term.If (expr env t) (expr env a) (Some (expr env b))
  expr_at env name (Expr-F.Assign place p e) = assign env p e
  expr_at env name (Expr-F.OperatorAssign place o t e) = operate env o t e
  expr_at env name (Expr-F.Comma place l) = term.Seq (map (expr env) l)

  -- ECMA-262 Evaluation, of an Expression
  abbrev pub expr_row : Env → Name → Expr → Term
  expr_row env name e = expr_at env name (out-Expr e)
