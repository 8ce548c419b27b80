-- The terms of arguments, keys, literals, functions and classes fit.
use Rattle.std.proofs.Common.{◌≡◌, Bool, true, false, cond, List, [], ◌∷◌, ◌++◌, map, Option, Some, None, is_some, refl, ap, sym, subst, not, ◌&&◌, ◌∙◌}
use Rattle.std.specs.Option.{option_map}
use Rattle.js_tree.specs.Layers.{ArgumentLayer, ArrayElementLayer, PropertyLayer, PropertyKeyLayer}
use Rattle.js_tree.specs.declared.tree.Argument.{Argument, out-Argument}
use Rattle.js_tree.specs.declared.tree.Argument.TheOpen.{Argument-F, ArrayElement-F, Property-F, PropertyKey-F}
use Rattle.js_tree.specs.declared.tree.ArrayElement.{ArrayElement, out-ArrayElement}
use Rattle.js_tree.specs.declared.tree.Class.{Class, out-Class}
use Rattle.js_tree.specs.declared.tree.ClassMember.{ClassMember, out-ClassMember}
use Rattle.js_tree.specs.declared.tree.Expr.{Expr}
use Rattle.js_tree.specs.declared.tree.Function.{Function, out-Function}
use Rattle.js_tree.specs.declared.tree.FunctionKind.{FunctionKind}
use Rattle.js_tree.specs.declared.tree.FunctionKind.TheVariants as kind
use Rattle.js_tree.specs.declared.tree.Identifier.{Identifier}
use Rattle.js_tree.specs.declared.tree.Property.{Property, out-Property}
use Rattle.js_tree.specs.declared.tree.PropertyKey.{PropertyKey, out-PropertyKey}
use Rattle.js_text.specs.declared.native.Native.TheVariants as native
use Rattle.js_term.specs.declared.term.Arguments.TheVariants as args
use Rattle.js_term.specs.declared.term.Template.{Template}
use Rattle.js_term.specs.declared.term.TemplateKind.TheVariants as template
use Rattle.js_term.specs.declared.term.Term.{Term}
use Rattle.js_names.specs.Lists.{flat, from_option}
use Rattle.js_frames.specs.Frames.{Env}
use Rattle.js_walk.specs.Parts as walk
use Rattle.js_walk.specs.Parts.{TreePart, ClassPart, ExpressionPart, FunctionPart}
use Rattle.js_lower_table.specs.Entries.{Below, key_name, own_name, template_kind}
use Rattle.js_lower_table.specs.Expressions as expressions
use Rattle.js_lower_table.specs.Values as values
use Rattle.js_lower_table.specs.Values.{Name}
use Rattle.js_early.specs.Contexts.{function_context}
use Rattle.js_early.specs.declared.context.EarlyContext.{EarlyContext}
use Rattle.js_early.specs.declared.context.EarlyLabel.{EarlyLabel}
use Rattle.js_valid.specs.Inner as inner
use Rattle.js_valid.specs.Surroundings.{Place, InScope}
use Rattle.js_valid.specs.Valid.{Everywhere, stands, least_slots, nowhere}
use Rattle.js_lower_laws.specs.Sound.{AreSound, is_member_kind, member_kinds, property_kind_at, property_kinds}
use Rattle.js_lower_laws.proofs.Forms.{Fit, FitAll, FitArguments, FitPart, FitParts, FitTemplate, also, also_part, fit_class, fit_data, fit_func, fit_getter, fit_hole, fit_item, fit_listed, fit_method, fit_native, fit_of, fit_setter, fit_spread, parts_joined, two}
use Rattle.js_lower_laws.proofs.Linked.{L, LE, behind, below, first, has, left, right}
use Rattle.js_lower_laws.proofs.Lowering.{KindAt, Lowers, fit_map, fit_part_map}
use Rattle.js_lower_laws.proofs.Names.{fit_array, fit_here, fit_init_here, fit_number_key, fit_scope_of, fit_text, fit_to_text}
use Rattle.js_lower_laws.proofs.Scopes.{At, first_of, opened, second_of}

module _ (b : Below) (h : Lowers b) where
  pub fit_expr : {ctx : EarlyContext} {kl : List EarlyLabel} (env : Env) (p : Place) (e : Expr) → At ctx env p → LE ctx kl e → Fit p (expressions.expr b env e)
  fit_expr env p e at l = h.expr env p [] e at l

  -- ARGUMENTS

  fit_element_at : {ctx : EarlyContext} {kl : List EarlyLabel} (env : Env) (p : Place) (l : ArrayElementLayer) → At ctx env p → AreSound ctx kl (walk.array_element_at l) → FitPart p (expressions.element_at b env l)
  fit_element_at env p ArrayElement-F.Hole at x = fit_hole p
  fit_element_at env p (ArrayElement-F.Element e) at x = fit_item p _ (fit_expr env p e at x)
  fit_element_at env p (ArrayElement-F.SpreadElement e) at x = fit_spread p _ (fit_expr env p e at x)

  pub fit_elements : {ctx : EarlyContext} {kl : List EarlyLabel} (env : Env) (p : Place) (l : List ArrayElement) → At ctx env p → AreSound ctx kl (flat walk.array_element l) → FitParts p (map (expressions.element b env) l)
  fit_elements env p l at x = fit_part_map p (expressions.element b env) walk.array_element (λ a y. fit_element_at env p (out-ArrayElement a) at y) l x

  fit_argument_at : {ctx : EarlyContext} {kl : List EarlyLabel} (env : Env) (p : Place) (l : ArgumentLayer) → At ctx env p → AreSound ctx kl (walk.argument_at l) → FitPart p (expressions.argument_at b env l)
  fit_argument_at env p (Argument-F.Operand e) at x = fit_item p _ (fit_expr env p e at x)
  fit_argument_at env p (Argument-F.SpreadArgument e) at x = fit_spread p _ (fit_expr env p e at x)

  fit_plain_at : {ctx : EarlyContext} {kl : List EarlyLabel} (env : Env) (p : Place) (l : ArgumentLayer) → At ctx env p → AreSound ctx kl (walk.argument_at l) → Fit p (expressions.plain_argument_at b env l)
  fit_plain_at env p (Argument-F.Operand e) at x = fit_expr env p e at x
  fit_plain_at env p (Argument-F.SpreadArgument e) at x = fit_expr env p e at x

  pub fit_argument_array : {ctx : EarlyContext} {kl : List EarlyLabel} (env : Env) (p : Place) (l : List Argument) → At ctx env p → AreSound ctx kl (flat walk.argument l) → Fit p (expressions.argument_array b env l)
  fit_argument_array env p l at x =
      fit_array p _ (fit_part_map p (expressions.argument b env) walk.argument (λ a y. fit_argument_at env p (out-Argument a) at y) l x)

  fit_plain_arguments : {ctx : EarlyContext} {kl : List EarlyLabel} (env : Env) (p : Place) (l : List Argument) → At ctx env p → AreSound ctx kl (flat walk.argument l) → FitAll p (map (expressions.plain_argument b env) l)
  fit_plain_arguments env p l at x = fit_map p (expressions.plain_argument b env) walk.argument (λ a y. fit_plain_at env p (out-Argument a) at y) l x

  arguments_by : {ctx : EarlyContext} {kl : List EarlyLabel} (env : Env) (p : Place) (l : List Argument) (s : Bool) → At ctx env p → AreSound ctx kl (flat walk.argument l)
      → FitArguments p (cond s (args.Of (expressions.argument_array b env l)) (args.Listed (map (expressions.plain_argument b env) l)))
  arguments_by env p l true at x = fit_of p _ (fit_argument_array env p l at x)
  arguments_by env p l false at x = fit_listed p _ (fit_plain_arguments env p l at x)

  pub fit_arguments : {ctx : EarlyContext} {kl : List EarlyLabel} (env : Env) (p : Place) (l : List Argument) → At ctx env p → AreSound ctx kl (flat walk.argument l) → FitArguments p (expressions.arguments b env l)
  fit_arguments env p l at x = arguments_by env p l (expressions.has_spread l) at x

  fit_operands : {ctx : EarlyContext} {kl : List EarlyLabel} (env : Env) (p : Place) (ss : List Name) (es : List Expr) → At ctx env p → AreSound ctx kl (flat walk.operand es) → FitAll p (expressions.template_operands b env ss es)
  fit_operands env p [] es at x = nowhere p
  fit_operands env p (s ∷ ss) [] at x = also p _ _ (fit_text p s) (fit_operands env p ss [] at x)
  fit_operands env p (s ∷ ss) (e ∷ es) at x =
      also p (values.text s) (values.to_text (expressions.expr b env e) ∷ expressions.template_operands b env ss es) (fit_text p s)
      (also p (values.to_text (expressions.expr b env e)) (expressions.template_operands b env ss es) (fit_to_text p _ (fit_expr env p e at (first _ _ x)))
      (fit_operands env p ss es at (behind _ _ x)))

  pub fit_template_literal : {ctx : EarlyContext} {kl : List EarlyLabel} (env : Env) (p : Place) (ss : List Name) (es : List Expr) → At ctx env p → AreSound ctx kl (flat walk.operand es)
      → Fit p (expressions.template_literal b env ss es)
  fit_template_literal env p ss es at x = fit_native p native.Concat _ refl (fit_operands env p ss es at x)

  -- KEYS AND PROPERTIES

  fit_key_at : {ctx : EarlyContext} {kl : List EarlyLabel} (env : Env) (p : Place) (l : PropertyKeyLayer) → At ctx env p → AreSound ctx kl (walk.key_at l) → Fit p (expressions.key_at b env l)
  fit_key_at env p (PropertyKey-F.Named i) at x = fit_text p i.name
  fit_key_at env p (PropertyKey-F.Numbered place n) at x = fit_number_key p n
  fit_key_at env p (PropertyKey-F.Computed place e) at x = fit_expr env p e at x

  pub fit_key : {ctx : EarlyContext} {kl : List EarlyLabel} (env : Env) (p : Place) (k : PropertyKey) → At ctx env p → AreSound ctx kl (walk.key k) → Fit p (expressions.key b env k)
  fit_key env p k at x = fit_key_at env p (out-PropertyKey k) at x

  fit_property_part : (p : Place) (s : Bool) (f : FunctionKind) (k : Term) (t : Template) → Fit p k → FitTemplate p t → FitPart p (expressions.property_part s f k t)
  fit_property_part p s kind.Plain k t x y = fit_method p s k t x y
  fit_property_part p s kind.Arrow k t x y = fit_method p s k t x y
  fit_property_part p s kind.Method k t x y = fit_method p s k t x y
  fit_property_part p s kind.Getter k t x y = fit_getter p s k t x y
  fit_property_part p s kind.Setter k t x y = fit_setter p s k t x y

  -- a property or a method that is no constructor
  method_kind : (ctx : EarlyContext) (p : Place) (k : FunctionKind) → is_member_kind k ≡ true → KindAt (function_context ctx false k) template.Method p
  method_kind ctx p kind.Plain h = record { property = λ x. refl; call = λ x. cc }
  method_kind ctx p kind.Arrow h = cc
  method_kind ctx p kind.Method h = record { property = λ x. refl; call = λ x. cc }
  method_kind ctx p kind.Getter h = record { property = λ x. refl; call = λ x. cc }
  method_kind ctx p kind.Setter h = record { property = λ x. refl; call = λ x. cc }

  fit_method_of : {ctx : EarlyContext} {kl : List EarlyLabel} (env : Env) (p : Place) (s : Bool) (k : PropertyKey) (d : Bool) (f : Function) → At ctx env p → is_member_kind (out-Function f).kind ≡ true → d ≡ false
      → AreSound ctx kl (walk.key k ++ FunctionPart d f ∷ []) → FitPart p (expressions.method b env s k f)
  fit_method_of {ctx} {kl} env p s k d f at own e x =
      fit_property_part p s (out-Function f).kind _ _ (fit_key env p k at (left (walk.key k) _ x))
      (h.template env p template.Method (key_name k) d f at refl
      (subst (λ v. KindAt (function_context ctx v (out-Function f).kind) template.Method p) (sym e) (method_kind ctx p (out-Function f).kind own)) (right (walk.key k) _ x))

  fit_property_at : {ctx : EarlyContext} {kl : List EarlyLabel} (env : Env) (p : Place) (l : PropertyLayer) → At ctx env p → property_kind_at l ≡ true → AreSound ctx kl (walk.property_at l) → FitPart p (expressions.property_at b env l)
  fit_property_at env p (Property-F.Valued k e) at own x =
      fit_data p _ _ (fit_key env p k at (left (walk.key k) _ x)) (h.expr env p (key_name k) e at (right (walk.key k) _ x))
  fit_property_at env p (Property-F.Defined k f) at own x = fit_method_of env p false k false f at own refl x
  fit_property_at env p (Property-F.SpreadProperty e) at own x = fit_spread p _ (fit_expr env p e at x)
  fit_property_at env p (Property-F.Initialized i e) at own x = fit_hole p

  pub fit_properties : {ctx : EarlyContext} {kl : List EarlyLabel} (env : Env) (p : Place) (l : List Property) → At ctx env p → property_kinds l ≡ true
      → AreSound ctx kl (flat walk.property l) → FitParts p (map (expressions.property b env) l)
  fit_properties env p [] at own x = nowhere p
  fit_properties env p (a ∷ l) at own x =
      also_part p _ _ (fit_property_at env p (out-Property a) at (first_of (property_kind_at (out-Property a)) (property_kinds l) own) (left (walk.property a) (flat walk.property l) x))
      (fit_properties env p l at (second_of (property_kind_at (out-Property a)) (property_kinds l) own) (right (walk.property a) (flat walk.property l) x))

  -- FUNCTIONS AND CLASSES

  kind_slots : (k : FunctionKind) → least_slots (template_kind k) ≡ 0
  kind_slots kind.Plain = refl
  kind_slots kind.Arrow = refl
  kind_slots kind.Method = refl
  kind_slots kind.Getter = refl
  kind_slots kind.Setter = refl

  own_kind : {ctx : EarlyContext} (env : Env) (p : Place) (k : FunctionKind) → At ctx env p → KindAt (function_context ctx false k) (template_kind k) p
  own_kind env p kind.Plain at = record { property = λ x. cc; call = λ x. cc }
  own_kind env p kind.Arrow at = record { property = at.1.property; call = at.1.call }
  own_kind env p kind.Method at = record { property = λ x. refl; call = λ x. cc }
  own_kind env p kind.Getter at = record { property = λ x. refl; call = λ x. cc }
  own_kind env p kind.Setter at = record { property = λ x. refl; call = λ x. cc }

  fit_plain_function : {ctx : EarlyContext} {kl : List EarlyLabel} (env : Env) (p : Place) (name : Name) (f : Function) → At ctx env p → L ctx kl (FunctionPart false f) → Fit p (expressions.plain_function b env name f)
  fit_plain_function env p name f at x =
      fit_func p _ (h.template env p (template_kind (out-Function f).kind) name false f at (kind_slots (out-Function f).kind) (own_kind env p (out-Function f).kind at) x)

  fit_function_as : {ctx : EarlyContext} {kl : List EarlyLabel} (env : Env) (p : Place) (name : Name) (f : Function) (o : Option Identifier) → At ctx env p → L ctx kl (FunctionPart false f)
      → Fit p (expressions.function_as b env name f o)
  fit_function_as env p name f None at x = fit_plain_function env p name f at x
  fit_function_as env p name f (Some i) at x =
      let q = InScope 1 ∷ p in
      fit_scope_of p 1 _
      (two q _ _ (fit_init_here q 0 _ refl (fit_plain_function (own_name i.name ∷ env) q i.name f (opened env p (own_name i.name) refl at) x)) (fit_here q 0 refl))

  pub fit_function : {ctx : EarlyContext} {kl : List EarlyLabel} (env : Env) (p : Place) (name : Name) (f : Function) → At ctx env p → L ctx kl (FunctionPart false f) → Fit p (expressions.function b env name f)
  fit_function env p name f at x = fit_function_as env p name f (out-Function f).name at x

  -- the two definitions of a class's constructor say the same
  same_by : (st : Bool) (k : FunctionKind) (l : PropertyKeyLayer)
      → cond st false (cond (expressions.is_method k) (expressions.is_constructor_key_at l) false) ≡ (not st && (walk.is_method k && walk.is_constructor_key_at l))
  same_by true k l = refl
  same_by false kind.Plain l = refl
  same_by false kind.Arrow l = refl
  same_by false kind.Method (PropertyKey-F.Named i) = refl
  same_by false kind.Method (PropertyKey-F.Numbered place n) = refl
  same_by false kind.Method (PropertyKey-F.Computed place e) = refl
  same_by false kind.Getter l = refl
  same_by false kind.Setter l = refl

  same_constructor : (m : ClassMember) → expressions.is_constructor m ≡ walk.is_constructor m
  same_constructor m = same_by (out-ClassMember m).is_static (out-Function (out-ClassMember m).function).kind (out-PropertyKey (out-ClassMember m).key)

  and_false : (a : Bool) → (a && false) ≡ false
  and_false true = refl
  and_false false = refl

  member_by : {ctx : EarlyContext} {kl : List EarlyLabel} (env : Env) (p : Place) (m : ClassMember) (d s : Bool) → expressions.is_constructor m ≡ s → At ctx env p
      → is_member_kind (out-Function (out-ClassMember m).function).kind ≡ true → AreSound ctx kl (walk.member d m)
      → FitParts p (cond s [] (expressions.method b env (out-ClassMember m).is_static (out-ClassMember m).key (out-ClassMember m).function ∷ []))
  member_by env p m d true e at own x = nowhere p
  member_by env p m d false e at own x =
      fit_method_of env p (out-ClassMember m).is_static (out-ClassMember m).key (d && walk.is_constructor m) (out-ClassMember m).function at own
      (ap (λ v. d && v) (sym (same_constructor m) ∙ e) ∙ and_false d) x

  fit_members : {ctx : EarlyContext} {kl : List EarlyLabel} (env : Env) (p : Place) (d : Bool) (ms : List ClassMember) → At ctx env p → member_kinds ms ≡ true
      → AreSound ctx kl (flat (walk.member d) ms) → FitParts p (flat (expressions.member_parts b env) ms)
  fit_members env p d [] at own x = nowhere p
  fit_members env p d (m ∷ ms) at own x =
      let k = is_member_kind (out-Function (out-ClassMember m).function).kind in
      parts_joined p (expressions.member_parts b env m) (flat (expressions.member_parts b env) ms)
      (member_by env p m d (expressions.is_constructor m) refl at (first_of k (member_kinds ms) own) (left (walk.member d m) (flat (walk.member d) ms) x))
      (fit_members env p d ms at (second_of k (member_kinds ms) own) (right (walk.member d m) (flat (walk.member d) ms) x))

  constructor_kind_slots : (o : Option Expr) → least_slots (expressions.constructor_kind o) ≡ 0
  constructor_kind_slots None = refl
  constructor_kind_slots (Some e) = refl

  is_method_by : (st im ik : Bool) → cond st false (cond im ik false) ≡ true → im ≡ true
  is_method_by true im ik h = cc
  is_method_by false true ik h = refl
  is_method_by false false ik h = cc

  constructor_kind : (ctx : EarlyContext) (p : Place) (o : Option Expr) (x : Bool) (k : FunctionKind) → expressions.is_method k ≡ true
      → KindAt (function_context ctx (is_some o && x) k) (expressions.constructor_kind o) p
  constructor_kind ctx p None x kind.Method h = record { property = λ y. refl; call = λ y. cc }
  constructor_kind ctx p (Some e) x kind.Method h = record { property = λ y. refl; call = λ y. refl }
  constructor_kind ctx p o x kind.Plain h = cc
  constructor_kind ctx p o x kind.Arrow h = cc
  constructor_kind ctx p o x kind.Getter h = cc
  constructor_kind ctx p o x kind.Setter h = cc

  constructor_by : {ctx : EarlyContext} {kl : List EarlyLabel} (env : Env) (p : Place) (name : Name) (o : Option Expr) (m : ClassMember) (rest : Option Function) (s : Bool)
      → expressions.is_constructor m ≡ s → At ctx env p → AreSound ctx kl (walk.member (is_some o) m)
      → Everywhere stands p (inner.maybe_template (option_map (b.template env (expressions.constructor_kind o) name) rest))
      → Everywhere stands p (inner.maybe_template (option_map (b.template env (expressions.constructor_kind o) name) (cond s (Some (out-ClassMember m).function) rest)))
  constructor_by {ctx} {kl} env p name o m rest true e at x y =
      h.template env p (expressions.constructor_kind o) name _ (out-ClassMember m).function at (constructor_kind_slots o)
      (constructor_kind ctx p o (walk.is_constructor m) (out-Function (out-ClassMember m).function).kind
      (is_method_by (out-ClassMember m).is_static _ (expressions.is_constructor_key (out-ClassMember m).key) e)) (right (walk.key (out-ClassMember m).key) _ x)
  constructor_by env p name o m rest false e at x y = y

  fit_constructor : {ctx : EarlyContext} {kl : List EarlyLabel} (env : Env) (p : Place) (name : Name) (o : Option Expr) (ms : List ClassMember) → At ctx env p
      → AreSound ctx kl (flat (walk.member (is_some o)) ms)
      → Everywhere stands p (inner.maybe_template (option_map (b.template env (expressions.constructor_kind o) name) (expressions.constructor_in ms)))
  fit_constructor env p name o [] at x = nowhere p
  fit_constructor env p name o (m ∷ ms) at x =
      constructor_by env p name o m (expressions.constructor_in ms) (expressions.is_constructor m) refl at
      (left (walk.member (is_some o) m) (flat (walk.member (is_some o)) ms) x)
      (fit_constructor env p name o ms at (right (walk.member (is_some o) m) (flat (walk.member (is_some o)) ms) x))

  fit_heritage : {ctx : EarlyContext} {kl : List EarlyLabel} (env : Env) (p : Place) (o : Option Expr) → At ctx env p → AreSound ctx kl (from_option walk.operand o)
      → Everywhere stands p (inner.maybe_term (option_map (expressions.expr b env) o))
  fit_heritage env p None at x = nowhere p
  fit_heritage env p (Some e) at x = fit_expr env p e at x

  pub fit_class_term : {ctx : EarlyContext} {kl : List EarlyLabel} (env : Env) (p : Place) (name : Name) (c : Class) → At ctx env p → L ctx kl (ClassPart c) → Fit p (expressions.class_term b env name c)
  fit_class_term env p name c at x =
      let parent = (out-Class c).heritage in
      let ms = (out-Class c).members in
      let y = below (ClassPart c) x in
      let z = right (from_option walk.operand parent) _ y in
      fit_class p name _ _ _ (fit_heritage env p parent at (left (from_option walk.operand parent) _ y)) (fit_constructor env p name parent ms at z)
      (fit_members env p (is_some parent) ms at (has (ClassPart c) x) z)

  pub fit_named_class : {ctx : EarlyContext} {kl : List EarlyLabel} (env : Env) (p : Place) (n : Name) (c : Class) → At ctx env p → L ctx kl (ClassPart c) → Fit p (expressions.named_class b env n c)
  fit_named_class env p n c at x =
      let q = InScope 1 ∷ p in
      fit_scope_of p 1 _ (two q _ _ (fit_init_here q 0 _ refl (fit_class_term (own_name n ∷ env) q n c (opened env p (own_name n) refl at) x)) (fit_here q 0 refl))

  fit_class_as : {ctx : EarlyContext} {kl : List EarlyLabel} (env : Env) (p : Place) (name : Name) (c : Class) (o : Option Identifier) → At ctx env p → L ctx kl (ClassPart c) → Fit p (expressions.class_as b env name c o)
  fit_class_as env p name c None at x = fit_class_term env p name c at x
  fit_class_as env p name c (Some i) at x = fit_named_class env p i.name c at x

  pub fit_class_of : {ctx : EarlyContext} {kl : List EarlyLabel} (env : Env) (p : Place) (name : Name) (c : Class) → At ctx env p → L ctx kl (ClassPart c) → Fit p (expressions.class b env name c)
  fit_class_of env p name c at x = fit_class_as env p name c (out-Class c).name at x
