-- What the grammar and the early rules say of a tree that lowering relies on.
use Rattle.std.specs.Prelude.{◌≡◌, Bool, true, false, ◌||◌, ◌&&◌, List, [], ◌∷◌, ◌++◌, Option, Some, None, if◌then◌else◌}
use Rattle.js_tree.specs.Layers.{ExprLayer, PatternLayer, PropertyLayer, StmtLayer}
use Rattle.js_tree.specs.declared.tree.Argument.TheOpen.{Expr-F, Pattern-F, Property-F, Stmt-F}
use Rattle.js_tree.specs.declared.tree.Class.{out-Class}
use Rattle.js_tree.specs.declared.tree.ClassMember.{ClassMember, out-ClassMember}
use Rattle.js_tree.specs.declared.tree.Expr.{out-Expr}
use Rattle.js_tree.specs.declared.tree.Function.{out-Function}
use Rattle.js_tree.specs.declared.tree.FunctionKind.{FunctionKind}
use Rattle.js_tree.specs.declared.tree.FunctionKind.TheVariants as kind
use Rattle.js_tree.specs.declared.tree.Identifier.{Identifier}
use Rattle.js_tree.specs.declared.tree.Module.{Module}
use Rattle.js_tree.specs.declared.tree.Pattern.{out-Pattern}
use Rattle.js_tree.specs.declared.tree.Property.{Property, out-Property}
use Rattle.js_tree.specs.declared.tree.Stmt.{out-Stmt}
use Rattle.js_names.specs.Lists.{flat}
use Rattle.js_walk.specs.Parts.{TreePart, ClassPart, ExpressionPart, ModulePart, PatternPart, StatementPart, UpdatePart, expression_parts_at, link, operand, parts_below, pattern_parts_at}
use Rattle.js_early.specs.Contexts.{context_in, is_body, label_in, source_context, with_label}
use Rattle.js_early.specs.Rules.{has_label, has_loop_label}
use Rattle.js_early.specs.declared.context.EarlyContext.{EarlyContext}
use Rattle.js_early.specs.declared.context.EarlyLabel.{EarlyLabel}
use Rattle.js_lower_table.specs.Expressions.{has_optional}

abbrev pub whole_parts_at : ExprLayer → List TreePart
whole_parts_at (Expr-F.Chain place e l) = operand e ++ flat link l
whole_parts_at l = expression_parts_at l

abbrev pub whole_pattern_at : Bool → PatternLayer → List TreePart
whole_pattern_at assigns (Pattern-F.Target e) = operand e
whole_pattern_at assigns p = pattern_parts_at assigns p

-- what stands directly below a part, and below a name with members too
abbrev pub whole_parts : TreePart → List TreePart
whole_parts (ExpressionPart e) = whole_parts_at (out-Expr e)
whole_parts (UpdatePart place e) = operand e
whole_parts (PatternPart assigns p) = whole_pattern_at assigns (out-Pattern p)
whole_parts p = parts_below p

-- a function that is a property or a member is no arrow
abbrev pub is_member_kind : FunctionKind → Bool
is_member_kind kind.Plain = true
is_member_kind kind.Arrow = false
is_member_kind kind.Method = true
is_member_kind kind.Getter = true
is_member_kind kind.Setter = true

-- a function that a statement declares is a plain one
abbrev pub is_declared_kind : FunctionKind → Bool
is_declared_kind kind.Plain = true
is_declared_kind kind.Arrow = false
is_declared_kind kind.Method = false
is_declared_kind kind.Getter = false
is_declared_kind kind.Setter = false

abbrev pub property_kind_at : PropertyLayer → Bool
property_kind_at (Property-F.Defined k f) = is_member_kind (out-Function f).kind
property_kind_at _ = true

abbrev pub property_kinds : List Property → Bool
property_kinds [] = true
property_kinds (p ∷ ps) = property_kind_at (out-Property p) && property_kinds ps

abbrev pub member_kinds : List ClassMember → Bool
member_kinds [] = true
member_kinds (m ∷ ms) = is_member_kind (out-Function (out-ClassMember m).function).kind && member_kinds ms

-- ECMA-262 HasDirectSuper
-- ECMA-262 OptionalExpression
abbrev pub expression_sound : EarlyContext → ExprLayer → Bool
expression_sound c (Expr-F.Chain place e l) = has_optional l
expression_sound c (Expr-F.SuperMember place i) = c.super_property
expression_sound c (Expr-F.SuperIndex place k) = c.super_property
expression_sound c (Expr-F.SuperCall place l) = c.super_call
expression_sound c (Expr-F.Object place l) = property_kinds l
expression_sound c _ = true

-- ECMA-262 ContainsUndefinedBreakTarget
abbrev pub break_sound : EarlyContext → List EarlyLabel → Option Identifier → Bool
break_sound c labels None = c.in_loop || c.in_switch
break_sound c labels (Some i) = has_label i.name labels

-- ECMA-262 ContainsUndefinedContinueTarget
abbrev pub continue_sound : EarlyContext → List EarlyLabel → Option Identifier → Bool
continue_sound c labels None = c.in_loop
continue_sound c labels (Some i) = has_loop_label i.name labels

abbrev pub statement_sound : EarlyContext → List EarlyLabel → StmtLayer → Bool
statement_sound c labels (Stmt-F.Break place l) = break_sound c labels l
statement_sound c labels (Stmt-F.Continue place l) = continue_sound c labels l
statement_sound c labels (Stmt-F.FunctionDeclaration f) = is_declared_kind (out-Function f).kind
statement_sound c labels _ = true

abbrev pub part_sound : EarlyContext → List EarlyLabel → TreePart → Bool
part_sound c labels (ExpressionPart e) = expression_sound c (out-Expr e)
part_sound c labels (ClassPart k) = member_kinds (out-Class k).members
part_sound c labels (StatementPart s) = statement_sound c labels (out-Stmt s)
part_sound c labels _ = true

-- the labels round what stands below a part
abbrev pub labels_below : List EarlyLabel → TreePart → List EarlyLabel
labels_below labels p = if is_body p then [] else with_label labels (label_in p)

-- these rules hold of some parts, and of all that stand below them
pub data AreSound : EarlyContext → List EarlyLabel → List TreePart → Type 0 where
  no_parts : (c : EarlyContext) (labels : List EarlyLabel) → AreSound c labels []
  sound : (c : EarlyContext) (labels : List EarlyLabel) (p : TreePart) (ps : List TreePart) → part_sound c labels p ≡ true
      → AreSound (context_in c p) (labels_below labels p) (whole_parts p) → AreSound c labels ps → AreSound c labels (p ∷ ps)

-- own: each chain has a `?.`, each function the kind of its place, and jumps and `super` break no early rule
abbrev pub IsSound : Module → Type 0
IsSound m = AreSound (source_context m.kind) [] (ModulePart m ∷ [])
