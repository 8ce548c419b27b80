-- The entries of the table's recursion, and what of trees is looked at without it.
use Rattle.std.specs.Prelude.{ℕ, ℤ, zero, suc, Bool, List, [], ◌∷◌, Option, Some, None}
use Rattle.std.specs.Fmt.{signed_decimal}
use denote.Ref.{Bor}
use Rattle.js_tree.specs.Layers.{ExprLayer, PatternLayer, PropertyKeyLayer}
use Rattle.js_tree.specs.declared.tree.Argument.TheOpen.{Expr-F, Pattern-F, PropertyKey-F}
use Rattle.js_tree.specs.declared.tree.Expr.{Expr, out-Expr}
use Rattle.js_tree.specs.declared.tree.Function.{Function}
use Rattle.js_tree.specs.declared.tree.FunctionKind.{FunctionKind}
use Rattle.js_tree.specs.declared.tree.FunctionKind.TheVariants as kind
use Rattle.js_tree.specs.declared.tree.Pattern.{Pattern, out-Pattern}
use Rattle.js_tree.specs.declared.tree.PatternField.{PatternField}
use Rattle.js_tree.specs.declared.tree.PropertyKey.{PropertyKey, out-PropertyKey}
use Rattle.js_tree.specs.declared.tree.Stmt.{Stmt}
use Rattle.js_term.specs.declared.term.Template.{Template}
use Rattle.js_term.specs.declared.term.TemplateKind.{TemplateKind}
use Rattle.js_term.specs.declared.term.TemplateKind.TheVariants as template
use Rattle.js_term.specs.declared.term.Term.{Term}
use Rattle.js_names.specs.declared.bound.TheConstants.{TREE_DEPTH}
use Rattle.js_frames.specs.Frames.{Env, Frame}
use Rattle.js_frames.specs.declared.frame.Referent.TheVariants.{Constant}
use Rattle.js_lower_table.specs.declared.bound_value.BoundValue.{BoundValue}
use Rattle.js_lower_table.specs.declared.bound_value.BoundValue.TheVariants as value
use Rattle.js_lower_table.specs.declared.held.Held.{Held}
use Rattle.js_lower_table.specs.Values.{Name, text, number_key, undefined}

-- where a value comes from that a pattern binds
pub data Origin : Type 0 where
  InSlot : Held → Origin
  Taken : Held → Origin
  Remaining : Held → Origin
  Current : Held → Origin
  Named : Held → PropertyKey → Origin
  Keyed : Held → Held → Origin
  Omitted : Held → ℕ → List PatternField → Origin
  Valued : Expr → Origin
  Defaulted : Held → Expr → Name → Origin

-- the name that a function or class without one gets; the empty one where there is none
abbrev pub given : Option (Bor Name) → Name
given None = []
given (Some n) = n.now

abbrev pub origin : BoundValue → Origin
origin (value.InSlot h) = InSlot h
origin (value.Taken h) = Taken h
origin (value.Remaining h) = Remaining h
origin (value.Current h) = Current h
origin (value.Named h k) = Named h k.now
origin (value.Keyed h k) = Keyed h k
origin (value.Omitted h keys fs) = Omitted h keys fs.now
origin (value.Valued e) = Valued e.now
origin (value.Defaulted h e n) = Defaulted h e.now (given n)

-- the terms of the parts of a tree
pub record Below : Type 0 where
  pub expr : Env → Name → Expr → Term
  pub stmt : Env → List Name → Stmt → List Term
  pub bind : Env → Bool → Origin → Pattern → Term
  pub template : Env → TemplateKind → Name → Function → Template

-- PARENTHESES

abbrev pub bare_at : (Expr → Expr) → Expr → ExprLayer → Expr
bare_at f e (Expr-F.Parenthesized place i) = f i
bare_at f e _ = e

abbrev pub bare_row : (Expr → Expr) → Expr → Expr
bare_row f e = bare_at f e (out-Expr e)

abbrev pub bare_to : ℕ → Expr → Expr
bare_to zero e = e
bare_to (suc d) e = bare_row (bare_to d) e

-- an expression without the parentheses round it
-- ECMA-262 ParenthesizedExpression
unfoldable pub bare : Expr → Expr
bare e = bare_to TREE_DEPTH e

-- NAMES AND KEYS

abbrev pub name_at : ExprLayer → Name
name_at (Expr-F.Name i) = i.name
name_at _ = []

-- the name that an expression is, if it is one
abbrev pub name_of : Expr → Name
name_of e = name_at (out-Expr e)

abbrev pub bound_name_at : PatternLayer → Name
bound_name_at (Pattern-F.Bound i) = i.name
bound_name_at _ = []

-- the name that a pattern is, if it is one
abbrev pub bound_name : Pattern → Name
bound_name p = bound_name_at (out-Pattern p)

abbrev pub number_name : Option ℤ → Name
number_name None = []
number_name (Some n) = signed_decimal n

abbrev pub key_name_at : PropertyKeyLayer → Name
key_name_at (PropertyKey-F.Named i) = i.name
key_name_at (PropertyKey-F.Numbered place n) = number_name n
key_name_at (PropertyKey-F.Computed place e) = []

-- the name that a function or class gets from a key
-- ECMA-262 SetFunctionName
abbrev pub key_name : PropertyKey → Name
key_name k = key_name_at (out-PropertyKey k)

abbrev pub plain_key_at : PropertyKeyLayer → Term
plain_key_at (PropertyKey-F.Named i) = text i.name
plain_key_at (PropertyKey-F.Numbered place n) = number_key n
plain_key_at (PropertyKey-F.Computed place e) = undefined

-- the term of a key that is not computed
abbrev pub plain_key : PropertyKey → Term
plain_key k = plain_key_at (out-PropertyKey k)

abbrev pub template_kind : FunctionKind → TemplateKind
template_kind kind.Plain = template.Plain
template_kind kind.Arrow = template.Arrow
template_kind kind.Method = template.Method
template_kind kind.Getter = template.Method
template_kind kind.Setter = template.Method

-- the scope of the constant name that a function or class expression has inside it
-- ECMA-262 InstantiateOrdinaryFunctionExpression
abbrev pub own_name : Name → Frame
own_name n = record { name = n; referent = Constant } ∷ []
