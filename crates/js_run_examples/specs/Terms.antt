-- How the terms of the examples are written: a form as `lava tree` prints it, in this language.
use Rattle.std.specs.Prelude.{ℕ, Bool, true, false, List, [], ◌∷◌, Option, Some, None, pos, codes}
use Rattle.js_text.specs.declared.native.Native.{Native}
use Rattle.js_text.specs.declared.native.Native.TheVariants as native
use Rattle.js_tree.specs.declared.operator.BinaryOperator.{BinaryOperator}
use Rattle.js_tree.specs.declared.operator.LogicalOperator.{LogicalOperator}
use Rattle.js_tree.specs.declared.operator.UnaryOperator.{UnaryOperator}
use Rattle.js_term.specs.declared.term.Arguments.{roll-Arguments}
use Rattle.js_term.specs.declared.term.Arguments.TheOpen.{Arguments-F, Jump-F, Part-F, Term-F}
use Rattle.js_term.specs.declared.term.Jump.{roll-Jump}
use Rattle.js_term.specs.declared.term.Literal.TheVariants as literal
use Rattle.js_term.specs.declared.term.Part.{Part, roll-Part}
use Rattle.js_term.specs.declared.term.Template.{Template, roll-Template}
use Rattle.js_term.specs.declared.term.TemplateKind.{TemplateKind}
use Rattle.js_term.specs.declared.term.TemplateKind.TheVariants as kind
use Rattle.js_term.specs.declared.term.Term.{Term, roll-Term}
use Rattle.js_run.specs.declared.intrinsics.TheConstants.{ARRAY_PROTOTYPE, OBJECT_PROTOTYPE}

-- LITERALS

abbrev pub undefined : Term
undefined = roll-Term (Term-F.Lit literal.Undefined)

abbrev pub null : Term
null = roll-Term (Term-F.Lit literal.Null)

abbrev pub truth : Bool → Term
truth b = roll-Term (Term-F.Lit (literal.Bool b))

abbrev pub number : ℕ → Term
number n = roll-Term (Term-F.Lit (literal.Int (pos n)))

abbrev pub text : List ℕ → Term
text t = roll-Term (Term-F.Lit (literal.Text t))

abbrev pub iterator : Term
iterator = roll-Term (Term-F.Lit literal.Iterator)

-- the object of the common part at a place
abbrev pub common : ℕ → Term
common place = roll-Term (Term-F.Lit (literal.Common (record { 0 = place })))

-- a literal that writes no safe integer
abbrev pub outside : Term
outside = roll-Term Term-F.Outside

-- NAMES

abbrev pub this : Term
this = roll-Term Term-F.This

abbrev pub new_target : Term
new_target = roll-Term Term-F.NewTarget

abbrev pub local : (hops slot : ℕ) → Term
local h i = roll-Term (Term-F.Local h i)

abbrev pub set_local : (hops slot : ℕ) → (constant : Bool) → Term → Term
set_local h i c t = roll-Term (Term-F.SetLocal h i c t)

abbrev pub init : (hops slot : ℕ) → Term → Term
init h i t = roll-Term (Term-F.Init h i t)

-- a free name, which has to be there
abbrev pub global : List ℕ → Term
global name = roll-Term (Term-F.Global name false)

-- a free name below `typeof`
abbrev pub soft_global : List ℕ → Term
soft_global name = roll-Term (Term-F.Global name true)

abbrev pub set_global : List ℕ → Term → Term
set_global name t = roll-Term (Term-F.SetGlobal name t)

-- PROPERTIES

abbrev pub get : (object key : Term) → Term
get o k = roll-Term (Term-F.Get o k)

abbrev pub put : (object key value : Term) → Term
put o k t = roll-Term (Term-F.Put o k t)

abbrev pub delete : (object key : Term) → Term
delete o k = roll-Term (Term-F.Delete o k)

abbrev pub super_get : (key : Term) → Term
super_get k = roll-Term (Term-F.SuperGet k)

-- CALLS

abbrev pub call : Term → List Term → Term
call f ts = roll-Term (Term-F.Call f (roll-Arguments (Arguments-F.Listed ts)))

abbrev pub call_on : (object key : Term) → List Term → Term
call_on o k ts = roll-Term (Term-F.CallOn o k (roll-Arguments (Arguments-F.Listed ts)))

abbrev pub call_super : (key : Term) → List Term → Term
call_super k ts = roll-Term (Term-F.CallSuper k (roll-Arguments (Arguments-F.Listed ts)))

abbrev pub new : Term → List Term → Term
new f ts = roll-Term (Term-F.New f (roll-Arguments (Arguments-F.Listed ts)))

abbrev pub super_new : List Term → Term
super_new ts = roll-Term (Term-F.SuperNew (roll-Arguments (Arguments-F.Listed ts)))

abbrev pub native_of : Native → List Term → Term
native_of n ts = roll-Term (Term-F.Native n ts)

abbrev pub console_log : List Term → Term
console_log ts = call_on (global (codes "console")) (text (codes "log")) ts

-- OPERATORS

abbrev pub unary : UnaryOperator → Term → Term
unary o t = roll-Term (Term-F.Unary o t)

abbrev pub binary : BinaryOperator → Term → Term → Term
binary o t u = roll-Term (Term-F.Binary o t u)

abbrev pub short : LogicalOperator → Term → Term → Term
short o t u = roll-Term (Term-F.Short o t u)

abbrev pub branch : (test consequent : Term) → (alternate : Option Term) → Term
branch t u alternate = roll-Term (Term-F.If t u alternate)

-- OBJECTS, FUNCTIONS AND CLASSES

abbrev pub define : Term → List Part → Term
define o parts = roll-Term (Term-F.Define o parts)

abbrev pub object : List Part → Term
object parts = define (native_of native.MakeObject (common OBJECT_PROTOTYPE ∷ [])) parts

abbrev pub array : List Part → Term
array parts = define (native_of native.MakeArray (common ARRAY_PROTOTYPE ∷ number 0 ∷ [])) parts

abbrev pub data_part : (key value : Term) → Part
data_part k t = roll-Part (Part-F.Data k t)

abbrev pub method : (is_static : Bool) → (key : Term) → Template → Part
method s k t = roll-Part (Part-F.Method s k t)

abbrev pub getter : (is_static : Bool) → (key : Term) → Template → Part
getter s k t = roll-Part (Part-F.Getter s k t)

abbrev pub class_of : (name : List ℕ) → (parent : Option Term) → (constructor : Option Template) → List Part → Term
class_of name parent t parts = roll-Term (Term-F.Class name parent t parts)

abbrev pub func : Template → Term
func t = roll-Term (Term-F.Func t)

-- a template with parameters that have no default, and no slot that starts as undefined
abbrev pub template : TemplateKind → (name : List ℕ) → (params slots : ℕ) → Term → Template
template k name n m t = roll-Template (record { kind = k; name = name; length = n; params = n; rest = false; slots = m; undefined = []; body = t })

-- one with a rest parameter alone
abbrev pub rest_template : TemplateKind → (name : List ℕ) → (slots : ℕ) → Term → Template
rest_template k name m t = roll-Template (record { kind = k; name = name; length = 0; params = 1; rest = true; slots = m; undefined = []; body = t })

-- STATEMENTS

abbrev pub seq : List Term → Term
seq ts = roll-Term (Term-F.Seq ts)

abbrev pub scope : (slots : ℕ) → Term → Term
scope n t = roll-Term (Term-F.Scope n t)

abbrev pub fresh : Term
fresh = roll-Term Term-F.Fresh

abbrev pub loop : (labels : List (List ℕ)) → (tests_first : Bool) → (test : Term) → (update : Option Term) → (body : Term) → Term
loop ls b t u s = roll-Term (Term-F.Loop ls b t u s)

abbrev pub label : List ℕ → Term → Term
label l t = roll-Term (Term-F.Label l t)

abbrev pub break : List ℕ → Term
break l = roll-Term (Term-F.Jump (roll-Jump (Jump-F.Break l)))

abbrev pub continue : List ℕ → Term
continue l = roll-Term (Term-F.Jump (roll-Jump (Jump-F.Continue l)))

abbrev pub return : Term → Term
return t = roll-Term (Term-F.Jump (roll-Jump (Jump-F.Return (Some t))))

abbrev pub return_nothing : Term
return_nothing = roll-Term (Term-F.Jump (roll-Jump (Jump-F.Return None)))

abbrev pub throw : Term → Term
throw t = roll-Term (Term-F.Throw t)

abbrev pub try : Term → (handler finalizer : Option Term) → Term
try t h f = roll-Term (Term-F.Try t h f)

-- a module, whose first three slots are `exports`, `require` and `module`
abbrev pub module_of : (slots : ℕ) → List Term → Template
module_of m ts = template kind.Module [] 0 m (seq ts)
