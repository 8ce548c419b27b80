-- Terms that stand often in the table of lowering, and the terms of names.
use Rattle.std.specs.Prelude.{ℕ, ℤ, pos, ◌+◌, ◌-◌, Bool, true, false, if◌then◌else◌, ◌||◌, List, [], ◌∷◌, codes, length, Option, Some, None}
use Rattle.std.specs.Fmt.{signed_decimal}
use Rattle.js_text.specs.Texts.{same_units}
use Rattle.js_text.specs.declared.native.Native.{Native}
use Rattle.js_text.specs.declared.native.Native.TheVariants as native
use Rattle.js_tree.specs.declared.operator.BinaryOperator.TheVariants as op
use Rattle.js_term.specs.declared.term.Term.{Term}
use Rattle.js_term.specs.declared.term.Term.TheVariants as term
use Rattle.js_term.specs.declared.term.Part.{Part}
use Rattle.js_term.specs.declared.term.Arguments.TheVariants as args
use Rattle.js_term.specs.declared.term.Literal.TheVariants as literal
use Rattle.js_frames.specs.Frames.{Env, find}
use Rattle.js_frames.specs.declared.frame.Referent.{Referent}
use Rattle.js_frames.specs.declared.frame.Referent.TheVariants as referent
use Rattle.js_frames.specs.declared.scopes.FoundReferent.{FoundReferent}
use Rattle.js_lower_table.specs.declared.held.Held.{Held}
use Rattle.js_lower_table.specs.declared.commons.TheConstants.{ARRAY_PROTOTYPE, OBJECT_PROTOTYPE}

abbrev pub Name : Type 0
Name = List ℕ

abbrev pub undefined : Term
undefined = term.Lit literal.Undefined

abbrev pub text : Name → Term
text n = term.Lit (literal.Text n)

abbrev pub integer : ℤ → Term
integer n = term.Lit (literal.Int n)

abbrev pub truth : Bool → Term
truth b = term.Lit (literal.Bool b)

-- an object of the common part
abbrev pub common_term : ℕ → Term
common_term c = term.Lit (literal.Common (record { 0 = c }))

-- slot n of the innermost scope
abbrev pub here : ℕ → Term
here n = term.Local 0 n

-- a held slot, where so many scopes stand
abbrev pub slot_at : ℕ → Held → Term
slot_at n h = term.Local (n - h.level - 1) h.slot

abbrev pub slot : Env → Held → Term
slot env h = slot_at (length env) h

-- slot n of the scope that is opened next
abbrev pub next_held : Env → ℕ → Held
next_held env n = record { level = length env; slot = n }

-- slot n of the innermost scope
abbrev pub top_held : Env → ℕ → Held
top_held env n = record { level = length env - 1; slot = n }

-- a call without arguments
abbrev pub call_name : Term → Name → Term
call_name o name = term.CallOn o (text name) (args.Listed [])

abbrev pub call_common : ℕ → List Term → Term
call_common c l = term.Call (common_term c) (args.Listed l)

-- ECMA-262 ArrayAccumulation
abbrev pub array : List Part → Term
array parts = term.Define (term.Native native.MakeArray (common_term ARRAY_PROTOTYPE ∷ integer (pos 0) ∷ [])) parts

-- ECMA-262 PropertyDefinitionEvaluation
abbrev pub object : List Part → Term
object parts = term.Define (term.Native native.MakeObject (common_term OBJECT_PROTOTYPE ∷ [])) parts

abbrev pub to_text : Term → Term
to_text t = term.Native native.ToText (t ∷ [])

abbrev pub to_key : Term → Term
to_key t = term.Native native.ToKey (t ∷ [])

-- a key that is written as a number
abbrev pub number_key : Option ℤ → Term
number_key None = term.Outside
number_key (Some n) = text (signed_decimal n)

-- a number
abbrev pub number : Option ℤ → Term
number None = term.Outside
number (Some n) = integer n

-- NAMES

-- a free name that stands for no safe integer
abbrev pub is_outside : Name → Bool
is_outside n = same_units n (codes "NaN") || same_units n (codes "Infinity")

abbrev pub free : Name → Bool → Term
free n soft = if same_units n (codes "undefined") then undefined else if is_outside n then term.Outside else term.Global n soft

abbrev pub read_referent : ℕ → ℕ → Referent → Term
read_referent hops at referent.Variable = term.Local hops at
read_referent hops at referent.Constant = term.Local hops at
read_referent hops at (referent.CommonObject c) = term.Lit (literal.Common c)
read_referent hops at (referent.Operation o) = undefined
read_referent hops at referent.IteratorSymbol = term.Lit literal.Iterator

abbrev pub read_at : Name → Bool → Option FoundReferent → Term
read_at n soft None = free n soft
read_at n soft (Some f) = read_referent f.hops f.slot f.referent

-- a name that is read; a soft one is undefined where it is not there
-- ECMA-262 GetValue, of an IdentifierReference
abbrev pub read : Env → Name → Bool → Term
read env n soft = read_at n soft (find n env)

abbrev pub write_referent : Name → ℕ → ℕ → Term → Referent → Term
write_referent n hops at value referent.Variable = term.SetLocal hops at false value
write_referent n hops at value referent.Constant = term.SetLocal hops at true value
write_referent n hops at value _ = term.SetGlobal n value

abbrev pub write_at : Name → Term → Option FoundReferent → Term
write_at n value None = term.SetGlobal n value
write_at n value (Some f) = write_referent n f.hops f.slot value f.referent

-- a name that is assigned
-- ECMA-262 PutValue, of an IdentifierReference
abbrev pub write : Env → Name → Term → Term
write env n value = write_at n value (find n env)

abbrev pub init_at : Term → Option FoundReferent → Term
init_at value None = undefined
init_at value (Some f) = term.Init f.hops f.slot value

-- a name that is initialised
-- ECMA-262 InitializeReferencedBinding
abbrev pub init : Env → Name → Term → Term
init env n value = init_at value (find n env)

-- a name that is bound
abbrev pub set : Env → Bool → Name → Term → Term
set env assigned n value = if assigned then write env n value else init env n value

abbrev pub operation_of : Referent → Option Native
operation_of (referent.Operation o) = Some o
operation_of _ = None

abbrev pub operation_at : Option FoundReferent → Option Native
operation_at None = None
operation_at (Some f) = operation_of f.referent

-- the native that a name of the prelude is
abbrev pub operation_in : Env → Name → Option Native
operation_in env n = operation_at (find n env)

-- SEVERAL TERMS

abbrev pub single : List Term → Term
single (t ∷ []) = t
single l = term.Seq l

abbrev pub init_here : ℕ → Term → Term
init_here n value = term.Init 0 n value

abbrev pub scope_of : ℕ → List Term → Term
scope_of n l = term.Scope n (term.Seq l)

-- ECMA-262 IsStrictlyEqual
abbrev pub same_value : Term → Term → Term
same_value a b = term.Binary op.StrictlyEqual a b

abbrev pub is_null : Term → Term
is_null t = term.Binary op.LooselyEqual t (term.Lit literal.Null)

-- what runs over an iterator that stands in a held slot, and shuts it however that ends: after a throw what shutting throws is let go
-- ECMA-262 IteratorClose
abbrev pub guard : ℕ → Held → Term → Term
guard n it body =
    term.Try (term.Try body (Some (term.Seq (call_name (slot_at (n + 1) it) (codes "quiet") ∷ term.Throw (here 0) ∷ []))) None)
    None (Some (call_name (slot_at n it) (codes "shut")))
