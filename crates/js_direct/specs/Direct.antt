-- Forms that give a value at once: the charges of a run that evaluates one are known, and nothing changes meanwhile.
use Rattle.std.specs.Prelude.{◌≡◌, ℕ, ◌+◌, ◌<◌, Bool, not, List, length, Option, Some, None, ℤ, int_lt}
use Rattle.std.specs.Fmt.{signed_decimal}
use Rattle.std.specs.Ordering.{int_eq}
use Rattle.lava_base.specs.Ids.{same_made_symbol}
use Rattle.lava_base.specs.declared.ids.MadeSymbol.{MadeSymbol}
use Rattle.lava_base.specs.declared.ids.PartyId.{PartyId}
use Rattle.lava_base.specs.declared.ids.Ref.{Ref}
use Rattle.lava_base.specs.declared.ids.Ref.TheVariants as reference
use Rattle.js_text.specs.Indices.{key_of_text}
use Rattle.js_text.specs.Naming.{naming_of}
use Rattle.js_text.specs.declared.value.Key.{Key}
use Rattle.js_text.specs.declared.value.Value.TheVariants as value
use Rattle.js_tree.specs.declared.operator.BinaryOperator.{BinaryOperator}
use Rattle.js_tree.specs.declared.operator.BinaryOperator.TheVariants as op
use Rattle.js_term.specs.declared.term.Term.{out-Term}
use Rattle.js_code.specs.Decoded.{layer_of, term_at}
use Rattle.js_code.specs.Tables.{Tables}
use Rattle.js_code.specs.declared.node.Node.{Node}
use Rattle.js_code.specs.declared.node.Node.TheVariants as node
use Rattle.js_desc.specs.declared.descriptor.Descriptor.TheVariants.{Data}
use Rattle.js_desc.specs.declared.reply.Reply.TheVariants as reply
use Rattle.js_store.specs.Objects.{Object, object_at, ordinary_get_own_property}
use Rattle.js_store.specs.declared.slot.Slot.{Slot}
use Rattle.js_store.specs.declared.slot.Slot.TheVariants as slot
use Rattle.js_state.specs.Scopes.{Scope}
use Rattle.js_operation.specs.Deeds.{MachineParty}
use Rattle.js_operation.specs.Operating.{MachineValue}
use Rattle.js_operation.specs.js_run.Acts.{Next}
use Rattle.js_operation.specs.js_run.Completions.{Replied}
use Rattle.js_operation.specs.js_run.Parties.{Shared, running}
use Rattle.js_operation.specs.js_run.Truth.{to_boolean}
use Rattle.js_operation.specs.js_run.Runs.{Begins, Charged, Due, Env, Gives, charge, run_for, settle}
use Rattle.js_direct.specs.declared.direct.Direct.{Direct}
use Rattle.js_direct.specs.declared.numbers.Counted.{Counted}
use Rattle.js_direct.specs.declared.plain.Plain.{Plain}
use Rattle.js_direct.specs.declared.plain.Plain.TheVariants as plain
use Rattle.js_direct.specs.declared.truths.Truth.{Truth}

-- where a party stands: its number and objects, the code, its scopes, and the scope of the body that runs
pub record Sight : Type 0 where
  pub me : ℕ
  pub code : Tables
  pub objects : List (Object Ref MadeSymbol)
  pub scopes : List (Scope Ref MadeSymbol)
  pub scope : ℕ

abbrev pub seen : PartyId → List (Object Ref MadeSymbol) → Tables → List (Scope Ref MadeSymbol) → (scope : ℕ) → Sight
seen party objects code scopes scope = record { me = party.0; code = code; objects = objects; scopes = scopes; scope = scope }

-- the form at a place gives a value after so many steps, where these can be paid together, and changes nothing: of each party that has these objects and scopes and stands in this one, whatever waits
pub record GivesAtOnce (s : Sight) (at : ℕ) (v : MachineValue) (k : ℕ) : Type 0 where
  pub gives : (shared : Shared) (env : Env Ref) (p : MachineParty) (ks : List (Next Ref MadeSymbol)) (charges limit steps : ℕ)
      → p.objects ≡ s.objects → p.scopes ≡ s.scopes → (running p).scope ≡ s.scope → charge p.meter steps limit k ≡ Charged
      → run_for (naming_of s.me) shared env (k + charges) limit steps (Due 0 (Begins (term_at s.code at)) p ks)
      ≡ run_for (naming_of s.me) shared env charges limit (steps + k) (settle (naming_of s.me) shared env ks (Gives (Replied (reply.Value v)) p))

abbrev pub GivesNumber : Sight → (at : ℕ) → Counted → Type 0
GivesNumber s at c = GivesAtOnce s at (value.Int c.number) c.steps

-- it gives a value that counts as this truth value
pub record GivesTruth (s : Sight) (at : ℕ) (t : Truth) : Type 0 where
  pub value : MachineValue
  pub gives : GivesAtOnce s at value t.steps
  pub truth : to_boolean value ≡ t.truth

-- the value of a plain one
abbrev pub value_of : Plain → MachineValue
value_of plain.Undefined = value.Undefined
value_of plain.Null = value.Null
value_of (plain.Bool b) = value.Bool b
value_of (plain.Int n) = value.Int n
value_of (plain.Ref r) = value.Ref r

abbrev pub IsDirect : Sight → (at : ℕ) → Direct → Type 0
IsDirect s at d = GivesAtOnce s at (value_of d.value) d.steps

-- PROPERTIES

-- the key that a number or a text is
-- ECMA-262 ToPropertyKey, of a number or a text
abbrev pub key_named : MachineValue → Option (Key MadeSymbol)
key_named (value.Int n) = Some (key_of_text (signed_decimal n))
key_named (value.Text t) = Some (key_of_text t)
key_named v = None

abbrev pub is_proxy : Slot Ref MadeSymbol → Bool
is_proxy (slot.Proxy p) = Bool.true
is_proxy s = Bool.false

-- an object of the party, which is no proxy, has a data property of its own, with this value
pub record HasData (objects : List (Object Ref MadeSymbol)) (id : ℕ) (key : Key MadeSymbol) (v : MachineValue) : Type 0 where
  pub there : id < length objects
  pub decides : is_proxy (object_at objects id).slot ≡ Bool.false
  pub writable : Bool
  pub enumerable : Bool
  pub configurable : Bool
  pub found : ordinary_get_own_property same_made_symbol key (object_at objects id).properties ≡ Some (Data v writable enumerable configurable)

-- an own object
abbrev pub own_object : (me id : ℕ) → MachineValue
own_object me id = value.Ref (reference.Own (record { 0 = me }) (record { 0 = id }))

-- OPERATORS

-- how an operator compares two numbers, if it does
-- ECMA-262 IsLessThan
-- ECMA-262 IsStrictlyEqual
abbrev pub compared : BinaryOperator → ℤ → ℤ → Option Bool
compared op.Less a b = Some (int_lt a b)
compared op.Greater a b = Some (int_lt b a)
compared op.LessOrEqual a b = Some (not (int_lt b a))
compared op.GreaterOrEqual a b = Some (not (int_lt a b))
compared op.LooselyEqual a b = Some (int_eq a b)
compared op.LooselyUnequal a b = Some (not (int_eq a b))
compared op.StrictlyEqual a b = Some (int_eq a b)
compared op.StrictlyUnequal a b = Some (not (int_eq a b))
compared o a b = None

-- WHAT ROWS GIVE

-- the form at each place with this row gives that
abbrev pub IsDirectRow : Sight → Node → Direct → Type 0
IsDirectRow s n d = (at : ℕ) → out-Term (term_at s.code at) ≡ layer_of s.code (term_at s.code) n → IsDirect s at d

abbrev pub IsNumberRow : Sight → Node → Counted → Type 0
IsNumberRow s n c = (at : ℕ) → out-Term (term_at s.code at) ≡ layer_of s.code (term_at s.code) n → GivesNumber s at c

-- the form at each place with this row gives that truth value
abbrev pub IsTruthRow : Sight → Node → Truth → Type 0
IsTruthRow s n t = (at : ℕ) → out-Term (term_at s.code at) ≡ layer_of s.code (term_at s.code) n → GivesAtOnce s at (value.Bool t.truth) t.steps

-- so does the one that reads a property whose key, at its place, is a name
abbrev pub IsDirectNamed : Sight → (object key name : ℕ) → Direct → Type 0
IsDirectNamed s object key name d = out-Term (term_at s.code key) ≡ layer_of s.code (term_at s.code) (node.Text name) → IsDirectRow s (node.Get object key) d
