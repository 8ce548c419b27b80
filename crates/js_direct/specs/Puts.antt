-- Forms that write an own data property at once.
use Rattle.std.specs.Prelude.{◌≡◌, ℕ, ◌+◌, ◌<◌, Bool, not, ◌||◌, List, length, Option, Some, pos, int_lt}
use Rattle.lava_base.specs.Ids.{same_made_symbol}
use Rattle.lava_base.specs.declared.ids.MadeSymbol.{MadeSymbol}
use Rattle.lava_base.specs.declared.ids.Ref.{Ref}
use Rattle.js_text.specs.Length.{is_length, length_key}
use Rattle.js_text.specs.Naming.{naming_of}
use Rattle.js_text.specs.declared.value.Key.{Key}
use Rattle.js_text.specs.declared.value.Key.TheVariants as key
use Rattle.js_text.specs.declared.value.Value.TheVariants as value
use Rattle.js_term.specs.declared.term.Term.{out-Term}
use Rattle.js_code.specs.Decoded.{layer_of, term_at}
use Rattle.js_code.specs.declared.node.Node.{Node}
use Rattle.js_desc.specs.declared.descriptor.Descriptor.{Descriptor}
use Rattle.js_desc.specs.declared.descriptor.Descriptor.TheVariants.{Data}
use Rattle.js_desc.specs.declared.reply.Reply.TheVariants as reply
use Rattle.js_store.specs.Objects.{Object, at_place, object_at, ordinary_get_own_property, with_replaced}
use Rattle.js_store.specs.Order.{IsInOrder}
use Rattle.js_operation.specs.Deeds.{MachineParty}
use Rattle.js_operation.specs.Operating.{MachineValue}
use Rattle.js_operation.specs.js_exotic.ArrayDefineOwnProperty.{is_array}
use Rattle.js_operation.specs.js_run.Acts.{Next}
use Rattle.js_operation.specs.js_run.Completions.{Replied}
use Rattle.js_operation.specs.js_run.Parties.{Shared, running}
use Rattle.js_operation.specs.js_run.Runs.{Begins, Charged, Due, Env, Gives, charge, run_for, settle}
use Rattle.js_operation.specs.js_run.declared.TheConstants.{MAX_DEPTH}
use Rattle.js_direct.specs.Direct.{GivesAtOnce, Sight, is_proxy, key_named, value_of}
use Rattle.js_direct.specs.declared.direct.Direct.{Direct}

-- the form at a place gives a value after so many steps, where these can be paid together, and changes the objects alone, which are these afterwards: as GivesAtOnce, of each party that is not as deep as it may be, since an object that waits for an answer is open meanwhile
pub record PutsAtOnce (s : Sight) (at : ℕ) (v : MachineValue) (after : List (Object Ref MadeSymbol)) (k : ℕ) : Type 0 where
  pub puts : (shared : Shared) (env : Env Ref) (p : MachineParty) (ks : List (Next Ref MadeSymbol)) (charges limit steps : ℕ)
      → p.objects ≡ s.objects → p.scopes ≡ s.scopes → (running p).scope ≡ s.scope → p.depth < MAX_DEPTH → charge p.meter steps limit k ≡ Charged
      → run_for (naming_of s.me) shared env (k + charges) limit steps (Due 0 (Begins (term_at s.code at)) p ks)
      ≡ run_for (naming_of s.me) shared env charges limit (steps + k) (settle (naming_of s.me) shared env ks (Gives (Replied (reply.Value v)) (record p { objects = after })))

-- so does the form at each place with this row
abbrev pub IsPutRow : Sight → Node → (after : List (Object Ref MadeSymbol)) → Direct → Type 0
IsPutRow s n after d = (at : ℕ) → out-Term (term_at s.code at) ≡ layer_of s.code (term_at s.code) n → PutsAtOnce s at (value_of d.value) after d.steps

-- the form at a place gives what is this key after so many steps
pub record NamesAtOnce (s : Sight) (at : ℕ) (k : Key MadeSymbol) (steps : ℕ) : Type 0 where
  pub name : MachineValue
  pub gives : GivesAtOnce s at name steps
  pub is : key_named name ≡ Some k

-- WHAT MAY BE WRITTEN

-- an index is below the length that a property says
abbrev pub is_below_length : (index : ℕ) → Option (Descriptor Ref MadeSymbol) → Bool
is_below_length n (Some (Data (value.Int m) w e c)) = int_lt (pos n) m
is_below_length n d = Bool.false

-- a key of an array that is not its length, and no index at or past it
abbrev pub is_inside : Object Ref MadeSymbol → Key MadeSymbol → Bool
is_inside o (key.Index n) = is_below_length n (ordinary_get_own_property same_made_symbol length_key o.properties)
is_inside o (key.Text t) = not (is_length {S = MadeSymbol} (key.Text t))
is_inside o (key.Symbol s) = Bool.true

-- an object defines a property that it has at this key as any object does
-- ECMA-262 Array Exotic Objects, [[DefineOwnProperty]]
abbrev pub defines_plainly : Object Ref MadeSymbol → Key MadeSymbol → Bool
defines_plainly o k = not (is_array o.marks.class) || is_inside o k

-- a property that is written keeps its place: a name always does, an index where the properties stand in order
abbrev pub KeepsPlace : Key MadeSymbol → Object Ref MadeSymbol → Type 0
KeepsPlace (key.Index n) o = IsInOrder same_made_symbol o.properties
KeepsPlace (key.Text t) o = Unit {0}
KeepsPlace (key.Symbol s) o = Unit {0}

-- a data property that may be written
pub record IsWritable (property : Descriptor Ref MadeSymbol) (enumerable configurable : Bool) : Type 0 where
  pub old : MachineValue
  pub is : property ≡ Data old Bool.true enumerable configurable

-- an object of the party, which is no proxy, has a data property of its own that is writable, and defines it as any object does
pub record HasWritable (objects : List (Object Ref MadeSymbol)) (id : ℕ) (key : Key MadeSymbol) (enumerable configurable : Bool) : Type 0 where
  pub there : id < length objects
  pub decides : is_proxy (object_at objects id).slot ≡ Bool.false
  pub plainly : defines_plainly (object_at objects id) key ≡ Bool.true
  pub place : KeepsPlace key (object_at objects id)
  pub property : Descriptor Ref MadeSymbol
  pub found : ordinary_get_own_property same_made_symbol key (object_at objects id).properties ≡ Some property
  pub writable : IsWritable property enumerable configurable

-- such a property has another value, and nothing else is changed
pub record IsWritten (objects : List (Object Ref MadeSymbol)) (id : ℕ) (key : Key MadeSymbol) (v : MachineValue) (after : List (Object Ref MadeSymbol)) : Type 0 where
  pub enumerable : Bool
  pub configurable : Bool
  pub writable : HasWritable objects id key enumerable configurable
  pub written : after ≡ at_place objects id (with_replaced same_made_symbol key (Data v Bool.true enumerable configurable))
