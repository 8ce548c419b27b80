-- Forms that append an element to an array at once.
use Rattle.std.specs.Prelude.{◌≡◌, ℕ, ◌+◌, ◌<◌, Bool, List, length, Option, Some, None, pos}
use Rattle.lava_base.specs.Ids.{same_made_symbol}
use Rattle.lava_base.specs.declared.ids.MadeSymbol.{MadeSymbol}
use Rattle.lava_base.specs.declared.ids.Ref.{Ref}
use Rattle.js_text.specs.Length.{length_key}
use Rattle.js_text.specs.Naming.{naming_of}
use Rattle.js_text.specs.declared.value.Key.{Key}
use Rattle.js_text.specs.declared.value.Key.TheVariants as key
use Rattle.js_text.specs.declared.value.Value.TheVariants as value
use Rattle.js_term.specs.declared.term.Term.{out-Term}
use Rattle.js_code.specs.Decoded.{layer_of, term_at}
use Rattle.js_code.specs.declared.node.Node.{Node}
use Rattle.js_desc.specs.declared.descriptor.Change.TheVariants as change
use Rattle.js_desc.specs.declared.descriptor.Descriptor.{Descriptor}
use Rattle.js_desc.specs.declared.descriptor.Descriptor.TheVariants.{Data}
use Rattle.js_desc.specs.declared.reply.Reply.TheVariants as reply
use Rattle.js_store.specs.Frozen.{CommonObject, common_at, common_ref}
use Rattle.js_store.specs.Objects.{Object, at_place, object_at, ordinary_get_own_property, with_change, with_replaced}
use Rattle.js_operation.specs.Deeds.{MachineParty}
use Rattle.js_operation.specs.Operating.{MachineValue}
use Rattle.js_operation.specs.js_exotic.ArrayDefineOwnProperty.{is_array}
use Rattle.js_operation.specs.js_exotic.declared.array_length.TheConstants.{LENGTH_LIMIT}
use Rattle.js_operation.specs.js_run.Acts.{Next}
use Rattle.js_operation.specs.js_run.Completions.{Replied}
use Rattle.js_operation.specs.js_run.Parties.{Shared, running}
use Rattle.js_operation.specs.js_run.Runs.{Begins, Charged, Due, Env, Gives, charge, run_for, settle}
use Rattle.js_operation.specs.js_run.declared.TheConstants.{MAX_DEPTH}
use Rattle.js_direct.specs.Direct.{Sight, is_proxy, value_of}
use Rattle.js_direct.specs.Puts.{defines_plainly, is_below_length}
use Rattle.js_direct.specs.declared.direct.Direct.{Direct}
use Rattle.js_direct.specs.declared.appends.Standing.{Standing}
use Rattle.js_direct.specs.declared.appends.Standing.TheVariants as standing

-- the form at a place gives a value after so many steps, where these can be paid together, and changes the objects alone, which are these afterwards: as PutsAtOnce, of each party that may become three deeper and shares this common part, since the array and what it inherits from are open together while the array is asked
pub record AppendsAtOnce (s : Sight) (common : List CommonObject) (at : ℕ) (v : MachineValue) (after : List (Object Ref MadeSymbol)) (k : ℕ) : Type 0 where
  pub appends : (shared : Shared) (env : Env Ref) (p : MachineParty) (ks : List (Next Ref MadeSymbol)) (charges limit steps : ℕ)
      → shared.objects ≡ common → p.objects ≡ s.objects → p.scopes ≡ s.scopes → (running p).scope ≡ s.scope → p.depth + 2 < MAX_DEPTH → charge p.meter steps limit k ≡ Charged
      → run_for (naming_of s.me) shared env (k + charges) limit steps (Due 0 (Begins (term_at s.code at)) p ks)
      ≡ run_for (naming_of s.me) shared env charges limit (steps + k) (settle (naming_of s.me) shared env ks (Gives (Replied (reply.Value v)) (record p { objects = after })))

-- so does the form at each place with this row
abbrev pub IsAppendRow : Sight → List CommonObject → Node → (after : List (Object Ref MadeSymbol)) → Direct → Type 0
IsAppendRow s common n after d = (at : ℕ) → out-Term (term_at s.code at) ≡ layer_of s.code (term_at s.code) n → AppendsAtOnce s common at (value_of d.value) after d.steps

-- WHAT IS INHERITED

-- an object of the common part, which is no proxy, has no property of its own at a key
pub record LacksOwn (common : List CommonObject) (id : ℕ) (key : Key MadeSymbol) : Type 0 where
  pub there : id < length common
  pub decides : is_proxy (common_at common id).slot ≡ Bool.false
  pub absent : ordinary_get_own_property same_made_symbol key (common_at common id).properties ≡ None

-- what has this prototype inherits from two objects of the common part, as an array does from Array.prototype and Object.prototype, and neither has a property at a key
pub record InheritsNone (common : List CommonObject) (prototype : Option Ref) (key : Key MadeSymbol) : Type 0 where
  pub first : ℕ
  pub second : ℕ
  pub is : prototype ≡ Some (common_ref first)
  pub lacks : LacksOwn common first key
  pub next : (common_at common first).prototype ≡ Some (common_ref second)
  pub lacks_too : LacksOwn common second key
  pub last : (common_at common second).prototype ≡ None

-- WHERE AN ELEMENT MAY BE APPENDED

-- an array that takes new properties, and is no proxy
pub record IsOpenArray (o : Object Ref MadeSymbol) : Type 0 where
  pub decides : is_proxy o.slot ≡ Bool.false
  pub array : is_array o.marks.class ≡ Bool.true
  pub grows : o.extensible ≡ Bool.true

-- an array of the party may have another element at an index, which is its length; the length has these attributes, and is writable
pub record HasRoom (objects : List (Object Ref MadeSymbol)) (common : List CommonObject) (id index : ℕ) (enumerable configurable : Bool) : Type 0 where
  pub there : id < length objects
  pub is : IsOpenArray (object_at objects id)
  pub length_is : ordinary_get_own_property same_made_symbol length_key (object_at objects id).properties ≡ Some (Data (value.Int (pos index)) Bool.true enumerable configurable)
  pub within : index < LENGTH_LIMIT
  pub absent : ordinary_get_own_property same_made_symbol (key.Index index) (object_at objects id).properties ≡ None
  pub inherits : InheritsNone common (object_at objects id).prototype (key.Index index)

-- the element is there, with all attributes true, and the length, which keeps its attributes, is one more
-- ECMA-262 Array Exotic Objects, [[DefineOwnProperty]], step 2.i
abbrev pub with_element : (index : ℕ) → MachineValue → (enumerable configurable : Bool) → Object Ref MadeSymbol → Object Ref MadeSymbol
with_element n v e c o = with_replaced same_made_symbol length_key (Data (value.Int (pos (n + 1))) Bool.true e c) (with_change same_made_symbol (key.Index n) (change.Write (Data v Bool.true Bool.true Bool.true)) o)

-- such an array has the element, and nothing else is changed
pub record IsAppended (objects : List (Object Ref MadeSymbol)) (common : List CommonObject) (id index : ℕ) (v : MachineValue) (after : List (Object Ref MadeSymbol)) : Type 0 where
  pub enumerable : Bool
  pub configurable : Bool
  pub room : HasRoom objects common id index enumerable configurable
  pub appended : after ≡ at_place objects id (with_element index v enumerable configurable)

-- WHERE AN INDEX STANDS

-- beside what the length of an array says
abbrev pub StandsBeside : Option (Descriptor Ref MadeSymbol) → (index : ℕ) → Standing → Type 0
StandsBeside d n standing.Below = is_below_length n d ≡ Bool.true
StandsBeside d n (standing.End a) = d ≡ Some (Data (value.Int (pos n)) Bool.true a.enumerable a.configurable)
StandsBeside d n standing.Elsewhere = Unit {0}

-- of an object: below, where it defines a property that it has as any object does, or at the end of an array
abbrev pub Stands : Object Ref MadeSymbol → (index : ℕ) → Standing → Type 0
Stands o n standing.Below = defines_plainly o (key.Index n) ≡ Bool.true
Stands o n (standing.End a) = (is_array o.marks.class ≡ Bool.true) × (ordinary_get_own_property same_made_symbol length_key o.properties ≡ Some (Data (value.Int (pos n)) Bool.true a.enumerable a.configurable))
Stands o n standing.Elsewhere = Unit {0}
