-- The intrinsics: the common objects before lockdown.
use Rattle.std.specs.Prelude.{ℕ, true, false, List, [], map, Option, Some, None, get_or, ℤ, pos, ◌++◌, ◌∷◌}
use Rattle.std.specs.List.{range_with_len}
use Rattle.std.specs.Option.{option_map}
use Rattle.lava_base.specs.declared.ids.MadeSymbol.{MadeSymbol}
use Rattle.lava_base.specs.declared.ids.Ref.{Ref}
use Rattle.lava_base.specs.declared.marks.Class.TheVariants as class
use Rattle.lava_base.specs.declared.marks.Marks.{Marks}
use Rattle.lava_base.specs.Ids.{same_made_symbol}
use Rattle.js_text.specs.Length.{length_key}
use Rattle.js_text.specs.declared.value.Symbol.TheVariants as symbol
use Rattle.js_text.specs.declared.value.Value.{Value}
use Rattle.js_text.specs.declared.value.Value.TheVariants as value
use Rattle.js_desc.specs.declared.descriptor.Descriptor.TheVariants.{Data, Accessor}
use Rattle.js_store.specs.Frozen.{CommonObject, common_at, common_ref}
use Rattle.js_store.specs.Objects.{at_place, fresh, plain_marks, with_replaced, with_slot}
use Rattle.js_store.specs.declared.slot.Slot.{Slot}
use Rattle.js_store.specs.declared.slot.Slot.TheVariants as slot
use Rattle.ses_lockdown.specs.Lockdown.{Obj, Property, own_at, with_permits, common_slot, role_at}
use Rattle.ses_lockdown.specs.Permits.{Permit, permits, place_at, count}
use Rattle.ses_lockdown.specs.declared.intrinsics.TheConstants.{FUNCTION_PROTOTYPE}
use Rattle.ses_lockdown.specs.declared.names.TheConstants.{NAMES}
use Rattle.ses_lockdown.specs.declared.table.Kind.{Kind}
use Rattle.ses_lockdown.specs.declared.table.Kind.TheVariants as kind
use Rattle.ses_lockdown.specs.declared.table.Role.{Role}
use Rattle.ses_lockdown.specs.declared.table.Role.TheVariants as role
use Rattle.ses_lockdown.specs.declared.table.Stands.{Stands}
use Rattle.ses_lockdown.specs.declared.table.Stands.TheVariants as stands

-- BEFORE LOCKDOWN

-- the names of the functions
-- ECMA-262 SetFunctionName
unfoldable pub names : List (List ℕ)
names = map {A = record { now : List ℕ }} (λ t. t.now) NAMES

abbrev pub name_at : ℕ → List ℕ
name_at place = get_or names place []

-- a property that holds a value is not enumerable
-- ECMA-262 ECMAScript Standard Built-in Objects, the attributes of properties
abbrev pub holding : Value Ref MadeSymbol → Property
holding v = Data v true false true

-- how many parameters a function has before it has its body: a setter of lockdown has one
-- ECMA-262 SetFunctionLength
abbrev pub own_length : Role → ℤ
own_length (role.Setter n) = pos 1
own_length r = pos 0

-- what stands at the key of a permit, of the object of a place
-- ECMA-262 Well-Known Intrinsic Objects
abbrev pub initial_property : (place : ℕ) → Stands → Property
initial_property place stands.OwnName = holding (value.Text (name_at place))
initial_property place stands.OwnLength = holding (value.Int (own_length (role_at place)))
initial_property place (stands.Object p) = holding (value.Ref (common_ref p))
initial_property place (stands.Tamed p) = holding (value.Ref (common_ref p))
initial_property place (stands.NameOf p) = holding (value.Text (name_at p))
initial_property place stands.Empty = holding (value.Text [])
initial_property place (stands.Integer n) = holding (value.Int n)
initial_property place stands.IteratorSymbol = holding (value.Symbol symbol.Iterator)
initial_property place (stands.Read p) = Accessor (Some (common_ref p)) None false true

abbrev pub marks_of : Kind → Marks
marks_of kind.Ordinary = plain_marks
marks_of kind.Function = record { class = class.Function; callable = true; constructor = false }
marks_of kind.Constructor = record { class = class.Function; callable = true; constructor = true }

abbrev pub initial_at : (place : ℕ) → Permit → Option Property
initial_at place r = Some (initial_property place r.stands)

-- a common object before lockdown, a function without its body yet
-- ECMA-262 CreateIntrinsics
abbrev pub initial_object : (place : ℕ) → Obj
initial_object place = let row = place_at place in let marks = marks_of row.0 in record {
  prototype = option_map common_ref row.1;
  extensible = true;
  properties = with_permits (initial_at place) place marks.callable permits [];
  slot = slot.Plain;
  marks = marks;
}

-- all of them, each at its place
-- ECMA-262 CreateIntrinsics
-- SES intrinsics
unfoldable pub initial_objects : List Obj
initial_objects = map initial_object (range_with_len 0 count)

-- OF A LOCKED LIST

-- a common object once more, as the machine reads it
abbrev pub copied_as : (place : ℕ) → Obj → Obj
copied_as place o = record {
  prototype = o.prototype;
  extensible = false;
  properties = with_permits (λ r. own_at r o) place o.marks.callable permits [];
  slot = common_slot o.slot;
  marks = o.marks;
}

abbrev pub copied_object : List CommonObject → (place : ℕ) → Obj
copied_object common place = copied_as place (common_at common place)

-- the objects of a locked list
unfoldable pub copied : List CommonObject → List Obj
copied common = map (copied_object common) (range_with_len 0 count)

-- A FUNCTION COMES

-- the body of a template, in the outermost scope of the party that calls it
-- ECMA-262 OrdinaryFunctionCreate
abbrev pub body_of : (number : ℕ) → Slot Ref MadeSymbol
body_of number = slot.Closure (record { template = number; scope = 0 }) None None

-- the function of a place with its body, and its `length`
-- ECMA-262 CreateBuiltinFunction
abbrev pub with_body : (number parameters : ℕ) → Obj → Obj
with_body number parameters o = with_replaced same_made_symbol length_key (holding (value.Int (pos parameters))) (with_slot (body_of number) o)

abbrev pub with_function : (place number parameters : ℕ) → List Obj → List Obj
with_function place number parameters objects = at_place objects place (with_body number parameters)

-- a function of another path stands behind the common objects
abbrev pub with_other : (number : ℕ) → List Obj → List Obj
with_other number objects = objects ++ fresh (Some (common_ref FUNCTION_PROTOTYPE)) (marks_of kind.Function) (body_of number) ∷ []
