-- What a package is given by its row: its objects before anything has happened, and what of others it may name.
use Rattle.std.specs.Prelude.{◌≡◌, ℕ, zero, suc, nat_eq, ◌+◌, ◌<◌, Bool, true, false, pos, List, [], ◌∷◌, ◌++◌, length, map, filter, Option, Some, None, codes, ◌⊎◌}
use Rattle.std.specs.List.{list_any}
use Rattle.lava_base.specs.Ids.{same_made_symbol}
use Rattle.lava_base.specs.declared.ids.MadeSymbol.{MadeSymbol}
use Rattle.lava_base.specs.declared.ids.Ref.{Ref}
use Rattle.js_text.specs.Identities.{Identity, Of_object, value_identities}
use Rattle.js_text.specs.Indices.{key_of_text}
use Rattle.js_text.specs.Naming.{naming_of}
use Rattle.js_text.specs.Utf8.{units_of}
use Rattle.js_text.specs.declared.value.Key.{Key}
use Rattle.js_text.specs.declared.value.Value.{Value}
use Rattle.js_text.specs.declared.value.Value.TheVariants as value
use Rattle.js_desc.specs.Identities.{all_identities, option_identities}
use Rattle.js_desc.specs.declared.descriptor.Change.TheVariants as change
use Rattle.js_desc.specs.declared.descriptor.Descriptor.{Descriptor}
use Rattle.js_desc.specs.declared.descriptor.Descriptor.TheVariants.{Accessor, Data}
use Rattle.js_desc.specs.declared.start.Grant.{Grant}
use Rattle.js_desc.specs.declared.start.Grant.TheVariants.{Whole, Part, Live, LivePart}
use Rattle.js_store.specs.Frozen.{common_ref}
use Rattle.js_store.specs.Identities.{object_identities}
use Rattle.js_store.specs.Objects.{at_place, with_change, written}
use Rattle.js_store.specs.Order.{IsInOrder}
use Rattle.js_store.specs.declared.slot.Held.{Held}
use Rattle.js_store.specs.declared.slot.Held.TheVariants as held
use Rattle.js_store.specs.declared.slot.Live.{Live as Target}
use Rattle.js_store.specs.declared.slot.Slot.TheVariants as slot
use Rattle.js_world.specs.js_run.Functions.{function_marks, function_property}
use Rattle.js_world.specs.js_run.Globals.{default_properties}
use Rattle.js_world.specs.js_run.Hosts.{host_object}
use Rattle.js_world.specs.js_run.Identities.{IsAmong}
use Rattle.js_world.specs.js_run.Laws.{is_foreign}
use Rattle.js_world.specs.js_run.Starts.{host_ref, package_global, root_endowments}
use Rattle.js_world.specs.js_run.declared.intrinsics.TheConstants.{FUNCTION_PROTOTYPE}
use Rattle.lava_start.specs.Making.{Thing}

-- grants by name
abbrev pub Granted : Type 0
Granted = List (List ℕ × Grant)

-- the key of a name, which is UTF-8
-- ECMA-262 ToPropertyKey, of a text
abbrev pub key_of_name : List ℕ → Key MadeSymbol
key_of_name name = key_of_text (units_of name)

-- properties with more of them, one after the other: one of a key that is there takes its place
-- ECMA-262 OrdinaryDefineOwnProperty, of an object that nothing protects yet
abbrev pub with_properties : List (Key MadeSymbol × Descriptor Ref MadeSymbol) → List (Key MadeSymbol × Descriptor Ref MadeSymbol) → List (Key MadeSymbol × Descriptor Ref MadeSymbol)
with_properties [] ps = ps
with_properties (x ∷ xs) ps = with_properties xs (written same_made_symbol x.0 x.1 ps)

abbrev pub with_all_properties : List (Key MadeSymbol × Descriptor Ref MadeSymbol) → Thing → Thing
with_all_properties xs o = record o { properties = with_properties xs o.properties }

-- an object with a property of this key
abbrev pub with_keyed : Key MadeSymbol → Descriptor Ref MadeSymbol → Thing → Thing
with_keyed key d o = with_change same_made_symbol key (change.Write d) o

-- a frozen object with these properties, none of which may be configured
-- ECMA-262 SetIntegrityLevel, frozen
abbrev pub frozen_object : List (Key MadeSymbol × Descriptor Ref MadeSymbol) → Thing
frozen_object ps = host_object (naming_of 0) ps

-- ITEMS THAT EACH GIVE A PROPERTY OF ONE OBJECT

-- what an item gives: the objects that are made for it, from a number on, and a property, which may name them
pub record Supply (X : Type 0) : Type 0 where
  pub objects : (number : ℕ) → X → List Thing
  pub key : X → Key MadeSymbol
  pub property : (number : ℕ) → X → Descriptor Ref MadeSymbol

module _ {X : Type 0} (s : Supply X) where
  -- what is made for all items, in their order
  abbrev pub supplied_objects : (number : ℕ) → List X → List Thing
  supplied_objects n [] = []
  supplied_objects n (x ∷ xs) = s.objects n x ++ supplied_objects (n + length (s.objects n x)) xs

  -- their properties, where the objects stand from this number on
  abbrev pub supplied_properties : (number : ℕ) → List X → List (Key MadeSymbol × Descriptor Ref MadeSymbol)
  supplied_properties n [] = []
  supplied_properties n (x ∷ xs) = (s.key x, s.property n x) ∷ supplied_properties (n + length (s.objects n x)) xs

  -- the same step by step: what is made for an item comes to the end, and the object of this place gets the property
  abbrev pub with_supply : (at : ℕ) → X → List Thing → List Thing
  with_supply at x os = at_place (os ++ s.objects (length os) x) at (with_keyed (s.key x) (s.property (length os) x))

  abbrev pub with_supplies : (at : ℕ) → List X → List Thing → List Thing
  with_supplies at [] os = os
  with_supplies at (x ∷ xs) os = with_supplies at xs (with_supply at x os)

-- MEMBERS OF AN OBJECT OF THE HOST

-- a member that is granted: the function of its number
-- LavaMoat policy, attenuation of globals
abbrev pub part_member : List ℕ × ℕ → Key MadeSymbol × Descriptor Ref MadeSymbol
part_member m = (key_of_name m.0, Data (value.Ref (host_ref m.1)) false true false)

-- a frozen object of the package with these members
-- LavaMoat policy, attenuation of globals
abbrev pub part_object : List (List ℕ × ℕ) → Thing
part_object ms = frozen_object (with_properties (map part_member ms) [])

-- the same step by step: the object of this place gets one member after the other
abbrev pub with_part_members : (at : ℕ) → List (List ℕ × ℕ) → List Thing → List Thing
with_part_members at [] os = os
with_part_members at (m ∷ ms) os = with_part_members at ms (at_place os at (with_all_properties (part_member m ∷ [])))

-- GLOBALS OF THE APPLICATION'S OWN PACKAGE

abbrev pub root_global : Ref
root_global = (naming_of 1).own 0

-- a global there, or a member of one
-- LavaMoat policy, globals
abbrev pub target_of : (name : List ℕ) → (member : Option (Key MadeSymbol)) → Target Ref MadeSymbol
target_of name member = record { global = root_global; name = key_of_name name; member = member }

-- a live getter or setter, which has no name and no parameters
-- ECMA-262 CreateBuiltinFunction
abbrev pub live_function : Held Ref MadeSymbol → Thing
live_function h =
    record {
      prototype = Some (common_ref FUNCTION_PROTOTYPE);
      extensible = true;
      properties = function_property (codes "length") (value.Int (pos 0)) ∷ function_property (codes "name") (value.Text []) ∷ [];
      slot = slot.Held h;
      marks = function_marks false;
    }

-- the getter, and the setter behind it where writing is granted
-- LavaMoat policy, globals
abbrev pub live_functions : Target Ref MadeSymbol → (write : Bool) → List Thing
live_functions t false = live_function (held.LiveGetter t) ∷ []
live_functions t true = live_function (held.LiveGetter t) ∷ live_function (held.LiveSetter t) ∷ []

-- WHAT A GRANT GIVES, where the next object of the party has this number

-- data that may be written, listed and configured
abbrev pub open_reference : Ref → Descriptor Ref MadeSymbol
open_reference r = Data (value.Ref r) true true true

-- what `require` of a part of the host makes: members alone stand at an object of the package
-- LavaMoat policy, builtin
abbrev pub builtin_grant_objects : Grant → List Thing
builtin_grant_objects (Whole k) = []
builtin_grant_objects (Part ms) = part_object ms ∷ []
builtin_grant_objects (Live write) = []
builtin_grant_objects (LivePart ms) = []

abbrev pub builtin_objects : Granted → List Thing
builtin_objects [] = []
builtin_objects (x ∷ xs) = builtin_grant_objects x.1

module _ (p : ℕ) where
  abbrev pub live_setter : (number : ℕ) → (write : Bool) → Option Ref
  live_setter n false = None
  live_setter n true = Some ((naming_of p).own (suc n))

  -- the accessor of the functions from this number on
  -- LavaMoat policy, globals
  abbrev pub live_accessor : (number : ℕ) → (write configurable : Bool) → Descriptor Ref MadeSymbol
  live_accessor n write configurable = Accessor (Some ((naming_of p).own n)) (live_setter n write) true configurable

  -- the members of a global: each an accessor of a frozen object
  abbrev pub member_supply : (name : List ℕ) → Supply (List ℕ × Bool)
  member_supply name = record {
    objects = λ n m. live_functions (target_of name (Some (key_of_name m.0))) m.1;
    key = λ m. key_of_name m.0;
    property = λ n m. live_accessor n m.1 false;
  }

  -- a frozen object of the package with live members of a global, and their functions behind it
  -- LavaMoat policy, globals
  abbrev pub live_part_objects : (number : ℕ) → (name : List ℕ) → List (List ℕ × Bool) → List Thing
  live_part_objects n name ms = frozen_object (with_properties (supplied_properties (member_supply name) (suc n) ms) []) ∷ supplied_objects (member_supply name) (suc n) ms

  -- the objects that a grant of a global makes
  -- LavaMoat policy, globals
  abbrev pub grant_objects : (number : ℕ) → (name : List ℕ) → Grant → List Thing
  grant_objects n name (Whole k) = []
  grant_objects n name (Part ms) = part_object ms ∷ []
  grant_objects n name (Live write) = live_functions (target_of name None) write
  grant_objects n name (LivePart ms) = live_part_objects n name ms

  -- its property at the global of the package
  -- LavaMoat policy, globals
  abbrev pub grant_property : (number : ℕ) → Grant → Descriptor Ref MadeSymbol
  grant_property n (Whole k) = open_reference (host_ref k)
  grant_property n (Part ms) = open_reference ((naming_of p).own n)
  grant_property n (Live write) = live_accessor n write true
  grant_property n (LivePart ms) = open_reference ((naming_of p).own n)

  abbrev pub global_supply : Supply (List ℕ × Grant)
  global_supply = record {
    objects = λ n x. grant_objects n x.0 x.1;
    key = λ x. key_of_name x.0;
    property = λ n x. grant_property n x.1;
  }

  -- the global: the intrinsics and then what is granted
  -- LavaMoat policy, globals
  abbrev pub granted_global : Granted → Thing
  granted_global globals = with_all_properties (supplied_properties global_supply 1 globals) (package_global (naming_of p) [])

  -- what `require` of a part of the host gives
  -- LavaMoat policy, builtin
  abbrev pub builtin_grant_value : (number : ℕ) → Grant → Option (Value Ref MadeSymbol)
  builtin_grant_value n (Whole k) = Some (value.Ref (host_ref k))
  builtin_grant_value n (Part ms) = Some (value.Ref ((naming_of p).own n))
  builtin_grant_value n (Live write) = None
  builtin_grant_value n (LivePart ms) = None

  abbrev pub builtin_value : (number : ℕ) → Granted → Option (Value Ref MadeSymbol)
  builtin_value n [] = None
  builtin_value n (x ∷ xs) = builtin_grant_value n x.1

  -- the objects of a package: its global, what its globals make, and what its `require` of a part of the host makes
  abbrev pub package_objects : (globals builtins : Granted) → List Thing
  package_objects globals builtins = granted_global globals ∷ (supplied_objects global_supply 1 globals ++ builtin_objects builtins)

  -- what its `require` of a part of the host gives, whose object stands behind those of the globals
  abbrev pub package_builtin : (globals builtins : Granted) → Option (Value Ref MadeSymbol)
  package_builtin globals builtins = builtin_value (suc (length (supplied_objects global_supply 1 globals))) builtins

  -- what these name, own and others' alike
  abbrev pub package_identities : (globals builtins : Granted) → List (Identity Ref MadeSymbol)
  package_identities globals builtins = all_identities object_identities (package_objects globals builtins) ++ option_identities value_identities (package_builtin globals builtins)

-- WHAT OF OTHERS A PACKAGE MAY NAME

-- how many objects of the host have a number from the start
-- own: the host's objects
abbrev pub host_count : ℕ
host_count = 12

-- the grant names the host's object of a number: a whole one, or a member
abbrev pub names_host : ℕ → Grant → Bool
names_host k (Whole n) = nat_eq n k
names_host k (Part ms) = list_any (λ m. nat_eq m.1 k) ms
names_host k (Live write) = false
names_host k (LivePart ms) = false

abbrev pub is_granted : Granted → ℕ → Bool
is_granted grants k = list_any (λ x. names_host k x.1) grants

abbrev pub has_members : List (List ℕ × Bool) → Bool
has_members [] = false
has_members (m ∷ ms) = true

-- the grant reads a global of the application's own package
abbrev pub is_live : Grant → Bool
is_live (Whole n) = false
is_live (Part ms) = false
is_live (Live write) = true
is_live (LivePart ms) = has_members ms

-- so many numbers, from one on
abbrev pub numbers_from : (first count : ℕ) → List ℕ
numbers_from n zero = []
numbers_from n (suc c) = n ∷ numbers_from (suc n) c

abbrev pub host_identities : List ℕ → List (Identity Ref MadeSymbol)
host_identities ns = map (λ n. Of_object (host_ref n)) ns

abbrev pub root_identities : Bool → List (Identity Ref MadeSymbol)
root_identities false = []
root_identities true = Of_object root_global ∷ []

-- the host's objects that are granted, by their numbers, and then the global of the application's own package where a live key is granted
-- LavaMoat policy
abbrev pub package_names : (globals builtins : Granted) → List (Identity Ref MadeSymbol)
package_names globals builtins = host_identities (filter (is_granted (globals ++ builtins)) (numbers_from 0 host_count)) ++ root_identities (list_any (λ x. is_live x.1) globals)

-- each number of the host's objects in these grants is one of those that stand from the start
abbrev pub MembersInRange : List (List ℕ × ℕ) → Type 0
MembersInRange [] = Unit {0}
MembersInRange (m ∷ ms) = (m.1 < host_count) × MembersInRange ms

abbrev pub IsInRange : Grant → Type 0
IsInRange (Whole n) = n < host_count
IsInRange (Part ms) = MembersInRange ms
IsInRange (Live write) = Unit {0}
IsInRange (LivePart ms) = Unit {0}

abbrev pub AreInRange : Granted → Type 0
AreInRange [] = Unit {0}
AreInRange (x ∷ xs) = IsInRange x.1 × AreInRange xs

abbrev pub InRange : (globals builtins : Granted) → Type 0
InRange globals builtins = AreInRange globals × AreInRange builtins

-- THE APPLICATION'S OWN PACKAGE

-- it is granted the whole host
abbrev pub root_globals : Granted
root_globals = (codes "clock", Whole 7) ∷ (codes "console", Whole 0) ∷ (codes "input", Whole 5) ∷ []

abbrev pub root_builtins : Granted
root_builtins = (codes "fs", Whole 9) ∷ []

-- LAWS

-- what a package names of others is among its names
abbrev pub Package_names_all : Type 0
Package_names_all =
    (p : ℕ) (globals builtins : Granted) → InRange globals builtins → (a : Identity Ref MadeSymbol) → is_foreign p a ≡ true
    → IsAmong a (package_identities p globals builtins) → IsAmong a (package_names globals builtins)

-- an object that the host has from the start
pub record IsHostObject (a : Identity Ref MadeSymbol) : Type 0 where
  pub number : ℕ
  pub within : number < host_count
  pub is : a ≡ Of_object (host_ref number)

-- each of these names is an object that the host has from the start, or the global of the application's own package
abbrev pub Package_names_known : Type 0
Package_names_known = (globals builtins : Granted) (a : Identity Ref MadeSymbol) → IsAmong a (package_names globals builtins) → IsHostObject a ⊎ (a ≡ Of_object root_global)

-- granted names are no names of intrinsics and no array indices, and none comes twice
abbrev pub AreApart : (p : ℕ) → Granted → Type 0
AreApart p globals = IsInOrder same_made_symbol (default_properties (naming_of p) ++ supplied_properties (global_supply p) 1 globals)

-- where they are so, the global has the intrinsics and then what is granted
abbrev pub Granted_names_stand_behind : Type 0
Granted_names_stand_behind =
    (p : ℕ) (globals : Granted) → AreApart p globals → granted_global p globals ≡ package_global (naming_of p) (supplied_properties (global_supply p) 1 globals)

-- the application's own package, which is granted the whole host, has its global alone, and its `require` gives the host's object
pub record Root_is_granted_all : Type 0 where
  pub objects : package_objects 1 root_globals root_builtins ≡ package_global (naming_of 1) root_endowments ∷ []
  pub builtin : package_builtin 1 root_globals root_builtins ≡ Some (value.Ref (host_ref 9))
  pub names : package_names root_globals root_builtins ≡ host_identities (0 ∷ 5 ∷ 7 ∷ 9 ∷ [])
  pub in_range : InRange root_globals root_builtins
