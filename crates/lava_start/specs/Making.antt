-- What the steps by which the first objects are made come to.
use Rattle.std.specs.Prelude.{ℕ, zero, suc, nat_eq, true, false, List, [], ◌∷◌, Option, Some, None, codes, if◌then◌else◌}
use Rattle.lava_base.specs.Ids.{same_made_symbol, same_ref}
use Rattle.lava_base.specs.declared.ids.MadeSymbol.{MadeSymbol}
use Rattle.lava_base.specs.declared.ids.Ref.{Ref}
use Rattle.lava_base.specs.declared.marks.Marks.{Marks}
use Rattle.js_text.specs.CommonPaths.{common_paths}
use Rattle.js_text.specs.Naming.{naming_of}
use Rattle.js_text.specs.declared.value.Key.TheVariants as key
use Rattle.js_text.specs.declared.value.Value.{Value}
use Rattle.js_text.specs.declared.value.Value.TheVariants as value
use Rattle.js_desc.specs.declared.descriptor.Change.TheVariants as change
use Rattle.js_desc.specs.declared.descriptor.Descriptor.{Descriptor}
use Rattle.js_desc.specs.declared.descriptor.Descriptor.TheVariants.{Data}
use Rattle.js_store.specs.Foreign.{with_marks}
use Rattle.js_store.specs.Objects.{Object, object_at, with_change}
use Rattle.js_world.specs.js_run.Globals.{is_global}
use Rattle.js_world.specs.js_run.Hosts.{host_object, member}
use Rattle.js_world.specs.js_run.Starts.{host_ref}
use Rattle.lava_start.specs.declared.global.TheConstants.{SELF_PLACE}

abbrev pub Thing : Type 0
Thing = Object Ref MadeSymbol

-- an object with a property of this name
abbrev pub with_named : List ℕ → Descriptor Ref MadeSymbol → Thing → Thing
with_named name d o = with_change same_made_symbol (key.Text name) (change.Write d) o

-- a property that may be written and configured, and isn't listed
abbrev pub hidden_descriptor : Value Ref MadeSymbol → Descriptor Ref MadeSymbol
hidden_descriptor v = Data v true false true

-- a member of an object of the host
abbrev pub with_host_member : List ℕ → ℕ → Thing → Thing
with_host_member name n o = with_named name (Data (value.Ref (host_ref n)) false true false) o

-- an object of the host with one member
abbrev pub holder_object : List ℕ → ℕ → Thing
holder_object name n = host_object (naming_of 0) (member (naming_of 0) name n ∷ [])

abbrev pub console_object : Thing
console_object = host_object (naming_of 0) (member (naming_of 0) (codes "log") 1 ∷ member (naming_of 0) (codes "info") 2 ∷ member (naming_of 0) (codes "warn") 3 ∷ member (naming_of 0) (codes "error") 4 ∷ [])

abbrev pub fs_object : Thing
fs_object = host_object (naming_of 0) (member (naming_of 0) (codes "readFileSync") 10 ∷ member (naming_of 0) (codes "existsSync") 11 ∷ [])

-- THE GLOBAL OF A PARTY

-- `globalThis` where its turn comes
abbrev pub with_global_self : (party place : ℕ) → Thing → Thing
with_global_self p n o = if nat_eq n SELF_PLACE then with_named (codes "globalThis") (hidden_descriptor (value.Ref ((naming_of p).own 0))) o else o

-- the intrinsic of a path, where it is one that each global has
abbrev pub with_intrinsic : (party place : ℕ) → List ℕ → Thing → Thing
with_intrinsic p n path o = if is_global path then with_named path (hidden_descriptor (value.Ref ((naming_of p).common n))) o else o

abbrev pub with_path : (party place : ℕ) → List ℕ → Thing → Thing
with_path p n path o = with_intrinsic p n path (with_global_self p n o)

-- what stands at a place, where it has a path
abbrev pub with_found : (party place : ℕ) → Option (List ℕ) → Thing → Thing
with_found p n None o = o
with_found p n (Some path) o = with_path p n path o

-- the intrinsics of these paths, whose places are counted from one on
abbrev pub with_paths : (party place : ℕ) → List (List ℕ) → Thing → Thing
with_paths p n [] o = o
with_paths p n (path ∷ paths) o = with_paths p (suc n) paths (with_path p n path o)

-- all of them
abbrev pub with_intrinsics : (party : ℕ) → Thing → Thing
with_intrinsics p o = with_paths p 0 common_paths o

-- MARKS

-- the marks of the first objects of the host
abbrev pub first_marks : List Thing → ℕ → List (Ref × Marks)
first_marks objects zero = []
first_marks objects (suc n) = with_marks same_ref (host_ref n) (object_at objects n).marks (first_marks objects n)
