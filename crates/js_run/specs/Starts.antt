-- How a party stands before anything comes to it.
use Rattle.std.specs.Prelude.{ℕ, suc, ◌+◌, Bool, true, false, List, [], ◌∷◌, ◌++◌, length, map, Option, Some, None, codes, if◌then◌else◌}
use Rattle.lava_base.specs.declared.ids.MadeSymbol.{MadeSymbol}
use Rattle.lava_base.specs.declared.ids.Ref.{Ref}
use Rattle.js_text.specs.Naming.{Naming, naming_of}
use Rattle.js_text.specs.declared.value.Key.{Key}
use Rattle.js_text.specs.declared.value.Key.TheVariants as key
use Rattle.js_text.specs.declared.value.Value.{Value}
use Rattle.js_text.specs.declared.value.Value.TheVariants as value
use Rattle.js_desc.specs.declared.descriptor.Descriptor.{Descriptor}
use Rattle.js_desc.specs.declared.descriptor.Descriptor.TheVariants.{Data}
use Rattle.js_store.specs.Objects.{Object}
use Rattle.js_store.specs.declared.slot.Slot.TheVariants as slot
use Rattle.js_state.specs.Scopes.{no_scope}
use Rattle.js_run.specs.Globals.{default_properties, global_marks}
use Rattle.js_run.specs.Hosts.{host_objects}
use Rattle.js_run.specs.Parties.{Loaded, Party}
use Rattle.js_run.specs.declared.intrinsics.TheConstants.{OBJECT_PROTOTYPE}

-- a party without anything of its own but its outermost scope
abbrev pub blank : {R S : Type 0} → Party R S
blank = record {
  name = [];
  main = [];
  modules = [];
  links = [];
  builtin = None;
  module_map = [];
  meter = None;
  objects = [];
  templates = [];
  scopes = no_scope ∷ [];
  bodies = [];
  depth = 0;
  calls = [];
  frozen_errors = false;
}

-- the host has its objects, and the link to the application's own package. Its errors are frozen
abbrev pub host_party : Party Ref MadeSymbol
host_party = record blank { links = codes "$root$" ∷ []; objects = host_objects (naming_of 0); frozen_errors = true }

-- a name that a package is given: data that may be listed, written and configured
-- LavaMoat policy, globals
abbrev pub endowment : List ℕ → Ref → Key MadeSymbol × Descriptor Ref MadeSymbol
endowment name r = (key.Text name, Data (value.Ref r) true true true)

-- the global of a package: the intrinsics and then what it is given
abbrev pub package_global : {R S : Type 0} → Naming R S → List (Key S × Descriptor R S) → Object R S
package_global names given =
    record { prototype = Some (names.common OBJECT_PROTOTYPE); extensible = true; properties = default_properties names ++ given; slot = slot.Plain; marks = global_marks }

-- the object of the host of a number
abbrev pub host_ref : ℕ → Ref
host_ref n = (naming_of 0).own n

-- the application's own package is given the whole host
abbrev pub root_endowments : List (Key MadeSymbol × Descriptor Ref MadeSymbol)
root_endowments = endowment (codes "clock") (host_ref 7) ∷ endowment (codes "console") (host_ref 0) ∷ endowment (codes "input") (host_ref 5) ∷ []

-- the party of a package with what it is given
abbrev pub package_party : (party : ℕ) → (name main : List ℕ) → List Loaded → (links : List (List ℕ)) → Option (Value Ref MadeSymbol) → List (Key MadeSymbol × Descriptor Ref MadeSymbol) → Party Ref MadeSymbol
package_party p name main modules links builtin given =
    record blank { name = name; main = main; modules = modules; links = links; builtin = builtin; objects = package_global (naming_of p) given ∷ [] }
