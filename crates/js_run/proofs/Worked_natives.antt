-- Natives, collections and proxies that are run by the definitions alone: what they give, and in how many steps.
use Rattle.std.proofs.Common.{◌≡◌, ℕ, Bool, true, false, List, [], ◌∷◌, Some, None, refl}
use Rattle.std.specs.Prelude.{codes}
use Rattle.lava_base.specs.declared.ids.MadeSymbol.{MadeSymbol}
use Rattle.lava_base.specs.declared.ids.Ref.{Ref}
use Rattle.lava_base.specs.declared.marks.Class.TheVariants as class
use Rattle.lava_base.specs.declared.marks.Marks.{Marks}
use Rattle.js_text.specs.Naming.{naming_of}
use Rattle.js_text.specs.declared.native.Native.{Native}
use Rattle.js_text.specs.declared.native.Native.TheVariants as native
use Rattle.js_text.specs.declared.value.Key.{Key}
use Rattle.js_text.specs.declared.value.Key.TheVariants as key
use Rattle.js_text.specs.declared.value.Value as v
use Rattle.js_text.specs.declared.value.Value.TheVariants as value
use Rattle.js_desc.specs.declared.ask.Ask.TheVariants as ask
use Rattle.js_desc.specs.declared.reply.Reply.TheVariants as reply
use Rattle.js_desc.specs.declared.descriptor.Descriptor.{Descriptor}
use Rattle.js_desc.specs.declared.descriptor.Descriptor.TheVariants.{Data}
use Rattle.js_store.specs.Objects.{Object, plain_marks}
use Rattle.js_store.specs.declared.slot.Slot.TheVariants as slot
use Rattle.js_run.specs.Functions.{function_marks, ordinary}
use Rattle.js_run.specs.Parties.{Party}
use Rattle.js_term.specs.declared.term.Literal.TheVariants as literal
use Rattle.js_term.specs.declared.term.Term.{Term}
use Rattle.js_term.specs.declared.term.Term.TheVariants as term
use Rattle.js_run.specs.Local.{serves}
use Rattle.js_run.specs.Completions.{Replied}
use Rattle.js_run.specs.Runs.{Asks, Env, Gives, Imports, Sent, Stop, run_for, settle}
use Rattle.js_run.specs.Starts.{host_ref}
use Rattle.js_run.proofs.Worked.{Answered, Asked, Seen, computing, gives, int, module_exports, module_of, number, one, own, root, runs, seen, shared, surroundings, text, twenty}

-- TERMS

abbrev native_of : Native → List Term → Term
native_of which ts = term.Native which ts

abbrev null : Term
null = term.Lit literal.Null

-- an object without a prototype
abbrev bare : Term
bare = native_of native.MakeObject (null ∷ [])

abbrev map_class : Term
map_class = text (codes "Map")

abbrev kept : Term
kept = term.Local 0 3

-- a new map, which the module keeps
abbrev keeps_map : Term
keeps_map = term.Init 0 3 (native_of native.MakeMap (bare ∷ map_class ∷ []))

abbrev proxy : (target handler : Term) → Term
proxy target handler = native_of native.MakeProxy (target ∷ handler ∷ [])

abbrev array : Term
array = native_of native.MakeArray (bare ∷ number 0 ∷ [])

-- a module with a slot of its own
abbrev begins : ℕ → List Term → Stop Ref MadeSymbol
begins n ts = run_for (naming_of 1) shared surroundings (twenty (twenty n)) 1000 0 (serves (naming_of 1) shared surroundings (root (module_of 4 ts) []) (Imports [] []))

-- among parties whose objects are all maps
abbrev map_marks : Marks
map_marks = record { class = class.Map; callable = false; constructor = false }

abbrev among_maps : Env Ref
among_maps = record surroundings { marks = λ r. map_marks }

abbrev begins_among_maps : ℕ → List Term → Stop Ref MadeSymbol
begins_among_maps n ts = run_for (naming_of 1) shared among_maps (twenty n) 1000 0 (serves (naming_of 1) shared among_maps (root (module_of 3 ts) []) (Imports [] []))

-- COLLECTIONS

abbrev map_module : List Term
map_module = keeps_map ∷ native_of native.MapSet (kept ∷ map_class ∷ number 1 ∷ number 5 ∷ []) ∷ module_exports (native_of native.MapGet (kept ∷ map_class ∷ number 1 ∷ [])) ∷ []

-- what was set is got. At an own map a native costs one, and its ask nothing more
pub own_map : (n : ℕ) → seen (begins n map_module) ≡ Answered (gives (int 5)) 26
own_map n = simp computing

-- at a foreign map the ask crosses, and the native is charged to no one here
pub foreign_map : (n : ℕ) → seen (begins_among_maps n (native_of native.MapGet (term.Global (codes "console") false ∷ map_class ∷ number 1 ∷ []) ∷ [])) ≡ Asked (Asks (host_ref 0) (ask.Slot native.MapGet (value.Text (codes "Map") ∷ int 1 ∷ []))) 7
foreign_map n = simp computing

-- PROXIES

abbrev property : List ℕ → v.Value Ref MadeSymbol → (writable : Bool) → Key MadeSymbol × Descriptor Ref MadeSymbol
property name v w = (key.Text name, Data v w true w)

abbrev plain : List (Key MadeSymbol × Descriptor Ref MadeSymbol) → Object Ref MadeSymbol
plain properties = ordinary None properties

-- a proxy of the first object but the global, whose handler is the second one
abbrev proxy_object : Object Ref MadeSymbol
proxy_object = record { prototype = None; extensible = true; properties = []; slot = slot.Proxy (Some (record { target = (naming_of 1).own 1; handler = (naming_of 1).own 2 })); marks = plain_marks }

-- the target has a property `a`, which may be fixed; the handler is given
abbrev party_with : (writable : Bool) → List (Key MadeSymbol × Descriptor Ref MadeSymbol) → Party Ref MadeSymbol
party_with writable traps = record one { objects = plain [] ∷ plain (property (codes "a") (int 7) writable ∷ []) ∷ plain traps ∷ proxy_object ∷ [] }

-- among parties whose objects are all functions
abbrev among_functions : Env Ref
among_functions = record surroundings { marks = λ r. function_marks false }

-- what the party does whose proxy is asked for the property
abbrev proxy_asked : ℕ → Party Ref MadeSymbol → Stop Ref MadeSymbol
proxy_asked n p = run_for (naming_of 1) shared among_functions (twenty n) 1000 0 (serves (naming_of 1) shared among_functions p (Asks ((naming_of 1).own 3) (ask.Get (key.Text (codes "a")) (own 3))))

-- and what it does with the answer to what it sent
abbrev trap_gives : ℕ → v.Value Ref MadeSymbol → Stop Ref MadeSymbol → Stop Ref MadeSymbol
trap_gives n v (Sent o p ks steps) = run_for (naming_of 1) shared among_functions (twenty n) 1000 steps (settle (naming_of 1) shared among_functions ks (Gives (Replied (reply.Value v)) p))
trap_gives n v stop = stop

abbrev foreign_trap : Ref
foreign_trap = (naming_of 2).own 0

-- a handler whose trap is a function of another party
abbrev trapping : List (Key MadeSymbol × Descriptor Ref MadeSymbol)
trapping = property (codes "get") (value.Ref foreign_trap) true ∷ []

-- without a trap the target is asked: the proxy, its handler and its target decide
pub forwarded : (n : ℕ) → seen (proxy_asked n (party_with true [])) ≡ Answered (gives (int 7)) 3
forwarded n = refl

-- a trap is called with its handler as `this`
pub trapped : (n : ℕ) → seen (proxy_asked n (party_with true trapping)) ≡ Asked (Asks foreign_trap (ask.Call (own 2) (own 1 ∷ value.Text (codes "a") ∷ own 3 ∷ []))) 2
trapped n = refl

-- and then the target is asked for its property
pub kept_to : (n : ℕ) → seen (trap_gives n (int 8) (proxy_asked n (party_with true trapping))) ≡ Answered (gives (int 8)) 3
kept_to n = refl

-- a trap tells no other value than the target has, of a property that is fixed: an error of the party is thrown
pub contradicted : (n : ℕ) → seen (trap_gives n (int 8) (proxy_asked n (party_with false trapping))) ≡ Answered (reply.Throw (own 4)) 3
contradicted n = refl

-- a map serves an ask that crosses: the native is charged here, one and what its texts are
abbrev map_object : Object Ref MadeSymbol
map_object = record { prototype = None; extensible = true; properties = []; slot = slot.Table []; marks = map_marks }

pub served : (n : ℕ)
    → seen (runs n 0 (serves (naming_of 1) shared surroundings (record one { objects = plain [] ∷ map_object ∷ [] }) (Asks ((naming_of 1).own 1) (ask.Slot native.MapHas (value.Text (codes "Map") ∷ value.Text (codes "thirteen unit") ∷ [])))))
    ≡ Answered (gives (value.Bool false)) 2
served n = refl

-- a proxy of a proxy of an array is an array. The outer proxy is asked by the native, which costs nothing more; the inner one by the outer one
pub arrays : (n : ℕ) → seen (begins n (module_exports (native_of native.IsArray (proxy (proxy array bare) bare ∷ [])) ∷ [])) ≡ Answered (gives (value.Bool true)) 27
arrays n = simp computing
