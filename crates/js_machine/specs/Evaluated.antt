-- Modules that are evaluated, and imports.
use Rattle.std.specs.Prelude.{◌≡◌, ℕ, suc, ◌+◌, List, [], ◌∷◌, ◌++◌, drop, length, slice_get, slice_set, Option, Some, None}
use Rattle.lava_base.specs.declared.ids.MadeSymbol.{MadeSymbol}
use Rattle.lava_base.specs.declared.ids.Ref.{Ref}
use Rattle.js_text.specs.Naming.{Naming, naming_of}
use Rattle.js_text.specs.declared.value.Value.{Value}
use Rattle.js_text.specs.declared.value.Value.TheVariants as value
use Rattle.js_desc.specs.declared.ask.Ask.TheVariants as ask
use Rattle.js_store.specs.Objects.{Object}
use Rattle.js_operation.specs.js_run.Acts.{Act, Closes, Import, give, with_value}
use Rattle.js_operation.specs.js_run.Asking.{open_one, waits_for}
use Rattle.js_operation.specs.js_run.Functions.{open_property, plain_object, source_slots}
use Rattle.js_operation.specs.js_run.Modules.{exports_key, imports, not_allowed, require_function}
use Rattle.js_operation.specs.js_run.Parties.{Loaded, Party}
use Rattle.js_operation.specs.js_run.Runs.{answered, settle}
use Rattle.js_machine.specs.Filling.{scope_with}
use Rattle.js_machine.specs.Made.{with_object}
use Rattle.js_machine.specs.Opened.{template_of, without_body}
use Rattle.js_machine.specs.Packages.{loaded_of}
use Rattle.js_machine.specs.Steps.{Keeps, point_of, with_top}
use Rattle.js_machine.specs.Views.{Around, View, below, fitting, party_of, text_of, top}
use Rattle.js_machine.specs.declared.asked.Wait.TheVariants as wait
use Rattle.js_machine.specs.declared.frame.Frame.TheVariants as frame
use Rattle.js_machine.specs.declared.frame.Mode.{Mode}
use Rattle.js_machine.specs.declared.modules.ModuleObjects.{ModuleObjects}
use Rattle.js_machine.specs.declared.package.Module.{Module}

-- MODULES

-- where there is no module
abbrev pub no_module : Module
no_module = record { path = []; template = 0; begun = None }

abbrev pub module_or : Option Module → Module
module_or None = no_module
module_or (Some m) = m

-- the module of a number
abbrev pub module_numbered : View → ℕ → Module
module_numbered w n = module_or (slice_get w.own_package.modules n)

-- a module that has not begun
abbrev pub unbegun : View → ℕ → Loaded
unbegun w n = record (loaded_of w.code (module_numbered w n)) { begun = None }

-- a module has another standing
abbrev pub with_module : (number : ℕ) → Module → View → View
with_module n m w = record w { own_package = record w.own_package { modules = slice_set w.own_package.modules n m } }

abbrev pub with_standing : (number : ℕ) → (path : List ℕ) → (template : ℕ) → (begun : Option ℕ) → View → View
with_standing n path at b w = with_module n (record { path = path; template = at; begun = b }) w

-- THE OBJECTS AND THE SCOPE OF A MODULE

-- the numbers of the three objects that are made next
abbrev pub numbers_from : ℕ → ModuleObjects
numbers_from n = record { exports = n; object = suc n; require = suc (suc n) }

-- a module object, which has its `exports`
abbrev pub module_object : (party exports : ℕ) → Object Ref MadeSymbol
module_object me e = plain_object (naming_of me) (open_property exports_key (value.Ref ((naming_of me).own e)) ∷ [])

abbrev pub with_module_objects : (number : ℕ) → View → View
with_module_objects n w = with_object (require_function (naming_of w.me) n) (with_object (module_object w.me (length w.objects)) (with_object (plain_object (naming_of w.me) []) w))

-- what a module is given
abbrev pub given_of : (party : ℕ) → ModuleObjects → List (Value Ref MadeSymbol)
given_of me o = value.Ref ((naming_of me).own o.exports) ∷ value.Ref ((naming_of me).own o.require) ∷ value.Ref ((naming_of me).own o.object) ∷ []

-- the scope of a module's body, in which no body stands yet
abbrev pub with_module_scope : (at : ℕ) → ModuleObjects → View → View
with_module_scope at o w = record w { scopes = w.scopes ++ scope_with 0 (source_slots (template_of w at) (given_of w.me o)) ∷ [] }

-- HOW A MODULE ENDS

-- a module that threw counts as not begun; its path is below what was thrown
abbrev pub module_threw : (number template : ℕ) → View → View
module_threw n at w = with_top (top w.values) (without_body (with_module n (record { path = text_of (top (below w.values)); template = at; begun = None }) (record w { values = below (below w.values) })))

-- a module gives its `exports`
abbrev pub module_over : View → View
module_over w = with_top (top w.values) (without_body (record w { values = drop 1 (below w.values) }))

-- IMPORTS

-- what a `require` of a module that has begun does
abbrev pub waits_for_exports : Naming Ref MadeSymbol → (module_object : ℕ) → Party Ref MadeSymbol → Act Ref MadeSymbol
waits_for_exports names o p = waits_for names (names.own o) (ask.Get exports_key (value.Ref (names.own o))) p (with_value give)

-- what a `require` over one of the package's links does
abbrev pub imports_over : Naming Ref MadeSymbol → (link path request : List ℕ) → Party Ref MadeSymbol → Act Ref MadeSymbol
imports_over names link path request p = open_one p (λ q. Import link path (not_allowed names request p) q (Closes (with_value give)))

-- an import is sent, and what comes is waited for
abbrev pub import_sent : (link path : List ℕ) → View → View
import_sent link path w = record w { frames = frame.Decides ∷ w.frames; waits = wait.Exports ∷ w.waits; depth = w.depth + 1; imported = record { link = link; path = path } }

-- the machine stands where an import of another party leads
pub record IsImported (link path : List ℕ) (old new : View) (m : Mode) : Type 0 where
  pub stands : (a : Around) → let b = fitting old a in point_of b new m ≡ settle (naming_of old.me) b.shared b.env [] (answered (naming_of old.me) b.env (imports (naming_of old.me) link path (party_of b old)))
  pub keeps : Keeps old new
