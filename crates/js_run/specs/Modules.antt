-- Modules and their `require`.
use Rattle.std.specs.Prelude.{ℕ, suc, ◌+◌, Bool, true, false, List, [], ◌∷◌, ◌++◌, length, slice_set, slice_get, Option, Some, None, pos, codes, if◌then◌else◌}
use Rattle.std.specs.Map.{lookup}
use Rattle.js_text.specs.Naming.{Naming}
use Rattle.js_text.specs.Texts.{same_units}
use Rattle.js_text.specs.declared.value.Key.{Key}
use Rattle.js_text.specs.declared.value.Key.TheVariants as key
use Rattle.js_text.specs.declared.value.Value.{Value}
use Rattle.js_text.specs.declared.value.Value.TheVariants as value
use Rattle.js_desc.specs.declared.ask.Ask.TheVariants as ask
use Rattle.js_desc.specs.declared.fault.FaultText.TheVariants as fault
use Rattle.js_desc.specs.declared.reply.Reply.TheVariants as reply
use Rattle.js_store.specs.Objects.{Object}
use Rattle.js_store.specs.declared.slot.Held.TheVariants as held
use Rattle.js_store.specs.declared.slot.Slot.TheVariants as slot
use Rattle.js_term.specs.declared.term.Template.{out-Template}
use Rattle.js_term.specs.declared.term.TemplateKind.TheVariants as kind
use Rattle.js_run.specs.Acts.{Act, Closes, Evaluate, Give, Import, Next, Then, as_it_is, asks, give, with_value}
use Rattle.js_run.specs.Asking.{open_one, waits_for}
use Rattle.js_run.specs.Bodies.{closed}
use Rattle.js_run.specs.Completions.{Completion, Replied, Breaks, Continues, Returns}
use Rattle.js_run.specs.Faults.{faults, throws_error_of}
use Rattle.js_run.specs.Functions.{source_slots, function_marks, function_property, open_property, plain_object}
use Rattle.js_run.specs.Parties.{Body, Loaded, Party, made, opened}
use Rattle.js_run.specs.Requests.{directory_of, is_builtin, is_link, is_relative, link_of, module_at, not_allowed_text, not_found_text, parts_of, whole_request, module_of}
use Rattle.js_run.specs.declared.intrinsics.TheConstants.{ERROR_PROTOTYPE, FUNCTION_PROTOTYPE}

abbrev pub exports_key : {S : Type 0} → Key S
exports_key = key.Text (codes "exports")

-- the modules with one begun, or not begun
abbrev pub begun_so : {R S : Type 0} → (module_number : ℕ) → Loaded → Option ℕ → Party R S → Party R S
begun_so n m b p = record p { modules = slice_set p.modules n (record m { begun = b }) }

module _ {R S : Type 0} (names : Naming R S) where
  -- an error of the running party, which is no error of another kind
  -- ECMA-262 Error Objects
  abbrev pub throws_plain_error : (message : List ℕ) → Party R S → Act R S
  throws_plain_error message p = throws_error_of names ERROR_PROTOTYPE message p

  -- THE OBJECTS OF A MODULE

  -- the `require` of a module
  -- LavaMoat require
  abbrev pub require_function : (module_number : ℕ) → Object R S
  require_function n =
      record {
        prototype = Some (names.common FUNCTION_PROTOTYPE);
        extensible = true;
        properties = function_property (codes "length") (value.Int (pos 0)) ∷ function_property (codes "name") (value.Text []) ∷ [];
        slot = slot.Held (held.Require n);
        marks = function_marks false;
      }

  -- its `exports`, the module object that has it, and its `require`
  abbrev pub module_objects : (module_number : ℕ) → Party R S → Party R S
  module_objects n p =
      made
      (made (made p (plain_object names [])) (plain_object names (open_property exports_key (value.Ref (names.own (length p.objects))) ∷ [])))
      (require_function n)

  abbrev pub module_arguments : (exports : ℕ) → List (Value R S)
  module_arguments e = value.Ref (names.own e) ∷ value.Ref (names.own (e + 2)) ∷ value.Ref (names.own (e + 1)) ∷ []

  -- EVALUATION

  -- a Get of `exports` at the module object
  abbrev pub get_exports : (module_object : ℕ) → Party R S → Next R S → Act R S
  get_exports o p k = asks names (names.own o) (ask.Get exports_key (value.Ref (names.own o))) p k

  -- a module whose body or whose `exports` threw counts as not begun
  abbrev pub module_closes : (module_number : ℕ) → Loaded → Completion R S → Party R S → Act R S
  module_closes n m (Replied (reply.Value v)) p = give v (closed p)
  module_closes n m c p = Give c (closed (begun_so n m None p))

  -- the Get of `exports` is a part of the body
  abbrev pub module_ends : (module_number : ℕ) → Loaded → (module_object : ℕ) → Completion R S → Party R S → Act R S
  module_ends n m o (Replied (reply.Throw e)) p = module_closes n m (Replied (reply.Throw e)) p
  module_ends n m o c p = get_exports o p (Then (λ d q. module_closes n m d q))

  abbrev pub module_body : (scope : ℕ) → (exports : ℕ) → Body R S
  module_body s e = record { kind = kind.Module; scope = s; this = Some (value.Ref (names.own e)); new_target = None; function = None; home = None }

  -- a module is evaluated once
  -- ECMA-262 Evaluate of a module
  abbrev pub evaluates_module : (module_number : ℕ) → Loaded → Party R S → Act R S
  evaluates_module n m p =
      open_one p (λ q.
      let e = length q.objects in
      let o = begun_so n m (Some (suc e)) (opened (module_objects n q) 0 (source_slots m.template (module_arguments e))) in
      Evaluate (out-Template m.template).body (record o { bodies = module_body (length q.scopes) e ∷ o.bodies }) (Then (λ c r. module_ends n m (suc e) c r)))

  -- a cyclic request has what `exports` is at that moment
  abbrev pub module_value : (module_number : ℕ) → Loaded → Option ℕ → Party R S → Act R S
  module_value n m None p = evaluates_module n m p
  module_value n m (Some o) p = get_exports o p (with_value give)

  -- what another party imports
  abbrev pub imports_there : (request : List ℕ) → Option ℕ → (Option Loaded) → Party R S → Act R S
  imports_there request (Some n) (Some m) p = module_value n m m.begun p
  imports_there request _ _ p = throws_plain_error (not_found_text request) p

  abbrev pub loaded_at : Option ℕ → Party R S → Option Loaded
  loaded_at None p = None
  loaded_at (Some n) p = slice_get p.modules n

  -- the empty path is the main module's
  abbrev pub imported_module : (path : List ℕ) → Party R S → Option ℕ
  imported_module [] p = module_of p.modules p.main
  imported_module (u ∷ us) p = module_at p.modules [] (u ∷ us)

  -- own: what an import runs
  abbrev pub imports : (link path : List ℕ) → Party R S → Act R S
  imports link path p = let n = imported_module path p in imports_there (whole_request link path) n (loaded_at n p) p

  -- REQUIRE

  -- of a module that has begun, the call waits for its `exports`
  abbrev pub requires_module : (module_number : ℕ) → Loaded → Option ℕ → Party R S → Act R S
  requires_module n m None p = evaluates_module n m p
  requires_module n m (Some o) p = waits_for names (names.own o) (ask.Get exports_key (value.Ref (names.own o))) p (with_value give)

  abbrev pub requires_there : (request : List ℕ) → Option ℕ → Option Loaded → Party R S → Act R S
  requires_there request (Some n) (Some m) p = requires_module n m m.begun p
  requires_there request _ _ p = throws_plain_error (not_found_text request) p

  -- a path that is relative to the module's directory
  abbrev pub requires_path : (path request : List ℕ) → Party R S → Act R S
  requires_path path request p = let n = module_at p.modules (directory_of path) request in requires_there request n (loaded_at n p) p

  abbrev pub not_allowed : (request : List ℕ) → Party R S → Act R S
  not_allowed request p = throws_plain_error (not_allowed_text p.name request) p

  -- LavaMoat policy, builtin
  abbrev pub requires_builtin : (request : List ℕ) → Option (Value R S) → Party R S → Act R S
  requires_builtin request None p = not_allowed request p
  requires_builtin request (Some v) p = give v p

  -- LavaMoat policy, packages
  abbrev pub requires_package : (request : List ℕ) → List ℕ × List ℕ → Party R S → Act R S
  requires_package request l p =
      if is_link l.0 p.links
      then open_one p (λ q. Import l.0 l.1 (not_allowed request p) q (Closes (with_value give)))
      else throws_plain_error (not_found_text request) p

  abbrev pub requires_by : (path request : List ℕ) → Party R S → Act R S
  requires_by path request p =
      if is_relative request then requires_path path request p
      else (if is_builtin request then requires_builtin request p.builtin p else requires_package request (link_of (parts_of request)) p)

  abbrev pub path_of : Option Loaded → List ℕ
  path_of None = []
  path_of (Some m) = m.path

  -- a module's `require` is called
  -- LavaMoat require
  abbrev pub requires : (module_number : ℕ) → List (Value R S) → Party R S → Act R S
  requires n (value.Text request ∷ more) p = requires_by (path_of (slice_get p.modules n)) request p
  requires n _ p = faults names fault.CannotConvert p

  -- the `require` of a made party
  -- SES Compartment, modules
  abbrev pub mapped : (request : List ℕ) → Option (Value R S) → Party R S → Act R S
  mapped request None p = throws_plain_error (not_found_text request) p
  mapped request (Some v) p = give v p

  abbrev pub requires_mapped : List (Value R S) → Party R S → Act R S
  requires_mapped (value.Text request ∷ more) p = mapped request (lookup (same_units request) p.module_map) p
  requires_mapped _ p = faults names fault.CannotConvert p
