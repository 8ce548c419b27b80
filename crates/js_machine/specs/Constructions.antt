-- What is constructed once the prototype has come.
use Rattle.std.specs.Prelude.{ℕ, List, [], Some}
use Rattle.lava_base.specs.declared.ids.MadeSymbol.{MadeSymbol}
use Rattle.lava_base.specs.declared.ids.Ref.{Ref}
use Rattle.js_text.specs.Naming.{Naming}
use Rattle.js_text.specs.declared.value.Value.{Value}
use Rattle.js_text.specs.declared.value.Value.TheVariants as value
use Rattle.js_store.specs.Frozen.{common_ref}
use Rattle.js_term.specs.declared.term.Template.{Template}
use Rattle.js_term.specs.declared.term.TemplateKind.{TemplateKind}
use Rattle.js_operation.specs.js_run.Acts.{Act}
use Rattle.js_operation.specs.js_run.Bodies.{body_of, constructed, prepared, prototype_or, returned, runs_body}
use Rattle.js_operation.specs.js_run.Functions.{next_object, ordinary}
use Rattle.js_operation.specs.js_run.Parties as parties
use Rattle.js_operation.specs.js_run.Parties.{Party, Shared, made}
use Rattle.js_operation.specs.js_run.declared.intrinsics.TheConstants.{OBJECT_PROTOTYPE}
use Rattle.js_machine.specs.declared.asked.Construction.{Construction}

-- the prototype of what is constructed, where this value came for it
-- ECMA-262 GetPrototypeFromConstructor
abbrev pub prototype_given : Value Ref MadeSymbol → Ref
prototype_given (value.Ref r) = r
prototype_given _ = common_ref OBJECT_PROTOTYPE

-- the body of a constructor
abbrev pub constructing_body : (scope : ℕ) → TemplateKind → Construction → (this : Ref) → parties.Body Ref MadeSymbol
constructing_body s kind k this = record { kind = kind; scope = s; this = Some (value.Ref this); new_target = Some k.target; function = Some k.function; home = k.home }

-- an object with this prototype is made, and the body of the constructor runs
-- ECMA-262 OrdinaryCreateFromConstructor
-- ECMA-262 ECMAScript Function Objects, [[Construct]], steps 5 to 13
abbrev pub constructs_made : Naming Ref MadeSymbol → Shared → Template → Construction → List (Value Ref MadeSymbol) → (prototype : Value Ref MadeSymbol) → Party Ref MadeSymbol → Act Ref MadeSymbol
constructs_made names shared t k args v p =
    let this = value.Ref (next_object names shared p) in
    let q = made p (ordinary (Some (prototype_or names shared v)) []) in
    runs_body names shared t (body_of names shared t q (Some this) (Some k.target) (Some k.function) k.home) (prepared names shared t k.outer args q) (λ c after m. returned c m (constructed names shared this))
