-- Bodies that run.
use Rattle.std.specs.Prelude.{ℕ, suc, ◌-◌, Bool, true, false, ◌∷◌, ◌++◌, [], drop, Option, Some, None}
use Rattle.lava_base.specs.declared.ids.MadeSymbol.{MadeSymbol}
use Rattle.lava_base.specs.declared.ids.Ref.{Ref}
use Rattle.js_text.specs.Naming.{naming_of}
use Rattle.js_text.specs.declared.value.Value.{Value}
use Rattle.js_text.specs.declared.value.Value.TheVariants as value
use Rattle.js_code.specs.Decoded.{template_at, term_at}
use Rattle.js_term.specs.declared.term.Template.{Template}
use Rattle.js_term.specs.declared.term.Term.{Term}
use Rattle.js_operation.specs.js_run.Acts.{Act, Evaluate, Next}
use Rattle.js_operation.specs.js_run.Asking.{open_one}
use Rattle.js_operation.specs.js_run.Bodies.{other_bodies}
use Rattle.js_operation.specs.js_run.Functions.{argument_slots, array_of, rest_arguments}
use Rattle.js_operation.specs.js_run.Parties as parties
use Rattle.js_operation.specs.js_run.Parties.{Party}
use Rattle.js_machine.specs.Bodies.{running_of}
use Rattle.js_machine.specs.Filling.{scope_with}
use Rattle.js_machine.specs.Made.{next_own, with_object}
use Rattle.js_machine.specs.Views.{args_on, View}
use Rattle.js_machine.specs.declared.body.Body.{Body}
use Rattle.js_machine.specs.declared.frame.Mode.{Mode}
use Rattle.js_machine.specs.declared.frame.Mode.TheVariants as mode

-- an open body runs a term, and something waits for its end
abbrev pub runs : Term → parties.Body Ref MadeSymbol → Party Ref MadeSymbol → Next Ref MadeSymbol → Act Ref MadeSymbol
runs t b p k = open_one p (λ q. Evaluate t (record q { bodies = b ∷ q.bodies }) k)

-- a body is open, and stands in a scope
abbrev pub with_body : (scope : ℕ) → Body → View → View
with_body s b w = record w { bodies = running_of s (Some b) ∷ w.bodies; depth = suc w.depth }

-- the newest body is over
abbrev pub without_body : View → View
without_body w = record w { bodies = other_bodies w.bodies; depth = w.depth - 1 }

-- the template of a place
abbrev pub template_of : View → ℕ → Template
template_of w at = template_at w.code (term_at w.code) at

-- the scope of a body is there, with so many arguments that are taken off the stack
abbrev pub with_slots : (at outer count : ℕ) → (rest : Option (Value Ref MadeSymbol)) → View → View
with_slots at outer n rest w = record w { values = drop n w.values; scopes = w.scopes ++ scope_with outer (argument_slots rest (template_of w at) (args_on n w.values)) ∷ [] }

-- the array of a rest parameter
abbrev pub with_rest : (at count : ℕ) → View → View
with_rest at n w = with_object (array_of (naming_of w.me) (rest_arguments (template_of w at) (args_on n w.values))) w

abbrev pub with_prepared : (rest : Bool) → (at outer count : ℕ) → View → View
with_prepared false at outer n w = with_slots at outer n None w
with_prepared true at outer n w = with_slots at outer n (Some (value.Ref (next_own w))) (with_rest at n w)

-- the value with which a body ends that doesn't throw
abbrev pub returned_value : Mode → Value Ref MadeSymbol → Value Ref MadeSymbol
returned_value mode.Return v = v
returned_value _ v = value.Undefined
