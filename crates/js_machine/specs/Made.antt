-- The objects that a machine makes.
use Rattle.std.specs.Prelude.{ℕ, suc, Bool, true, false, List, [], ◌∷◌, ◌++◌, get_or, length, pos, codes, Option, Some, None}
use Rattle.lava_base.specs.declared.ids.MadeSymbol.{MadeSymbol}
use Rattle.lava_base.specs.declared.ids.Ref.{Ref}
use Rattle.js_text.specs.Naming.{naming_of}
use Rattle.js_text.specs.declared.value.Key.{Key}
use Rattle.js_text.specs.declared.value.Value.TheVariants as value
use Rattle.js_desc.specs.declared.descriptor.Descriptor.{Descriptor}
use Rattle.js_desc.specs.declared.descriptor.Descriptor.TheVariants.{Data}
use Rattle.js_code.specs.Decoded.{no_template_row, text_at}
use Rattle.js_code.specs.declared.node.TemplateRow.{TemplateRow}
use Rattle.js_store.specs.Objects.{Object}
use Rattle.js_store.specs.declared.slot.Slot.{Slot}
use Rattle.js_store.specs.declared.slot.Slot.TheVariants as slot
use Rattle.js_term.specs.declared.term.TemplateKind.{TemplateKind}
use Rattle.js_operation.specs.js_run.Functions.{constructor_property, constructs, function_marks, function_property, home_of, lexical_of, plain_object, prototype_key}
use Rattle.js_operation.specs.js_run.Parties.{first_body}
use Rattle.js_operation.specs.js_run.declared.intrinsics.TheConstants.{FUNCTION_PROTOTYPE}
use Rattle.js_machine.specs.Bodies.{scope_of}
use Rattle.js_machine.specs.Views.{View}

abbrev pub Properties : Type 0
Properties = List (Key MadeSymbol × Descriptor Ref MadeSymbol)

-- the number of the next template
abbrev pub next_number : View → ℕ
next_number w = length (w.common_templates ++ w.templates)

-- what a new function keeps, where its template has this number
abbrev pub closure_of : (number : ℕ) → TemplateKind → (home : Option Ref) → View → Slot Ref MadeSymbol
closure_of n k home w = slot.Closure (record { template = n; scope = scope_of w.bodies }) (home_of k home (first_body w.bodies)) (lexical_of k (first_body w.bodies))

-- a function with these properties behind `length` and `name`
abbrev pub new_function : (prototype : Option Ref) → (constructs : Bool) → Slot Ref MadeSymbol → (length : ℕ) → (name : List ℕ) → Properties → Object Ref MadeSymbol
new_function prototype c s n name properties =
    record {
      prototype = prototype;
      extensible = true;
      properties = function_property (codes "length") (value.Int (pos n)) ∷ function_property (codes "name") (value.Text name) ∷ properties;
      slot = s;
      marks = function_marks c;
    }

abbrev pub row_of : View → ℕ → TemplateRow
row_of w at = get_or w.code.templates at no_template_row

-- the function object of a template that has this number
abbrev pub function_of : (number : ℕ) → TemplateRow → (prototype home : Option Ref) → Properties → View → Object Ref MadeSymbol
function_of n t prototype home properties w = new_function prototype (constructs t.kind) (closure_of n t.kind home w) t.length (text_at w.code t.name) properties

-- a new function of a template, with these properties behind `length` and `name`
abbrev pub with_function : (at : ℕ) → (prototype home : Option Ref) → Properties → View → View
with_function at prototype home properties w = record w { objects = w.objects ++ function_of (next_number w) (row_of w at) prototype home properties w ∷ []; templates = w.templates ++ at ∷ [] }

abbrev pub with_object : Object Ref MadeSymbol → View → View
with_object o w = record w { objects = w.objects ++ o ∷ [] }

-- the next object, and the one after it
abbrev pub next_own : View → Ref
next_own w = (naming_of w.me).own (length w.objects)

abbrev pub second_own : View → Ref
second_own w = (naming_of w.me).own (suc (length w.objects))

abbrev pub function_prototype : View → Option Ref
function_prototype w = Some ((naming_of w.me).common FUNCTION_PROTOTYPE)

-- the property `prototype` of a function
abbrev pub prototype_property : Ref → Key MadeSymbol × Descriptor Ref MadeSymbol
prototype_property r = (prototype_key, Data (value.Ref r) true false false)

-- the object that the instances of a function inherit from
abbrev pub instance_prototype : (party : ℕ) → (function : Ref) → Object Ref MadeSymbol
instance_prototype me f = plain_object (naming_of me) (constructor_property f ∷ [])

-- a function and the object that its instances inherit from
abbrev pub with_plain_function : (at : ℕ) → View → View
with_plain_function at w = with_object (instance_prototype w.me (next_own w)) (with_function at (function_prototype w) None (prototype_property (second_own w) ∷ []) w)

abbrev pub with_function_by : (plain : Bool) → (at : ℕ) → View → View
with_function_by true at w = with_plain_function at w
with_function_by false at w = with_function at (function_prototype w) None [] w
