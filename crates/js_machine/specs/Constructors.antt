-- Classes that are made.
use Rattle.std.specs.Prelude.{◌≡◌, ℕ, Bool, false, [], ◌∷◌, Option, Some, None}
use Rattle.lava_base.specs.declared.ids.MadeSymbol.{MadeSymbol}
use Rattle.lava_base.specs.declared.ids.Ref.{Ref}
use Rattle.js_text.specs.declared.value.Key.{Key}
use Rattle.js_text.specs.Naming.{naming_of}
use Rattle.js_text.specs.declared.value.Value.{Value}
use Rattle.js_text.specs.declared.value.Value.TheVariants as value
use Rattle.js_desc.specs.declared.descriptor.Descriptor.{Descriptor}
use Rattle.js_desc.specs.declared.descriptor.Descriptor.TheVariants.{Data}
use Rattle.js_code.specs.Decoded.{template_at, term_at, text_at}
use Rattle.js_code.specs.declared.node.ClassRow.{ClassRow}
use Rattle.js_store.specs.Objects.{Object}
use Rattle.js_operation.specs.js_run.Functions.{constructor_property, ordinary, prototype_key}
use Rattle.js_operation.specs.js_run.Parts.{class_template}
use Rattle.js_machine.specs.Classes.{constructor_of}
use Rattle.js_machine.specs.Made.{next_own, second_own, with_function, with_object}
use Rattle.js_machine.specs.Views.{Around, View}
use Rattle.js_machine.specs.declared.holding.Holding.{Holding}

-- the object that instances inherit from, which names the constructor
abbrev pub class_instance : (above : Option Ref) → (constructor : Ref) → Object Ref MadeSymbol
class_instance above f = ordinary above (constructor_property f ∷ [])

-- the property `prototype` of a class's constructor
abbrev pub class_prototype : Ref → Key MadeSymbol × Descriptor Ref MadeSymbol
class_prototype r = (prototype_key, Data (value.Ref r) false false false)

-- the object that instances inherit from, and then the constructor
-- ECMA-262 MakeClassConstructor
abbrev pub with_class : (at : ℕ) → (above : Option Ref) → (over : Ref) → View → View
with_class at above over w = with_function at (Some over) (Some (next_own w)) (class_prototype (next_own w) ∷ []) (with_object (class_instance above (second_own w)) w)

-- a template of the code is that of a class's constructor
abbrev pub IsTemplateOf : ClassRow → (derived : Bool) → (at : ℕ) → View → Type 0
IsTemplateOf row derived at w =
    (a : Around) → template_at w.code (term_at w.code) at ≡ class_template (naming_of w.me) a.shared (text_at w.code row.name) derived (constructor_of w.code row)

-- an object or null that a value is
abbrev pub object_or_null : Value Ref MadeSymbol → Option (Option Ref)
object_or_null (value.Ref r) = Some (Some r)
object_or_null value.Null = Some None
object_or_null _ = None

-- the objects of a class that is to be made
abbrev pub class_holding : View → Holding
class_holding w = record { instance = next_own w; constructor = second_own w; enumerable = false }
