-- The items of arrays that are read directly.
use Rattle.std.specs.Prelude.{[]}
use Rattle.lava_base.specs.declared.ids.MadeSymbol.{MadeSymbol}
use Rattle.lava_base.specs.declared.ids.Ref.{Ref}
use Rattle.js_text.specs.Naming.{naming_of}
use Rattle.js_text.specs.declared.value.Value.{Value}
use Rattle.js_text.specs.declared.value.Value.TheVariants as value
use Rattle.js_operation.specs.js_run.Functions.{items_of}
use Rattle.js_machine.specs.Views.{Values, View}
use Rattle.js_machine.specs.Ways.{object_in}

-- the items of an array, as the machine has it
-- ECMA-262 CreateListFromArrayLike, of an array without accessors
abbrev pub items_in : View → Value Ref MadeSymbol → Values
items_in w (value.Ref r) = items_of (naming_of w.me) (object_in w r)
items_in w _ = []
