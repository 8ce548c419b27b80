-- What a machine's decisions are read by.
use Rattle.std.specs.Prelude.{Option, Some, None}
use Rattle.lava_base.specs.declared.ids.MadeSymbol.{MadeSymbol}
use Rattle.lava_base.specs.declared.ids.Ref.{Ref}
use Rattle.js_text.specs.declared.value.Value.{Value}
use Rattle.js_text.specs.declared.value.Value.TheVariants as value

-- the object that a value is
abbrev pub object_of_value : Value Ref MadeSymbol → Option Ref
object_of_value (value.Ref r) = Some r
object_of_value v = None
