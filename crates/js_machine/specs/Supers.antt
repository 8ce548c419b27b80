-- What constructs in a `super` call.
use Rattle.std.specs.Prelude.{Option, Some, None}
use Rattle.lava_base.specs.declared.ids.MadeSymbol.{MadeSymbol}
use Rattle.lava_base.specs.declared.ids.Ref.{Ref}
use Rattle.js_text.specs.declared.value.Value.{Value}
use Rattle.js_text.specs.declared.value.Value.TheVariants as value

-- ECMA-262 GetSuperConstructor
abbrev pub parent_of : Option Ref → Value Ref MadeSymbol
parent_of None = value.Null
parent_of (Some r) = value.Ref r
