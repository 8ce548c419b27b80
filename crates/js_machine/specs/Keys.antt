-- Values that are property keys at once.
use Rattle.std.specs.Prelude.{true, false, codes, Option, Some, None}
use Rattle.std.specs.Fmt.{signed_decimal}
use Rattle.lava_base.specs.declared.ids.MadeSymbol.{MadeSymbol}
use Rattle.lava_base.specs.declared.ids.Ref.{Ref}
use Rattle.js_text.specs.Indices.{key_of_text}
use Rattle.js_text.specs.declared.value.Key.{Key}
use Rattle.js_text.specs.declared.value.Key.TheVariants as key
use Rattle.js_text.specs.declared.value.Value.{Value}
use Rattle.js_text.specs.declared.value.Value.TheVariants as value

-- the property key of a value that is no object
-- ECMA-262 ToPropertyKey, of a value that is no object
abbrev pub plain_key : Value Ref MadeSymbol → Option (Key MadeSymbol)
plain_key value.Undefined = Some (key.Text (codes "undefined"))
plain_key value.Null = Some (key.Text (codes "null"))
plain_key (value.Bool true) = Some (key.Text (codes "true"))
plain_key (value.Bool false) = Some (key.Text (codes "false"))
plain_key (value.Int n) = Some (key_of_text (signed_decimal n))
plain_key (value.Text t) = Some (key_of_text t)
plain_key (value.Symbol s) = Some (key.Symbol s)
plain_key (value.Ref r) = None
