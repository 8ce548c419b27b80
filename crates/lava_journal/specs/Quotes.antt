-- How texts and numbers of objects are written.
use Rattle.std.specs.Prelude.{ℕ, ◌+◌, ◌/◌, ◌%◌, ◌==◌, nat_lt, nat_le, ◌&&◌, if◌then◌else◌, List, [], ◌∷◌, ◌++◌, codes, decimal, slice_get}
use Rattle.std.specs.List.{flat_map}
use Rattle.std.specs.Option.{unwrap_or}
use Rattle.lava_base.specs.declared.marks.Class.{Class}
use Rattle.lava_base.specs.declared.marks.Class.TheVariants as class
use Rattle.lava_base.specs.declared.marks.Marks.{Marks}
use Rattle.js_text.specs.CommonPaths.{common_paths}

abbrev pub hex_digit : ℕ → ℕ
hex_digit n = if nat_lt n 10 then 48 + n else 87 + n

-- a unit by four lower-case hexadecimal digits
abbrev pub hex_unit : ℕ → List ℕ
hex_unit u = 92 ∷ 117 ∷ hex_digit (u / 4096 % 16) ∷ hex_digit (u / 256 % 16) ∷ hex_digit (u / 16 % 16) ∷ hex_digit (u % 16) ∷ []

-- a unit of a quoted text: a `"` and a `\` stand behind a `\`, and what is no printable ASCII is written by its digits
abbrev pub quoted_unit : ℕ → List ℕ
quoted_unit u = if u == 34 then 92 ∷ 34 ∷ [] else if u == 92 then 92 ∷ 92 ∷ [] else if nat_le 32 u && nat_lt u 127 then u ∷ [] else hex_unit u

-- a text by its units, between two `"`
-- own: texts in a trace
abbrev pub quoted : List ℕ → List ℕ
quoted t = 34 ∷ (flat_map quoted_unit t ++ 34 ∷ [])

-- the digits of a number, between two `"`
abbrev pub quoted_number : ℕ → List ℕ
quoted_number n = 34 ∷ (decimal n ++ 34 ∷ [])

-- party and number
abbrev pub pair_text : ℕ → ℕ → List ℕ
pair_text p k = decimal p ++ (46 ∷ decimal k)

-- a common object by its path, between two `%`
abbrev pub common_text : ℕ → List ℕ
common_text c = 37 ∷ (unwrap_or (slice_get common_paths c) [] ++ 37 ∷ [])

abbrev pub class_name : Class → List ℕ
class_name class.Object = codes "Object"
class_name class.Array = codes "Array"
class_name class.Function = codes "Function"
class_name class.Error = codes "Error"
class_name class.Map = codes "Map"
class_name class.Set = codes "Set"
class_name class.WeakMap = codes "WeakMap"
class_name class.Compartment = codes "Compartment"
class_name class.Global = codes "Global"
class_name class.Proxy = codes "Proxy"
class_name class.Promise = codes "Promise"
class_name class.Module = codes "Module"

-- `/CLASS`, then `+call` where it is callable, then `+new` where it is a constructor
-- own: marks in a trace
abbrev pub marks_text : Marks → List ℕ
marks_text m = 47 ∷ (class_name m.class ++ ((if m.callable then codes "+call" else []) ++ (if m.constructor then codes "+new" else [])))
