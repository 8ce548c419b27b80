-- How names, texts, numbers and operators are written in the lines of a term.
use Rattle.std.specs.Prelude.{ℕ, ℤ, ◌+◌, ◌-◌, ◌/◌, ◌%◌, ◌==◌, nat_lt, nat_le, Bool, true, false, ◌&&◌, if◌then◌else◌, List, [], ◌∷◌, ◌++◌, codes, slice_get, Option, Some, None, decimal}
use Rattle.std.specs.Fmt.{signed_decimal}
use Rattle.js_text.specs.CommonPaths.{common_paths}
use Rattle.js_text.specs.Texts.{utf8_of}
use Rattle.js_names.specs.Lists.{flat}
use Rattle.js_term.specs.declared.term.Literal.{Literal}
use Rattle.js_term.specs.declared.term.Literal.TheVariants as literal
use Rattle.js_term.specs.declared.term.TemplateKind.{TemplateKind}
use Rattle.js_term.specs.declared.term.TemplateKind.TheVariants as template
use Rattle.js_tree.specs.declared.operator.BinaryOperator.{BinaryOperator}
use Rattle.js_tree.specs.declared.operator.BinaryOperator.TheVariants as binary
use Rattle.js_tree.specs.declared.operator.LogicalOperator.{LogicalOperator}
use Rattle.js_tree.specs.declared.operator.LogicalOperator.TheVariants as logical
use Rattle.js_tree.specs.declared.operator.UnaryOperator.{UnaryOperator}
use Rattle.js_tree.specs.declared.operator.UnaryOperator.TheVariants as unary

-- TEXTS

abbrev pub hex_digit : ℕ → ℕ
hex_digit n = if nat_lt n 10 then 48 + n else 87 + n

-- a unit by four lower-case hexadecimal digits
abbrev pub hex_unit : ℕ → List ℕ
hex_unit u = 92 ∷ 117 ∷ hex_digit (u / 4096 % 16) ∷ hex_digit (u / 256 % 16) ∷ hex_digit (u / 16 % 16) ∷ hex_digit (u % 16) ∷ []

-- a unit of a quoted text: a `"` and a `\` stand behind a `\`, and what is no printable ASCII is written by its digits
abbrev pub quoted_unit : ℕ → List ℕ
quoted_unit u = if u == 34 then 92 ∷ 34 ∷ [] else if u == 92 then 92 ∷ 92 ∷ [] else if nat_le 32 u && nat_lt u 127 then u ∷ [] else hex_unit u

-- own: texts are quoted as traces quote them
abbrev pub quoted : List ℕ → List ℕ
quoted t = 34 ∷ (flat quoted_unit t ++ 34 ∷ [])

abbrev pub truth : Bool → List ℕ
truth true = codes "true"
truth false = codes "false"

abbrev pub path_of : Option (List ℕ) → List ℕ
path_of None = []
path_of (Some p) = p

-- a common object by its path
abbrev pub common : ℕ → List ℕ
common c = 37 ∷ (path_of (slice_get common_paths c) ++ 37 ∷ [])

abbrev pub value : Literal → List ℕ
value literal.Undefined = codes "undefined"
value literal.Null = codes "null"
value (literal.Bool b) = truth b
value (literal.Int n) = signed_decimal n
value (literal.Text t) = quoted t
value literal.Iterator = codes "@iterator"
value (literal.Common c) = common c.0

-- OPERATORS AND KINDS

abbrev pub binary_word : BinaryOperator → List ℕ
binary_word binary.Exponentiate = codes "**"
binary_word binary.Multiply = codes "*"
binary_word binary.Divide = codes "/"
binary_word binary.Remainder = codes "%"
binary_word binary.Add = codes "+"
binary_word binary.Subtract = codes "-"
binary_word binary.LeftShift = codes "<<"
binary_word binary.SignedRightShift = codes ">>"
binary_word binary.UnsignedRightShift = codes ">>>"
binary_word binary.Less = codes "<"
binary_word binary.Greater = codes ">"
binary_word binary.LessOrEqual = codes "<="
binary_word binary.GreaterOrEqual = codes ">="
binary_word binary.Instanceof = codes "instanceof"
binary_word binary.In = codes "in"
binary_word binary.LooselyEqual = codes "=="
binary_word binary.LooselyUnequal = codes "!="
binary_word binary.StrictlyEqual = codes "==="
binary_word binary.StrictlyUnequal = codes "!=="
binary_word binary.BitwiseAnd = codes "&"
binary_word binary.BitwiseXor = codes "^"
binary_word binary.BitwiseOr = codes "|"

abbrev pub unary_word : UnaryOperator → List ℕ
unary_word unary.Delete = codes "delete"
unary_word unary.Void = codes "void"
unary_word unary.Typeof = codes "typeof"
unary_word unary.Plus = codes "+"
unary_word unary.Minus = codes "-"
unary_word unary.BitwiseNot = codes "~"
unary_word unary.LogicalNot = codes "!"

abbrev pub short_word : LogicalOperator → List ℕ
short_word logical.And = codes "&&"
short_word logical.Or = codes "||"
short_word logical.Coalesce = codes "??"

abbrev pub kind_word : TemplateKind → List ℕ
kind_word template.Plain = codes "Plain"
kind_word template.Arrow = codes "Arrow"
kind_word template.Method = codes "Method"
kind_word template.Base = codes "Base"
kind_word template.Derived = codes "Derived"
kind_word template.Built = codes "Built"
kind_word template.Module = codes "Module"
kind_word template.Text = codes "Text"
