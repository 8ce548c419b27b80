-- How values are printed.
use Rattle.std.specs.Prelude.{ℕ, List, [], ◌∷◌, ◌++◌, Bool, true, false, codes, if◌then◌else◌}
use Rattle.std.specs.Fmt.{signed_decimal}
use Rattle.lava_base.specs.declared.ids.MadeSymbol.{MadeSymbol}
use Rattle.lava_base.specs.declared.ids.Ref.{Ref}
use Rattle.lava_base.specs.declared.marks.Class.{Class}
use Rattle.lava_base.specs.declared.marks.Class.TheVariants as class
use Rattle.lava_base.specs.declared.marks.Marks.{Marks}
use Rattle.js_text.specs.declared.value.Value.{Value}
use Rattle.js_text.specs.declared.value.Value.TheVariants as value
use Rattle.js_text.specs.Texts.{utf8_of}
use Rattle.lava_host.specs.declared.printed.TheConstants.{NO_MARKS}

abbrev pub printed_truth : Bool → List ℕ
printed_truth true = codes "true"
printed_truth false = codes "false"

abbrev pub printed_class : Class → List ℕ
printed_class class.Error = codes "[error]"
printed_class _ = codes "[object]"

-- own: how references are printed
abbrev pub printed_reference : Marks → List ℕ
printed_reference marks = if marks.callable then codes "[function]" else printed_class marks.class

-- a value as `console` prints it. How a reference prints depends on its marks, and is given. A lone surrogate of a text is printed as U+FFFD
-- own: how values are printed
abbrev pub printed_value : {R S : Type 0} → (R → List ℕ) → Value R S → List ℕ
printed_value show value.Undefined = codes "undefined"
printed_value show value.Null = codes "null"
printed_value show (value.Bool b) = printed_truth b
printed_value show (value.Int n) = signed_decimal n
printed_value show (value.Text u) = utf8_of u
printed_value show (value.Symbol s) = codes "[symbol]"
printed_value show (value.Ref r) = show r

-- a value without references
abbrev pub printed : Value Ref MadeSymbol → List ℕ
printed v = printed_value (λ r. printed_reference NO_MARKS) v

-- each value after a space
abbrev pub spaced_values : List (Value Ref MadeSymbol) → List ℕ
spaced_values [] = []
spaced_values (v ∷ vs) = 32 ∷ (printed v ++ spaced_values vs)

-- the values parted by one space
abbrev pub parted_values : List (Value Ref MadeSymbol) → List ℕ
parted_values [] = []
parted_values (v ∷ vs) = printed v ++ spaced_values vs

-- a line: the arguments parted by one space, and LF
-- own: what `console` prints
abbrev pub printed_line : List (Value Ref MadeSymbol) → List ℕ
printed_line vs = parted_values vs ++ (10 ∷ [])
