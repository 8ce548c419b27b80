-- Array and object literals. A literal that has a comma behind its `...` at the end is like any other one as a value, and covers no pattern:
-- it is kept as if parentheses stood round it, which say both.
use Rattle.std.specs.Prelude.{Bool, true, false, List, [], ◌∷◌, ◌++◌, Option, Some, None}
use Rattle.lava_base.specs.declared.place.Place.{Place}
use Rattle.js_tree.specs.Layers.{ArrayElementLayer}
use Rattle.js_tree.specs.declared.tree.Argument.TheOpen.{ArrayElement-F}
use Rattle.js_tree.specs.declared.tree.ArrayElement.{ArrayElement, out-ArrayElement}
use Rattle.js_tree.specs.declared.tree.ClassMember.{out-ClassMember}
use Rattle.js_tree.specs.declared.tree.Expr.{Expr}
use Rattle.js_tree.specs.declared.tree.Expr.TheVariants as expr
use Rattle.js_tree.specs.declared.tree.Property.{Property}
use Rattle.js_tree.specs.declared.tree.Property.TheVariants as property
use Rattle.js_phrase.specs.declared.literals.Ending.{Ending}
use Rattle.js_phrase.specs.declared.literals.Ending.TheVariants as ending
use Rattle.js_phrase.specs.declared.phrase.Phrase.{Phrase}
use Rattle.js_phrase.specs.declared.phrase.Phrase.TheVariants as phrase
use Rattle.js_phrase.specs.Lasts.{front_of, last_of}
use Rattle.js_phrase.specs.Lists.{flat, folded}
use Rattle.js_phrase.specs.Phrases.{next_of, slot_of}
use Rattle.js_phrase.specs.Queues.{rest_of}

abbrev pub sealed : Bool → Place → Expr → Expr
sealed true place e = expr.Parenthesized place e
sealed false place e = e

-- what stands behind a comma of an array literal
abbrev pub later_slot : Phrase → List ArrayElement
later_slot (phrase.Slot x) = x ∷ []
later_slot _ = []

-- ECMA-262 ElementList, with what stands behind the last comma
abbrev pub slots_of : List Phrase → List ArrayElement
slots_of l = slot_of (next_of l) ∷ flat later_slot (rest_of l)

abbrev pub is_spread_at : ArrayElementLayer → Bool
is_spread_at (ArrayElement-F.SpreadElement e) = true
is_spread_at _ = false

abbrev pub is_spread : ArrayElement → Bool
is_spread x = is_spread_at (out-ArrayElement x)

abbrev pub later_spread : Bool → ArrayElement → Bool
later_spread old x = is_spread x

abbrev pub ends_with_spread : List ArrayElement → Bool
ends_with_spread l = folded later_spread false l

-- an array literal with these elements and a comma behind them
abbrev pub array_before_comma : Place → List ArrayElement → Expr
array_before_comma place l = sealed (ends_with_spread l) place (expr.Array place l)

-- of a literal whose last slot is taken off
abbrev pub array_at : Place → List ArrayElement → ArrayElement → ArrayElementLayer → Expr
array_at place l x ArrayElement-F.Hole = array_before_comma place l
array_at place l x _ = expr.Array place (l ++ x ∷ [])

abbrev pub array_with : Place → List ArrayElement → Option ArrayElement → Expr
array_with place l None = expr.Array place l
array_with place l (Some x) = array_at place l x (out-ArrayElement x)

abbrev pub array_of : Place → List ArrayElement → Expr
array_of place l = array_with place (front_of l) (last_of l)

-- ECMA-262 ArrayLiteral
abbrev pub array : Place → List Phrase → Expr
array place l = array_of place (slots_of l)

-- ECMA-262 PropertyDefinition
abbrev pub property_of : Phrase → List Property
property_of (phrase.Property p) = p ∷ []
property_of (phrase.Member m) = property.Defined (out-ClassMember m).key (out-ClassMember m).function ∷ []
property_of (phrase.Spread e) = property.SpreadProperty e ∷ []
property_of _ = []

abbrev pub properties_of : List Phrase → List Property
properties_of l = flat property_of l

-- what stands at the end of an object literal, once a part more stands
abbrev pub after : Ending → Phrase → Ending
after e (phrase.Spread x) = ending.Spread
after ending.Spread (phrase.Token t) = ending.Comma
after ending.Comma (phrase.Token t) = ending.Comma
after ending.Comma phrase.Absent = ending.Comma
after _ _ = ending.Other

abbrev pub is_comma : Ending → Bool
is_comma ending.Comma = true
is_comma _ = false

-- ECMA-262 ObjectLiteral
abbrev pub object : Place → List Phrase → Expr
object place l = sealed (is_comma (folded after ending.Other l)) place (expr.Object place (properties_of l))
