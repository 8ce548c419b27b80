-- Array literals.
use Rattle.std.specs.Prelude.{ℕ, List}
use Rattle.js_phrase.specs.declared.phrase.Phrase.{Phrase}
use Rattle.js_phrase.specs.declared.phrase.Phrase.TheVariants as phrase
use Rattle.js_phrase.specs.Literals.{array}
use Rattle.js_phrase.specs.Phrases.{slot_of}
use Rattle.js_expr.specs.Parts.{part, behind, token_at, expression_at}

-- `...` and an expression: an element, a property or an argument
-- ECMA-262 SpreadElement
-- ECMA-262 PropertyDefinition
-- ECMA-262 ArgumentList
abbrev pub spread : List Phrase → Phrase
spread l = phrase.Spread (expression_at 1 l)

-- a comma, and the element behind it
-- ECMA-262 ElementList
abbrev pub comma_element : List Phrase → Phrase
comma_element l = phrase.Slot (slot_of (part 1 l))

-- ECMA-262 ArrayLiteral
abbrev pub array_literal : List Phrase → Phrase
array_literal l = phrase.Expression (array (token_at 0 l).start (behind 1 l))
