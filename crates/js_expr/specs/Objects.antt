-- Object literals.
use Rattle.std.specs.Prelude.{ℕ, List}
use Rattle.lava_base.specs.declared.place.Place.{Place}
use Rattle.js_tree.specs.Layers.{PropertyKeyLayer}
use Rattle.js_tree.specs.declared.tree.Argument.TheOpen.{PropertyKey-F}
use Rattle.js_tree.specs.declared.tree.Expr.TheVariants as expr
use Rattle.js_tree.specs.declared.tree.Function.{Function, roll-Function, out-Function}
use Rattle.js_tree.specs.declared.tree.Identifier.{Identifier}
use Rattle.js_tree.specs.declared.tree.Property.{Property}
use Rattle.js_tree.specs.declared.tree.Property.TheVariants as property
use Rattle.js_tree.specs.declared.tree.PropertyKey.{PropertyKey, out-PropertyKey}
use Rattle.js_tree.specs.declared.tree.PropertyKey.TheVariants as key
use Rattle.js_phrase.specs.declared.phrase.Phrase.{Phrase}
use Rattle.js_phrase.specs.declared.phrase.Phrase.TheVariants as phrase
use Rattle.js_phrase.specs.Literals.{object}
use Rattle.js_phrase.specs.Phrases.{key_of, expression_of}
use Rattle.js_expr.specs.Names.{identifier}
use Rattle.js_expr.specs.Parts.{part, behind, token_at, expression_at}

-- `:` and a value
abbrev pub property_value : List Phrase → Phrase
property_value l = phrase.Expression (expression_at 1 l)

-- ECMA-262 CoverInitializedName
abbrev pub cover_initialized_name : List Phrase → Phrase
cover_initialized_name l = phrase.Initializer (expression_at 1 l)

abbrev pub key_place_at : PropertyKeyLayer → Place
key_place_at (PropertyKey-F.Named n) = n.place
key_place_at (PropertyKey-F.Numbered place value) = place
key_place_at (PropertyKey-F.Computed place key) = place

-- the place of a key's first token
abbrev pub key_place : PropertyKey → Place
key_place k = key_place_at (out-PropertyKey k)

-- the function of a method, at the place where the method begins
abbrev pub moved_function : Place → Function → Function
moved_function place f = roll-Function (record (out-Function f) { place = place })

-- ECMA-262 MethodDefinition
abbrev pub defined : PropertyKey → Function → Property
defined k f = property.Defined k (moved_function (key_place k) f)

abbrev pub valued : PropertyKey → Phrase → Property
valued k p = property.Valued k (expression_of p)

-- a property with this key: a method where a function stands behind it, or else a value
abbrev pub keyed : PropertyKey → Phrase → Property
keyed k (phrase.Function f) = defined k f
keyed k p = valued k p

-- a name alone, which is the key and the value
abbrev pub shorthand : Identifier → Property
shorthand n = property.Valued (key.Named n) (expr.Name n)

-- a property with this name, which may stand alone or with `=`
abbrev pub named : Identifier → Phrase → Property
named n phrase.Absent = shorthand n
named n (phrase.Initializer e) = property.Initialized n e
named n p = keyed (key.Named n) p

abbrev pub named_property : List ℕ → List Phrase → Phrase
named_property source l = phrase.Property (named (identifier source (token_at 0 l)) (part 1 l))

abbrev pub keyed_property : List Phrase → Phrase
keyed_property l = phrase.Property (keyed (key_of (part 0 l)) (part 1 l))

-- ECMA-262 ObjectLiteral
abbrev pub object_literal : List Phrase → Phrase
object_literal l = phrase.Expression (object (token_at 0 l).start (behind 1 l))
