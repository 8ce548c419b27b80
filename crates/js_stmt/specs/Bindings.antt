-- Bindings: names and patterns that declarations and parameters bind.
use Rattle.std.specs.Prelude.{ℕ, List, Option, Some, None}
use Rattle.js_tree.specs.declared.tree.Expr.{Expr}
use Rattle.js_tree.specs.declared.tree.Identifier.{Identifier}
use Rattle.js_tree.specs.declared.tree.Pattern.{Pattern}
use Rattle.js_tree.specs.declared.tree.Pattern.TheVariants as pattern
use Rattle.js_tree.specs.declared.tree.PatternElement.{PatternElement, roll-PatternElement}
use Rattle.js_tree.specs.declared.tree.PatternField.{PatternField, roll-PatternField}
use Rattle.js_tree.specs.declared.tree.PropertyKey.{PropertyKey}
use Rattle.js_tree.specs.declared.tree.PropertyKey.TheVariants as key
use Rattle.js_phrase.specs.declared.phrase.Phrase.{Phrase}
use Rattle.js_phrase.specs.declared.phrase.Phrase.TheVariants as phrase
use Rattle.js_phrase.specs.BindingPatterns.{array_pattern, object_pattern}
use Rattle.js_phrase.specs.Phrases.{default_of, element_of, key_of, pattern_of}
use Rattle.js_expr.specs.Names.{identifier}
use Rattle.js_expr.specs.Parts.{part, behind, token_at, expression_at}

-- ECMA-262 BindingIdentifier
-- ECMA-262 LabelIdentifier
abbrev pub binding_identifier : List ℕ → List Phrase → Phrase
binding_identifier source l = phrase.Name (identifier source (token_at 0 l))

-- ECMA-262 Initializer
abbrev pub initializer : List Phrase → Phrase
initializer l = phrase.Initializer (expression_at 1 l)

abbrev pub binding : Pattern → Option Expr → PatternElement
binding p default = roll-PatternElement (record { pattern = p; default = default })

-- a name or pattern and its default
-- ECMA-262 BindingElement
-- ECMA-262 VariableDeclaration
-- ECMA-262 LexicalBinding
abbrev pub binding_element : List Phrase → Phrase
binding_element l = phrase.Element (binding (pattern_of (part 0 l)) (default_of (part 1 l)))

-- ECMA-262 BindingRestElement
-- ECMA-262 BindingRestProperty
abbrev pub binding_rest : List Phrase → Phrase
binding_rest l = phrase.Rest (pattern_of (part 1 l))

-- what stands behind a comma, a colon or a parenthesis
abbrev pub second_part : List Phrase → Phrase
second_part l = part 1 l

abbrev pub binding_field : PropertyKey → PatternElement → PatternField
binding_field k x = roll-PatternField (record { key = k; element = x })

-- a name that is the key and is bound
-- ECMA-262 SingleNameBinding
abbrev pub bound_field : Identifier → Option Expr → PatternField
bound_field n default = binding_field (key.Named n) (binding (pattern.Bound n) default)

-- ECMA-262 BindingProperty
abbrev pub named_field : Identifier → Phrase → PatternField
named_field n (phrase.Element x) = binding_field (key.Named n) x
named_field n (phrase.Initializer e) = bound_field n (Some e)
named_field n _ = bound_field n None

abbrev pub named_binding_property : List ℕ → List Phrase → Phrase
named_binding_property source l =
    phrase.Field (named_field (identifier source (token_at 0 l)) (part 1 l))

-- ECMA-262 BindingProperty
abbrev pub keyed_binding_property : List Phrase → Phrase
keyed_binding_property l =
    phrase.Field (binding_field (key_of (part 0 l)) (element_of (part 1 l)))

-- ECMA-262 ObjectBindingPattern
abbrev pub object_binding_pattern : List Phrase → Phrase
object_binding_pattern l = phrase.Pattern (object_pattern (token_at 0 l).start (behind 1 l))

-- ECMA-262 ArrayBindingPattern
abbrev pub array_binding_pattern : List Phrase → Phrase
array_binding_pattern l = phrase.Pattern (array_pattern (token_at 0 l).start (behind 1 l))

-- the element behind a comma, or a hole
-- ECMA-262 BindingElisionElement
abbrev pub element_or_hole : Phrase → Phrase
element_or_hole (phrase.Element x) = phrase.Element x
element_or_hole _ = phrase.Hole

abbrev pub comma_binding_element : List Phrase → Phrase
comma_binding_element l = element_or_hole (part 1 l)
