-- The pattern that an expression covers. A literal that ECMA-262's AssignmentPattern doesn't cover stays whole, as a target: so an early rule
-- sees all of it, and refuses it since it is no simple target.
use Rattle.std.specs.Prelude.{ℕ, zero, suc, Bool, true, false, not, ◌&&◌, cond, List, [], ◌∷◌, Option, Some, None}
use Rattle.lava_base.specs.declared.place.Place.{Place}
use Rattle.js_tree.specs.Layers.{ExprLayer, PropertyLayer, ArrayElementLayer}
use Rattle.js_tree.specs.declared.tree.Argument.TheOpen.{Expr-F, ArrayElement-F, Property-F}
use Rattle.js_tree.specs.declared.tree.ArrayElement.{ArrayElement, out-ArrayElement}
use Rattle.js_tree.specs.declared.tree.Expr.{Expr, out-Expr}
use Rattle.js_tree.specs.declared.tree.Identifier.{Identifier}
use Rattle.js_tree.specs.declared.tree.Pattern.{Pattern}
use Rattle.js_tree.specs.declared.tree.Pattern.TheVariants as pattern
use Rattle.js_tree.specs.declared.tree.PatternElement.{PatternElement, roll-PatternElement}
use Rattle.js_tree.specs.declared.tree.PatternField.{PatternField, roll-PatternField}
use Rattle.js_tree.specs.declared.tree.Property.{Property, out-Property}
use Rattle.js_tree.specs.declared.tree.PropertyKey.{PropertyKey}
use Rattle.js_tree.specs.declared.tree.PropertyKey.TheVariants as key
use Rattle.js_phrase.specs.Lists.{flat, folded}
use Rattle.js_phrase.specs.Literals.{is_spread}
use Rattle.js_phrase.specs.Phrases.{plain_element}

abbrev pub with_default : Pattern → Expr → PatternElement
with_default p e = roll-PatternElement (record { pattern = p; default = Some e })

abbrev pub field : PropertyKey → PatternElement → PatternField
field k x = roll-PatternField (record { key = k; element = x })

abbrev pub is_method_at : PropertyLayer → Bool
is_method_at (Property-F.Defined k f) = true
is_method_at _ = false

abbrev pub is_method : Property → Bool
is_method p = is_method_at (out-Property p)

abbrev pub is_rest_at : PropertyLayer → Bool
is_rest_at (Property-F.SpreadProperty e) = true
is_rest_at _ = false

abbrev pub is_rest : Property → Bool
is_rest p = is_rest_at (out-Property p)

-- these properties may stand in an ObjectAssignmentPattern; none may behind `...`
-- ECMA-262 ObjectAssignmentPattern
abbrev pub covers_object : Bool → List Property → Bool
covers_object ended [] = true
covers_object ended (p ∷ l) =
    not ended && (not (is_method p) && covers_object (is_rest p) l)

-- these elements may stand in an ArrayAssignmentPattern; none may behind `...`
-- ECMA-262 ArrayAssignmentPattern
abbrev pub covers_array : Bool → List ArrayElement → Bool
covers_array ended [] = true
covers_array ended (x ∷ l) = not ended && covers_array (is_spread x) l

-- what is no pattern
abbrev pub target : Expr → Pattern
target e = pattern.Target e

abbrev pub is_covered_at : ExprLayer → Bool
is_covered_at (Expr-F.Name n) = true
is_covered_at (Expr-F.Object place l) = covers_object false l
is_covered_at (Expr-F.Array place l) = covers_array false l
is_covered_at _ = false

-- a name, or a literal that a pattern covers
abbrev pub is_covered : Expr → Bool
is_covered e = is_covered_at (out-Expr e)

-- a name with a default, which is the key and is bound
-- ECMA-262 CoverInitializedName
abbrev pub initialized_field : Identifier → Expr → PatternField
initialized_field n e = field (key.Named n) (with_default (pattern.Bound n) e)

-- what `...` of an object pattern holds: it is no pattern
-- ECMA-262 AssignmentRestProperty
abbrev pub simple_at : Expr → ExprLayer → Pattern
simple_at e (Expr-F.Name n) = pattern.Bound n
simple_at e _ = pattern.Target e

abbrev pub simple : Expr → Pattern
simple e = simple_at e (out-Expr e)

module _ (refined : Expr → Pattern) where
  -- ECMA-262 AssignmentElement
  abbrev pub element_at : Expr → ExprLayer → PatternElement
  element_at e (Expr-F.Assign place target value) = with_default target value
  element_at e _ = plain_element (refined e)

  abbrev pub element : Expr → PatternElement
  element e = element_at e (out-Expr e)

  -- ECMA-262 AssignmentProperty
  abbrev pub fields_at : PropertyLayer → List PatternField
  fields_at (Property-F.Valued k e) = field k (element e) ∷ []
  fields_at (Property-F.Initialized n e) = initialized_field n e ∷ []
  fields_at _ = []

  abbrev pub fields_of : Property → List PatternField
  fields_of p = fields_at (out-Property p)

  -- ECMA-262 AssignmentElementList
  abbrev pub slots_at : ArrayElementLayer → List (Option PatternElement)
  slots_at ArrayElement-F.Hole = None ∷ []
  slots_at (ArrayElement-F.Element e) = Some (element e) ∷ []
  slots_at (ArrayElement-F.SpreadElement e) = []

  abbrev pub slots_of : ArrayElement → List (Option PatternElement)
  slots_of x = slots_at (out-ArrayElement x)

  -- ECMA-262 AssignmentRestElement
  abbrev pub with_rest_at : Option Pattern → ArrayElementLayer → Option Pattern
  with_rest_at old (ArrayElement-F.SpreadElement e) = Some (refined e)
  with_rest_at old _ = old

  abbrev pub with_rest_element : Option Pattern → ArrayElement → Option Pattern
  with_rest_element old x = with_rest_at old (out-ArrayElement x)

abbrev pub with_rest_property_at : Option Pattern → PropertyLayer → Option Pattern
with_rest_property_at old (Property-F.SpreadProperty e) = Some (simple e)
with_rest_property_at old _ = old

abbrev pub with_rest_property : Option Pattern → Property → Option Pattern
with_rest_property old p = with_rest_property_at old (out-Property p)

module _ (refined : Expr → Pattern) where
  abbrev pub object_covered : Place → List Property → Pattern
  object_covered place l =
      pattern.ObjectPattern place (flat (fields_of refined) l) (folded with_rest_property None l)

  abbrev pub array_covered : Place → List ArrayElement → Pattern
  array_covered place l =
      pattern.ArrayPattern place (flat (slots_of refined) l) (folded (with_rest_element refined) None l)

  abbrev pub covered_at : Expr → ExprLayer → Pattern
  covered_at e (Expr-F.Name n) = pattern.Bound n
  covered_at e (Expr-F.Object place l) = object_covered place l
  covered_at e (Expr-F.Array place l) = array_covered place l
  covered_at e _ = target e

  -- a name, or a literal that a pattern covers
  abbrev pub covered : Expr → Pattern
  covered e = covered_at e (out-Expr e)

-- the pattern that an expression covers, literals looked into down to so many levels
-- ECMA-262 DestructuringAssignmentTarget
unfoldable pub refined_to : ℕ → Expr → Pattern
refined_to zero e = target e
refined_to (suc d) e = cond (is_covered e) (covered (refined_to d) e) (target e)
