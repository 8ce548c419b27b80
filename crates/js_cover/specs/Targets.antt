-- What covers become: the target of an assignment, what a for-in or for-of statement gives its values to, and the parameters of an arrow.
use Rattle.std.specs.Prelude.{List, [], ◌∷◌, None}
use Rattle.js_tree.specs.declared.tree.Declaration.{Declaration, out-Declaration}
use Rattle.js_tree.specs.declared.tree.Expr.{Expr}
use Rattle.js_tree.specs.declared.tree.ForTarget.{ForTarget}
use Rattle.js_tree.specs.declared.tree.ForTarget.TheVariants as for_target
use Rattle.js_tree.specs.declared.tree.Pattern.{Pattern}
use Rattle.js_tree.specs.declared.tree.Pattern.TheVariants as pattern
use Rattle.js_tree.specs.declared.tree.PatternElement.{PatternElement, out-PatternElement}
use Rattle.js_phrase.specs.declared.phrase.Cover.{Cover}
use Rattle.js_phrase.specs.declared.phrase.Operands.{Operands}
use Rattle.js_phrase.specs.declared.phrase.Operands.TheVariants as operands
use Rattle.js_phrase.specs.declared.phrase.Parameters.{Parameters}
use Rattle.js_phrase.specs.declared.phrase.Phrase.{Phrase}
use Rattle.js_phrase.specs.declared.phrase.Phrase.TheVariants as phrase
use Rattle.js_cover.specs.declared.refined.TheConstants.{MAX_LEVELS}
use Rattle.js_phrase.specs.Lists.{flat}
use Rattle.js_phrase.specs.Phrases.{parenthesized, no_pattern, no_parameters}
use Rattle.js_phrase.specs.Places.{place_of}
use Rattle.js_cover.specs.Refined.{element, refined_to}

-- what stands before `=`
-- ECMA-262 AssignmentExpression, LeftHandSideExpression = AssignmentExpression
abbrev pub target_of : Phrase → Pattern
target_of (phrase.Expression e) = refined_to MAX_LEVELS e
target_of (phrase.Covered c) = pattern.Target (parenthesized c)
target_of _ = no_pattern

-- what the first declarator binds; there is one, without a default
abbrev pub first_bound : List PatternElement → Pattern
first_bound [] = no_pattern
first_bound (x ∷ l) = (out-PatternElement x).pattern

-- ECMA-262 ForDeclaration
-- ECMA-262 ForBinding
abbrev pub declared_target : Declaration → ForTarget
declared_target d =
    for_target.ForBinding (out-Declaration d).kind (first_bound (out-Declaration d).declarators)

-- ECMA-262 ForInOfStatement
abbrev pub for_target_of : Phrase → ForTarget
for_target_of (phrase.Declaration d) = declared_target d
for_target_of p = for_target.ForAssignment (target_of p)

abbrev pub parameter : Expr → PatternElement
parameter e = element (refined_to MAX_LEVELS) e

abbrev pub parameter_list_of : Expr → List PatternElement
parameter_list_of e = parameter e ∷ []

abbrev pub all_parameters : List Expr → List PatternElement
all_parameters l = flat parameter_list_of l

abbrev pub parameters_in : Operands → List PatternElement
parameters_in operands.NoOperand = []
parameters_in (operands.Single e) = parameter_list_of e
parameters_in (operands.Several l) = all_parameters l

-- ECMA-262 ArrowFormalParameters
abbrev pub covered_parameters : Cover → Parameters
covered_parameters c =
    record { place = c.place; elements = parameters_in c.operands; rest = c.rest }

-- a name alone is a parameter
abbrev pub lone_parameter : Expr → Parameters
lone_parameter e = record { place = place_of e; elements = parameter_list_of e; rest = None }

-- ECMA-262 ArrowParameters
abbrev pub arrow_parameters_of : Phrase → Parameters
arrow_parameters_of (phrase.Expression e) = lone_parameter e
arrow_parameters_of (phrase.Covered c) = covered_parameters c
arrow_parameters_of _ = no_parameters
