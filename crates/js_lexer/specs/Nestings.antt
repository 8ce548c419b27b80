-- Which braces and substitutions are open, the innermost first.
use Rattle.std.specs.Prelude.{Bool, true, false, List, [], ◌∷◌}
use Rattle.js_lexer.specs.declared.element.Element.{Element}
use Rattle.js_lexer.specs.declared.element.Element.TheVariants as elements
use Rattle.js_lexer.specs.declared.nesting.Open.{Open}
use Rattle.js_lexer.specs.declared.nesting.Open.TheVariants.{Brace, Substitution}
use Rattle.js_lexer.specs.declared.punctuators.Punctuator.TheVariants as punctuators
use Rattle.js_lexer.specs.declared.token.TemplatePart.TheVariants as templates

-- the innermost brace is that of a template's substitution
abbrev pub inside : List Open → Bool
inside [] = false
inside (Brace ∷ os) = false
inside (Substitution ∷ os) = true

abbrev pub closed : List Open → List Open
closed [] = []
closed (o ∷ os) = os

-- what is open behind a token: `{` and `${` open, and `}` closes the innermost
-- ECMA-262 ECMAScript Language: Lexical Grammar, InputElementTemplateTail
abbrev pub nested : Element → List Open → List Open
nested (elements.Punctuator punctuators.LeftBrace) os = Brace ∷ os
nested (elements.Punctuator punctuators.RightBrace) os = closed os
nested (elements.Template templates.Head) os = Substitution ∷ os
nested (elements.Template templates.Tail) os = closed os
nested _ os = os
