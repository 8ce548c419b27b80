-- Template literals.
use Rattle.std.specs.Prelude.{ℕ, List, [], ◌∷◌, ◌++◌}
use Rattle.std.specs.Str.{chars}
use Rattle.js_lexer.specs.declared.token.Token.{Token}
use Rattle.js_literals.specs.StringValues.{tv}
use Rattle.js_tree.specs.declared.tree.Expr.TheVariants as expr
use Rattle.js_phrase.specs.declared.phrase.Phrase.{Phrase}
use Rattle.js_phrase.specs.declared.phrase.Phrase.TheVariants as phrase
use Rattle.js_phrase.specs.declared.phrase.Substitution.{Substitution}
use Rattle.js_phrase.specs.declared.places.TheConstants.{NO_TOKEN}
use Rattle.js_phrase.specs.Lists.{strings_of, substitutions_of, last_token}
use Rattle.js_expr.specs.Names.{bytes_of}
use Rattle.js_expr.specs.Parts.{behind, token_at, expression_at}

-- the cooked value of a template token
-- ECMA-262 Static Semantics: TV
abbrev pub cooked : List ℕ → Token → List ℕ
cooked source t = tv (chars (bytes_of source t))

-- ECMA-262 NoSubstitutionTemplate
abbrev pub no_substitution_template : List ℕ → List Phrase → Phrase
no_substitution_template source l = phrase.Expression
    (expr.Template (token_at 0 l).start (cooked source (token_at 0 l) ∷ []) [])

-- the string between two substitutions, with the second one
-- ECMA-262 TemplateMiddleList
abbrev pub template_middle : List ℕ → List Phrase → Phrase
template_middle source l =
    phrase.Substitution (record { string = cooked source (token_at 0 l); value = expression_at 1 l })

-- the strings: at the head, between substitutions, at the tail
-- ECMA-262 Static Semantics: TemplateStrings
abbrev pub strings : List ℕ → List Phrase → List (List ℕ)
strings source l = cooked source (token_at 0 l)
    ∷ (strings_of (behind 2 l) ++ cooked source (last_token NO_TOKEN (behind 2 l)) ∷ [])

-- ECMA-262 SubstitutionTemplate
abbrev pub substitution_template : List ℕ → List Phrase → Phrase
substitution_template source l = phrase.Expression
    (expr.Template (token_at 0 l).start (strings source l) (expression_at 1 l ∷ substitutions_of (behind 2 l)))
