-- Classes.
use Rattle.std.specs.Prelude.{ℕ, List}
use Rattle.js_tree.specs.declared.tree.Class.{Class, roll-Class}
use Rattle.js_tree.specs.declared.tree.Expr.TheVariants as expr
use Rattle.js_tree.specs.declared.tree.Stmt.TheVariants as stmt
use Rattle.js_phrase.specs.declared.phrase.Phrase.{Phrase}
use Rattle.js_phrase.specs.declared.phrase.Phrase.TheVariants as phrase
use Rattle.js_phrase.specs.Lists.{members_of}
use Rattle.js_phrase.specs.Phrases.{optional_name_of, optional_expression_of}
use Rattle.js_expr.specs.Parts.{part, behind, token_at, expression_at}

-- ECMA-262 ClassHeritage
abbrev pub class_heritage : List Phrase → Phrase
class_heritage l = phrase.Expression (expression_at 1 l)

-- ECMA-262 ClassTail
abbrev pub class_definition : List Phrase → Class
class_definition l = roll-Class (record {
  place = (token_at 0 l).start;
  name = optional_name_of (part 1 l);
  heritage = optional_expression_of (part 2 l);
  members = members_of (behind 3 l);
})

-- ECMA-262 ClassExpression
abbrev pub class_expression : List Phrase → Phrase
class_expression l = phrase.Expression (expr.Class (class_definition l))

-- ECMA-262 ClassDeclaration
abbrev pub class_declaration : List Phrase → Phrase
class_declaration l = phrase.Statement (stmt.ClassDeclaration (class_definition l))
