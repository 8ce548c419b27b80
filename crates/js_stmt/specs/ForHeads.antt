-- What stands between the parentheses of a `for`.
use Rattle.std.specs.Prelude.{ℕ, List}
use Rattle.js_tree.specs.declared.tree.ForInit.TheVariants as init
use Rattle.js_cover.specs.Targets.{for_target_of}
use Rattle.js_phrase.specs.declared.phrase.ForHead.TheVariants as head
use Rattle.js_phrase.specs.declared.phrase.Phrase.{Phrase}
use Rattle.js_phrase.specs.declared.phrase.Phrase.TheVariants as phrase
use Rattle.js_phrase.specs.Phrases.{for_init_of, optional_expression_of}
use Rattle.js_expr.specs.Parts.{part, expression_at}

-- `;` first
-- ECMA-262 ForStatement
abbrev pub for_without_init : List Phrase → Phrase
for_without_init l = phrase.Head (head.Loop init.NoInit
    (optional_expression_of (part 1 l)) (optional_expression_of (part 3 l)))

-- ECMA-262 ForStatement
abbrev pub for_with_init : List Phrase → Phrase
for_with_init l = phrase.Head (head.Loop (for_init_of (part 0 l))
    (optional_expression_of (part 2 l)) (optional_expression_of (part 4 l)))

-- ECMA-262 ForInOfStatement
abbrev pub for_of : List Phrase → Phrase
for_of l = phrase.Head (head.Of (for_target_of (part 0 l)) (expression_at 2 l))

-- ECMA-262 ForInOfStatement
abbrev pub for_in : List Phrase → Phrase
for_in l = phrase.Head (head.In (for_target_of (part 0 l)) (expression_at 2 l))
