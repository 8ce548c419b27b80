use Rattle.std.proofs.Common.{◌≡◌, ◌∙◌, ap, subst, List, IfOk, reverse}
use Rattle.js_phrase.specs.declared.phrase.Phrase.{Phrase}
use Rattle.js_phrase.specs.Phrases.{next_of, expression_of}
use Rattle.js_parser.specs.Trees.{made}
use Rattle.js_parser.proofs.Made.{made_expression}
use Rattle.js_parser.proofs.maker.expression_made.Goals as goal

pub returns : goal.returns
returns c = λ x v.
    let P : List Phrase → Type 0 = λ l. IfOk c.expression.result (λ e. e ≡ expression_of (next_of l)) in
    let q : c.in_ok-parts.parts ≡ reverse (made c.args.source.now c.args.tokens.now (reverse c.args.events.now)) = c.in_ok-parts.ensures ∙ ap reverse c.in_ok-stack.ensures.stands in
    made_expression c.args.source.now c.args.tokens.now c.args.events.now c.expression.result c.in_ok-stack.ensures.counted (subst P q c.expression.ensures.first) x v
