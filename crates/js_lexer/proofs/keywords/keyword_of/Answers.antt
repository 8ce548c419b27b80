use Rattle.std.proofs.Common.{◌≡◌, ap, ◌∙◌}
use Rattle.std.specs.List.{find}
use Rattle.js_lexer.specs.Keywords.{is_text_of, keyword_named}
use Rattle.js_lexer.proofs.Keyword_laws.{named_so, none_named}
use Rattle.js_lexer.proofs.keywords.keyword_of.Goals as goal

pub returns-clause-some : goal.returns-clause-some
returns-clause-some c =
    let e : c.among.result ≡ keyword_named c.args.word.now = c.among.ensures ∙ ap (λ ks. find (is_text_of c.args.word.now) ks) c.of_length.ensures in
    named_so c.among.result c.args.word.now e

pub returns-clause-none : goal.returns-clause-none
returns-clause-none c =
    let e : c.among.result ≡ keyword_named c.args.word.now = c.among.ensures ∙ ap (λ ks. find (is_text_of c.args.word.now) ks) c.of_length.ensures in
    none_named c.among.result c.args.word.now e
