use Rattle.std.proofs.Common.{◌++◌, sym, ap, ◌∙◌, append-nil}
use Rattle.std.proofs.lemmas.Str.{chars-nil}
use Rattle.js_lexer.specs.Spots.{over_all}
use Rattle.js_lexer.proofs.lexer.Lexer.end.Goals as goal

pub passed-requires-clause-behind : goal.passed-requires-clause-behind
passed-requires-clause-behind c =
    (c.self.inside.rest, sym (append-nil c.self.inside.rest) ∙ ap (λ z. c.self.inside.rest ++ z) (sym (c.new-end.ensures ∙ chars-nil)))

pub returns : goal.returns
returns c =
    ap (λ z. z.place) (c.passed.ensures.over c.self.inside.rest (sym (append-nil c.self.inside.rest) ∙ ap (λ z. c.self.inside.rest ++ z) (sym (c.new-end.ensures ∙ chars-nil))))
    ∙ ap (λ z. (over_all z.spot z.rest).place) c.self.view_is
