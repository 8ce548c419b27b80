use Rattle.std.proofs.Common.{sym, ap, ◌∙◌, ◌++◌}
use Rattle.js_lexer.specs.Grammar.{in_line}
use Rattle.js_lexer.specs.Skipping.{skip, keep}
use Rattle.js_lexer.proofs.Lexer_laws.{keep_skip}
use Rattle.js_lexer.proofs.lexer.Lexer.pass_hashbang.Goals as goal

pub passed-self-inside-requires-clause-behind : goal.passed-self-inside-requires-clause-behind
passed-self-inside-requires-clause-behind c =
    (keep in_line c.self.inside.rest, keep_skip in_line c.self.inside.rest ∙ ap (λ z. keep in_line c.self.inside.rest ++ z) (sym (c.skip_line.ensures ∙ ap (λ z. skip in_line z) c.copy-rest.ensures)))
