use Rattle.js_lexer.proofs.Answers_laws.{tokens_tokens}
use Rattle.js_lexer.proofs.laws.one_list.Goals as goal

pub returns : goal.returns
returns c = tokens_tokens
