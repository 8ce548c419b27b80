use Rattle.std.proofs.Common.{Err}
use Rattle.js_lexer.proofs.Answers_laws.{only_fault}
use Rattle.js_lexer.proofs.lexer.tokens.Goals as goal

pub returns-in-Err-clause-refused : goal.returns-in-Err-clause-refused
returns-in-Err-clause-refused c = λ place what h. only_fault c.args.source.now (Err c.broken_fault.result) tt c.broken_fault.ensures place what h
