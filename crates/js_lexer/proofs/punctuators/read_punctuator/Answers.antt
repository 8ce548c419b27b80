use Rattle.std.proofs.Common.{rules, ◌≡◌, Some}
use Rattle.js_lexer.specs.Punctuators.{punctuator_of}
use Rattle.js_lexer.proofs.Punctuator_laws.{longest_read}
use Rattle.js_lexer.proofs.punctuators.read_punctuator.Goals as goal

pub returns-clause-longest : goal.returns-clause-longest
returns-clause-longest c =
    let gives : punctuator_of c.args.cursor.now ≡ Some (c.started-found.result, c.started-found.new.cursor) = search rules in
    longest_read (Some c.started-found.result) c.args.cursor.now c.started-found.new.cursor gives
