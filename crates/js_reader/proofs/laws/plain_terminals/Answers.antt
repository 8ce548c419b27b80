use Rattle.js_reader.proofs.Terminals_laws.{plain_terminal}
use Rattle.js_reader.proofs.laws.plain_terminals.Goals as goal

pub returns : goal.returns
returns c = plain_terminal
