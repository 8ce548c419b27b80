use Rattle.std.proofs.Common.{◌∷◌, []}
use Rattle.js_literals.specs.declared.pieces.Delimiter.TheVariants as delimiters
use Rattle.js_literals.proofs.Plain_laws.{itself_value, quote_ends}
use Rattle.js_literals.proofs.laws.characters_for_themselves.Goals as goal

pub returns-clause-strings : goal.returns-clause-strings
returns-clause-strings c = λ quote cs h. itself_value (delimiters.Quote quote) cs (quote ∷ []) h (quote_ends quote)

pub returns-clause-templates : goal.returns-clause-templates
returns-clause-templates c = λ first cs close h e. itself_value delimiters.Template cs close h e
