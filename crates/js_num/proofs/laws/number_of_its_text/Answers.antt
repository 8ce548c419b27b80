use Rattle.js_num.proofs.OneNumber.{its_text}
use Rattle.js_num.proofs.laws.number_of_its_text.Goals as goal

pub returns : goal.returns
returns c = its_text
