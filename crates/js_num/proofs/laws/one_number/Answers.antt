use Rattle.js_num.proofs.OneNumber.{one_number_of}
use Rattle.js_num.proofs.laws.one_number.Goals as goal

pub returns : goal.returns
returns c = one_number_of
