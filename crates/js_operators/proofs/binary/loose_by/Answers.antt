use Rattle.std.proofs.Common.{sym}
use Rattle.js_operators.proofs.binary.loose_by.Goals as goal

pub returns-in-None : goal.returns-in-None
returns-in-None c = λ read r. rw (c.in-None.is, sym c.object_of-other.ensures) (c.primitive_by.ensures read r)
