use Rattle.js_operators.proofs.binary.left_by.Goals as goal

pub returns-in-None : goal.returns-in-None
returns-in-None c = λ read r. rw c.in-None.is (c.left_primitive.ensures read r)
