use Rattle.js_operators.proofs.binary.right_by.Goals as goal

pub returns-in-None : goal.returns-in-None
returns-in-None c = λ read r. rw c.in-None.is (c.primitive_binary.ensures read r)
