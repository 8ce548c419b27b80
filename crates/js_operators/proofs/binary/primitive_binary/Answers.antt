use Rattle.js_operators.proofs.binary.primitive_binary.Goals as goal

pub returns-in-Add : goal.returns-in-Add
returns-in-Add c = λ read r. rw c.in-Add.is (c.added.ensures read r)
