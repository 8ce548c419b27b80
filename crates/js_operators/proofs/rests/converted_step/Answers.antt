use Rattle.js_operators.proofs.rests.converted_step.Goals as goal

pub returns-in-Left : goal.returns-in-Left
returns-in-Left c = λ read r. rw c.in-Left.is (c.left_primitive.ensures read r)

pub returns-in-Right : goal.returns-in-Right
returns-in-Right c = λ read r. rw c.in-Right.is (c.primitive_binary.ensures read r)
