use Rattle.std.proofs.Common.{sym}
use Rattle.js_operators.proofs.Primitive_operators.{binary_default}
use Rattle.js_operators.proofs.binary.binary_step.Goals as goal

pub returns-in-LooselyEqual : goal.returns-in-LooselyEqual
returns-in-LooselyEqual c = λ read r. rw (c.in-LooselyEqual.is, sym c.object_of-object.ensures) (c.loose_by.ensures read r)

pub returns-in-LooselyUnequal : goal.returns-in-LooselyUnequal
returns-in-LooselyUnequal c = λ read r. rw (c.in-LooselyUnequal.is, sym c.object_of-object.ensures) (c.loose_by-in-LooselyUnequal.ensures read r)

pub returns-in_default : goal.returns-in_default
returns-in_default c =
    let d = c.in_default in
    λ read r.
    rw (binary_default read c.args.operator c.args.left c.args.right d.not-Instanceof d.not-In d.not-LooselyEqual d.not-LooselyUnequal d.not-StrictlyEqual d.not-StrictlyUnequal, sym c.object_of-object.ensures)
    (c.left_by.ensures read r)
