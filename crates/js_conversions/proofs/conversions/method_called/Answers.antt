use Rattle.js_conversions.proofs.Primitive_values.{called_primitive}
use Rattle.js_conversions.proofs.conversions.method_called.Goals as goal

pub returns-in_default : goal.returns-in_default
returns-in_default c = λ read r. rw (called_primitive read c.args.waiting c.args.value.now c.in_default.not-Ref) (c.converted.ensures read r)
