use Rattle.js_conversions.proofs.Primitive_values.{convert_primitive}
use Rattle.js_conversions.proofs.conversions.convert.Goals as goal

pub returns-in_default : goal.returns-in_default
returns-in_default c = λ read r. rw (convert_primitive read c.args.wanted c.args.value.now c.in_default.not-Ref) (c.converted.ensures read r)
