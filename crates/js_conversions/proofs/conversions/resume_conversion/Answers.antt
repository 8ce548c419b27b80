use Rattle.js_conversions.proofs.conversions.resume_conversion.Goals as goal

pub returns-in-Value : goal.returns-in-Value
returns-in-Value g c = λ read r. rw c.in-Value.is (c.value_come.ensures read r)
