use Rattle.std.proofs.Common.{ap}
use Rattle.js_object_natives.proofs.Carried.{beside}
use Rattle.js_object_natives.proofs.resume.resume_native.Goals as goal
use Rattle.js_object_natives.specs.Keyed.{converting}

pub returns-in_ok-conversion-in-Keyed-clause-ok : goal.returns-in_ok-conversion-in-Keyed-clause-ok
returns-in_ok-conversion-in-Keyed-clause-ok g c = λ read r.
    rw c.in-Keyed.is (beside c.converting.result _ _ _ (ap (λ n. converting c.in-Keyed.call n) (c.in_ok-conversion-in-Keyed.ensures read r)) c.converting.ensures)
