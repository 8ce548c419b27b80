use Rattle.std.proofs.Common.{ap}
use Rattle.js_text.specs.Naming.{naming_of}
use Rattle.js_maker_natives.proofs.Carried.{known_as}
use Rattle.js_maker_natives.proofs.resume.resume_maker.Goals as goal
use Rattle.js_maker_natives.specs.Resumed.{messaging}

pub returns-in_ok-conversion-in-Message-clause-ok : goal.returns-in_ok-conversion-in-Message-clause-ok
returns-in_ok-conversion-in-Message-clause-ok g c = λ read r.
    rw c.in-Message.is
    (known_as c.messaging.result _ _ _ (ap (λ n. messaging (naming_of (g.S.Store.owner c.args.store.now).0) (g.S.Store.objects c.args.store.now) c.in-Message.proto n) (c.in_ok-conversion-in-Message.ensures read r)) c.messaging.ensures.ok)
