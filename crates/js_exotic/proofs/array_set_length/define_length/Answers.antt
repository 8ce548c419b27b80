use Rattle.std.proofs.Common.{◌≡◌, subst}
use Rattle.std.specs.Result.{IfOk}
use Rattle.js_text.specs.Naming.{naming_of}
use Rattle.js_ordinary.specs.Targets.{object_seen}
use Rattle.js_exotic.specs.ArrayDefineOwnProperty.{ordinary_verdict}
use Rattle.js_exotic.specs.Targets.{verdict_at}
use Rattle.js_exotic.proofs.array_set_length.define_length.Goals as goal

pub returns-clause-ok : goal.returns-clause-ok
returns-clause-ok g c =
    subst (λ k. IfOk c.define_as_ordinary.result (λ d. (d, g.S.Store.objects c.define_as_ordinary.new.store) ≡ verdict_at (g.S.Store.objects c.args.store.now) c.args.target (ordinary_verdict (naming_of (g.S.Store.owner c.args.store.now).0) (object_seen (g.S.Store.objects c.args.store.now) c.args.common.now c.args.target) k c.args.descriptor.now)))
    c.in_ok-key.ensures c.define_as_ordinary.ensures.ok
