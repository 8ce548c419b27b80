use Rattle.std.proofs.Common.{◌≡◌, ◌∙◌}
use Rattle.js_text.specs.Length.{length_key}
use Rattle.js_text.specs.Naming.{Own, naming_of}
use Rattle.js_store.specs.Objects.{object_at}
use Rattle.js_exotic.specs.ArrayDefineOwnProperty.{change_at, lower_by}
use Rattle.js_exotic.specs.Verdicts.{exotic_carried_out}
use Rattle.js_exotic.proofs.array_set_length.lower.Goals as goal

pub returns-clause-ok : goal.returns-clause-ok
returns-clause-ok g c =
    let names = naming_of (g.S.Store.owner c.args.store.now).0 in
    let o = object_at (g.S.Store.objects c.args.store.now) c.args.id.0 in
    let k : c.in_ok-key.key ≡ length_key = c.in_ok-key.ensures ∙ c.length_key.ensures in
    c.lower_by.ensures.decision
    ∙ (λ j. exotic_carried_out (g.S.Store.objects c.args.store.now) (Own c.args.id.0) (lower_by names o c.args.descriptor.now c.args.least c.args.current ((c.in_ok-change.ensures ∙ (λ i. change_at names o (k i) (c.in_ok-open.ensures i))) j)))
