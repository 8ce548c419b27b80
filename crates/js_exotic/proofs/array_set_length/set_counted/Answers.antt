use Rattle.std.proofs.Common.{◌≡◌, ◌∙◌, w64, ap, subst}
use Rattle.std.proofs.lemmas.Int.{to_z-of_z}
use Rattle.std.specs.Result.{IfOk}
use Rattle.js_text.specs.Naming.{naming_of}
use Rattle.js_ordinary.specs.Targets.{object_seen}
use Rattle.js_exotic.specs.ArrayDefineOwnProperty.{set_length_by, with_number}
use Rattle.js_exotic.specs.ArrayLengths.{array_length}
use Rattle.js_exotic.specs.Targets.{verdict_at}
use Rattle.js_exotic.proofs.array_set_length.set_counted.Goals as goal

pub returns-clause-ok : goal.returns-clause-ok
returns-clause-ok g c =
    let names = naming_of (g.S.Store.owner c.args.store.now).0 in
    let o = object_seen (g.S.Store.objects c.args.store.now) c.args.common.now c.args.target in
    subst (λ x. IfOk c.set_length.result (λ d. (d, g.S.Store.objects c.set_length.new.store) ≡ verdict_at (g.S.Store.objects c.args.store.now) c.args.target (set_length_by names o x c.args.count (array_length names o))))
    (c.in_ok-descriptor.ensures ∙ ap (λ n. with_number c.args.descriptor.now n) (to_z-of_z w64 c.args.number c.ranges.number)) c.set_length.ensures.ok
