use Rattle.std.proofs.Common.{subst}
use Rattle.js_text.specs.Indices.{key_of_text}
use Rattle.js_direct.specs.Direct.{HasData, seen, value_of}
use Rattle.js_direct.proofs.Given.{direct_named}
use Rattle.js_direct.proofs.direct.named_at.Goals as goal

pub returns-in-Some-named_plain : goal.returns-in-Some-named_plain
returns-in-Some-named_plain g c =
    let s = seen (g.S.Store.owner c.args.store.now) (g.S.Store.objects c.args.store.now) c.args.code.now c.args.scopes.now c.args.scope in
    direct_named s c.args.object c.args.key c.args.name c.in-Some.id.0 c.in-Some-named_plain.value c.in-Some.ensures
    (subst (λ units. HasData s.objects c.in-Some.id.0 (key_of_text units) (value_of c.in-Some-named_plain.value)) c.text.ensures c.in-Some-named_plain.ensures)
