use Rattle.std.proofs.Common.{rules, subst, w64, arith}
use Rattle.std.proofs.lemmas.Int.{to_z-of_z}
use Rattle.std.specs.Fmt.{signed_decimal}
use Rattle.js_text.specs.Indices.{key_of_text}
use Rattle.js_direct.specs.Direct.{HasData, seen, value_of}
use Rattle.js_direct.proofs.Given.{direct_indexed}
use Rattle.js_direct.proofs.direct.indexed_at.Goals as goal

pub returns-in-Some-indexed_plain : goal.returns-in-Some-indexed_plain
returns-in-Some-indexed_plain g c =
    let s = seen (g.S.Store.owner c.args.store.now) (g.S.Store.objects c.args.store.now) c.args.code.now c.args.scopes.now c.args.scope in
    direct_indexed s c.args.object c.args.key c.in-Some.id.0 c.operand_at-index.result c.in-Some-indexed_plain.value c.steps_of-steps.result c.in-Some.ensures c.operand_at-index.ensures (omega (arith, c.if-index-eq0.false))
    (subst (λ i. HasData s.objects c.in-Some.id.0 (key_of_text (signed_decimal i)) (value_of c.in-Some-indexed_plain.value)) (to_z-of_z w64 c.operand_at-index.result.number (search rules)) c.in-Some-indexed_plain.ensures)
    c.steps_of-steps.ensures (omega (arith, c.if-steps-eq0.false))
