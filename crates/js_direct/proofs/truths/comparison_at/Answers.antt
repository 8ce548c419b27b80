use Rattle.std.proofs.Common.{rules, ◌∙◌, w64, arith}
use Rattle.std.proofs.lemmas.Int.{to_z-of_z}
use Rattle.js_direct.specs.Direct.{compared, seen}
use Rattle.js_direct.proofs.Given.{truth_binary}
use Rattle.js_direct.proofs.truths.comparison_at.Goals as goal

pub returns-in-Some : goal.returns-in-Some
returns-in-Some g c =
    let low = to_z-of_z w64 c.operand_at-left.result.number (search rules) in
    let high = to_z-of_z w64 c.operand_at-right.result.number (search rules) in
    truth_binary (seen (g.S.Store.owner c.args.store.now) (g.S.Store.objects c.args.store.now) c.args.code.now c.args.scopes.now c.args.scope) c.args.operator c.args.left c.args.right c.steps_of.result c.in-Some.truth c.compared.result c.operand_at-left.result c.operand_at-right.result
    c.operand_at-left.ensures (omega (arith, c.if-left-eq0.false)) c.operand_at-right.ensures (omega (arith, c.if-right-eq0.false))
    (c.compared.ensures ∙ (λ i. compared c.args.operator (low i) (high i))) c.in-Some.is c.steps_of.ensures
