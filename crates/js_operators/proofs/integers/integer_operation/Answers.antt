use Rattle.std.proofs.Common.{IfOk, ℤ, ◌≡◌, subst, w64}
use Rattle.std.proofs.lemmas.Int.{to_z-of_z}
use Rattle.js_operation.specs.Operating.{integer_operation}
use Rattle.js_operators.proofs.Operator_deeds.{integer_ok}
use Rattle.js_operators.proofs.integers.integer_operation.Goals as goal

pub returns-clause-does : goal.returns-clause-does
returns-clause-does c =
    integer_ok c.args.operator c.args.left c.args.right c.integer_step.result
    (subst (λ (n : ℤ × ℤ). IfOk c.integer_step.result (λ o. o ≡ integer_operation c.args.operator n.0 n.1))
    (λ i. (to_z-of_z w64 c.args.left c.ranges.left i, to_z-of_z w64 c.args.right c.ranges.right i)) c.integer_step.ensures)
