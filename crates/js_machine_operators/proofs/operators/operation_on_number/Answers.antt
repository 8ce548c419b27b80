use Rattle.std.proofs.Common.{rules, IfOk, ℤ, sym, subst, w64}
use Rattle.std.proofs.lemmas.Int.{to_z-of_z}
use Rattle.js_text.specs.declared.value.Value.TheVariants as value
use Rattle.js_machine.specs.js_run.Operators.{binary_value}
use Rattle.js_machine.specs.js_operation.Deeds.{Does}
use Rattle.js_machine_operators.proofs.operators.operation_on_number.Goals as goal

pub returns-in-Int : goal.returns-in-Int
returns-in-Int c =
    let low = to_z-of_z w64 c.args.left c.ranges.left in
    let high = to_z-of_z w64 c.in-Int.right (search rules) in
    subst (λ w. IfOk c.integer_operation.result (Does (λ n s. binary_value n s c.args.operator (value.Int c.args.left) w))) (sym c.in-Int.is)
    (subst (λ (n : ℤ × ℤ). IfOk c.integer_operation.result (Does (λ m s. binary_value m s c.args.operator (value.Int n.0) (value.Int n.1)))) (λ i. (low i, high i)) c.integer_operation.ensures.does)

pub returns-in_default : goal.returns-in_default
returns-in_default c =
    let low = to_z-of_z w64 c.args.left c.ranges.left in
    subst (λ x. IfOk c.binary_operation.result (Does (λ n s. binary_value n s c.args.operator (value.Int x) c.args.right))) low c.binary_operation.ensures.does
