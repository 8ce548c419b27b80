use Rattle.std.proofs.Common.{rules, IfOk, sym, subst, w64}
use Rattle.std.proofs.lemmas.Int.{to_z-of_z}
use Rattle.js_text.specs.declared.value.Value.TheVariants as value
use Rattle.js_machine.specs.js_run.Operators.{binary_value}
use Rattle.js_machine.specs.js_operation.Deeds.{Does}
use Rattle.js_machine_operators.proofs.operators.operation_on.Goals as goal

pub returns-in-Int : goal.returns-in-Int
returns-in-Int c =
    let number = to_z-of_z w64 c.in-Int.left (search rules) in
    subst (λ v. IfOk c.operation_on_number.result (Does (λ n s. binary_value n s c.args.operator v c.args.right))) (sym c.in-Int.is)
    (subst (λ x. IfOk c.operation_on_number.result (Does (λ n s. binary_value n s c.args.operator (value.Int x) c.args.right))) number c.operation_on_number.ensures)
