use Rattle.std.proofs.Common.{◌≡◌, ◌++◌, ◌∷◌, [], ap, ◌∙◌, sym, Some, arith}
use Rattle.std.specs.Option.{option_map}
use Rattle.ses_prelude.specs.Functions.{functions_in, declared}
use Rattle.ses_prelude.specs.Helpers.{seen, shape_of}
use Rattle.ses_prelude.proofs.Functions_laws.{shape_step}
use Rattle.ses_prelude.proofs.functions.shape.Goals as goal

pub loop-statements-preserved : goal.loop-statements-preserved
loop-statements-preserved c =
    let xs = c.loop-statements.statements.now in
    let is : Some (seen c.in-Some.function) ≡ declared c.first-item.result = sym (ap (option_map seen) c.in-Some.is) ∙ c.in_ok-declared.ensures.found ∙ ap declared c.get.ensures in
    shape_step xs c.first-item.result (seen c.in-Some.function) c.loop-statements.places c.push.new.self c.loop-statements.frame c.push-in-Some.new.self (option_map shape_of (functions_in c.args.statements.now)) (omega (arith, c.in-len1-up.len_at_least)) c.first-item.is is c.in_ok-push-in-Some.ensures.ok (c.in_ok-push-in-Some-2.ensures.ok ∙ ap (λ s. c.loop-statements.frame ++ s ∷ []) c.in_ok-function_slot-in-Some.ensures) c.loop-statements.invariant
