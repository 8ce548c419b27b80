use Rattle.std.proofs.Common.{◌≡◌, ap, ◌∙◌, sym, Some, arith}
use Rattle.std.specs.Option.{option_map}
use Rattle.ses_prelude.specs.Functions.{functions_in, declared}
use Rattle.ses_prelude.specs.Helpers.{seen, added_to}
use Rattle.ses_prelude.proofs.Functions_laws.{added_step}
use Rattle.ses_prelude.proofs.templates.with_functions.Goals as goal

pub loop-statements-preserved : goal.loop-statements-preserved
loop-statements-preserved c =
    let xs = c.loop-statements.statements.now in
    let is : Some (seen c.in-Some.function) ≡ declared c.first-item.result = sym (ap (option_map seen) c.in-Some.is) ∙ c.in_ok-declared.ensures.found ∙ ap declared c.get.ensures in
    record {
      scopes = c.in_ok-add_function-in-Some.ensures.kept ∙ c.loop-statements.invariant.scopes;
      added = λ frame e.
          added_step xs c.first-item.result (seen c.in-Some.function) frame c.loop-statements.intrinsics c.add_function.new.intrinsics (option_map (added_to frame c.args.intrinsics) (functions_in c.args.statements.now)) (omega (arith, c.in-len1-up.len_at_least)) c.first-item.is is (c.in_ok-add_function-in-Some.ensures.added frame (c.loop-statements.invariant.scopes ∙ e)) (c.loop-statements.invariant.added frame e);
    }
