use Rattle.std.proofs.Common.{refl, subst}
use Rattle.ses_prelude.specs.Preludes.{AreValid}
use Rattle.ses_prelude.proofs.Validity_laws.{not_valid, rejected}
use Rattle.ses_prelude.proofs.prelude.with_valid.Goals as goal

pub returns-in-Ok-true : goal.returns-in-Ok-true
returns-in-Ok-true c = (refl, subst AreValid c.as_slice.ensures (c.in-Ok-true.ensures.0 c.in-Ok-true.field-0-test))

pub returns-in-Ok-false : goal.returns-in-Ok-false
returns-in-Ok-false c =
    rejected c.args.intrinsics c.no_prelude.result
    (not_valid c.args.intrinsics c.as_slice.result.now c.in-Ok-false.field-0 c.as_slice.ensures c.in-Ok-false.ensures c.in-Ok-false.field-0-test) c.no_prelude.ensures
