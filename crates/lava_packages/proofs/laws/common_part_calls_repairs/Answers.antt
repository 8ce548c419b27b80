use Rattle.std.proofs.Common.{subst, sym}
use Rattle.ses_lockdown.specs.Accessors.{CallsRepairs}
use Rattle.ses_prelude.specs.Preludes.{prelude}
use Rattle.lava_packages.proofs.laws.common_part_calls_repairs.Goals as goal

pub returns : goal.returns
returns c = λ common part.
    let i = part.intrinsics in
    subst CallsRepairs (sym part.locked.objects)
    (c.lockdown_calls_repairs.ensures i.objects (c.preludes_have_marks.ensures prelude i part.made) (c.preludes_have_properties.ensures prelude i part.made))
