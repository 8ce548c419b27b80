use Rattle.std.proofs.Common.{subst, sym}
use Rattle.ses_prelude.specs.Preludes.{AreValid}
use Rattle.lava_packages.proofs.laws.common_templates_are_valid.Goals as goal

pub returns : goal.returns
returns c = λ common p. subst AreValid (sym p.locked.templates) p.made.3
