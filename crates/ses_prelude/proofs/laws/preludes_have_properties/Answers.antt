use Rattle.ses_prelude.proofs.Property_laws.{have_properties}
use Rattle.ses_prelude.proofs.laws.preludes_have_properties.Goals as goal

pub returns : goal.returns
returns c = λ source i p. have_properties c.properties_stay.ensures p.0.body i p.2
