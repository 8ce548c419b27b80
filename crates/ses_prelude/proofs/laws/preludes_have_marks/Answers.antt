use Rattle.ses_prelude.proofs.Marks_laws.{have_marks}
use Rattle.ses_prelude.proofs.laws.preludes_have_marks.Goals as goal

pub returns : goal.returns
returns c = λ source i p. have_marks c.marks_stay.ensures p.0.body i p.2
