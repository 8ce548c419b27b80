use Rattle.ses_prelude.proofs.Bodies_laws.{each_has_its_body}
use Rattle.ses_prelude.proofs.laws.each_has_its_body.Goals as goal

pub returns : goal.returns
returns c = each_has_its_body
