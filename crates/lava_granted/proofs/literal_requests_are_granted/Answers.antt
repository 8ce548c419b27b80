use Rattle.js_text.specs.Naming.{naming_of}
use Rattle.lava_granted.proofs.Act_laws.{not_allowed_throws}
use Rattle.lava_granted.proofs.Granted_laws as lemmas
use Rattle.lava_granted.proofs.literal_requests_are_granted.Goals as goal

pub returns-clause-thrown : goal.returns-clause-thrown
returns-clause-thrown c = λ party env request q few. not_allowed_throws (naming_of party) env request q few

pub returns-clause-granted : goal.returns-clause-granted
returns-clause-granted c = lemmas.literal_requests_are_granted c.generated_policy_covers.ensures.given

pub returns-clause-errors : goal.returns-clause-errors
returns-clause-errors c = lemmas.errors_name_no_literal_request c.generated_policy_covers.ensures.given
