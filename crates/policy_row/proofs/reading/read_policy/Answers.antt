-- What the value is refused for, the file is.
use Rattle.serde_json.specs.View.{view}
use Rattle.policy_row.proofs.Reading_laws.{refused}
use Rattle.policy_row.proofs.reading.read_policy.Goals as goal

pub returns-in-Ok-clause-bad : goal.returns-in-Ok-clause-bad
returns-in-Ok-clause-bad c = refused c.args.file c.args.bytes.now (view c.in-Ok.value) c.policy_in.result c.in-Ok.ensures.ok c.policy_in.ensures
