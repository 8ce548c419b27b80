-- What stands at a name is found by its bytes.
use Rattle.std.proofs.Common.{◌∙◌}
use Rattle.policy_row.proofs.Entries_laws.{bytes_found}
use Rattle.policy_row.proofs.entries.grade_in.Goals as goal

pub returns : goal.returns
returns c = c.copied.ensures ∙ c.get.ensures.value ∙ bytes_found c.args.name.now c.args.map.now.entries
