-- An entry goes in at its bytes.
use Rattle.std.proofs.Common.{ap, ◌∙◌}
use Rattle.policy_row.specs.Texts.{by_bytes}
use Rattle.policy_row.proofs.Entries_laws.{bytes_inserted}
use Rattle.policy_row.proofs.entries.put_entry.Goals as goal

pub returns : goal.returns
returns c = ap by_bytes c.in_ok-insert.ensures.entries ∙ bytes_inserted c.args.map.now.entries c.args.name c.args.grade
