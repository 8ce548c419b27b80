-- The keys of a map stand in order.
use Rattle.std.proofs.Common.{◌≡◌, ap, ◌∙◌, rules}
use Rattle.policy_row.specs.Rows.{is_in_order}
use Rattle.policy_row.specs.Texts.{by_bytes}
use Rattle.policy_row.proofs.Entries_laws.{bytes_in_order}
use Rattle.policy_row.proofs.entries.list_of.Goals as goal

pub returns-clause-in_order : goal.returns-clause-in_order
returns-clause-in_order c =
    let same : c.loop-name.entries ≡ by_bytes c.args.map.now.entries = search rules in
    ap is_in_order same ∙ bytes_in_order c.args.map.now.entries c.iter-name-items.ensures.ordered
