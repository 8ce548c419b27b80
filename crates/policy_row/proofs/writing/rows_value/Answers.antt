use Rattle.std.proofs.Common.{◌≡◌, ap, ◌∙◌, rules}
use Rattle.serde_json.specs.Data.{object, no_members}
use Rattle.serde_json.specs.View.{members_view}
use Rattle.serde_json.proofs.Views.{view-Object}
use Rattle.policy_row.specs.Texts.{by_bytes}
use Rattle.policy_row.specs.Writing.{row_data, put_each}
use Rattle.policy_row.proofs.Entries_laws.{bytes_in_order}
use Rattle.policy_row.proofs.Writing_laws.{each_in_order}
use Rattle.policy_row.proofs.writing.rows_value.Goals as goal

pub returns : goal.returns
returns c =
    let rows = c.args.rows.now.entries in
    let same : members_view c.loop-name.members.entries ≡ put_each row_data no_members (by_bytes rows) = search rules in
    view-Object c.loop-name.members ∙ ap object (same ∙ each_in_order row_data (by_bytes rows) (bytes_in_order rows c.iter-name-items.ensures.ordered))
